-- The visits on the edges of a test.
use Rattle.std.proofs.Common.{◌≡◌, ◌∙◌, ℕ, ◌<◌, Bool, List, Option, ap, subst}
use Rattle.std.specs.Option.{option_map}
use Rattle.bpf_num.specs.declared.jump.Test.{Test}
use Rattle.bpf_decode.specs.declared.insn.Source.{Source}
use Rattle.reg_ranges.specs.RangeOf.{ranges_of as pair_of}
use Rattle.reg_ranges.specs.declared.range.Range.{Range}
use Rattle.bpf_model.specs.AbstractState.{with_ranges, after_test}
use Rattle.bpf_verifier.specs.declared.abstract_state.AbstractState.{AbstractState}
use Rattle.bpf_verifier.specs.declared.dataflow.Visit.{Visit}
use Rattle.bpf_verifier.specs.declared.registers.RegisterRanges.{RegisterRanges}
use Rattle.bpf_verifier.specs.FrameBytes.{has_byte}
use Rattle.bpf_verifier.specs.StackWords.{word_range}
use Rattle.bpf_verifier.specs.Represents.{Represents, Stack, IsStackOf, state_of}

-- what is left on an edge, of a visit that is the same
pub edge_is : {n_words : ℕ} → (v w : Visit n_words) → v ≡ w → (narrow : Bool) (test : Test) (dst : ℕ) (src : Source) (taken : Bool) (r left : Option (Range × Range)) → r ≡ left → (stack : Stack) → option_map (λ (p : Range × Range). with_ranges (state_of v.state.ranges stack) dst src (pair_of p)) r ≡ after_test (state_of v.state.ranges stack) narrow test dst src taken → option_map (λ (p : Range × Range). with_ranges (state_of w.state.ranges stack) dst src (pair_of p)) left ≡ after_test (state_of w.state.ranges stack) narrow test dst src taken
edge_is {n_words} v w same narrow test dst src taken r left is stack e =
    subst (λ (u : Visit n_words). option_map (λ (p : Range × Range). with_ranges (state_of u.state.ranges stack) dst src (pair_of p)) left ≡ after_test (state_of u.state.ranges stack) narrow test dst src taken) same
    (subst (λ (o : Option (Range × Range)). option_map (λ (p : Range × Range). with_ranges (state_of v.state.ranges stack) dst src (pair_of p)) o ≡ after_test (state_of v.state.ranges stack) narrow test dst src taken) is e)

-- what a state becomes, of one with the same ranges, bytes and words
pub tested_same : {n_words : ℕ} → (v : Visit n_words) (ranges : RegisterRanges) (bits : List ℕ) (words : List Range) (dst : ℕ) (src : Source) (left : Range × Range) (after : AbstractState n_words) → v.state.ranges ≡ ranges → v.state.initialized.words ≡ bits → ((w : ℕ) → w < n_words → word_range v.state.words.ranges w ≡ word_range words w) → ((stack : Stack) → IsStackOf v.state.initialized.words n_words v.state.words.ranges stack → Represents after (with_ranges (state_of v.state.ranges stack) dst src (pair_of left))) → (stack : Stack) → IsStackOf bits n_words words stack → Represents after (with_ranges (state_of ranges stack) dst src (pair_of left))
tested_same {n_words} v ranges bits words dst src left after same_ranges same_bits same_words is stack holds =
    subst (λ (rs : RegisterRanges). Represents after (with_ranges (state_of rs stack) dst src (pair_of left))) same_ranges
    (is stack (record {
      initialized_are = λ i h. ap (λ (ws : List ℕ). has_byte ws i) same_bits ∙ holds.initialized_are i h;
      words_are = record {
        followed_is = holds.words_are.followed_is;
        ranges_are = λ w h. same_words w h ∙ holds.words_are.ranges_are w h;
      };
    }))
