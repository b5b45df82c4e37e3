use Rattle.std.proofs.Common.{◌≡◌, ◌∙◌, ◌<◌, ◌≤◌, length, get_or, ap, rules, arith, inl, inr}
use Rattle.std.proofs.lemmas.List.{length-set}
use Rattle.reg_ranges.specs.Ranges as reg
use Rattle.reg_ranges.specs.RangeOf.{range_of}
use Rattle.bpf_verifier.specs.StackWords.{word_range}
use Rattle.bpf_verifier.proofs.StackWords.{written_more, word_get, join_full, unwritten}
use Rattle.bpf_verifier.proofs.stack_words.StackWords.join.Goals as goal

pub loop-word-preserved : goal.loop-word-preserved
loop-word-preserved g c =
    let i = c.loop-word.invariant in
    let k = c.loop-word.word in
    let inside : k < length c.loop-word.self.ranges = omega (arith, i.long, c.loop-word-test.true, c.min-word-end.ensures) in
    let other_long : length c.args.other.now.ranges ≡ g.row.WORDS = search rules in
    let other_inside : k < length c.args.other.now.ranges = omega (arith, other_long, c.loop-word-test.true, c.min-word-end.ensures) in
    let own : word_range c.loop-word.self.ranges k ≡ word_range c.args.self.now.ranges k = unwritten k _ c.args.self.now.ranges c.loop-word.self.ranges i.written in
    let joined : range_of c.join.result ≡ reg.join_of (word_range c.args.self.now.ranges k) (word_range c.args.other.now.ranges k) =
    c.join.ensures.exact
    ∙ ap (λ (r : reg.Range). reg.join_of r (range_of (get_or c.args.other.now.ranges k c.index-other-word.result))) (word_get c.loop-word.self.ranges k c.index-self-word.result inside ∙ own)
    ∙ ap (λ (r : reg.Range). reg.join_of (word_range c.args.self.now.ranges k) r) (word_get c.args.other.now.ranges k c.index-other-word.result other_inside) in
    record {
      written = written_more 0 k _ c.args.self.now.ranges c.loop-word.self.ranges c.join.result (omega arith) inside joined i.written;
      long = length-set c.loop-word.self.ranges k c.join.result ∙ i.long;
      used = i.used;
    }

pub returns : goal.returns
returns g c = λ w h.
    let i = c.loop-word.invariant in
    elim (i.written w) [
      | inl (from, to, there) ↦ there
      | inr (out, there) ↦
          let behind : c.loop-word.word ≤ w = elim out [ inl lt ↦ absurd (omega (arith, lt)) | inr le ↦ le ] in
          let past : c.args.self.now.used ≤ w = omega (arith, h, behind, c.loop-word-test.false, c.min-word-end.ensures) in
          there ∙ join_full (word_range c.args.self.now.ranges w) (word_range c.args.other.now.ranges w) (c.args.self.now.rest w past) (c.args.other.now.fits w)
    ]
