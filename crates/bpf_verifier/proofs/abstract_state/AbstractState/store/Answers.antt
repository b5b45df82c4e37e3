use Rattle.std.proofs.Common.{◌≡◌, ◌+◌, ◌∙◌, ◌||◌, ap, sym, subst, rules, Option, Bool, ℕ, ℤ}
use Rattle.std.specs.Int.{w16, cast_signed, cast_unsigned}
use Rattle.std.specs.Option.{option_map}
use Rattle.reg_ranges.specs.RangeOf.{range_of}
use Rattle.reg_ranges.specs.Ranges as reg
use Rattle.bpf_model.specs.Machine.{frame_start}
use Rattle.bpf_model.specs.Access.{bytes_of}
use Rattle.bpf_model.specs.Words.{words_after, stored_range}
use Rattle.bpf_verifier.specs.declared.stack_words.StackWords.{StackWords}
use Rattle.bpf_verifier.specs.StackWords.{AreWordsOf}
use Rattle.bpf_model.specs.AbstractState.{address_range, is_written}
use Rattle.bpf_verifier.specs.declared.registers.RegisterRanges.{RegisterRanges}
use Rattle.bpf_verifier.specs.Represents.{IsStackOf, state_of, ranges_of}
use Rattle.bpf_verifier.proofs.abstract_state.AbstractState.store.Goals as goal

pub returns : goal.returns
returns g c = λ stack holds.
    let n = c.args.offset in
    let again : cast_signed w16 (cast_unsigned w16 n) ≡ n = search rules in
    let old = c.args.self.now.ranges in
    let address : Option reg.Range = address_range (state_of old stack) c.args.base.number n in
    let here : option_map range_of c.address_range-range.result ≡ address = c.address_range-range.ensures stack ∙ ap (λ (z : ℤ). address_range (state_of old stack) c.args.base.number z) again in
    let size : c.bytes_of.result ≡ bytes_of c.args.size = c.bytes_of.ensures.value in
    let more : c.bytes_of-2.result ≡ bytes_of c.args.size = c.bytes_of-2.ensures.value in
    let kept : IsStackOf c.args.self.now.initialized.words g.row.WORDS c.initialize.new.self.words.ranges stack = record {
      initialized_are = holds.initialized_are;
      words_are = subst (λ (ws : StackWords g.row.WORDS). AreWordsOf g.row.WORDS ws.ranges stack.words) (sym c.initialize.ensures.words) holds.words_are;
    } in
    let words = c.store.ensures stack.words kept.words_are in
    record {
      ranges_are = λ r. ap (λ (rs : RegisterRanges). ranges_of rs r) c.initialize.ensures.ranges;
      initialized_are = λ i h.
          c.initialize.ensures.initialized i h
          ∙ ap (λ (b : Bool). is_written (option_map range_of c.address_range-range.result) c.bytes_of.result (frame_start 0 + i) || b) (holds.initialized_are i h)
          ∙ ap (λ (o : Option reg.Range). is_written o c.bytes_of.result (frame_start 0 + i) || stack.initialized (frame_start 0 + i)) here
          ∙ ap (λ (k : ℕ). is_written address k (frame_start 0 + i) || stack.initialized (frame_start 0 + i)) size;
      words_are =
          subst (λ (o : Option reg.Range). AreWordsOf g.row.WORDS c.store.new.self.ranges (words_after stack.words o (bytes_of c.args.size) (stored_range c.args.size (range_of c.args.value)))) here
          (subst (λ (k : ℕ). AreWordsOf g.row.WORDS c.store.new.self.ranges (words_after stack.words (option_map range_of c.address_range-range.result) k (stored_range c.args.size (range_of c.args.value)))) more
          (subst (λ (y : reg.Range). AreWordsOf g.row.WORDS c.store.new.self.ranges (words_after stack.words (option_map range_of c.address_range-range.result) c.bytes_of-2.result y)) c.stored_range.ensures words));
    }
