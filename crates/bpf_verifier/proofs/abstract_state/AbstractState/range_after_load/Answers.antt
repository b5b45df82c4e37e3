use Rattle.std.proofs.Common.{◌≡◌, ◌∙◌, ap, sym, rules, ℤ, true, false}
use Rattle.std.specs.Int.{w16, cast_signed, cast_unsigned}
use Rattle.reg_ranges.specs.Ranges as reg
use Rattle.bpf_model.specs.AbstractState.{address_range}
use Rattle.bpf_model.specs.Words.{word_at}
use Rattle.bpf_verifier.specs.Represents.{state_of}
use Rattle.bpf_verifier.proofs.StackWords.{loaded_word, loaded_other, loaded_nothing}
use Rattle.bpf_verifier.proofs.abstract_state.AbstractState.range_after_load.Goals as goal

pub returns-then-is_word : goal.returns-then-is_word
returns-then-is_word g c = λ stack holds.
    let n = c.args.offset in
    let again : cast_signed w16 (cast_unsigned w16 n) ≡ n = search rules in
    let old = state_of c.args.self.now.ranges stack in
    c.at.ensures stack.words holds.words_are
    ∙ ap (word_at stack.words) (c.address_range.ensures stack ∙ ap (λ (z : ℤ). address_range old c.args.base.number z) again)
    ∙ sym (loaded_word old c.args.size c.args.signed (address_range old c.args.base.number n) (sym c.is_word.ensures ∙ c.if-is_word.true))

pub returns-else-is_word : goal.returns-else-is_word
returns-else-is_word g c = λ stack holds.
    let n = c.args.offset in
    let old = state_of c.args.self.now.ranges stack in
    c.loaded_range-else-is_word.ensures ∙ sym (loaded_other old c.args.size c.args.signed (address_range old c.args.base.number n) (sym c.is_word.ensures ∙ c.if-is_word.false))

pub returns-then-this-eq0 : goal.returns-then-this-eq0
returns-then-this-eq0 g c = λ stack holds.
    let n = c.args.offset in
    let old = state_of c.args.self.now.ranges stack in
    c.loaded_range.ensures ∙ sym (loaded_nothing old c.args.size c.args.signed (address_range old c.args.base.number n) (holds.words_are.followed_is ∙ c.if-this-eq0.true))
