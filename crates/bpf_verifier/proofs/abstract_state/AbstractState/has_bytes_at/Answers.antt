use Rattle.bpf_verifier.proofs.States.{no_stack}
use Rattle.std.proofs.Common.{◌≡◌, ◌∙◌, ap, rules, Option, ℕ, ℤ}
use Rattle.std.specs.Int.{w16, cast_signed, cast_unsigned}
use Rattle.std.specs.Option.{option_map}
use Rattle.reg_ranges.specs.RangeOf.{range_of}
use Rattle.reg_ranges.specs.Ranges as reg
use Rattle.bpf_model.specs.AbstractState.{in_bounds, is_initialized, address_range}
use Rattle.bpf_verifier.specs.Represents.{state_of}
use Rattle.bpf_verifier.proofs.abstract_state.AbstractState.has_bytes_at.Goals as goal

pub is_initialized-requires : goal.is_initialized-requires
is_initialized-requires g c =
    let n = c.args.offset in
    let again : cast_signed w16 (cast_unsigned w16 n) ≡ n = search rules in (
      search rules,
      (
        c.requires.0,
        c.requires.1,
        ap (λ (n : ℕ). in_bounds c.requires.0 (option_map range_of c.address_range.result) n) c.from.ensures
            ∙ ap (λ (o : Option reg.Range). in_bounds c.requires.0 o c.bytes_of.result) (c.address_range.ensures no_stack)
            ∙ ap (λ (z : ℤ). in_bounds c.requires.0 (address_range (state_of c.args.self.now.ranges no_stack) c.args.base.number z) c.bytes_of.result) again
            ∙ ap (λ (n : ℕ). in_bounds c.requires.0 (address_range (state_of c.args.self.now.ranges no_stack) c.args.base.number c.args.offset) n) c.bytes_of.ensures.value
            ∙ c.requires.2 no_stack,
      ),
    )

pub returns : goal.returns
returns g c = λ stack holds.
    let n = c.args.offset in
    let again : cast_signed w16 (cast_unsigned w16 n) ≡ n = search rules in
    c.is_initialized.ensures stack holds
    ∙ ap (λ (n : ℕ). is_initialized stack.initialized (option_map range_of c.address_range.result) n) c.from.ensures
    ∙ ap (λ (o : Option reg.Range). is_initialized stack.initialized o c.bytes_of.result) (c.address_range.ensures stack)
    ∙ ap (λ (z : ℤ). is_initialized stack.initialized (address_range (state_of c.args.self.now.ranges stack) c.args.base.number z) c.bytes_of.result) again
    ∙ ap (λ (n : ℕ). is_initialized stack.initialized (address_range (state_of c.args.self.now.ranges stack) c.args.base.number c.args.offset) n) c.bytes_of.ensures.value
