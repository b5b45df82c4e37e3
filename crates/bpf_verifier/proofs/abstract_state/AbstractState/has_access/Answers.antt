use Rattle.std.proofs.Common.{◌≡◌, ◌∙◌, ap, rules, Option, ℕ, ℤ}
use Rattle.std.specs.Int.{w16, cast_signed, cast_unsigned}
use Rattle.std.specs.Option.{option_map}
use Rattle.reg_ranges.specs.RangeOf.{range_of}
use Rattle.reg_ranges.specs.Ranges as reg
use Rattle.bpf_model.specs.AbstractState.{in_bounds, address_range}
use Rattle.bpf_verifier.specs.Represents.{state_of}
use Rattle.bpf_verifier.proofs.abstract_state.AbstractState.has_access.Goals as goal

pub returns : goal.returns
returns g c = λ stack.
    let n = c.args.offset in
    let again : cast_signed w16 (cast_unsigned w16 n) ≡ n = search rules in
    c.is_in_bounds.ensures
    ∙ ap (λ (n : ℕ). in_bounds c.args.depth (option_map range_of c.address_range.result) n) c.from.ensures
    ∙ ap (λ (o : Option reg.Range). in_bounds c.args.depth o c.bytes_of.result) (c.address_range.ensures stack)
    ∙ ap (λ (z : ℤ). in_bounds c.args.depth (address_range (state_of c.args.self.now.ranges stack) c.args.base.number z) c.bytes_of.result) again
    ∙ ap (λ (n : ℕ). in_bounds c.args.depth (address_range (state_of c.args.self.now.ranges stack) c.args.base.number c.args.offset) n) c.bytes_of.ensures.value
