use Rattle.std.proofs.Common.{refl, arith, ◌∙◌, sym, ap, Option}
use Rattle.std.specs.Option.{option_map}
use Rattle.reg_ranges.specs.RangeOf.{range_of}
use Rattle.reg_ranges.specs.declared.range.Range.{Range}
use Rattle.bpf_model.specs.AbstractState.{in_bounds, is_initialized}
use Rattle.bpf_verifier.proofs.States.{stack_bytes}
use Rattle.bpf_verifier.proofs.abstract_state.AbstractState.is_initialized.Goals as goal

pub returns : goal.returns
returns g c = λ stack holds.
    let is = c.in-Some.is in
    let range = c.in-Some.range in
    stack_bytes c.args.self.now.initialized.words (range_of range) c.args.size c.requires.0 c.requires.1 range.ordered (ap (λ (o : Option Range). in_bounds c.requires.0 (option_map range_of o) c.args.size) (sym is) ∙ c.requires.2) (omega (arith, c.if-range-ge-ARGUMENTS_START.false)) stack.initialized holds.initialized_are c.args.size refl c.contains_all.result c.contains_all.ensures.present c.contains_all.ensures.absent
    ∙ ap (λ (o : Option Range). is_initialized stack.initialized (option_map range_of o) c.args.size) (sym is)
