use Rattle.std.proofs.Common.{sym, ap, subst}
use Rattle.std.specs.Option.{option_map}
use Rattle.ballots.specs.Acts.{Rise}
use Rattle.ballots.specs.Duties.{Do}
use Rattle.checkpoints.specs.Kept.{IsRaised}
use Rattle.checkpoints.proofs.Raising.{none_due, one_due}
use Rattle.checkpoints.proofs.table.Checkpoints.stable_kept.Goals as goal

pub returns-in_err-number : goal.returns-in_err-number
returns-in_err-number c =
    subst (IsRaised c.args.self.now c.args.up_to.0) (sym (ap (option_map (λ p. Do (Rise p.0.0 p.1.0))) c.from_residual.ensures))
    (none_due c.args.self.now c.args.up_to.0 (c.in_err-number.ensures {u = tt}))

pub returns : goal.returns
returns c =
    one_due c.args.self.now c.args.up_to.0 c.in_ok-number.number c.in_ok-stable.field-0 (c.in_ok-number.ensures {u = tt}) (sym (c.in_ok-stable.ensures {u = tt}).value)
