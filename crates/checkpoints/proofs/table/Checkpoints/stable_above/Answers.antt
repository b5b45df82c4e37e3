use Rattle.std.proofs.Common.{rules, sym, ap, refl, subst, ◌∙◌}
use Rattle.std.specs.Option.{option_map_or}
use Rattle.checkpoints.proofs.Changes.{IsUpTo, greatest_seen, none_above}
use Rattle.checkpoints.proofs.Cores.{greatest_is, none_is}
use Rattle.checkpoints.specs.Kept.{IsGreatestStable, NoneStableAbove}
use Rattle.checkpoints.proofs.table.Checkpoints.stable_above.Goals as goal

pub returns-then-gt-clause-greatest : goal.returns-then-gt-clause-greatest
returns-then-gt-clause-greatest c =
    greatest_seen c.self.inside.config.value c.self.inside.low.0 c.self.inside.ballots c.self.inside.snapshots c.self.inside.greatest c.in_ok-greatest.greatest c.args.number.0 c.args.self.now c.self.invariant c.self.view_is c.in_ok-greatest.was (search rules)

pub returns-else-gt-clause-none : goal.returns-else-gt-clause-none
returns-else-gt-clause-none c = λ none.
    none_above c.self.inside.config.value c.self.inside.low.0 c.self.inside.ballots c.self.inside.snapshots c.self.inside.greatest c.args.number.0 c.args.self.now c.self.invariant c.self.view_is
    (subst (IsUpTo c.args.number.0) (sym c.in_ok-greatest.was) (search rules))

pub returns-in_err-greatest-clause-none : goal.returns-in_err-greatest-clause-none
returns-in_err-greatest-clause-none c = λ none.
    none_above c.self.inside.config.value c.self.inside.low.0 c.self.inside.ballots c.self.inside.snapshots c.self.inside.greatest c.args.number.0 c.args.self.now c.self.invariant c.self.view_is
    (subst (IsUpTo c.args.number.0) (sym c.in_err-greatest.was) tt)

pub returns-then-gt-clause-core : goal.returns-then-gt-clause-core
returns-then-gt-clause-core c = λ s has is.
    greatest_is c.args.self.now s c.in_ok-greatest.greatest.0 has (subst (λ e. IsGreatestStable c.args.self.now e c.in_ok-greatest.greatest.0) (sym is) (returns-then-gt-clause-greatest c))

pub returns-else-gt-clause-core : goal.returns-else-gt-clause-core
returns-else-gt-clause-core c = λ s has is. none_is c.args.self.now s has (subst (NoneStableAbove c.args.self.now) (sym is) (returns-else-gt-clause-none c refl))

pub returns-in_err-greatest-clause-core : goal.returns-in_err-greatest-clause-core
returns-in_err-greatest-clause-core c = λ s has is.
    none_is c.args.self.now s has (subst (NoneStableAbove c.args.self.now) (sym is) (none_above c.self.inside.config.value c.self.inside.low.0 c.self.inside.ballots c.self.inside.snapshots c.self.inside.greatest c.args.number.0 c.args.self.now c.self.invariant c.self.view_is
    (subst (IsUpTo c.args.number.0) (sym c.in_err-greatest.was) tt)))
    ∙ sym (ap (λ o. option_map_or (λ n. n.0) o 0) c.from_residual.ensures)
