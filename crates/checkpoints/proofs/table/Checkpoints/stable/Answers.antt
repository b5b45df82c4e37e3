use Rattle.std.proofs.Common.{rules, sym, ap, subst, ◌∙◌, None}
use Rattle.std.specs.Option.{option_map}
use Rattle.checkpoints.specs.Reading.{IsBallotAt, ballot_in}
use Rattle.checkpoints.proofs.Views.{stable_below_low, stable_from_low}
use Rattle.checkpoints.proofs.Proving.{stable_exactly}
use Rattle.checkpoints.proofs.table.Checkpoints.stable.Goals as goal

pub returns-then-lt-clause-value : goal.returns-then-lt-clause-value
returns-then-lt-clause-value c = stable_below_low c.self.inside.config.value c.self.inside.low.0 c.self.inside.ballots c.self.inside.snapshots c.self.inside.greatest c.args.number.0 c.args.self.now c.self.invariant c.self.view_is (search rules)

pub quorum_at-requires : goal.quorum_at-requires
quorum_at-requires c = subst (λ d. IsBallotAt d c.args.number.0 (ballot_in c.self.inside.ballots c.args.number.0)) (sym c.deref.ensures) (c.self.invariant.each c.args.number.0)

pub returns-in_err-digest-clause-value : goal.returns-in_err-digest-clause-value
returns-in_err-digest-clause-value c =
    c.from_residual.ensures
    ∙ stable_from_low c.self.inside.config.value c.deref.result.now c.self.inside.low.0 c.self.inside.ballots c.self.inside.snapshots c.self.inside.greatest c.args.number.0 c.args.self.now None c.self.invariant c.self.view_is (search rules) c.deref.ensures
    (sym (ap (λ o. option_map (λ p. p.1) o) c.in_err-digest.was) ∙ c.quorum_at.ensures.digest)

pub returns-clause-value : goal.returns-clause-value
returns-clause-value c =
    stable_from_low c.self.inside.config.value c.deref.result.now c.self.inside.low.0 c.self.inside.ballots c.self.inside.snapshots c.self.inside.greatest c.args.number.0 c.args.self.now _ c.self.invariant c.self.view_is (search rules) c.deref.ensures
    (sym (ap (λ o. option_map (λ p. p.1) o) c.in_ok-digest.was) ∙ c.quorum_at.ensures.digest)

pub returns-then-lt-clause-exact : goal.returns-then-lt-clause-exact
returns-then-lt-clause-exact c = stable_exactly c.args.self.now c.args.number.0 _ (returns-then-lt-clause-value c)

pub returns-in_err-digest-clause-exact : goal.returns-in_err-digest-clause-exact
returns-in_err-digest-clause-exact c = stable_exactly c.args.self.now c.args.number.0 _ (returns-in_err-digest-clause-value c)

pub returns-clause-exact : goal.returns-clause-exact
returns-clause-exact c = stable_exactly c.args.self.now c.args.number.0 _ (returns-clause-value c)
