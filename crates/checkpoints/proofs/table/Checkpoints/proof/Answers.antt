use Rattle.std.proofs.Common.{rules, sym, ap, subst, ◌∙◌, arith}
use Rattle.std.specs.Option.{option_map}
use Rattle.ballots.specs.Ballots.{AreUnder}
use Rattle.checkpoints.specs.Reading.{IsBallotAt, ballot_in, quorum_digest, said_by}
use Rattle.checkpoints.proofs.Proving.{proof_below, proof_none, proof_some}
use Rattle.checkpoints.proofs.Voting.{under_one}
use Rattle.checkpoints.proofs.table.Checkpoints.proof.Goals as goal

pub returns-then-lt-clause-proof : goal.returns-then-lt-clause-proof
returns-then-lt-clause-proof c =
    c.in_ok-new.ensures ∙ proof_below c.self.inside.config.value c.self.inside.low.0 c.self.inside.ballots c.self.inside.snapshots c.self.inside.greatest c.args.number.0 c.args.self.now c.self.invariant c.self.view_is (search rules)

pub quorum_at-requires : goal.quorum_at-requires
quorum_at-requires c = subst (λ d. IsBallotAt d c.args.number.0 (ballot_in c.self.inside.ballots c.args.number.0)) (sym c.deref.ensures) (c.self.invariant.each c.args.number.0)

pub least-requires : goal.least-requires
least-requires c = subst (AreUnder c.self.inside.config.value) (sym c.in-Some.ensures.ballot) (under_one c.self.inside.config.value c.args.number.0 (ballot_in c.self.inside.ballots c.args.number.0) (c.self.invariant.each c.args.number.0))

pub returns-in_ok-least-in-Some-clause-proof : goal.returns-in_ok-least-in-Some-clause-proof
returns-in_ok-least-in-Some-clause-proof c =
    c.in_ok-least-in-Some.ensures
    ∙ proof_some c.self.inside.config.value c.self.inside.low.0 c.self.inside.ballots c.self.inside.snapshots c.self.inside.greatest c.args.number.0 c.args.self.now _ _ _ c.self.invariant c.self.view_is (search rules)
    (sym (ap (λ o. option_map (λ p. p.1) o) c.in-Some.is) ∙ c.quorum_at.ensures.digest ∙ ap (λ d. quorum_digest d (said_by (ballot_in c.self.inside.ballots c.args.number.0)) c.args.number.0) c.deref.ensures)
    c.in-Some.ensures.ballot (omega (arith, c.from.ensures, c.f.ensures.value, ap (λ d. d.f) c.deref-in-Some.ensures))

pub returns-in_ok-new-in-None-clause-proof : goal.returns-in_ok-new-in-None-clause-proof
returns-in_ok-new-in-None-clause-proof c =
    c.in_ok-new-in-None.ensures
    ∙ proof_none c.self.inside.config.value c.self.inside.low.0 c.self.inside.ballots c.self.inside.snapshots c.self.inside.greatest c.args.number.0 c.args.self.now c.self.invariant c.self.view_is (search rules)
    (sym (ap (λ o. option_map (λ p. p.1) o) c.in-None.is) ∙ c.quorum_at.ensures.digest ∙ ap (λ d. quorum_digest d (said_by (ballot_in c.self.inside.ballots c.args.number.0)) c.args.number.0) c.deref.ensures)
