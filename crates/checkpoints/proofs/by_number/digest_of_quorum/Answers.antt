use Rattle.std.proofs.Common.{sym, ◌∙◌, arith}
use Rattle.checkpoints.specs.Reading.{said_by}
use Rattle.checkpoints.proofs.Stable.{no_quorum, quorum_passed}
use Rattle.checkpoints.proofs.by_number.digest_of_quorum.Goals as goal

pub returns-in-Some : goal.returns-in-Some
returns-in-Some c =
    sym (quorum_passed c.args.config.now (said_by c.args.votes.now) c.args.number.0 c.loop-signer.signer c.in-Some.digest (sym c.digest_if_quorum.ensures ∙ c.in-Some.is))

pub returns : goal.returns
returns c =
    sym (no_quorum c.args.config.now (said_by c.args.votes.now) c.args.number.0
    (λ i below. c.loop-signer.invariant i (omega (arith, below, c.loop-signer-test.false, c.replica_count-signer-end.ensures.value))))
