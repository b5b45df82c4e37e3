use Rattle.std.proofs.Common.{subst}
use Rattle.quorum_log.specs.Log.{AreBetweenMarks}
use Rattle.quorum_log.proofs.Standing.{are_between_marks}
use Rattle.quorum_log.proofs.log.QuorumLog.low.Goals as goal

pub returns-clause-inside : goal.returns-clause-inside
returns-clause-inside c =
    let s = c.self.inside in
    subst AreBetweenMarks c.self.view_is (are_between_marks s.config.value s.view.0 s.floor s.window.low.0 s.window.numbers.items c.self.invariant)
