use Rattle.std.proofs.Common.{◌∙◌}
use Rattle.quorum_log.proofs.Asking.{digest_is}
use Rattle.quorum_log.proofs.log.QuorumLog.pre_prepare.Goals as goal

pub returns-in-Some : goal.returns-in-Some
returns-in-Some c = c.digest.ensures ∙ digest_is c.args.self.now.config c.args.self.now.log c.args.view.0 c.args.number.0 c.in-Some.slot.now c.slot.ensures.legal c.in-Some.ensures.represents
