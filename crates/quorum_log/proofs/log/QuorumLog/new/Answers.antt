use Rattle.quorum_log.proofs.Discarding.{kept_is, new_log}
use Rattle.quorum_log.proofs.log.QuorumLog.new.Goals as goal

pub returns : goal.returns
returns c = kept_is _ _ _ _ c.in_ok-try_clone.ensures (new_log _ _ c.in_ok-new.ensures.0 c.in_ok-new.ensures.2)
