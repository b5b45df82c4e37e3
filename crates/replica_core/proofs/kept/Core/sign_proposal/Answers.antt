use Rattle.std.proofs.Common.{rules}
use Rattle.replica_stores.proofs.Sealing.{pre_prepare_is_sealable}
use Rattle.replica_core.proofs.Opening.{leader_may_sign}
use Rattle.replica_core.proofs.kept.Core.sign_proposal.Goals as goal

pub sign-requires-clause-role : goal.sign-requires-clause-role
sign-requires-clause-role c = leader_may_sign c.args.self.now c.args.said c.requires.leads c.requires.proposal

pub sign-requires-clause-sealable : goal.sign-requires-clause-sealable
sign-requires-clause-sealable c = pre_prepare_is_sealable _ _ c.requires.proposal.number (search rules)
