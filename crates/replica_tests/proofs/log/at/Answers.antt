use Rattle.quorum_log.proofs.EnteringLog.{listed_config}
use Rattle.replica_tests.proofs.log.at.Goals as goal

pub returns : goal.returns
returns c = listed_config c.args.pool.now.config c.args.pool.now.messages c.as_slice.result.now c.args.position c.get.result c.as_slice.ensures.value c.get.ensures.lookup.0 c.get.ensures.lookup.1
