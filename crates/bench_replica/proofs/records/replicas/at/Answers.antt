use Rattle.quorum_log.proofs.EnteringLog.{listed_config}
use Rattle.bench_replica.proofs.records.replicas.at.Goals as goal

pub returns : goal.returns
returns c = listed_config c.args.list.now.config c.args.list.now.messages c.as_slice.result.now c.args.index c.get.result c.as_slice.ensures.value c.get.ensures.lookup.0 c.get.ensures.lookup.1
