use Rattle.std.proofs.Common.{rules}
use Rattle.world_trace.proofs.Searching.{overruns_so}
use Rattle.world_trace.proofs.explore.Explorer.run.Goals as goal

pub returns-in-Err-TooManyDeliveries : goal.returns-in-Err-TooManyDeliveries
returns-in-Err-TooManyDeliveries c = overruns_so _ _ _ _ _ c.run_in_memory-ended.result _ (λ _. Unit {0}) (λ _. Unit {0}) (search rules) c.run_in_memory-ended.ensures
