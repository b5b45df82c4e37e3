use Rattle.std.proofs.Common.{List}
use Rattle.pbft_model.specs.Acts.{Act}
use Rattle.replica_core.specs.Settling.{IsAfter}
use Rattle.pbft_model.specs.Ending.{left_to_do}
use Rattle.replica_core.proofs.kept.Core.settle_lanes.Given as goal

abbrev pub invariant-loop-duty : goal.invariant-loop-duty
invariant-loop-duty g l = (acts : List Act) × IsAfter l.fn.self acts l.core

abbrev pub decreases-loop-duty : goal.decreases-loop-duty
decreases-loop-duty g l = left_to_do l.core.core
