use Rattle.std.proofs.Common.{◌≡◌, Option, Some, None, Result, Ok, Err, ap}
use Rattle.host_types.specs.Configuration.{Configuration}
use Rattle.pbft_model.specs.Core.{Core}
use Rattle.replica_core.specs.Facts.{RowFacts}
use Rattle.replica_core.specs.Steps.{ReplicaFacts, Steps, StopsFrom}
use Rattle.replica_core.specs.declared.halt.Halt.{Halt}
use Rattle.replica_core.specs.declared.row.Input.{Input}
use Rattle.replica_core.specs.declared.row.Input.TheVariants as inputs
use Rattle.bench_replica.proofs.replica.node.take.Goals as goal

abbrev config_of : ReplicaFacts → Configuration
config_of r = r.config

stopped : (core : Option Core) (r : ReplicaFacts) (input : Input) (halt : Halt) (t : ReplicaFacts) → StopsFrom core r input halt t → config_of t ≡ config_of r
stopped None r input halt t stops = ap config_of stops.1
stopped (Some s) r input halt t stops = ap config_of stops.1

stays : (r : ReplicaFacts) (input : Input) (result : Result RowFacts Halt) (t : ReplicaFacts) → Steps r input result t → config_of t ≡ config_of r
stays r input (Ok row) t goes = ap config_of goes.new
stays r input (Err halt) t stops = stopped r.core r input halt t stops

pub returns : goal.returns
returns c = stays c.args.replica.now (inputs.Message c.args.message.now) c.take.result c.take.new.self c.take.ensures
