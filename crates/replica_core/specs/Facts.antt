-- Statement: a row, as contracts see it, and the protocol's row that it shows.
use Rattle.std.specs.Prelude.{ℕ, List, map}
use Rattle.pbft_model.specs.Acts.{Destination, All, ToReplica, ToClient}
use Rattle.pbft_model.specs.Rows as rows
use Rattle.replica_core.specs.declared.row.Dest.{Dest}
use Rattle.replica_core.specs.declared.row.Dest.TheVariants as dests
use Rattle.replica_core.specs.declared.row.Done.{Done}
use Rattle.replica_core.specs.declared.row.Done.TheVariants as dones
use Rattle.replica_core.specs.declared.row.Input.{Input}
use Rattle.replica_core.specs.declared.row.Input.TheVariants as inputs
use Rattle.replica_core.specs.declared.row.Output.{Output}

-- What a contract sees of a row.
pub record RowFacts : Type 0 where
  pub input : Input
  pub outputs : List Output
  pub done : List Done
  pub leaves : ℕ

abbrev pub destination_of : Dest → Destination
destination_of dests.All = All
destination_of (dests.Replica id) = ToReplica id.0
destination_of (dests.Client id) = ToClient id.0

abbrev pub output_of : Output → rows.Output
output_of o = record { to = destination_of o.to; message = o.message.message; own = o.own }

abbrev pub done_of : Done → rows.Done
done_of (dones.Executed number digest result) = rows.Executed number.0 digest.0 result
done_of (dones.Installed number digest) = rows.Installed number.0 digest.0

abbrev pub input_of : Input → rows.Input
input_of (inputs.Message m) = rows.Received m.message
input_of inputs.Timeout = rows.TimedOut

-- the protocol's row
abbrev pub row_of : RowFacts → rows.Row
row_of r = record { input = input_of r.input; outputs = map output_of r.outputs; done = map done_of r.done; leaves = r.leaves }
