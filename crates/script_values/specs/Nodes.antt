-- Statement: how a replica or a client is named in a line.
use Rattle.std.specs.Prelude.{ℕ, List, codes, decimal, Option, Some, None}
use Rattle.script_values.specs.declared.said.Node.{Node}
use Rattle.script_values.specs.declared.said.Node.TheVariants.{Replica, Client}

-- a node's id; a dash where there is none
abbrev pub node_text : Option Node → List ℕ
node_text None = codes "-"
node_text (Some (Replica id)) = decimal id.0
node_text (Some (Client id)) = decimal id.0
