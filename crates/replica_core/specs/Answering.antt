-- Internal: how a replica begins with an input, and what it answers to it.
use Rattle.std.specs.Prelude.{◌≡◌, ℕ, [], map, Option, Some, None, Result, Ok, Err, IsSome}
use Rattle.host_types.specs.Configuration.{Configuration}
use Rattle.pbft_model.specs.Acts.{Act, after}
use Rattle.pbft_model.specs.Rows as model
use Rattle.pbft_model.specs.Rows.{Begins, IsNext}
use Rattle.pbft_model.specs.Setup.{setup_of}
use Rattle.replica_core.specs.declared.halt.Halt.{Halt}
use Rattle.replica_core.specs.declared.replica.Status.{Status}
use Rattle.replica_core.specs.declared.row.Input.{Input}
use Rattle.replica_core.specs.Replicas.{KeptReplica}
use Rattle.replica_core.specs.Settling.{IsReached}
use Rattle.replica_core.specs.Facts.{RowFacts, done_of, input_of, output_of, row_of}
use Rattle.replica_core.specs.Steps.{IsHalt, status_of}

-- Nothing was done for an input so far.
pub record IsAtRest (k : KeptReplica) : Type 0 where
  pub outputs : k.outputs ≡ []
  pub done : k.done ≡ []
  pub leaves : k.leaves ≡ 0

-- its history comes to its core
abbrev pub IsSound : KeptReplica → Type 0
IsSound k = IsReached (setup_of k.config) k.me k.core

-- The input is taken, and nothing else was done.
abbrev pub HasBegun : KeptReplica → model.Input → KeptReplica → Type 0
HasBegun k input t = (first : Act) × Begins (setup_of k.config) input first × (t ≡ record k { core = after (setup_of k.config) k.core first })

-- The row of what was done.
pub record IsRowOf (k : KeptReplica) (input : Input) (row : RowFacts) : Type 0 where
  pub input_is : row.input ≡ input
  pub outputs : map output_of row.outputs ≡ k.outputs
  pub done : map done_of row.done ≡ k.done
  pub leaves : row.leaves ≡ k.leaves

-- The input's row, and what the replica is after it.
pub record Gives (k : KeptReplica) (input : Input) (row : RowFacts) (t : KeptReplica) : Type 0 where
  pub config : t.config ≡ k.config
  pub me : t.me ≡ k.me
  pub input_is : row.input ≡ input
  pub next : IsNext (setup_of k.config) k.me k.core (row_of row) t.core
  pub reached : IsSound t
  pub rest : IsAtRest t

-- A row, or a halt that the input leads to.
abbrev pub Answers : KeptReplica → Input → Result RowFacts Halt → KeptReplica → Type 0
Answers k input (Ok row) t = Gives k input row t
Answers k input (Err halt) t = IsHalt (setup_of k.config) k.me k.core (input_of input) halt

-- ---- between inputs

-- The replica's core, and where it says that it stands.
pub record IsKept (c : Configuration) (id : ℕ) (k : KeptReplica) (stands : Status) : Type 0 where
  pub config : k.config ≡ c
  pub me : k.me ≡ id
  pub reached : IsReached (setup_of c) id k.core
  pub rest : IsAtRest k
  pub status : stands ≡ status_of k.core

-- A replica that has no core has halted.
abbrev pub IsWhole : Configuration → ℕ → Option KeptReplica → Status → Type 0
IsWhole c me None status = IsSome status.halted
IsWhole c me (Some k) status = IsKept c me k status
