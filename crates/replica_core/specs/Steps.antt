-- Statement: what a contract sees of a replica, what a message or a timeout makes of it, and what a run of its rows is.
use Rattle.std.specs.Prelude.{◌≡◌, ℕ, ◌-◌, List, [], ◌∷◌, map, Option, Some, None, Result, Ok, Err}
use Rattle.host_types.specs.Configuration.{Configuration}
use Rattle.lms_tree.specs.Keys.{leaf_count}
use Rattle.pbft_model.specs.Acts.{Act}
use Rattle.pbft_model.specs.Core.{Core, start_of}
use Rattle.pbft_model.specs.Histories.{IsHistory, core_after}
use Rattle.pbft_model.specs.Rows as model
use Rattle.pbft_model.specs.Rows.{HaltsBy, IsLawfulFrom, IsNext}
use Rattle.pbft_model.specs.Setup.{Setup, setup_of}
use Rattle.pbft_model.specs.Words.{SigningState}
use Rattle.replica_core.specs.declared.halt.Halt.{Halt}
use Rattle.replica_core.specs.declared.halt.Halt.TheVariants as halts
use Rattle.replica_core.specs.declared.replica.Status.{Status}
use Rattle.replica_core.specs.declared.row.Input.{Input}
use Rattle.replica_core.specs.Facts.{RowFacts, input_of, row_of}

-- What a contract sees of a replica.
pub record ReplicaFacts : Type 0 where
  pub config : Configuration
  pub me : ℕ
  -- none once it has stopped
  pub core : Option Core
  pub status : Status

-- where a replica stands that has not stopped
abbrev pub status_of : Core → Status
status_of s = record { view = record { 0 = s.view }; active = s.active; low = record { 0 = s.low }; executed = record { 0 = s.executed }; halted = None }

-- how many leaves of its signer have not signed
abbrev pub leaves_left_of : Option Core → ℕ
leaves_left_of None = 0
leaves_left_of (Some s) = leaf_count s.signer - s.signer.next_leaf

-- a replica with this signer, before its first message
abbrev pub first_with : Configuration → ℕ → SigningState → ReplicaFacts
first_with c me signer = record { config = c; me = me; core = Some (start_of (setup_of c) signer); status = status_of (start_of (setup_of c) signer) }

-- ---- one input

-- The replica continues: this is the row of the input.
pub record Goes (r : ReplicaFacts) (input : Input) (row : RowFacts) (t : ReplicaFacts) : Type 0 where
  pub before : Core
  pub was : r.core ≡ Some before
  pub input_is : row.input ≡ input
  pub next : Core
  pub is_next : IsNext (setup_of r.config) r.me before (row_of row) next
  pub new : t ≡ record r { core = Some next; status = status_of next }

-- The input halts a replica with this core for this reason. Memory may run out at any point.
abbrev pub IsHalt : Setup → ℕ → Core → model.Input → Halt → Type 0
IsHalt c me s input halts.Exhausted = HaltsBy c me s input model.Exhausted
IsHalt c me s input halts.Worn = HaltsBy c me s input model.Worn
IsHalt c me s input halts.Memory = Unit {0}
IsHalt c me s input halts.JournalFull = ⊥
IsHalt c me s input halts.AlreadyHalted = ⊥

-- from a core; or once there is none
abbrev pub StopsFrom : Option Core → ReplicaFacts → Input → Halt → ReplicaFacts → Type 0
StopsFrom None r input halt t = (halt ≡ halts.AlreadyHalted) × (t ≡ r)
StopsFrom (Some s) r input halt t =
    IsHalt (setup_of r.config) r.me s (input_of input) halt × (t ≡ record r { core = None; status = record r.status { halted = Some halt } })

-- The replica stops, or had stopped before.
abbrev pub Stops : ReplicaFacts → Input → Halt → ReplicaFacts → Type 0
Stops r input halt t = StopsFrom r.core r input halt t

-- What an input makes of a replica: a row, or a halt.
abbrev pub Steps : ReplicaFacts → Input → Result RowFacts Halt → ReplicaFacts → Type 0
Steps r input (Ok row) t = Goes r input row t
Steps r input (Err halt) t = Stops r input halt t

-- ---- runs

-- Rows that a replica gave, one after another.
abbrev pub IsRun : ReplicaFacts → List RowFacts → ReplicaFacts → Type 0
IsRun r [] t = t ≡ r
IsRun r (row ∷ rows) t = (u : ReplicaFacts) × Goes r row.input row u × IsRun u rows t

-- The rows are a lawful journal from the signer's first core on, up to the core that is kept.
abbrev pub IsLawful : Configuration → ℕ → SigningState → List RowFacts → Option Core → Type 0
IsLawful c me signer rows kept = (last : Core) × (kept ≡ Some last) × IsLawfulFrom (setup_of c) me (start_of (setup_of c) signer) (map row_of rows) last

-- Acts that were each allowed come to the core that is kept.
abbrev pub IsAllowed : Configuration → ℕ → SigningState → Option Core → Type 0
IsAllowed c me signer kept = (acts : List Act) × IsHistory (setup_of c) me signer acts × (kept ≡ Some (core_after (setup_of c) signer acts))
