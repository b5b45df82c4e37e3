-- Statement: a replica with its rows, and with its journal: what holds of it, and what a step makes of it.
use Rattle.std.specs.Prelude.{◌≡◌, ℕ, ◌<◌, ◌≤◌, List, [], ◌∷◌, ◌++◌, length, map, Option, Some, None, Result, Ok, Err, IsSome}
use Rattle.host_types.specs.Configuration.{Configuration}
use Rattle.lms_tree.specs.SigningState.{SigningState}
use Rattle.pbft_model.specs.Core.{Core}
use Rattle.pbft_model.specs.Rows.{IsJournal, leaves_in}
use Rattle.pbft_model.specs.Setup.{signer_after, setup_of}
use Rattle.replica_core.specs.Facts.{RowFacts, row_of}
use Rattle.replica_core.specs.Steps.{Goes, ReplicaFacts, Stops, first_with, status_of}
use Rattle.replica_core.specs.declared.halt.Halt.{Halt}
use Rattle.replica_core.specs.declared.halt.Halt.TheVariants as halts
use Rattle.replica_core.specs.declared.replica.Status.{Status}
use Rattle.replica_core.specs.declared.row.Input.{Input}
use Rattle.replica_journal.specs.declared.unkept.Unkept.{Unkept}
use Rattle.replica_journal.specs.declared.unkept.Unkept.TheVariants as unkept

-- ---- a replica and its rows

-- What a contract sees of a replica with the rows that it gave, the oldest first.
pub record KeeperFacts : Type 0 where
  pub replica : ReplicaFacts
  pub rows : List RowFacts

-- What an input makes of it: the row of the replica's step is appended. Where the replica halts there is none; where
-- memory ran out for the row, the replica has made its step nonetheless.
abbrev pub Keeps : KeeperFacts → Input → Result RowFacts Unkept → KeeperFacts → Type 0
Keeps k input (Ok row) t = Goes k.replica input row t.replica × (t.rows ≡ k.rows ++ row ∷ [])
Keeps k input (Err (unkept.Halted halt)) t = Stops k.replica input halt t.replica × (t.rows ≡ k.rows)
Keeps k input (Err unkept.Memory) t = ((row : RowFacts) × Goes k.replica input row t.replica) × (t.rows ≡ k.rows)

-- ---- a journal

-- What a contract sees of a replica with its journal.
pub record JournalFacts : Type 0 where
  pub replica : ReplicaFacts
  -- the rows that it gave, the oldest first
  pub rows : List RowFacts
  -- how many rows there may be
  pub limit : ℕ
  -- where it stands after the last of them, and why it has halted since, if it has
  pub status : Status

-- where a replica with this core stands, and why it has halted since
abbrev pub stands : Core → Option Halt → Status
stands s halted = record (status_of s) { halted = halted }

-- before the first message
abbrev pub first_journal : Configuration → ℕ → SigningState → ℕ → JournalFacts
first_journal c me signer limit =
    let replica : ReplicaFacts = first_with c me signer in
    record { replica = replica; rows = []; limit = limit; status = replica.status }

-- The rows are a lawful journal of the replica; the status is that of the core after them, and until a halt this core
-- is the replica's.
pub record IsKept (j : JournalFacts) : Type 0 where
  pub journal : IsJournal (setup_of j.replica.config) j.replica.me (map row_of j.rows)
  pub status_is : j.status ≡ stands journal.last j.status.halted
  pub running : j.status.halted ≡ None → j.replica.core ≡ Some journal.last
  pub within : length j.rows ≤ j.limit

-- The replica's core is the replay of the journal, and its signer has used the leaves of the rows.
pub record IsReplayed (j : JournalFacts) : Type 0 where
  pub journal : IsJournal (setup_of j.replica.config) j.replica.me (map row_of j.rows)
  pub core_is : j.replica.core ≡ Some journal.last
  pub leaves : journal.last.signer ≡ signer_after journal.signer (leaves_in (map row_of j.rows))

-- ---- steps

-- It has not halted, and has room for a row.
pub record MayStep (j : JournalFacts) : Type 0 where
  pub running : j.status.halted ≡ None
  pub room : length j.rows < j.limit

-- The replica's row of the input is appended.
pub record Appends (j : JournalFacts) (input : Input) (row : RowFacts) (t : JournalFacts) : Type 0 where
  pub may : MayStep j
  pub goes : Goes j.replica input row t.replica
  pub rows_are : t.rows ≡ j.rows ++ row ∷ []
  pub limit_is : t.limit ≡ j.limit
  pub status_is : t.status ≡ t.replica.status

-- No row is given: the journal is as it was, and is halted for this reason.
pub record HaltsWith (j : JournalFacts) (halt : Halt) (t : JournalFacts) : Type 0 where
  pub rows_are : t.rows ≡ j.rows
  pub limit_is : t.limit ≡ j.limit
  pub status_is : t.status ≡ record j.status { halted = Some halt }

-- It halts as its replica does.
pub record HaltsAlike (j : JournalFacts) (input : Input) (halt : Halt) (t : JournalFacts) : Type 0 where
  pub may : MayStep j
  pub stops : Stops j.replica input halt t.replica
  pub halts : HaltsWith j halt t

-- Memory ran out, in the replica's step or as its row was kept.
pub record RunsOut (j : JournalFacts) (t : JournalFacts) : Type 0 where
  pub may : MayStep j
  pub config_is : t.replica.config ≡ j.replica.config
  pub me_is : t.replica.me ≡ j.replica.me
  pub halts : HaltsWith j halts.Memory t

-- It has as many rows as there may be, and had not halted.
pub record IsFull (j : JournalFacts) (t : JournalFacts) : Type 0 where
  pub running : j.status.halted ≡ None
  pub full : j.limit ≤ length j.rows
  pub replica_is : t.replica ≡ j.replica
  pub halts : HaltsWith j halts.JournalFull t

-- Why a step can't be made, with so many rows.
abbrev pub CannotStep : ℕ → ℕ → Status → Halt → Status → Type 0
CannotStep rows limit was halts.AlreadyHalted now = IsSome was.halted × (now ≡ was)
CannotStep rows limit was halts.JournalFull now = (was.halted ≡ None) × (limit ≤ rows) × (now ≡ record was { halted = Some halts.JournalFull })
CannotStep rows limit was _ now = ⊥

-- the halt of a step that left no row
abbrev pub IsHaltOf : Result RowFacts Unkept → Halt → Type 0
IsHaltOf (Ok row) halt = ⊥
IsHaltOf (Err (unkept.Halted why)) halt = halt ≡ why
IsHaltOf (Err unkept.Memory) halt = halt ≡ halts.Memory

-- It halts for this reason, or had halted before.
abbrev pub HaltsFor : JournalFacts → Input → Halt → JournalFacts → Type 0
HaltsFor j input halts.Exhausted t = HaltsAlike j input halts.Exhausted t
HaltsFor j input halts.Worn t = HaltsAlike j input halts.Worn t
HaltsFor j input halts.Memory t = RunsOut j t
HaltsFor j input halts.JournalFull t = IsFull j t
HaltsFor j input halts.AlreadyHalted t = IsSome j.status.halted × (t ≡ j)

-- What an input makes of it.
abbrev pub Advances : JournalFacts → Input → Result RowFacts Halt → JournalFacts → Type 0
Advances j input (Ok row) t = Appends j input row t
Advances j input (Err halt) t = HaltsFor j input halt t
