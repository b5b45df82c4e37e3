-- Statement: which message of the records of correct replicas has not come to another of them, and what records the journals of a family
-- have.
use Rattle.std.specs.Prelude.{◌≡◌, ◌≢◌, ◌<◌, ◌==◌, ℕ, List, find, map, Option, Some, None, option_and_then, slice_get}
use Rattle.std.specs.Global.{Vec}
use Rattle.host_types.specs.declared.ReplicaId.{ReplicaId}
use Rattle.byz_world.specs.Setup.{Setup}
use Rattle.byz_world.specs.Histories.{IsIn}
use Rattle.byz_world.specs.Families.{IsCorrect}
use Rattle.byz_world.specs.Journals.{Journals, HasReceived}
use Rattle.pbft_progress.specs.Progress.{IsFor}
use Rattle.byz_world.specs.Facts.{RowFacts, destination_of, row_of}
use Rattle.byz_world.specs.Output.{Output}
use Rattle.drained_records.specs.declared.missing.Missing.{Missing}

-- A record: whose it is, and the rows.
abbrev pub Record : Type 0
Record = ReplicaId × Vec RowFacts

-- It holds of what stands at this place, if anything does.
abbrev pub At : {X : Type 0} → List X → ℕ → (X → Type 0) → Type 0
At {X} xs place is = (x : X) → slice_get xs place ≡ Some x → is x

-- Something stands at this place, and it holds of it.
abbrev pub SomeAt : {X : Type 0} → List X → ℕ → (X → Type 0) → Type 0
SomeAt {X} xs place is = (x : X) × (slice_get xs place ≡ Some x) × is x

-- ---- what is missing

-- A row of the record received it.
abbrev pub IsThere : Output → Record → Type 0
IsThere output to = HasReceived output.message.message (map row_of to.1.items)

-- What a replica gave has come to the record: if that is another replica's, for whom it is, it is there.
abbrev pub HasCome : ReplicaId → Output → Record → Type 0
HasCome from output to = from ≢ to.0 → IsFor to.0.0 (destination_of output.to) → IsThere output to

-- It is missing in the record: that is another replica's, for whom it is, and it isn't there.
abbrev pub IsMissing : ReplicaId → Output → Record → Type 0
IsMissing from output to = (from ≢ to.0) × IsFor to.0.0 (destination_of output.to) × (IsThere output to → ⊥)

-- The output at a place of a row, at a place of a record, at a place among records, has come to the record at another place; or it is
-- missing there.
abbrev pub Came : List Record → ℕ → ℕ → ℕ → ℕ → Type 0
Came records from row output to = At records from (λ f. At f.1.items row (λ r. At r.outputs output (λ o. At records to (HasCome f.0 o))))

abbrev pub Misses : List Record → ℕ → ℕ → ℕ → ℕ → Type 0
Misses records from row output to =
    SomeAt records from (λ f. SomeAt f.1.items row (λ r. SomeAt r.outputs output (λ o. SomeAt records to (IsMissing f.0 o))))

-- Each message came.
abbrev pub AllCame : List Record → Type 0
AllCame records = (from row output to : ℕ) → Came records from row output to

-- A message is missing, and each before it came: of the records before, of the rows before it, of the outputs before that, and to the
-- records before.
pub record IsFirst (records : List Record) (m : Missing) : Type 0 where
  pub from : ℕ
  pub to : ℕ
  pub misses : Misses records from m.row m.output to
  pub from_is : SomeAt records from (λ r. r.0 ≡ m.from)
  pub to_is : SomeAt records to (λ r. r.0 ≡ m.to)
  pub records_came : (i row output place : ℕ) → i < from → Came records i row output place
  pub rows_came : (i output place : ℕ) → i < m.row → Came records from i output place
  pub outputs_came : (i place : ℕ) → i < m.output → Came records from m.row i place
  pub came : (i : ℕ) → i < to → Came records from m.row m.output i

-- The first message that is missing, or that each came.
abbrev pub IsFirstMissing : List Record → Option Missing → Type 0
IsFirstMissing records None = AllCame records
IsFirstMissing records (Some m) = IsFirst records m

-- The output at a place of the row at a place; the output that this names, in the first record of its sender's id.
abbrev pub output_in : List RowFacts → ℕ → ℕ → Option Output
output_in rows row output = option_and_then (λ r. slice_get r.outputs output) (slice_get rows row)

abbrev pub output_named : List Record → Missing → Option Output
output_named records m = option_and_then (λ f. output_in f.1.items m.row m.output) (find (λ f. f.0.0 == m.from.0) records)

-- ---- the records of a family

-- These are the records of a family's correct replicas, of each of them and of nobody else.
pub record AreRecordsOf (c : Setup) (j : Journals) (records : List Record) : Type 0 where
  pub correct : (r : Record) → IsIn r records → IsCorrect c j.faulty r.0.0
  pub rows : (r : Record) → IsIn r records → j.rows r.0.0 ≡ map row_of r.1.items
  pub each : (i : ℕ) → IsCorrect c j.faulty i → (r : Record) × IsIn r records × (r.0.0 ≡ i)
