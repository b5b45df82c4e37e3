-- Statement: what the records of replicas say, whether they agree, and the one history that they then have.
use Rattle.std.specs.Prelude.{◌≡◌, ◌⊎◌, ℕ, ◌+◌, ◌-◌, ◌==◌, ◌<◌, ◌≤◌, Bool, true, false, List, [], ◌∷◌, length, flat_map, slice_get, Option, Some, None, is_some, Result, Ok, Err, if◌then◌else◌}
use Rattle.std.specs.List.{AllByRecursion, list_all}
use Rattle.std.specs.Option.{option_or}
use Rattle.host_types.specs.declared.Digest.{Digest}
use Rattle.replica_journal.specs.Facts.{RowFacts}
use Rattle.replica_journal.specs.Done.{Done}
use Rattle.replica_journal.specs.Done.TheVariants.{Executed, Installed}
use Rattle.byz_world.specs.declared.audit_fault.AuditFault.{AuditFault}
use Rattle.byz_world.specs.declared.audit_fault.AuditFault.TheVariants.{Differ, Gap, Unrecorded, Memory}
use Rattle.byz_world.specs.declared.history.Execution.{Execution}

-- What a replica did, over its rows in order; what all of them did.
abbrev pub done_in : List RowFacts → List Done
done_in rows = flat_map (λ row. row.done) rows

abbrev pub all_done : List (List RowFacts) → List Done
all_done records = flat_map done_in records

abbrev pub number_in : Done → ℕ
number_in (Executed number digest result) = number.0
number_in (Installed number digest) = number.0

-- ---- whether records agree

abbrev pub execution : Digest → List ℕ → Execution
execution digest result = record { digest = digest; result = result }

-- what this says was executed at a number, and the digest that it says was installed there
abbrev pub execution_in : ℕ → Done → Option Execution
execution_in n (Executed number digest result) =
    if number.0 == n then Some (execution digest result) else None
execution_in n (Installed number digest) = None

abbrev pub installation_in : ℕ → Done → Option Digest
installation_in n (Executed number digest result) = None
installation_in n (Installed number digest) = if number.0 == n then Some digest else None

-- the first of each
abbrev pub executed_at : List Done → ℕ → Option Execution
executed_at [] n = None
executed_at (x ∷ xs) n = option_or (execution_in n x) (executed_at xs n)

abbrev pub installed_at : List Done → ℕ → Option Digest
installed_at [] n = None
installed_at (x ∷ xs) n = option_or (installation_in n x) (installed_at xs n)

-- It says what the first says of its number, in its kind.
abbrev pub SaysTheSame : List Done → Done → Type 0
SaysTheSame all (Executed number digest result) = executed_at all number.0 ≡ Some (execution digest result)
SaysTheSame all (Installed number digest) = installed_at all number.0 ≡ Some digest

-- Where two speak of one number, in one kind, they say the same.
abbrev pub Agree : List Done → Type 0
Agree all = AllByRecursion (SaysTheSame all) all

-- It doesn't say what the first says.
abbrev pub SaysOther : List Done → Done → Type 0
SaysOther all (Executed number digest result) =
    (first : Execution) × (executed_at all number.0 ≡ Some first) × (first ≡ execution digest result → ⊥)
SaysOther all (Installed number digest) = (first : Digest) × (installed_at all number.0 ≡ Some first) × (first ≡ digest → ⊥)

-- One of these doesn't say what the first of all says.
abbrev pub SomeDiffer : List Done → List Done → Type 0
SomeDiffer all [] = ⊥
SomeDiffer all (x ∷ xs) = SaysOther all x ⊎ SomeDiffer all xs

-- ---- whether executions rise by one

-- The last number after these, from this one on: none where an execution is not at the next number.
abbrev pub reached : ℕ → List Done → Option ℕ
reached last [] = Some last
reached last (Executed number digest result ∷ xs) = if number.0 == last + 1 then reached number.0 xs else None
reached last (Installed number digest ∷ xs) = reached number.0 xs

abbrev pub rises : List Done → Bool
rises xs = is_some (reached 0 xs)

abbrev pub all_rise : List (List RowFacts) → Bool
all_rise records = list_all (λ rows. rises (done_in rows)) records

-- ---- the history

-- what was executed at a number, the first number being 1
abbrev pub entry_at : List Execution → ℕ → Option Execution
entry_at entries n = if n == 0 then None else slice_get entries (n - 1)

-- the numbers of these are at most this
abbrev pub AreUpTo : ℕ → List Done → Type 0
AreUpTo top xs = AllByRecursion (λ x. number_in x ≤ top) xs

-- What was executed at each number from 1 up to the greatest that was executed or installed. Where executions
-- rise by one, none is at 0.
pub record IsHistory (all : List Done) (entries : List Execution) : Type 0 where
  pub executed : (n : ℕ) → 0 < n → entry_at entries n ≡ executed_at all n
  pub whole : AreUpTo (length entries) all

-- the number is among these, or below one of them
abbrev pub IsReached : ℕ → List Done → Type 0
IsReached n [] = ⊥
IsReached n (x ∷ xs) = (n ≤ number_in x) ⊎ IsReached n xs

-- A number from 1 up to the greatest was not executed.
pub record IsMissing (all : List Done) : Type 0 where
  pub number : ℕ
  pub positive : 0 < number
  pub reached : IsReached number all
  pub absent : executed_at all number ≡ None

-- What an audit of these records answers: of several faults the first, and nothing is said where memory ran
-- out.
abbrev pub IsAudit : List (List RowFacts) → Result (List Execution) AuditFault → Type 0
IsAudit records (Ok history) = Agree (all_done records) × (all_rise records ≡ true) × IsHistory (all_done records) history
IsAudit records (Err Differ) = SomeDiffer (all_done records) (all_done records)
IsAudit records (Err Gap) = Agree (all_done records) × (all_rise records ≡ false)
IsAudit records (Err Unrecorded) = Agree (all_done records) × (all_rise records ≡ true) × IsMissing (all_done records)
IsAudit records (Err Memory) = Unit {0}
