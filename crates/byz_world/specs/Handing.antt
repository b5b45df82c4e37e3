-- Internal: an input at one correct replica, and what holds of every world.
use Rattle.std.specs.Prelude.{◌≡◌, ℕ, ◌==◌, ◌+◌, ◌≤◌, List, [], ◌∷◌, ◌++◌, position, Option, Some, None, Result, Ok, Err}
use Rattle.host_types.specs.Configuration.{Configuration, IsConfiguration}
use Rattle.replica_journal.specs.Facts.{RowFacts}
use Rattle.replica_journal.specs.Steps.{Goes, Stops}
use Rattle.replica_journal.specs.Halt.{Halt}
use Rattle.replica_journal.specs.Input.{Input}
use Rattle.replica_journal.specs.declared.unkept.Unkept.{Unkept}
use Rattle.replica_journal.specs.declared.unkept.Unkept.TheVariants as unkept
use Rattle.byz_world.specs.declared.fault.WorldFault.TheVariants as faults
use Rattle.byz_world.specs.Worlds.{Answer, MemberFacts}

-- What holds, unless memory ran out.
abbrev pub UnlessMemory : Answer → Type 0 → Type 0
UnlessMemory (Ok row) is = is
UnlessMemory (Err faults.NoSuchReplica) is = is
UnlessMemory (Err faults.NoSuchOutput) is = is
UnlessMemory (Err faults.Memory) is = Unit {0}

-- The replica gives its row, or none.
pub record MemberGoes (m : MemberFacts) (input : Input) (row : RowFacts) (t : MemberFacts) : Type 0 where
  pub goes : Goes m.replica input row t.replica
  pub rows : t.rows ≡ m.rows ++ row ∷ []

pub record MemberStops (m : MemberFacts) (input : Input) (t : MemberFacts) : Type 0 where
  pub halt : Halt
  pub stops : Stops m.replica input halt t.replica
  pub rows : t.rows ≡ m.rows

abbrev pub MemberSteps : MemberFacts → Input → Answer → MemberFacts → Type 0
MemberSteps m input (Ok (Some row)) t = MemberGoes m input row t
MemberSteps m input (Ok None) t = MemberStops m input t
MemberSteps m input (Err faults.NoSuchReplica) t = ⊥
MemberSteps m input (Err faults.NoSuchOutput) t = ⊥
MemberSteps m input (Err faults.Memory) t = Unit {0}

-- what an event gives of a step: the row, none where the replica halted
abbrev pub IsAnswerOf : Result RowFacts Unkept → Answer → Type 0
IsAnswerOf (Ok row) r = r ≡ Ok (Some row)
IsAnswerOf (Err (unkept.Halted halt)) r = r ≡ Ok None
IsAnswerOf (Err unkept.Memory) r = r ≡ Err faults.Memory

-- the index of the correct replica of an id
abbrev pub index_in : List MemberFacts → ℕ → Option ℕ
index_in members id = position (λ m. m.replica.me == id) members

-- Each is under the configuration, and ids ascend from this number on.
abbrev pub AreFrom : Configuration → ℕ → List MemberFacts → Type 0
AreFrom c low [] = Unit {0}
AreFrom c low (m ∷ ms) = (low ≤ m.replica.me) × (m.replica.config ≡ c) × AreFrom c (m.replica.me + 1) ms

abbrev pub AreMembers : Configuration → List MemberFacts → Type 0
AreMembers c members = IsConfiguration c × AreFrom c 0 members
