-- Internal: what is noted of what was done so far.
use Rattle.std.specs.Prelude.{◌≡◌, ℕ, ◌<◌, ◌≤◌, ◌==◌, List, Some, None, Result, Ok, Err, if◌then◌else◌}
use Rattle.std.specs.Option.{option_or}
use Rattle.std.specs.Ordering.{nat_cmp}
use Rattle.std.specs.BTreeMap as tree
use Rattle.replica_journal.specs.Done.{Done}
use Rattle.byz_world.specs.declared.audit_fault.AuditFault.{AuditFault}
use Rattle.byz_world.specs.declared.audit_fault.AuditFault.TheVariants.{Differ, Gap, Unrecorded, Memory}
use Rattle.byz_world.specs.declared.history.Execution.{Execution}
use Rattle.byz_world.specs.declared.noted.Noted.{Noted}
use Rattle.byz_world.specs.Audits.{Agree, AreUpTo, IsHistory, IsMissing, IsReached, executed_at, installed_at}

-- The value is noted at a number, where none was noted before.
pub record IsFirst {V : Type 0} (n : ℕ) (v : V) (old new : tree.BTreeMap ℕ V) : Type 0 where
  pub is : tree.get nat_cmp new n ≡ Some v
  pub others : (k : ℕ) → tree.get nat_cmp new k ≡ option_or (tree.get nat_cmp old k) (if n == k then Some v else None)

-- The fault of noting it: another is noted at the number, or memory ran out.
abbrev pub IsClash : {V : Type 0} → ℕ → V → tree.BTreeMap ℕ V → AuditFault → Type 0
IsClash {V} n v old Differ = (first : V) × (tree.get nat_cmp old n ≡ Some first) × (first ≡ v → ⊥)
IsClash n v old Gap = ⊥
IsClash n v old Unrecorded = ⊥
IsClash n v old Memory = Unit {0}

-- The fault of noting what was done, or these one after another.
abbrev pub IsRefusal : Type 0 → AuditFault → Type 0
IsRefusal differs Differ = differs
IsRefusal differs Gap = ⊥
IsRefusal differs Unrecorded = ⊥
IsRefusal differs Memory = Unit {0}

-- What was done so far agrees, and this is noted of it.
pub record IsNoted (done : List Done) (noted : Noted) : Type 0 where
  pub agree : Agree done
  pub executed : (n : ℕ) → tree.get nat_cmp noted.executed n ≡ executed_at done n
  pub installed : (n : ℕ) → tree.get nat_cmp noted.installed n ≡ installed_at done n
  pub up_to : AreUpTo noted.greatest done
  pub least : (n : ℕ) → 0 < n → n ≤ noted.greatest → IsReached n done

-- What is made of what was noted: the history, unless a number is missing.
abbrev pub IsMadeOf : List Done → Result (List Execution) AuditFault → Type 0
IsMadeOf all (Ok history) = IsHistory all history
IsMadeOf all (Err Differ) = ⊥
IsMadeOf all (Err Gap) = ⊥
IsMadeOf all (Err Unrecorded) = IsMissing all
IsMadeOf all (Err Memory) = Unit {0}
