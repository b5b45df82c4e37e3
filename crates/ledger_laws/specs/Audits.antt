-- Statement: what an audit asks of the deeds of several replicas, in the words in which an audit of a world asks it of records
-- (byz_world/specs/Audits.antt), and what ledgers remark of them.
use Rattle.std.specs.Prelude.{◌≡◌, ◌==◌, ℕ, Bool, ◌&&◌, List, [], ◌∷◌, find, flat_map, Option, Some, None, is_some, is_none, if◌then◌else◌}
use Rattle.std.specs.List.{AllByRecursion, list_all}
use Rattle.driver_notes.specs.Accounts.{LedgerFacts, Remarks, begun, follows, recorded}
use Rattle.driver_notes.specs.declared.ledger.Deed.{Deed}
use Rattle.driver_notes.specs.declared.ledger.Remark.{Remark}

-- What replicas did, each its deeds in their order.
abbrev pub all_deeds : List (List Deed) → List Deed
all_deeds records = flat_map (λ deeds. deeds) records

-- ---- whether deeds agree

-- the first that was executed at a number, and the first that was installed there
abbrev pub executed_at : List Deed → ℕ → Option Deed
executed_at all n = find (λ deed. is_some deed.result && (deed.number.0 == n)) all

abbrev pub installed_at : List Deed → ℕ → Option Deed
installed_at all n = find (λ deed. is_none deed.result && (deed.number.0 == n)) all

-- It says what the first says of its number, in its kind.
abbrev pub SaysTheSame : List Deed → Deed → Type 0
SaysTheSame all deed = (if is_some deed.result then executed_at all deed.number.0 else installed_at all deed.number.0) ≡ Some deed

-- Where two speak of one number, in one kind, they say the same.
abbrev pub Agree : List Deed → Type 0
Agree all = AllByRecursion (SaysTheSame all) all

-- ---- whether executions rise by one

-- The last number after these, from this one on: none where an execution is not at the next number.
abbrev pub reached : ℕ → List Deed → Option ℕ
reached last [] = Some last
reached last (x ∷ xs) = if follows last x then reached x.number.0 xs else None

abbrev pub all_rise : List (List Deed) → Bool
all_rise records = list_all (λ deeds. is_some (reached 0 deeds)) records

-- ---- what ledgers remark

-- There is a ledger for each window of numbers, so that each stays short. The one of a deed's number is told the replica's last number, and
-- notes the deed.
abbrev pub noted : (ℕ → ℕ) → (ℕ → LedgerFacts) → ℕ → Deed → ℕ → LedgerFacts
noted window ledgers last deed n = if n == window deed.number.0 then recorded (begun (ledgers n) last) deed else ledgers n

-- A replica's deeds, one after another, behind its last number.
abbrev pub all_noted : (ℕ → ℕ) → (ℕ → LedgerFacts) → ℕ → List Deed → ℕ → LedgerFacts
all_noted window ledgers last [] = ledgers
all_noted window ledgers last (x ∷ xs) = all_noted window (noted window ledgers last x) x.number.0 xs

-- What is remarked of each.
abbrev pub AreRemarks : (ℕ → ℕ) → (ℕ → LedgerFacts) → ℕ → List Deed → List Remark → Type 0
AreRemarks window ledgers last [] remarks = remarks ≡ []
AreRemarks window ledgers last (x ∷ xs) [] = ⊥
AreRemarks window ledgers last (x ∷ xs) (r ∷ remarks) =
    Remarks (begun (ledgers (window x.number.0)) last) x r × AreRemarks window (noted window ledgers last x) x.number.0 xs remarks

-- Of one replica's deeds after another's, each from its first number on.
abbrev pub AreAllRemarks : (ℕ → ℕ) → (ℕ → LedgerFacts) → List (List Deed) → List (List Remark) → Type 0
AreAllRemarks window ledgers [] remarks = remarks ≡ []
AreAllRemarks window ledgers (xs ∷ records) [] = ⊥
AreAllRemarks window ledgers (xs ∷ records) (rs ∷ remarks) =
    AreRemarks window ledgers 0 xs rs × AreAllRemarks window (all_noted window ledgers 0 xs) records remarks

-- None differs from one before it; all follow.
abbrev pub none_differs : List (List Remark) → Bool
none_differs remarks = list_all (list_all (λ r. is_none r.first)) remarks

abbrev pub all_follow : List (List Remark) → Bool
all_follow remarks = list_all (list_all (λ r. r.follows)) remarks
