-- Statement: what replicas say that they did, one thing after another: what differs from what was said before, and which execution leaves
-- a number out.
use Rattle.std.specs.Prelude.{◌≡◌, ◌≢◌, ◌<◌, ◌+◌, ◌==◌, ◌||◌, ℕ, Bool, ◌++◌, List, [], ◌∷◌, Option, Some, None, is_some, is_none, slice_get}
use Rattle.driver_notes.specs.declared.ledger.Deed.{Deed}
use Rattle.driver_notes.specs.declared.ledger.Remark.{Remark}

-- What a contract sees of a ledger: the deeds that were noted, in order, and the last number of the replica whose deeds come now.
pub record LedgerFacts : Type 0 where
  pub deeds : List Deed
  pub last : ℕ

abbrev pub none_noted : LedgerFacts
none_noted = record { deeds = []; last = 0 }

-- A replica's deeds follow whose last number was this.
abbrev pub begun : LedgerFacts → ℕ → LedgerFacts
begun l last = record l { last = last }

-- ---- whether deeds agree

-- Both are executions or both installations, at one number, and they aren't the same.
abbrev pub Differ : Deed → Deed → Type 0
Differ a b = (is_some a.result ≡ is_some b.result) × (a.number ≡ b.number) × (a ≢ b)

-- The deed at this place differs from this one.
pub record DiffersAt (deeds : List Deed) (deed : Deed) (place : ℕ) : Type 0 where
  pub other : Deed
  pub there : slice_get deeds place ≡ Some other
  pub differ : Differ other deed

-- The first place of a deed that differs from this one, or that there is none.
abbrev pub IsFirst : List Deed → Deed → Option ℕ → Type 0
IsFirst deeds deed None = (i : ℕ) → DiffersAt deeds deed i → ⊥
IsFirst deeds deed (Some place) = DiffersAt deeds deed place × ((i : ℕ) → i < place → DiffersAt deeds deed i → ⊥)

-- ---- whether executions rise by one

-- A replica executes the number behind its last one; it may install a state at any.
abbrev pub follows : ℕ → Deed → Bool
follows last deed = is_none deed.result || (deed.number.0 == last + 1)

-- ---- a deed is noted

-- What is remarked of it.
abbrev pub Remarks : LedgerFacts → Deed → Remark → Type 0
Remarks l deed remark = IsFirst l.deeds deed remark.first × (remark.follows ≡ follows l.last deed)

-- It stands behind the others, and its number is the last.
abbrev pub recorded : LedgerFacts → Deed → LedgerFacts
recorded l deed = record { deeds = l.deeds ++ deed ∷ []; last = deed.number.0 }
