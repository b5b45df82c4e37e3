-- Internal: what is recorded between the water marks.
use Rattle.std.proofs.Common.{zero, suc, ◌≢◌, ◌⊎◌}
use Rattle.std.specs.Prelude.{◌≡◌, ℕ, ◌+◌, ◌-◌, ◌==◌, ◌&&◌, Bool, false, nat_lt, nat_le, ◌<◌, ◌≤◌, length, cond, List, [], ◌∷◌, ◌++◌, Option, Some, None, MatchBool, MatchOption, true}
use Rattle.std.specs.BTreeMap as tree
use Rattle.seal.specs.Opening.{CheckedMessage}
use Rattle.seal.specs.declared.vote.VoteKind.{VoteKind}
use Rattle.seal.specs.declared.vote.VoteKind.TheVariants.{PrePrepare, Prepare, Commit}
use Rattle.ballots.specs.Ballots.{vote_at}
use Rattle.ballots.specs.Tables.{Key}
use Rattle.quorum_log.specs.declared.view_slots.ViewSlots.{ViewSlots}
use Rattle.quorum_log.specs.declared.slot.Slot.{Slot}
use Rattle.host_types.specs.declared.SeqNo.{SeqNo}
use Rattle.quorum_log.specs.Slots.{empty_slot, is_named, number_here, slot_in}

-- the slot of a view at this index
abbrev pub slots_at : List ViewSlots → ℕ → ℕ → Slot
slots_at [] index view = empty_slot
slots_at (p ∷ numbers) zero view = slot_in p.slots view
slots_at (p ∷ numbers) (suc index) view = slots_at numbers index view

-- a number's index, if it lies between the marks
abbrev pub index_in : ℕ → ℕ → ℕ → Option ℕ
index_in low span number = cond (nat_lt low number && nat_le number (low + span)) (Some (number - low - 1)) None

-- The second has the slots of the first, but for this one of this view at this index.
pub record HasSlotAt (index view : ℕ) (s : Slot) (old new : List ViewSlots) : Type 0 where
  pub here : slots_at new index view ≡ s
  pub elsewhere : (i v : ℕ) → (i ≢ index) ⊎ (v ≢ view) → slots_at new i v ≡ slots_at old i v

abbrev pub HaveSameWindows : List ViewSlots → List ViewSlots → Type 0
HaveSameWindows old new = (i v : ℕ) → slots_at new i v ≡ slots_at old i v

-- The first numbers were cleared, and no other changed.
pub record IsCleared (many : ℕ) (old new : List ViewSlots) : Type 0 where
  pub cleared : (i v : ℕ) → i < many → slots_at new i v ≡ empty_slot
  pub others : (i v : ℕ) → many ≤ i → slots_at new i v ≡ slots_at old i v
  pub as_long : length new ≡ length old

-- ---- PrePrepares of whatever number

-- The answer says whether a PrePrepare names the digest.
abbrev pub IsNamedSomewhere : List ℕ → List ViewSlots → Bool → Type 0
IsNamedSomewhere digest numbers answer =
    MatchBool answer ((i : ℕ) × (v : ℕ) × (is_named digest (slots_at numbers i v) ≡ true)) ((i v : ℕ) → is_named digest (slots_at numbers i v) ≡ false)

-- The slot at an index has this number, and none after it has one.
pub record IsLastAt (view : ℕ) (numbers : List ViewSlots) (number : SeqNo) : Type 0 where
  pub index : ℕ
  pub here : number_here (slots_at numbers index view) ≡ Some number
  pub later : (i : ℕ) → index < i → number_here (slots_at numbers i view) ≡ None

abbrev pub IsLastNumber : ℕ → List ViewSlots → Option SeqNo → Type 0
IsLastNumber view numbers answer = MatchOption answer ((i : ℕ) → number_here (slots_at numbers i view) ≡ None) (IsLastAt view numbers)

-- ---- the tables of a log

-- a vote by its signer: a PrePrepare counts at its own alone
abbrev pub if_by : ℕ → Option CheckedMessage → Option CheckedMessage
if_by signer None = None
if_by signer (Some m) = cond (m.message.id == signer) (Some m) None

abbrev pub vote_by : VoteKind → ℕ → Slot → Option CheckedMessage
vote_by PrePrepare signer s = if_by signer s.pre_prepare
vote_by Prepare signer s = vote_at s.prepares signer
vote_by Commit signer s = vote_at s.commits signer

abbrev pub slot_of : ℕ → List ViewSlots → ℕ → ℕ → Slot
slot_of low numbers number view = cond (nat_lt low number) (slots_at numbers (number - low - 1) view) empty_slot

-- what the slots have at a key
abbrev pub vote_at_key : VoteKind → ℕ → List ViewSlots → Key → Option CheckedMessage
vote_at_key kind low numbers [] = None
vote_at_key kind low numbers (number ∷ []) = None
vote_at_key kind low numbers (number ∷ view ∷ []) = None
vote_at_key kind low numbers (number ∷ view ∷ signer ∷ []) = cond (nat_lt signer 10) (vote_by kind signer (slot_of low numbers number view)) None
vote_at_key kind low numbers (number ∷ view ∷ signer ∷ more ∷ rest) = None

-- the keys at which there can be a vote
abbrev pub keys_by_signer : ℕ → ℕ → ℕ → List Key
keys_by_signer number view zero = []
keys_by_signer number view (suc n) = (number ∷ view ∷ n ∷ []) ∷ keys_by_signer number view n

abbrev pub keys_by_view : ℕ → List ℕ → List Key
keys_by_view number [] = []
keys_by_view number (view ∷ views) = keys_by_signer number view 10 ++ keys_by_view number views

abbrev pub keys_by_number : ℕ → List ViewSlots → List Key
keys_by_number low [] = []
keys_by_number low (p ∷ numbers) = keys_by_view (low + 1) (tree.keys p.slots) ++ keys_by_number (low + 1) numbers
