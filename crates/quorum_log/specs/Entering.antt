-- Internal: the slots as a view is entered.
use Rattle.std.specs.Prelude.{◌≡◌, zero, suc, ℕ, ◌+◌, ◌-◌, ◌<◌, ◌≤◌, ◌==◌, Bool, cond, nat_lt, List, [], ◌∷◌, Option, Some, None, IsSome, length, slice_get, slice_index_or}
use Rattle.std.specs.Ordering.{nat_cmp}
use Rattle.std.specs.BTreeMap as tree
use Rattle.seal.specs.Opening.{CheckedMessage}
use Rattle.seal.specs.Votes.{IsVoteOf, vote_of}
use Rattle.seal.specs.declared.vote.Vote.{Vote}
use Rattle.quorum_log.specs.declared.view_slots.ViewSlots.{ViewSlots}
use Rattle.quorum_log.specs.declared.slot.Slot.{Slot}
use Rattle.quorum_log.specs.Slots.{empty_slot}
use Rattle.quorum_log.specs.Windows.{slots_at}

-- what holds of a checked message's vote holds of this one's
abbrev pub IsProper : Option CheckedMessage → Type 0
IsProper None = Unit {0}
IsProper (Some m) = (v : Vote) → vote_of m.message ≡ Some v → IsVoteOf m v

-- where there is a message for it, the slot was opened
abbrev pub IsReady : Option CheckedMessage → Option Slot → Type 0
IsReady None slot = Unit {0}
IsReady (Some m) slot = IsSome slot

-- the message for a number, of those for the numbers above the floor one after another
abbrev pub offered_for : ℕ → List CheckedMessage → ℕ → Option CheckedMessage
offered_for floor ms number = cond (nat_lt floor number) (slice_get ms (number - floor - 1)) None

-- what a slot is as a view is entered
abbrev pub entered_slot : ℕ → Bool → Bool → Option CheckedMessage → ℕ → Slot → Slot
entered_slot view above_floor above_top given v s =
    cond (nat_lt view v) s
    (cond (v == view) (cond above_floor (cond above_top s (record s { pre_prepare = given })) empty_slot) empty_slot)

-- the slot of a view at an index, if it was opened
abbrev pub open_at : List ViewSlots → ℕ → ℕ → Option Slot
open_at [] index view = None
open_at (p ∷ numbers) zero view = tree.get nat_cmp p.slots view
open_at (p ∷ numbers) (suc index) view = open_at numbers index view

abbrev pub given_at : List (Option CheckedMessage) → ℕ → Option CheckedMessage
given_at given index = slice_index_or given index None

-- at the index of each of the first numbers the message that it is to have, and its slot is open
pub record ArePrepared (many low floor view : ℕ) (ms : List CheckedMessage) (given : List (Option CheckedMessage)) (numbers : List ViewSlots) : Type 0 where
  pub as_many : length given ≡ many
  pub offered : (i : ℕ) → i < many → given_at given i ≡ offered_for floor ms (low + 1 + i)
  pub proper : (i : ℕ) → i < many → IsProper (given_at given i)
  pub ready : (i : ℕ) → i < many → IsReady (given_at given i) (open_at numbers i view)

-- each slot of the first numbers is what it is as the view is entered, and the others are as they were
pub record AreEntered (many low floor view : ℕ) (ms : List CheckedMessage) (old new : List ViewSlots) : Type 0 where
  pub as_long : length new ≡ length old
  pub slots : (i v : ℕ) → i < many
      → slots_at new i v ≡ entered_slot view (nat_lt floor (low + 1 + i)) (nat_lt (floor + length ms) (low + 1 + i)) (offered_for floor ms (low + 1 + i)) v (slots_at old i v)
  pub others : (i v : ℕ) → many ≤ i → open_at new i v ≡ open_at old i v

-- what is offered for so many numbers is proper
abbrev pub AreProper : ℕ → ℕ → ℕ → List CheckedMessage → Type 0
AreProper many low floor ms = (i : ℕ) → i < many → IsProper (offered_for floor ms (low + 1 + i))
