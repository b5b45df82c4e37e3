-- The slots at an index, after those of a number were written or others put at the end.
use Rattle.std.proofs.Common.{◌≡◌, ◌≢◌, ℕ, zero, suc, ◌+◌, ◌<◌, ◌≤◌, ◌==◌, true, false, cond, List, [], ◌∷◌, ◌++◌, length, get_or, refl, sym, ap, ◌∙◌, arith, ◌⊎◌, inl, inr}
use Rattle.std.specs.Prelude.{take, drop, slice_set, Result, Ok, Err, OnOk, OnErr}
use Rattle.std.proofs.lemmas.Bool.{cases_eq}
use Rattle.std.proofs.lemmas.Bool.Decides.{eqb_tells}
use Rattle.std.proofs.lemmas.List.{length-set}
use Rattle.quorum_log.specs.declared.fault.LogFault.{LogFault}
use Rattle.quorum_log.specs.declared.view_slots.ViewSlots.{ViewSlots}
use Rattle.quorum_log.specs.declared.slot.Slot.{Slot}
use Rattle.quorum_log.specs.Slots.{slot_in, empty_slot, HasSlot, HaveSameSlots}
use Rattle.quorum_log.specs.Windows.{slots_at, HasSlotAt, HaveSameWindows, IsCleared}

at_or : (numbers : List ViewSlots) (i v : ℕ) (r : ViewSlots) → i < length numbers → slot_in (get_or numbers i r).slots v ≡ slots_at numbers i v
at_or [] i v r h = absurd (omega arith)
at_or (p ∷ numbers) zero v r h = refl
at_or (p ∷ numbers) (suc i) v r h = at_or numbers i v r (omega arith)

pub at_index : (numbers : List ViewSlots) (i v : ℕ) (r p : ViewSlots) → i < length numbers → p ≡ get_or numbers i r → slot_in p.slots v ≡ slots_at numbers i v
at_index numbers i v r p h e = ap (λ p. slot_in p.slots v) e ∙ at_or numbers i v r h

pub set_same : (numbers : List ViewSlots) (i v : ℕ) (p : ViewSlots) → i < length numbers → slots_at (slice_set numbers i p) i v ≡ slot_in p.slots v
set_same [] i v p h = absurd (omega arith)
set_same (x ∷ numbers) zero v p h = refl
set_same (x ∷ numbers) (suc i) v p h = set_same numbers i v p (omega arith)

pub set_other : (numbers : List ViewSlots) (i j v : ℕ) (p : ViewSlots) → j ≢ i → slots_at (slice_set numbers i p) j v ≡ slots_at numbers j v
set_other [] i j v p h = refl
set_other (x ∷ numbers) zero zero v p h = absurd (h refl)
set_other (x ∷ numbers) zero (suc j) v p h = refl
set_other (x ∷ numbers) (suc i) zero v p h = refl
set_other (x ∷ numbers) (suc i) (suc j) v p h = set_other numbers i j v p (λ e. h (ap suc e))

slot_here : (view : ℕ) (s : Slot) (old new : ViewSlots) → HasSlot view s old.slots new.slots → slot_in new.slots view ≡ s
slot_here view s old new h = h view ∙ pick (eqb_tells view view) where
  pick : ((view == view) ≡ true) × (view ≡ view) ⊎ ((view == view) ≡ false) × (view ≢ view) → cond (view == view) s (slot_in old.slots view) ≡ s
  pick (inl (e, _)) = ap (λ b. cond b s (slot_in old.slots view)) e
  pick (inr (_, ne)) = absurd (ne refl)

slot_there : (view v : ℕ) (s : Slot) (old new : ViewSlots) → HasSlot view s old.slots new.slots → v ≢ view → slot_in new.slots v ≡ slot_in old.slots v
slot_there view v s old new h ne = h v ∙ pick (eqb_tells v view) where
  pick : ((v == view) ≡ true) × (v ≡ view) ⊎ ((v == view) ≡ false) × (v ≢ view) → cond (v == view) s (slot_in old.slots v) ≡ slot_in old.slots v
  pick (inl (_, e)) = absurd (ne e)
  pick (inr (e, _)) = ap (λ b. cond b s (slot_in old.slots v)) e

-- the slots of a number were written, which differ at one view
pub slot_set : (numbers : List ViewSlots) (i view : ℕ) (s : Slot) (r old new : ViewSlots) → i < length numbers → old ≡ get_or numbers i r → HasSlot view s old.slots new.slots → HasSlotAt i view s numbers (slice_set numbers i new)
slot_set numbers i view s r old new lt e h = record {
  here = set_same numbers i view new lt ∙ slot_here view s old new h;
  elsewhere = λ j v. apart j v (cases_eq j i);
} where
  apart : (j v : ℕ) → (j ≡ i) ⊎ (j ≢ i) → (j ≢ i) ⊎ (v ≢ view) → slots_at (slice_set numbers i new) j v ≡ slots_at numbers j v
  apart j v (inr ne) other = set_other numbers i j v new ne
  apart j v (inl is) (inl ne) = absurd (ne is)
  apart j v (inl is) (inr ne) =
      ap (λ j. slots_at (slice_set numbers i new) j v) is ∙ set_same numbers i v new lt ∙ slot_there view v s old new h ne ∙ at_index numbers i v r old lt e
      ∙ ap (λ j. slots_at numbers j v) (sym is)

pub same_set : (numbers : List ViewSlots) (i : ℕ) (r old new : ViewSlots) → i < length numbers → old ≡ get_or numbers i r → HaveSameSlots old.slots new.slots → HaveSameWindows numbers (slice_set numbers i new)
same_set numbers i r old new lt e h j v = apart (cases_eq j i) where
  apart : (j ≡ i) ⊎ (j ≢ i) → slots_at (slice_set numbers i new) j v ≡ slots_at numbers j v
  apart (inr ne) = set_other numbers i j v new ne
  apart (inl is) = ap (λ j. slots_at (slice_set numbers i new) j v) is ∙ set_same numbers i v new lt ∙ h v ∙ at_index numbers i v r old lt e ∙ ap (λ j. slots_at numbers j v) (sym is)

-- a number without votes at the end
pub empty_put : (numbers : List ViewSlots) (p : ViewSlots) → ((i v : ℕ) → slots_at numbers i v ≡ empty_slot) → ((v : ℕ) → slot_in p.slots v ≡ empty_slot) → (i v : ℕ) → slots_at (numbers ++ p ∷ []) i v ≡ empty_slot
empty_put [] p h e zero v = e v
empty_put [] p h e (suc i) v = refl
empty_put (x ∷ numbers) p h e zero v = h zero v
empty_put (x ∷ numbers) p h e (suc i) v = empty_put numbers p (λ i v. h (suc i) v) e i v

-- what a call on the slots of a number answered, said of the window
pub on_ok : {P Q : Type 0} (r : Result (Unit {0}) LogFault) → (P → Q) → OnOk r P → OnOk r Q
on_ok (Ok x) f h = f h
on_ok (Err e) f h = tt

pub on_err : {P Q : Type 0} (r : Result (Unit {0}) LogFault) → (P → Q) → OnErr r P → OnErr r Q
on_err (Ok x) f h = tt
on_err (Err e) f h = f h

pub put_length : (numbers : List ViewSlots) (p : ViewSlots) → length (numbers ++ p ∷ []) ≡ length numbers + 1
put_length [] p = refl
put_length (x ∷ numbers) p = omega (arith, put_length numbers p)

-- ---- numbers that move to the front, as those of lower numbers go

take_empty : (numbers : List ViewSlots) (gone : ℕ) → ((j v : ℕ) → j < gone → slots_at numbers j v ≡ empty_slot) → (i v : ℕ) → slots_at (take gone numbers) i v ≡ empty_slot
take_empty numbers zero h i v = refl
take_empty [] (suc gone) h i v = refl
take_empty (p ∷ numbers) (suc gone) h zero v = h zero v (omega arith)
take_empty (p ∷ numbers) (suc gone) h (suc i) v = take_empty numbers gone (λ j v lt. h (suc j) v (omega (arith, lt))) i v

then_empty : (numbers qs : List ViewSlots) → ((i v : ℕ) → slots_at qs i v ≡ empty_slot) → (i v : ℕ) → slots_at (numbers ++ qs) i v ≡ slots_at numbers i v
then_empty [] qs h i v = h i v
then_empty (p ∷ numbers) qs h zero v = refl
then_empty (p ∷ numbers) qs h (suc i) v = then_empty numbers qs h i v

dropped : (numbers : List ViewSlots) (gone i v : ℕ) → slots_at (drop gone numbers) i v ≡ slots_at numbers (i + gone) v
dropped numbers zero i v = ap (λ j. slots_at numbers j v) (omega arith)
dropped [] (suc gone) i v = refl
dropped (p ∷ numbers) (suc gone) i v = dropped numbers gone i v ∙ sym (ap (λ j. slots_at (p ∷ numbers) j v) (further i gone)) where
  further : (i gone : ℕ) → i + suc gone ≡ suc (i + gone)
  further i gone = omega arith

pub moved : (numbers : List ViewSlots) (gone : ℕ) → ((j v : ℕ) → j < gone → slots_at numbers j v ≡ empty_slot) → (i v : ℕ) → slots_at (drop gone numbers ++ take gone numbers) i v ≡ slots_at numbers (i + gone) v
moved numbers gone h i v = then_empty (drop gone numbers) (take gone numbers) (take_empty numbers gone h) i v ∙ dropped numbers gone i v

-- beyond the last number
pub beyond : (numbers : List ViewSlots) (i v : ℕ) → length numbers ≤ i → slots_at numbers i v ≡ empty_slot
beyond [] i v le = refl
beyond (p ∷ numbers) zero v le = absurd (omega (arith, le))
beyond (p ∷ numbers) (suc i) v le = beyond numbers i v (omega (arith, le))

pub cleared_none : (numbers : List ViewSlots) → IsCleared 0 numbers numbers
cleared_none numbers = record { cleared = λ i v lt. absurd (omega arith); others = λ i v le. refl; as_long = refl }

pub cleared_next : (many : ℕ) (old numbers : List ViewSlots) (p : ViewSlots) → many < length old → ((v : ℕ) → slot_in p.slots v ≡ empty_slot) → IsCleared many old numbers → IsCleared (many + 1) old (slice_set numbers many p)
cleared_next many old numbers p lt e h = record {
  cleared = λ i v below. first i v below (cases_eq i many);
  others = λ i v le. set_other numbers many i v p (λ is. absurd (omega (arith, is, le))) ∙ h.others i v (omega (arith, le));
  as_long = length-set numbers many p ∙ h.as_long;
} where
  first : (i v : ℕ) → i < many + 1 → (i ≡ many) ⊎ (i ≢ many) → slots_at (slice_set numbers many p) i v ≡ empty_slot
  first i v below (inl is) = ap (λ j. slots_at (slice_set numbers many p) j v) is ∙ set_same numbers many v p (omega (arith, lt, h.as_long)) ∙ e v
  first i v below (inr ne) = set_other numbers many i v p ne ∙ h.cleared i v (omega (arith, below))

-- the slots after so many numbers went
pub moved_up : (old mid new : List ViewSlots) (gone by many : ℕ) → IsCleared gone old mid → new ≡ drop gone mid ++ take gone mid → many ≡ length old → (gone ≡ by) ⊎ ((gone ≡ many) × (gone ≤ by)) → (i v : ℕ) → slots_at new i v ≡ slots_at old (i + by) v
moved_up old mid new gone by many h e all (inl is) i v =
    ap (λ numbers. slots_at numbers i v) e ∙ moved mid gone (λ j v lt. h.cleared j v lt) i v ∙ h.others (i + gone) v (omega arith) ∙ ap (λ n. slots_at old (i + n) v) is
moved_up old mid new gone by many h e all (inr (is, le)) i v =
    ap (λ numbers. slots_at numbers i v) e ∙ moved mid gone (λ j v lt. h.cleared j v lt) i v
    ∙ beyond mid (i + gone) v (omega (arith, is, all, h.as_long)) ∙ sym (beyond old (i + by) v (omega (arith, is, all, le)))
