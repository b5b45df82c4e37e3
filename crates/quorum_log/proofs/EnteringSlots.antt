-- Slots as a view is entered, one after another.
use Rattle.std.proofs.Common.{◌≡◌, ◌≢◌, ℕ, zero, suc, ◌+◌, ◌-◌, ◌<◌, ◌≤◌, ◌^◌, Bool, true, false, cond, List, [], ◌∷◌, ◌++◌, length, get_or, min, Option, None, refl, sym, ap, subst, ◌∙◌, arith, ◌⊎◌, inl, inr}
use Rattle.std.specs.Prelude.{IsSome, nat_lt, slice_get, slice_set}
use Rattle.std.specs.Option.{unwrap_or}
use Rattle.std.specs.Ordering.{nat_cmp}
use Rattle.std.specs.BTreeMap as tree
use Rattle.std.proofs.lemmas.Bool.{cases_Bool, cases_lt, lt-ltb}
use Rattle.std.proofs.lemmas.List.{get_or_append_left, get_or_default, get_or-set_other, length-set}
use Rattle.std.proofs.lemmas.Option.{slice_get_past}
use Rattle.std.proofs.Math.Seq.{get_or-append_seam}
use Rattle.seal.specs.Opening.{CheckedMessage}
use Rattle.quorum_log.specs.declared.view_slots.ViewSlots.{ViewSlots}
use Rattle.quorum_log.specs.Entering.{AreEntered, ArePrepared, AreProper, IsProper, IsReady, entered_slot, given_at, offered_for, open_at}
use Rattle.quorum_log.specs.Slots.{HaveSameSlots, empty_slot, slot_in}
use Rattle.quorum_log.specs.Windows.{HaveSameWindows, slots_at}
use Rattle.quorum_log.proofs.Windows.{same_set, set_other, set_same}

-- ---- the slot at an index

pub slot_open : (numbers : List ViewSlots) (i v : ℕ) → slots_at numbers i v ≡ unwrap_or (open_at numbers i v) empty_slot
slot_open [] i v = refl
slot_open (p ∷ numbers) zero v = refl
slot_open (p ∷ numbers) (suc i) v = slot_open numbers i v

open_or : (numbers : List ViewSlots) (i v : ℕ) (r : ViewSlots) → i < length numbers → tree.get nat_cmp (get_or numbers i r).slots v ≡ open_at numbers i v
open_or [] i v r h = absurd (omega arith)
open_or (p ∷ numbers) zero v r h = refl
open_or (p ∷ numbers) (suc i) v r h = open_or numbers i v r (omega arith)

pub open_index : (numbers : List ViewSlots) (i v : ℕ) (r p : ViewSlots) → i < length numbers → p ≡ get_or numbers i r → tree.get nat_cmp p.slots v ≡ open_at numbers i v
open_index numbers i v r p h e = ap (λ p. tree.get nat_cmp p.slots v) e ∙ open_or numbers i v r h

open_same : (numbers : List ViewSlots) (i v : ℕ) (p : ViewSlots) → i < length numbers → open_at (slice_set numbers i p) i v ≡ tree.get nat_cmp p.slots v
open_same [] i v p h = absurd (omega arith)
open_same (x ∷ numbers) zero v p h = refl
open_same (x ∷ numbers) (suc i) v p h = open_same numbers i v p (omega arith)

open_other : (numbers : List ViewSlots) (i j v : ℕ) (p : ViewSlots) → j ≢ i → open_at (slice_set numbers i p) j v ≡ open_at numbers j v
open_other [] i j v p h = refl
open_other (x ∷ numbers) zero zero v p h = absurd (h refl)
open_other (x ∷ numbers) zero (suc j) v p h = refl
open_other (x ∷ numbers) (suc i) zero v p h = refl
open_other (x ∷ numbers) (suc i) (suc j) v p h = open_other numbers i j v p (λ e. h (ap suc e))

-- ---- what is offered at the greatest number there is

limit : (n : ℕ) → (n ≤ 2 ^ 64 - 1) ⊎ (2 ^ 64 - 1 < n) → (min n (2 ^ 64 - 1) ≡ n) ⊎ ((min n (2 ^ 64 - 1) ≡ 2 ^ 64 - 1) × (2 ^ 64 - 1 < n))
limit n (inl le) = inl (omega (arith, le))
limit n (inr lt) = inr (omega (arith, lt), lt)

either_way : (n m : ℕ) → (n ≤ m) ⊎ (m < n)
either_way n m = turn (cases_lt m n) where
  turn : (m < n) ⊎ (n ≤ m) → (n ≤ m) ⊎ (m < n)
  turn (inl a) = inr a
  turn (inr b) = inl b

pub none_past : (floor n : ℕ) (ms : List CheckedMessage) → floor + length ms < n → offered_for floor ms n ≡ None
none_past floor n ms lt =
    ap (λ b. cond b (slice_get ms (n - floor - 1)) None) (lt-ltb floor n (omega (arith, lt))) ∙ slice_get_past ms (n - floor - 1) (omega (arith, lt))

pub offered_limit : (floor n : ℕ) (ms : List CheckedMessage) → floor + length ms < 2 ^ 48 → offered_for floor ms (min n (2 ^ 64 - 1)) ≡ offered_for floor ms n
offered_limit floor n ms small = pick (limit n (either_way n (2 ^ 64 - 1))) where
  pick : (min n (2 ^ 64 - 1) ≡ n) ⊎ ((min n (2 ^ 64 - 1) ≡ 2 ^ 64 - 1) × (2 ^ 64 - 1 < n)) → offered_for floor ms (min n (2 ^ 64 - 1)) ≡ offered_for floor ms n
  pick (inl e) = ap (offered_for floor ms) e
  pick (inr (e, lt)) = none_past floor (min n (2 ^ 64 - 1)) ms (omega (arith, e, small)) ∙ sym (none_past floor n ms (omega (arith, lt, small)))

pub above_limit : (a n : ℕ) → a < 2 ^ 48 → nat_lt a (min n (2 ^ 64 - 1)) ≡ nat_lt a n
above_limit a n small = pick (limit n (either_way n (2 ^ 64 - 1))) where
  pick : (min n (2 ^ 64 - 1) ≡ n) ⊎ ((min n (2 ^ 64 - 1) ≡ 2 ^ 64 - 1) × (2 ^ 64 - 1 < n)) → nat_lt a (min n (2 ^ 64 - 1)) ≡ nat_lt a n
  pick (inl e) = ap (nat_lt a) e
  pick (inr (e, lt)) = lt-ltb a (min n (2 ^ 64 - 1)) (omega (arith, e, small)) ∙ sym (lt-ltb a n (omega (arith, lt, small)))

-- ---- one number more is prepared

given_before : (given : List (Option CheckedMessage)) (o : Option CheckedMessage) (many i : ℕ) → length given ≡ many → i < many → given_at (given ++ o ∷ []) i ≡ given_at given i
given_before given o many i e lt = get_or_append_left given (o ∷ []) None i (omega (arith, e, lt))

given_last : (given : List (Option CheckedMessage)) (o : Option CheckedMessage) (many : ℕ) → length given ≡ many → given_at (given ++ o ∷ []) many ≡ o
given_last given o many e = ap (given_at (given ++ o ∷ [])) (sym e) ∙ get_or-append_seam given o [] None

one_more : (many i : ℕ) → i < many + 1 → (i < many) ⊎ (i ≡ many)
one_more many i lt = turn (cases_lt i many) where
  turn : (i < many) ⊎ (many ≤ i) → (i < many) ⊎ (i ≡ many)
  turn (inl a) = inl a
  turn (inr b) = inr (omega (arith, lt, b))

longer : (given : List (Option CheckedMessage)) (o : Option CheckedMessage) → length (given ++ o ∷ []) ≡ length given + 1
longer [] o = refl
longer (x ∷ given) o = omega (arith, longer given o)

pub prepared_next : (many low floor view : ℕ) (ms : List CheckedMessage) (given : List (Option CheckedMessage)) (numbers : List ViewSlots) (o : Option CheckedMessage) (p : ViewSlots) → ArePrepared many low floor view ms given numbers → many < length numbers
    → o ≡ offered_for floor ms (low + 1 + many) → IsProper o → IsReady o (tree.get nat_cmp p.slots view) → ArePrepared (many + 1) low floor view ms (given ++ o ∷ []) (slice_set numbers many p)
prepared_next many low floor view ms given numbers o p h lt e proper ready = record {
  as_many = omega (arith, longer given o, h.as_many);
  offered = λ i below. first i (one_more many i below);
  proper = λ i below. second i (one_more many i below);
  ready = λ i below. third i (one_more many i below);
} where
  last : (i : ℕ) → i ≡ many → given_at (given ++ o ∷ []) i ≡ o
  last i is = ap (given_at (given ++ o ∷ [])) is ∙ given_last given o many h.as_many

  first : (i : ℕ) → (i < many) ⊎ (i ≡ many) → given_at (given ++ o ∷ []) i ≡ offered_for floor ms (low + 1 + i)
  first i (inl below) = given_before given o many i h.as_many below ∙ h.offered i below
  first i (inr is) = last i is ∙ e ∙ ap (λ i. offered_for floor ms (low + 1 + i)) (sym is)

  second : (i : ℕ) → (i < many) ⊎ (i ≡ many) → IsProper (given_at (given ++ o ∷ []) i)
  second i (inl below) = subst IsProper (sym (given_before given o many i h.as_many below)) (h.proper i below)
  second i (inr is) = subst IsProper (sym (last i is)) proper

  third : (i : ℕ) → (i < many) ⊎ (i ≡ many) → IsReady (given_at (given ++ o ∷ []) i) (open_at (slice_set numbers many p) i view)
  third i (inl below) =
      subst (λ s. IsReady (given_at (given ++ o ∷ []) i) s) (sym (open_other numbers many i view p (λ is. absurd (omega (arith, is, below)))))
      (subst (λ g. IsReady g (open_at numbers i view)) (sym (given_before given o many i h.as_many below)) (h.ready i below))
  third i (inr is) =
      subst (λ g. IsReady g (open_at (slice_set numbers many p) i view)) (sym (last i is))
      (subst (IsReady o) (sym (ap (λ i. open_at (slice_set numbers many p) i view) is ∙ open_same numbers many view p lt)) ready)

pub prepared_none : (low floor view : ℕ) (ms : List CheckedMessage) (numbers : List ViewSlots) → ArePrepared 0 low floor view ms [] numbers
prepared_none low floor view ms numbers = record {
  as_many = refl;
  offered = λ i lt. absurd (omega (arith, lt));
  proper = λ i lt. absurd (omega (arith, lt));
  ready = λ i lt. absurd (omega (arith, lt));
}

pub same_then : (old numbers : List ViewSlots) (i : ℕ) (r was p : ViewSlots) → HaveSameWindows old numbers → i < length numbers → was ≡ get_or numbers i r → HaveSameSlots was.slots p.slots → HaveSameWindows old (slice_set numbers i p)
same_then old numbers i r was p h lt e same j v = same_set numbers i r was p lt e same j v ∙ h j v

-- ---- one number more is entered

pub entered_none : (low floor view : ℕ) (ms : List CheckedMessage) (numbers : List ViewSlots) → AreEntered 0 low floor view ms numbers numbers
entered_none low floor view ms numbers = record { as_long = refl; slots = λ i v lt. absurd (omega (arith, lt)); others = λ i v le. refl }

pub entered_next : (many low floor view : ℕ) (ms : List CheckedMessage) (old numbers : List ViewSlots) (r was p : ViewSlots) (above top : Bool) (given : Option CheckedMessage) → AreEntered many low floor view ms old numbers → many < length old
    → was ≡ get_or numbers many r → ((v : ℕ) → slot_in p.slots v ≡ entered_slot view above top given v (slot_in was.slots v))
    → above ≡ nat_lt floor (low + 1 + many) → top ≡ nat_lt (floor + length ms) (low + 1 + many) → given ≡ offered_for floor ms (low + 1 + many)
    → AreEntered (many + 1) low floor view ms old (slice_set numbers many p)
entered_next many low floor view ms old numbers r was p above top given h lt e entered a t g = record {
  as_long = length-set numbers many p ∙ h.as_long;
  slots = λ i v below. slot i v (one_more many i below);
  others = λ i v le. open_other numbers many i v p (λ is. absurd (omega (arith, is, le))) ∙ h.others i v (omega (arith, le));
} where
  within : many < length numbers
  within = omega (arith, lt, h.as_long)

  before : (v : ℕ) → slot_in was.slots v ≡ slots_at old many v
  before v =
      ap (λ o. unwrap_or o empty_slot) (open_index numbers many v r was within e ∙ h.others many v (omega arith)) ∙ sym (slot_open old many v)

  slot : (i v : ℕ) → (i < many) ⊎ (i ≡ many)
      → slots_at (slice_set numbers many p) i v ≡ entered_slot view (nat_lt floor (low + 1 + i)) (nat_lt (floor + length ms) (low + 1 + i)) (offered_for floor ms (low + 1 + i)) v (slots_at old i v)
  slot i v (inl below) = set_other numbers many i v p (λ is. absurd (omega (arith, is, below))) ∙ h.slots i v below
  slot i v (inr is) =
      ap (λ i. slots_at (slice_set numbers many p) i v) is ∙ set_same numbers many v p within ∙ entered v ∙ ap (entered_slot view above top given v) (before v)
      ∙ ap (λ b. entered_slot view b top given v (slots_at old many v)) a
      ∙ ap (λ b. entered_slot view (nat_lt floor (low + 1 + many)) b given v (slots_at old many v)) t
      ∙ ap (λ o. entered_slot view (nat_lt floor (low + 1 + many)) (nat_lt (floor + length ms) (low + 1 + many)) o v (slots_at old many v)) g
      ∙ ap (λ i. entered_slot view (nat_lt floor (low + 1 + i)) (nat_lt (floor + length ms) (low + 1 + i)) (offered_for floor ms (low + 1 + i)) v (slots_at old i v)) (sym is)

-- what is given is for a number above the floor
pub given_above : (floor n : ℕ) (ms : List CheckedMessage) (o : Option CheckedMessage) → o ≡ offered_for floor ms n → IsSome o → nat_lt floor n ≡ true
given_above floor n ms o e h = pick (cases_Bool (nat_lt floor n)) where
  pick : (nat_lt floor n ≡ true) ⊎ (nat_lt floor n ≡ false) → nat_lt floor n ≡ true
  pick (inl t) = t
  pick (inr f) = absurd (no (subst IsSome (e ∙ ap (λ b. cond b (slice_get ms (n - floor - 1)) None) f) h)) where
    no : false ≡ true → ⊥
    no e = absurd cc

-- what is left to give, after one was
pub left_given : (given : List (Option CheckedMessage)) (i j : ℕ) (o : Option CheckedMessage) → i + 1 ≤ j → given_at (slice_set given i o) j ≡ given_at given j
left_given given i j o le = get_or-set_other given i j o None (λ is. absurd (omega (arith, is, le)))

-- ---- the steps of the loops

own_is : (many low floor view : ℕ) (ms : List CheckedMessage) (given left : List (Option CheckedMessage)) (old : List ViewSlots) (o s : Option CheckedMessage) → ArePrepared (length old) low floor view ms given old → many < length old
    → o ≡ get_or left many s → length left ≡ length given → ((i : ℕ) → many ≤ i → given_at left i ≡ given_at given i) → o ≡ given_at given many
own_is many low floor view ms given left old o s h lt e long same =
    e ∙ get_or_default left many s None (omega (arith, lt, long, h.as_many)) ∙ same many (omega arith)

pub ready_at : (many low floor view : ℕ) (ms : List CheckedMessage) (given left : List (Option CheckedMessage)) (old numbers : List ViewSlots) (r p : ViewSlots) (o s : Option CheckedMessage) → ArePrepared (length old) low floor view ms given old → AreEntered many low floor view ms old numbers → many < length old
    → o ≡ get_or left many s → length left ≡ length given → ((i : ℕ) → many ≤ i → given_at left i ≡ given_at given i) → p ≡ get_or numbers many r → IsReady o (tree.get nat_cmp p.slots view)
ready_at many low floor view ms given left old numbers r p o s h g lt e long same is =
    subst (λ q. IsReady q (tree.get nat_cmp p.slots view)) (sym (own_is many low floor view ms given left old o s h lt e long same))
    (subst (IsReady (given_at given many)) (sym (open_index numbers many view r p (omega (arith, lt, g.as_long)) is ∙ g.others many view (omega arith))) (h.ready many lt))

pub offered_own : (many low floor view : ℕ) (ms : List CheckedMessage) (given left : List (Option CheckedMessage)) (old : List ViewSlots) (o s : Option CheckedMessage) → ArePrepared (length old) low floor view ms given old → many < length old
    → o ≡ get_or left many s → length left ≡ length given → ((i : ℕ) → many ≤ i → given_at left i ≡ given_at given i) → o ≡ offered_for floor ms (low + 1 + many)
offered_own many low floor view ms given left old o s h lt e long same =
    own_is many low floor view ms given left old o s h lt e long same ∙ h.offered many lt

pub all_proper : (low floor view : ℕ) (ms : List CheckedMessage) (given : List (Option CheckedMessage)) (numbers : List ViewSlots) → ArePrepared (length numbers) low floor view ms given numbers → AreProper (length numbers) low floor ms
all_proper low floor view ms given numbers h i lt = subst IsProper (h.offered i lt) (h.proper i lt)

pub length_left : (given : List (Option CheckedMessage)) (i : ℕ) (o : Option CheckedMessage) → length (slice_set given i o) ≡ length given
length_left given i o = length-set given i o
