-- PrePrepares of whatever view and number, as the slots have them.
use Rattle.std.proofs.Common.{◌≡◌, ℕ, zero, suc, ◌+◌, ◌<◌, ◌≤◌, Bool, true, false, cond, ◌||◌, List, [], ◌∷◌, length, get_or, Option, Some, None, refl, sym, ap, ◌∙◌, arith, inl, inr}
use Rattle.std.specs.List.{All, list_any}
use Rattle.std.specs.Ordering.{nat_cmp}
use Rattle.std.specs.BTreeMap as tree
use Rattle.std.proofs.lemmas.Cmp.{nat_cmp_total}
use Rattle.std.specs.Map.{lookup, values_of}
use Rattle.std.specs.Option.{unwrap_or}
use Rattle.std.proofs.lemmas.Bool.{cases_Bool, cases_lt}
use Rattle.std.proofs.lemmas.Map.Views.{All-found}
use Rattle.host_types.specs.declared.SeqNo.{SeqNo}
use Rattle.quorum_log.specs.declared.view_slots.ViewSlots.{ViewSlots}
use Rattle.quorum_log.specs.declared.slot.Slot.{Slot}
use Rattle.quorum_log.specs.Slots.{empty_slot, is_named, number_here, slot_in}
use Rattle.quorum_log.specs.Windows.{slots_at}
use Rattle.quorum_log.proofs.Covering.{left_false, right_false}
use Rattle.quorum_log.proofs.Windows.{at_index, beyond}

-- the slot of some view passes, where a value of a map in order does
any_entry : (test : Slot → Bool) (m : tree.BTreeMap ℕ Slot) (es : List (ℕ × Slot)) → All (λ e. tree.get nat_cmp m e.0 ≡ Some e.1) es → list_any test (values_of es) ≡ true → (v : ℕ) × (test (slot_in m v) ≡ true)
any_entry test m [] h e = absurd cc
any_entry test m (x ∷ es) h e = elim (cases_Bool (test x.1)) [
  | inl t ↦ (x.0, ap (λ o. test (unwrap_or o empty_slot)) (h zero x (omega arith)) ∙ t)
  | inr f ↦ any_entry test m es (λ k d lt. h (suc k) d (omega (arith, lt))) (sym (ap (λ b. b || list_any test (values_of es)) f) ∙ e)
]

-- no slot passes, where no value of the map does, nor the empty slot
no_entry : (test : Slot → Bool) (v : ℕ) (es : List (ℕ × Slot)) → test empty_slot ≡ false → list_any test (values_of es) ≡ false → test (unwrap_or (lookup (tree.is_at (nat_cmp v)) es) empty_slot) ≡ false
no_entry test v [] h e = h
no_entry test v (x ∷ es) h e =
    elim (tree.is_at (nat_cmp v) x.0) as (λ b. test (unwrap_or (cond b (Some x.1) (lookup (tree.is_at (nat_cmp v)) es)) empty_slot) ≡ false) [
      | true ↦ left_false (test x.1) (list_any test (values_of es)) e
      | false ↦ no_entry test v es h (right_false (test x.1) (list_any test (values_of es)) e)
    ]

-- what the slots of a number answered, said of those at its index
pub named_there : (digest : List ℕ) (numbers : List ViewSlots) (i : ℕ) (p r : ViewSlots) (answer : Bool) → i < length numbers → p ≡ get_or numbers i r → tree.IsOrdered nat_cmp p.slots → answer ≡ list_any (is_named digest) (tree.values p.slots) → answer ≡ true
    → (i : ℕ) × (v : ℕ) × (is_named digest (slots_at numbers i v) ≡ true)
named_there digest numbers i p r answer lt is ordered answers t =
    let w = any_entry (is_named digest) p.slots p.slots.entries (All-found nat_cmp_total p.slots ordered) (sym answers ∙ t) in
    (i, w.0, ap (is_named digest) (sym (at_index numbers i w.0 r p lt is)) ∙ w.1)

pub not_named_there : (digest : List ℕ) (numbers : List ViewSlots) (i : ℕ) (p r : ViewSlots) (answer : Bool) → i < length numbers → p ≡ get_or numbers i r → answer ≡ list_any (is_named digest) (tree.values p.slots) → answer ≡ false
    → (v : ℕ) → is_named digest (slots_at numbers i v) ≡ false
not_named_there digest numbers i p r answer lt is answers f v =
    ap (is_named digest) (sym (at_index numbers i v r p lt is)) ∙ no_entry (is_named digest) v p.slots.entries refl (sym answers ∙ f)

pub named_nowhere : (digest : List ℕ) (numbers : List ViewSlots) (n : ℕ) → length numbers ≤ n → ((i v : ℕ) → i < n → is_named digest (slots_at numbers i v) ≡ false) → (i v : ℕ) → is_named digest (slots_at numbers i v) ≡ false
named_nowhere digest numbers n le h i v = elim (cases_lt i n) [ inl lt ↦ h i v lt | inr ge ↦ ap (is_named digest) (beyond numbers i v (omega (arith, ge, le))) ]

pub named_not_below : (digest : List ℕ) (numbers : List ViewSlots) (n : ℕ) → ((i v : ℕ) → i < n → is_named digest (slots_at numbers i v) ≡ false) → ((v : ℕ) → is_named digest (slots_at numbers n v) ≡ false)
    → (i v : ℕ) → i < n + 1 → is_named digest (slots_at numbers i v) ≡ false
named_not_below digest numbers n h here i v lt =
    elim (cases_lt i n) [ inl below ↦ h i v below | inr ge ↦ let is : i ≡ n = omega (arith, ge, lt) in ap (λ i. is_named digest (slots_at numbers i v)) is ∙ here v ]

-- the numbers of the slots of a view
pub no_number_beyond : (view : ℕ) (numbers : List ViewSlots) (i : ℕ) → length numbers ≤ i → number_here (slots_at numbers i view) ≡ None
no_number_beyond view numbers i le = ap number_here (beyond numbers i view le)

pub number_there : (view : ℕ) (numbers : List ViewSlots) (i : ℕ) (p r : ViewSlots) (answer : Option SeqNo) → i < length numbers → p ≡ get_or numbers i r → answer ≡ number_here (slot_in p.slots view) → number_here (slots_at numbers i view) ≡ answer
number_there view numbers i p r answer lt is answers = ap number_here (sym (at_index numbers i view r p lt is)) ∙ sym answers

pub no_number_from : (view : ℕ) (numbers : List ViewSlots) (n : ℕ) → ((i : ℕ) → n + 1 ≤ i → number_here (slots_at numbers i view) ≡ None) → number_here (slots_at numbers n view) ≡ None
    → (i : ℕ) → n ≤ i → number_here (slots_at numbers i view) ≡ None
no_number_from view numbers n h here i le =
    elim (cases_lt n i) [ inl above ↦ h i (omega (arith, above)) | inr ge ↦ let is : i ≡ n = omega (arith, ge, le) in ap (λ i. number_here (slots_at numbers i view)) is ∙ here ]
