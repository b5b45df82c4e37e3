-- What ledgers remark of deeds, and what an audit asks of them.
use Rattle.std.proofs.Common.{◌≡◌, ℕ, zero, suc, ◌⊎◌, inl, inr, Bool, true, false, cond, ◌&&◌, eqb, List, [], ◌∷◌, ◌++◌, find, filter, Option, Some, None, refl, sym, ap, subst, ◌∙◌, eq-eqb, append_assoc, append-nil}
use Rattle.std.specs.Prelude.{is_some, is_none, slice_get}
use Rattle.std.specs.List.{AllByRecursion, list_all}
use Rattle.std.specs.Option.{option_or}
use Rattle.std.proofs.lemmas.Bool.{true≢false, false≢true, eqb-true}
use Rattle.std.proofs.lemmas.List.Elements.{filter-append}
use Rattle.std.proofs.lemmas.List.Folds.{find-append}
use Rattle.std.proofs.lemmas.Option.{same_Some}
use Rattle.host_types.specs.declared.SeqNo.{SeqNo}
use Rattle.pbft_model.specs.Histories.{IsIn}
use Rattle.driver_notes.specs.Accounts.{Differ, DiffersAt, IsFirst, LedgerFacts, Remarks, begun, follows, none_noted, recorded}
use Rattle.ledger_laws.specs.Audits.{Agree, AreAllRemarks, AreRemarks, SaysTheSame, all_deeds, all_follow, all_noted, all_rise, executed_at, installed_at, none_differs, noted, reached}
use Rattle.driver_notes.specs.declared.ledger.Deed.{Deed}
use Rattle.driver_notes.specs.declared.ledger.Remark.{Remark}

-- ---- lists

all_among : {X : Type 0} (P : X → Type 0) (x : X) (xs : List X) → AllByRecursion P xs → IsIn x xs → P x
all_among P x [] all at = absurd at
all_among P x (y ∷ ys) all (inl here) = subst P (sym here) all.0
all_among P x (y ∷ ys) all (inr later) = all_among P x ys all.1 later

all_follows : {X : Type 0} (P Q : X → Type 0) (xs : List X) → ((x : X) → P x → Q x) → AllByRecursion P xs → AllByRecursion Q xs
all_follows P Q [] each all = tt
all_follows P Q (x ∷ xs) each all = (each x all.0, all_follows P Q xs each all.1)

all_append : {X : Type 0} (P : X → Type 0) (xs ys : List X) → AllByRecursion P xs → AllByRecursion P ys → AllByRecursion P (xs ++ ys)
all_append P [] ys first last = last
all_append P (x ∷ xs) ys first last = (first.0, all_append P xs ys first.1 last)

all_first : {X : Type 0} (P : X → Type 0) (xs ys : List X) → AllByRecursion P (xs ++ ys) → AllByRecursion P xs
all_first P [] ys all = tt
all_first P (x ∷ xs) ys all = (all.0, all_first P xs ys all.1)

all_last : {X : Type 0} (P : X → Type 0) (xs ys : List X) → AllByRecursion P (xs ++ ys) → AllByRecursion P ys
all_last P [] ys all = all
all_last P (x ∷ xs) ys all = all_last P xs ys all.1

pub found : {X : Type 0} (p : X → Bool) (xs : List X) (y : X) → find p xs ≡ Some y → (p y ≡ true) × IsIn y xs
found p [] y is = absurd (false≢true (ap is_some is))
found {X} p (x ∷ xs) y is = either (p x) refl is (λ e. found p xs y e) where
  either : (b : Bool) → p x ≡ b → cond b (Some x) (find p xs) ≡ Some y → (find p xs ≡ Some y → (p y ≡ true) × IsIn y xs) → (p y ≡ true) × ((y ≡ x) ⊎ IsIn y xs)
  either true holds e later = let same : x ≡ y = same_Some x y e in (subst (λ (z : X). p z ≡ true) same holds, inl (sym same))
  either false fails e later = let w = later e in (w.0, inr w.1)

filtered : {X : Type 0} (p : X → Bool) (xs : List X) (y : X) → IsIn y xs → p y ≡ true → IsIn y (filter p xs)
filtered p [] y at holds = absurd at
filtered {X} p (x ∷ xs) y at holds = either (p x) refl at (λ e. filtered p xs y e holds) where
  either : (b : Bool) → p x ≡ b → (y ≡ x) ⊎ IsIn y xs → (IsIn y xs → IsIn y (filter p xs)) → IsIn y (cond b (x ∷ filter p xs) (filter p xs))
  either true is (inl here) more = inl here
  either true is (inr later) more = inr (more later)
  either false is (inl here) more = absurd (true≢false (sym holds ∙ ap p here ∙ is))
  either false is (inr later) more = more later

unfiltered : {X : Type 0} (p : X → Bool) (xs : List X) (y : X) → IsIn y (filter p xs) → IsIn y xs
unfiltered p [] y at = absurd at
unfiltered {X} p (x ∷ xs) y at = either (p x) at (λ e. unfiltered p xs y e) where
  either : (b : Bool) → IsIn y (cond b (x ∷ filter p xs) (filter p xs)) → (IsIn y (filter p xs) → IsIn y xs) → (y ≡ x) ⊎ IsIn y xs
  either true (inl here) less = inl here
  either true (inr later) less = inr (less later)
  either false at less = inr (less at)

place_of : {X : Type 0} (xs : List X) (y : X) → IsIn y xs → (i : ℕ) × (slice_get xs i ≡ Some y)
place_of [] y at = absurd at
place_of (x ∷ xs) y (inl here) = (zero, ap Some (sym here))
place_of (x ∷ xs) y (inr later) = let w = place_of xs y later in (suc w.0, w.1)

among_at : {X : Type 0} (xs : List X) (i : ℕ) (y : X) → slice_get xs i ≡ Some y → IsIn y xs
among_at [] i y is = absurd (false≢true (ap is_some is))
among_at (x ∷ xs) zero y is = inl (sym (same_Some x y is))
among_at (x ∷ xs) (suc i) y is = inr (among_at xs i y is)

-- ---- deeds are the same or not

head_or : ℕ → List ℕ → ℕ
head_or d [] = d
head_or d (x ∷ xs) = x

tail_of : List ℕ → List ℕ
tail_of [] = []
tail_of (x ∷ xs) = xs

is_empty : List ℕ → Bool
is_empty [] = true
is_empty (x ∷ xs) = false

same_numbers : (x y : ℕ) → (x ≡ y) ⊎ (x ≡ y → ⊥)
same_numbers x y = either (eqb x y) refl where
  either : (b : Bool) → eqb x y ≡ b → (x ≡ y) ⊎ (x ≡ y → ⊥)
  either true is = inl (eqb-true x y is)
  either false is = inr (λ same. true≢false (sym (eq-eqb x y same) ∙ is))

same_lists : (xs ys : List ℕ) → (xs ≡ ys) ⊎ (xs ≡ ys → ⊥)
unfolding head_or tail_of is_empty
same_lists [] [] = inl refl
same_lists [] (y ∷ ys) = inr (λ e. true≢false (ap is_empty e))
same_lists (x ∷ xs) [] = inr (λ e. false≢true (ap is_empty e))
same_lists (x ∷ xs) (y ∷ ys) = either (same_numbers x y) (same_lists xs ys) where
  either : (x ≡ y) ⊎ (x ≡ y → ⊥) → (xs ≡ ys) ⊎ (xs ≡ ys → ⊥) → (x ∷ xs ≡ y ∷ ys) ⊎ (x ∷ xs ≡ y ∷ ys → ⊥)
  either (inl a) (inl b) = inl (λ k. a k ∷ b k)
  either (inl a) (inr b) = inr (λ e. b (ap tail_of e))
  either (inr a) b = inr (λ e. a (ap (head_or 0) e))

same_results : (a b : Option (List ℕ)) → (a ≡ b) ⊎ (a ≡ b → ⊥)
same_results None None = inl refl
same_results None (Some y) = inr (λ e. false≢true (ap is_some e))
same_results (Some x) None = inr (λ e. true≢false (ap is_some e))
same_results (Some x) (Some y) = elim (same_lists x y) [ inl e ↦ inl (ap Some e) | inr other ↦ inr (λ e. other (same_Some x y e)) ]

-- two of one kind and one number that don't differ
same_deeds : (a b : Deed) → is_some a.result ≡ is_some b.result → a.number ≡ b.number → (Differ a b → ⊥) → a ≡ b
same_deeds a b kind number same = either (same_lists a.digest.0 b.digest.0) (same_results a.result b.result) where
  either : (a.digest.0 ≡ b.digest.0) ⊎ (a.digest.0 ≡ b.digest.0 → ⊥) → (a.result ≡ b.result) ⊎ (a.result ≡ b.result → ⊥) → a ≡ b
  either (inl d) (inl r) = λ k. record { number = number k; digest = record { 0 = d k }; result = r k }
  either (inl d) (inr r) = absurd (same (kind, number, λ e. r (ap (λ (x : Deed). x.result) e)))
  either (inr d) r = absurd (same (kind, number, λ e. d (ap (λ (x : Deed). x.digest.0) e)))

-- ---- the first of a kind and a number

kind : Bool → Option (List ℕ) → Bool
kind true o = is_some o
kind false o = is_none o

kind_self : (o : Option (List ℕ)) → kind (is_some o) o ≡ true
unfolding kind
kind_self None = refl
kind_self (Some x) = refl

kind_is : (b : Bool) (o : Option (List ℕ)) → kind b o ≡ true → is_some o ≡ b
unfolding kind
kind_is true None is = is
kind_is true (Some x) is = refl
kind_is false None is = refl
kind_is false (Some x) is = sym is

pub speaks : Bool → ℕ → Deed → Bool
speaks b n x = kind b x.result && eqb x.number.0 n

both : (a b : Bool) → (a && b) ≡ true → (a ≡ true) × (b ≡ true)
both true b is = (refl, is)
both false b is = absurd (false≢true is)

pub speaks_self : (x : Deed) → speaks (is_some x.result) x.number.0 x ≡ true
unfolding speaks
speaks_self x = ap (λ (b : Bool). b && eqb x.number.0 x.number.0) (kind_self x.result) ∙ eq-eqb x.number.0 x.number.0 refl

pub speaks_is : (b : Bool) (n : ℕ) (x : Deed) → speaks b n x ≡ true → (is_some x.result ≡ b) × (x.number.0 ≡ n)
unfolding speaks
speaks_is b n x is = let w = both (kind b x.result) (eqb x.number.0 n) is in (kind_is b x.result w.0, eqb-true x.number.0 n w.1)

said : (b : Bool) (n : ℕ) (all : List Deed) → cond b (executed_at all n) (installed_at all n) ≡ find (speaks b n) all
unfolding speaks kind
said true n all = refl
said false n all = refl

pub says : (all : List Deed) (x : Deed) → find (speaks (is_some x.result) x.number.0) all ≡ Some x → SaysTheSame all x
says all x is = said (is_some x.result) x.number.0 all ∙ is

said_by : (all : List Deed) (x : Deed) → SaysTheSame all x → find (speaks (is_some x.result) x.number.0) all ≡ Some x
said_by all x is = sym (said (is_some x.result) x.number.0 all) ∙ is

-- ---- one more deed

agree_more : (before : List Deed) (x : Deed) → Agree before → ((y : Deed) → IsIn y before → Differ y x → ⊥) → Agree (before ++ x ∷ [])
agree_more before x agree same =
    all_append (SaysTheSame (before ++ x ∷ [])) before (x ∷ []) (all_follows (SaysTheSame before) (SaysTheSame (before ++ x ∷ [])) before kept agree) (here, tt) where
      more : (b : Bool) (n : ℕ) → find (speaks b n) (before ++ x ∷ []) ≡ option_or (find (speaks b n) before) (find (speaks b n) (x ∷ []))
      more b n = find-append (speaks b n) before (x ∷ [])

      kept : (y : Deed) → SaysTheSame before y → SaysTheSame (before ++ x ∷ []) y
      kept y is = says (before ++ x ∷ []) y (more (is_some y.result) y.number.0
          ∙ ap (λ (o : Option Deed). option_or o (find (speaks (is_some y.result) y.number.0) (x ∷ []))) (said_by before y is))

      alone : find (speaks (is_some x.result) x.number.0) (x ∷ []) ≡ Some x
      alone = ap (λ (b : Bool). cond b (Some x) None) (speaks_self x)

      either : (o : Option Deed) → find (speaks (is_some x.result) x.number.0) before ≡ o → option_or o (find (speaks (is_some x.result) x.number.0) (x ∷ [])) ≡ Some x
      either None is = alone
      either (Some y) is =
          let w = found (speaks (is_some x.result) x.number.0) before y is in
          let as_x = speaks_is (is_some x.result) x.number.0 y w.0 in
          ap Some (same_deeds y x as_x.0 (λ k. record { 0 = as_x.1 k }) (same y w.1))

      here : SaysTheSame (before ++ x ∷ []) x
      here = says (before ++ x ∷ []) x (more (is_some x.result) x.number.0 ∙ either (find (speaks (is_some x.result) x.number.0) before) refl)

-- where both say what the first says, they don't differ
agreed : (all : List Deed) (a b : Deed) → SaysTheSame all a → SaysTheSame all b → Differ a b → ⊥
agreed all a b first second (kind, number, other) =
    other (same_Some a b (sym (said_by all a first)
    ∙ ap (λ (k : Bool). find (speaks k a.number.0) all) kind
    ∙ ap (λ (n : SeqNo). find (speaks (is_some b.result) n.0) all) number
    ∙ said_by all b second))

-- ---- what a remark says

nothing_before : (deeds : List Deed) (x : Deed) (first : Option ℕ) → IsFirst deeds x first → is_none first ≡ true → (i : ℕ) → DiffersAt deeds x i → ⊥
nothing_before deeds x None is none = is
nothing_before deeds x (Some place) is none = absurd (false≢true none)

nothing_named : (deeds : List Deed) (x : Deed) (first : Option ℕ) → IsFirst deeds x first → ((y : Deed) → IsIn y deeds → Differ y x → ⊥) → is_none first ≡ true
nothing_named deeds x None is same = refl
nothing_named deeds x (Some place) is same = absurd (same is.0.other (among_at deeds place is.0.other is.0.there) is.0.differ)

-- ---- ledgers

module _ (window : ℕ → ℕ) where
  is_in : ℕ → Deed → Bool
  is_in n x = eqb n (window x.number.0)

  -- the ledgers hold these, each those of its window
  Hold : List Deed → (ℕ → LedgerFacts) → Type 0
  Hold before ledgers = (n : ℕ) → (ledgers n).deeds ≡ filter (is_in n) before

  hold_more : (before : List Deed) (ledgers : ℕ → LedgerFacts) (last : ℕ) (x : Deed) → Hold before ledgers → Hold (before ++ x ∷ []) (noted window ledgers last x)
  unfolding Hold is_in
  hold_more before ledgers last x hold n = either (eqb n (window x.number.0)) refl ∙ sym (filter-append (is_in n) before (x ∷ [])) where
    either : (b : Bool) → eqb n (window x.number.0) ≡ b → (cond b (recorded (begun (ledgers n) last) x) (ledgers n)).deeds ≡ filter (is_in n) before ++ filter (is_in n) (x ∷ [])
    either true is = ap (λ (ds : List Deed). ds ++ x ∷ []) (hold n) ∙ ap (λ (b : Bool). filter (is_in n) before ++ cond b (x ∷ []) []) (sym is)
    either false is = hold n ∙ sym (append-nil (filter (is_in n) before)) ∙ ap (λ (b : Bool). filter (is_in n) before ++ cond b (x ∷ []) []) (sym is)

  hold_all : (before : List Deed) (ledgers : ℕ → LedgerFacts) (last : ℕ) (xs : List Deed) → Hold before ledgers → Hold (before ++ xs) (all_noted window ledgers last xs)
  unfolding Hold
  hold_all before ledgers last [] hold n = hold n ∙ ap (filter (is_in n)) (sym (append-nil before))
  hold_all before ledgers last (x ∷ xs) hold n =
      hold_all (before ++ x ∷ []) (noted window ledgers last x) x.number.0 xs (hold_more before ledgers last x hold) n
      ∙ ap (filter (is_in n)) (append_assoc before (x ∷ []) xs)

  -- none differs: all agree
  unnamed : (before : List Deed) (ledgers : ℕ → LedgerFacts) (last : ℕ) (x : Deed) (r : Remark) → Hold before ledgers → Remarks (begun (ledgers (window x.number.0)) last) x r
      → is_none r.first ≡ true → (y : Deed) → IsIn y before → Differ y x → ⊥
  unfolding Hold is_in
  unnamed before ledgers last x r hold remarks none y at differ =
      let n : ℕ = window x.number.0 in
      let inside : eqb n (window y.number.0) ≡ true = eq-eqb n (window y.number.0) (ap (λ (s : SeqNo). window s.0) (sym differ.1)) in
      let w = place_of (filter (is_in n) before) y (filtered (is_in n) before y at inside) in
      nothing_before (ledgers n).deeds x r.first remarks.0 none w.0
      (record { other = y; there = ap (λ (ds : List Deed). slice_get ds w.0) (hold n) ∙ w.1; differ = differ })

  agree_so : (before : List Deed) (ledgers : ℕ → LedgerFacts) (last : ℕ) (xs : List Deed) (rs : List Remark) → Hold before ledgers → Agree before
      → AreRemarks window ledgers last xs rs → list_all (λ (r : Remark). is_none r.first) rs ≡ true → Agree (before ++ xs)
  agree_so before ledgers last [] rs hold agree are none = subst Agree (sym (append-nil before)) agree
  agree_so before ledgers last (x ∷ xs) [] hold agree are none = absurd are
  agree_so before ledgers last (x ∷ xs) (r ∷ rs) hold agree are none =
      let w = both (is_none r.first) (list_all (λ (r : Remark). is_none r.first) rs) none in
      subst Agree (append_assoc before (x ∷ []) xs)
      (agree_so (before ++ x ∷ []) (noted window ledgers last x) x.number.0 xs rs (hold_more before ledgers last x hold)
      (agree_more before x agree (unnamed before ledgers last x r hold are.0 w.0)) are.1 w.1)

  all_agree_so : (before : List Deed) (ledgers : ℕ → LedgerFacts) (records : List (List Deed)) (remarks : List (List Remark)) → Hold before ledgers → Agree before
      → AreAllRemarks window ledgers records remarks → none_differs remarks ≡ true → Agree (before ++ all_deeds records)
  all_agree_so before ledgers [] remarks hold agree are none = subst Agree (sym (append-nil before)) agree
  all_agree_so before ledgers (xs ∷ records) [] hold agree are none = absurd are
  all_agree_so before ledgers (xs ∷ records) (rs ∷ remarks) hold agree are none =
      let w = both (list_all (λ (r : Remark). is_none r.first) rs) (none_differs remarks) none in
      subst Agree (append_assoc before xs (all_deeds records))
      (all_agree_so (before ++ xs) (all_noted window ledgers 0 xs) records remarks (hold_all before ledgers 0 xs hold)
      (agree_so before ledgers 0 xs rs hold agree are.0 w.0) are.1 w.1)

  -- all agree: none differs
  module _ (all : List Deed) where
    none_so : (before : List Deed) (ledgers : ℕ → LedgerFacts) (last : ℕ) (xs : List Deed) (rs : List Remark) → Hold before ledgers → AllByRecursion (SaysTheSame all) before
        → AllByRecursion (SaysTheSame all) xs → AreRemarks window ledgers last xs rs → list_all (λ (r : Remark). is_none r.first) rs ≡ true
    unfolding Hold
    none_so before ledgers last [] rs hold past agree are = ap (list_all (λ (r : Remark). is_none r.first)) are
    none_so before ledgers last (x ∷ xs) [] hold past agree are = absurd are
    none_so before ledgers last (x ∷ xs) (r ∷ rs) hold past agree are =
        ap (λ (b : Bool). b && list_all (λ (r : Remark). is_none r.first) rs) (nothing_named (ledgers (window x.number.0)).deeds x r.first are.0.0 same)
        ∙ none_so (before ++ x ∷ []) (noted window ledgers last x) x.number.0 xs rs (hold_more before ledgers last x hold)
        (all_append (SaysTheSame all) before (x ∷ []) past (agree.0, tt)) agree.1 are.1 where
          same : (y : Deed) → IsIn y (ledgers (window x.number.0)).deeds → Differ y x → ⊥
          same y at = agreed all y x (all_among (SaysTheSame all) y before past (unfiltered (is_in (window x.number.0)) before y (subst (IsIn y) (hold (window x.number.0)) at))) agree.0

    all_none_so : (before : List Deed) (ledgers : ℕ → LedgerFacts) (records : List (List Deed)) (remarks : List (List Remark)) → Hold before ledgers
        → AllByRecursion (SaysTheSame all) before → AllByRecursion (SaysTheSame all) (all_deeds records) → AreAllRemarks window ledgers records remarks → none_differs remarks ≡ true
    all_none_so before ledgers [] remarks hold past agree are = ap none_differs are
    all_none_so before ledgers (xs ∷ records) [] hold past agree are = absurd are
    all_none_so before ledgers (xs ∷ records) (rs ∷ remarks) hold past agree are =
        ap (λ (b : Bool). b && none_differs remarks) (none_so before ledgers 0 xs rs hold past (all_first (SaysTheSame all) xs (all_deeds records) agree) are.0)
        ∙ all_none_so (before ++ xs) (all_noted window ledgers 0 xs) records remarks (hold_all before ledgers 0 xs hold)
        (all_append (SaysTheSame all) before xs past (all_first (SaysTheSame all) xs (all_deeds records) agree)) (all_last (SaysTheSame all) xs (all_deeds records) agree) are.1

  start : Hold [] (λ n. none_noted)
  unfolding Hold
  start n = refl

  pub remarked_so : (records : List (List Deed)) (remarks : List (List Remark)) → AreAllRemarks window (λ n. none_noted) records remarks → none_differs remarks ≡ true → Agree (all_deeds records)
  remarked_so records remarks are none = all_agree_so [] (λ n. none_noted) records remarks start tt are none

  pub agreed_so : (records : List (List Deed)) (remarks : List (List Remark)) → AreAllRemarks window (λ n. none_noted) records remarks → Agree (all_deeds records) → none_differs remarks ≡ true
  agreed_so records remarks are agree = all_none_so (all_deeds records) [] (λ n. none_noted) records remarks start tt agree are

  -- ---- executions rise

  follow_so : (ledgers : ℕ → LedgerFacts) (last : ℕ) (xs : List Deed) (rs : List Remark) → AreRemarks window ledgers last xs rs → list_all (λ (r : Remark). r.follows) rs ≡ is_some (reached last xs)
  follow_so ledgers last [] rs are = ap (list_all (λ (r : Remark). r.follows)) are
  follow_so ledgers last (x ∷ xs) [] are = absurd are
  follow_so ledgers last (x ∷ xs) (r ∷ rs) are =
      ap (λ (b : Bool). b && list_all (λ (r : Remark). r.follows) rs) are.0.1
      ∙ ap (λ (b : Bool). follows last x && b) (follow_so (noted window ledgers last x) x.number.0 xs rs are.1)
      ∙ either (follows last x) where
        either : (b : Bool) → (b && is_some (reached x.number.0 xs)) ≡ is_some (cond b (reached x.number.0 xs) None)
        either true = refl
        either false = refl

  pub all_follow_so : (ledgers : ℕ → LedgerFacts) (records : List (List Deed)) (remarks : List (List Remark)) → AreAllRemarks window ledgers records remarks → all_follow remarks ≡ all_rise records
  all_follow_so ledgers [] remarks are = ap all_follow are
  all_follow_so ledgers (xs ∷ records) [] are = absurd are
  all_follow_so ledgers (xs ∷ records) (rs ∷ remarks) are =
      ap (λ (b : Bool). b && all_follow remarks) (follow_so ledgers 0 xs rs are.0)
      ∙ ap (λ (b : Bool). is_some (reached 0 xs) && b) (all_follow_so (all_noted window ledgers 0 xs) records remarks are.1)
