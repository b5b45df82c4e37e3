-- Entering a view: what is recorded then.
use Rattle.std.proofs.Common.{◌≡◌, ℕ, ◌+◌, ◌-◌, ◌<◌, ◌≤◌, Bool, true, false, ◌&&◌, cond, List, [], ◌∷◌, map, Option, Some, None, refl, sym, ap, subst, ◌∙◌, arith, inl, inr}
use Rattle.std.specs.Prelude.{nat_lt, nat_le, ◌==◌}
use Rattle.std.proofs.lemmas.Bool.{true≢false, false≢true, cases_lt, cases_eq, and_parts, and_from, or_from, and_right, eqb-true, eq-eqb, le-ltb, leb-true, le-leb, lt-leb, not_from_false, lt-ltb}
use Rattle.pbft_model.specs.Words.{Signed, PrePrepare, Certificate, ViewChange, NewView, Replica}
use Rattle.pbft_model.specs.Setup.{Setup, span}
use Rattle.pbft_model.specs.Tables.{Key, Table, at, keep, vote_key, first_in, add_if}
use Rattle.pbft_model.specs.Certificates.{Fields, of_pre_prepare, same_fields, is_by}
use Rattle.pbft_model.specs.Validity.{floor_of, top_of, greatest_of, certificates_in, given, given_digest, given_numbers, are_given, highest, higher}
use Rattle.pbft_model.specs.Core.{Core, is_admitted}
use Rattle.pbft_model.specs.Acts.{add_pre_prepare, add_pre_prepares, opened_by, entered, left_if_above, left_for, is_of_entered}
use Rattle.pbft_model.specs.Histories.{IsIn}
use Rattle.pbft_model.proofs.Found.{found_add, kept_add, at_added, found_keep, from_map, in_map, in_flat}
use Rattle.pbft_model.proofs.Stages.{by_is, fields_are, in_numbers, Holds}

-- ---- what ViewChanges give

pub greatest_above : (n : ℕ) (ns : List ℕ) → IsIn n ns → n ≤ greatest_of ns
greatest_above n [] h = absurd h
greatest_above n (k ∷ ns) (inl same) = omega arith
greatest_above n (k ∷ ns) (inr later) = let below = greatest_above n ns later in omega arith

pub in_given : (c : Setup) (view : ℕ) (ms : List (Signed ViewChange)) (x : Fields) → IsIn x (given c view ms) → (x.view ≡ view) × (x.digest ≡ given_digest c ms x.number)
in_given c view ms x h =
    let w = from_map (λ (number : ℕ). record { view = view; number = number; digest = given_digest c ms number }) (given_numbers ms) x h in
    let same : x ≡ record { view = view; number = w.0; digest = given_digest c ms w.0 } = w.2 in
    (ap (λ (y : Fields). y.view) same, ap (λ (y : Fields). y.digest) same ∙ ap (given_digest c ms) (sym (ap (λ (y : Fields). y.number) same)))

pub given_at : (c : Setup) (view : ℕ) (ms : List (Signed ViewChange)) (n : ℕ) → floor_of ms < n → n ≤ top_of ms → IsIn (record { view = view; number = n; digest = given_digest c ms n }) (given c view ms)
given_at c view ms n h k =
    in_map (λ (number : ℕ). record { view = view; number = number; digest = given_digest c ms number }) (given_numbers ms) n
    (in_numbers (top_of ms - floor_of ms) (floor_of ms + 1) n (omega arith) (omega arith))

pub below_top : (ms : List (Signed ViewChange)) (m : Signed ViewChange) (x : Certificate) → IsIn m ms → IsIn x m.body.certificates → x.pre_prepare.body.number.0 ≤ top_of ms
below_top ms m x h k =
    let below = greatest_above x.pre_prepare.body.number.0 (map (λ y. y.pre_prepare.body.number.0) (certificates_in ms))
    (in_map (λ (y : Certificate). y.pre_prepare.body.number.0) (certificates_in ms) x (in_flat (λ (m : Signed ViewChange). m.body.certificates) ms m x h k)) in
    omega arith

-- each PrePrepare of the list has the fields of one that is given
pub given_one : (leader : ℕ) (xs : List Fields) (ms : List (Signed PrePrepare)) (m : Signed PrePrepare) → are_given leader xs ms ≡ true → IsIn m ms → (x : Fields) × IsIn x xs × (of_pre_prepare m.body ≡ x) × (m.id ≡ leader)
given_one leader [] [] m e h = absurd h
given_one leader [] (p ∷ ms) m e h = absurd (false≢true e)
given_one leader (x ∷ xs) [] m e h = absurd h
given_one leader (x ∷ xs) (p ∷ ms) m e (inl same) =
    let by = by_is leader (λ b. same_fields (of_pre_prepare b) x) p ((and_parts _ _ e).0) in
    (x, inl refl, ap (λ (q : Signed PrePrepare). of_pre_prepare q.body) same ∙ fields_are (of_pre_prepare p.body) x by.2, ap (λ (q : Signed PrePrepare). q.id) same ∙ by.1)
given_one leader (x ∷ xs) (p ∷ ms) m e (inr later) =
    let w = given_one leader xs ms m ((and_parts _ _ e).1) later in (w.0, inr w.1, w.2, w.3)

-- and it is the primary's
pub given_role : (leader : ℕ) (xs : List Fields) (ms : List (Signed PrePrepare)) (m : Signed PrePrepare) → are_given leader xs ms ≡ true → IsIn m ms → (m.role ≡ Replica) × (m.id ≡ leader)
given_role leader [] [] m e h = absurd h
given_role leader [] (p ∷ ms) m e h = absurd (false≢true e)
given_role leader (x ∷ xs) [] m e h = absurd h
given_role leader (x ∷ xs) (p ∷ ms) m e (inl same) =
    let by = by_is leader (λ b. same_fields (of_pre_prepare b) x) p ((and_parts _ _ e).0) in
    (ap (λ (q : Signed PrePrepare). q.role) same ∙ by.0, ap (λ (q : Signed PrePrepare). q.id) same ∙ by.1)
given_role leader (x ∷ xs) (p ∷ ms) m e (inr later) = given_role leader xs ms m ((and_parts _ _ e).1) later

-- and each that is given is there
pub one_given : (leader : ℕ) (xs : List Fields) (ms : List (Signed PrePrepare)) (x : Fields) → are_given leader xs ms ≡ true → IsIn x xs → (m : Signed PrePrepare) × IsIn m ms × (of_pre_prepare m.body ≡ x)
one_given leader [] ms x e h = absurd h
one_given leader (y ∷ xs) [] x e h = absurd (false≢true e)
one_given leader (y ∷ xs) (m ∷ ms) x e (inl same) =
    let by = by_is leader (λ b. same_fields (of_pre_prepare b) y) m ((and_parts _ _ e).0) in
    (m, inl refl, fields_are (of_pre_prepare m.body) y by.2 ∙ sym same)
one_given leader (y ∷ xs) (m ∷ ms) x e (inr later) =
    let w = one_given leader xs ms x ((and_parts _ _ e).1) later in (w.0, inr w.1, w.2)

-- ---- the highest certificate

abbrev IsHighest : ℕ → ℕ → Option Certificate → List Certificate → Type 0
IsHighest number view o xs = (y : Certificate) × (o ≡ Some y) × IsIn y xs × (y.pre_prepare.body.number.0 ≡ number) × (view ≤ y.pre_prepare.body.view.0)

higher_of : (number : ℕ) (x : Certificate) (o : Option Certificate) (xs : List Certificate) (view : ℕ) → IsHighest number view o xs → IsHighest number view (higher number x o) (x ∷ xs)
higher_of number x None xs view w = absurd (none w.1) where
  none : None ≡ Some w.0 → ⊥
  none e = absurd cc
higher_of number x (Some y) xs view w = cases ((x.pre_prepare.body.number.0 == number) && nat_le y.pre_prepare.body.view.0 x.pre_prepare.body.view.0) refl where
  same : y ≡ w.0
  same = let e = w.1 in cc

  cases : (b : Bool) → ((x.pre_prepare.body.number.0 == number) && nat_le y.pre_prepare.body.view.0 x.pre_prepare.body.view.0) ≡ b → IsHighest number view (cond b (Some x) (Some y)) (x ∷ xs)
  cases true e =
      let parts = and_parts _ _ e in
      let above = leb-true y.pre_prepare.body.view.0 x.pre_prepare.body.view.0 parts.1 in
      let below : view ≤ y.pre_prepare.body.view.0 = subst (λ (z : Certificate). view ≤ z.pre_prepare.body.view.0) (sym same) w.4 in
      (x, refl, inl refl, eqb-true _ _ parts.0, omega arith)
  cases false e = (w.0, w.1, inr w.2, w.3, w.4)

higher_new : (number : ℕ) (x : Certificate) (o : Option Certificate) (xs : List Certificate) → ((y : Certificate) → o ≡ Some y → IsIn y xs × (y.pre_prepare.body.number.0 ≡ number)) → x.pre_prepare.body.number.0 ≡ number
    → IsHighest number x.pre_prepare.body.view.0 (higher number x o) (x ∷ xs)
higher_new number x None xs old is = subst (λ (b : Bool). IsHighest number x.pre_prepare.body.view.0 (cond b (Some x) None) (x ∷ xs)) (sym (eq-eqb _ _ is)) (x, refl, inl refl, is, omega arith)
higher_new number x (Some y) xs old is = cases ((x.pre_prepare.body.number.0 == number) && nat_le y.pre_prepare.body.view.0 x.pre_prepare.body.view.0) refl where
  cases : (b : Bool) → ((x.pre_prepare.body.number.0 == number) && nat_le y.pre_prepare.body.view.0 x.pre_prepare.body.view.0) ≡ b → IsHighest number x.pre_prepare.body.view.0 (cond b (Some x) (Some y)) (x ∷ xs)
  cases true e = (x, refl, inl refl, is, omega arith)
  cases false e = elim (cases_lt x.pre_prepare.body.view.0 y.pre_prepare.body.view.0) [
    | inl less ↦ (y, refl, inr ((old y refl).0), (old y refl).1, omega arith)
    | inr more ↦ absurd (true≢false (sym (and_from _ _ (eq-eqb _ _ is) (le-leb y.pre_prepare.body.view.0 x.pre_prepare.body.view.0 more)) ∙ e))
  ]

highest_is : (number : ℕ) (xs : List Certificate) (y : Certificate) → highest number xs ≡ Some y → IsIn y xs × (y.pre_prepare.body.number.0 ≡ number)
highest_is number [] y e = absurd cc
highest_is number (x ∷ xs) y e = cases (highest number xs) e (highest_is number xs) where
  cases : (o : Option Certificate) → higher number x o ≡ Some y → ((z : Certificate) → o ≡ Some z → IsIn z xs × (z.pre_prepare.body.number.0 ≡ number)) → IsIn y (x ∷ xs) × (y.pre_prepare.body.number.0 ≡ number)
  cases None e old = alone (x.pre_prepare.body.number.0 == number) refl e where
    alone : (b : Bool) → (x.pre_prepare.body.number.0 == number) ≡ b → cond b (Some x) None ≡ Some y → IsIn y (x ∷ xs) × (y.pre_prepare.body.number.0 ≡ number)
    alone true t e = let same : y ≡ x = cc in (inl same, ap (λ (z : Certificate). z.pre_prepare.body.number.0) same ∙ eqb-true _ _ t)
    alone false t e = absurd cc
  cases (Some z) e old = beside ((x.pre_prepare.body.number.0 == number) && nat_le z.pre_prepare.body.view.0 x.pre_prepare.body.view.0) refl e where
    beside : (b : Bool) → ((x.pre_prepare.body.number.0 == number) && nat_le z.pre_prepare.body.view.0 x.pre_prepare.body.view.0) ≡ b → cond b (Some x) (Some z) ≡ Some y → IsIn y (x ∷ xs) × (y.pre_prepare.body.number.0 ≡ number)
    beside true t e = let same : y ≡ x = cc in (inl same, ap (λ (w : Certificate). w.pre_prepare.body.number.0) same ∙ eqb-true _ _ ((and_parts _ _ t).0))
    beside false t e = let w = old y e in (inr w.0, w.1)

-- of the certificates at a number one is highest
pub highest_above : (number : ℕ) (xs : List Certificate) (x : Certificate) → IsIn x xs → x.pre_prepare.body.number.0 ≡ number → IsHighest number x.pre_prepare.body.view.0 (highest number xs) xs
highest_above number [] x h is = absurd h
highest_above number (y ∷ xs) x (inl same) is =
    subst (λ (z : Certificate). IsHighest number z.pre_prepare.body.view.0 (highest number (y ∷ xs)) (y ∷ xs)) (sym same)
    (higher_new number y (highest number xs) xs (highest_is number xs) (ap (λ (z : Certificate). z.pre_prepare.body.number.0) (sym same) ∙ is))
highest_above number (y ∷ xs) x (inr later) is = higher_of number y (highest number xs) xs x.pre_prepare.body.view.0 (highest_above number xs x later is)

-- ---- recording the list

module _ (c : Setup) (s : Core) (view leader n : ℕ) (digest : List ℕ) (admitted : is_admitted c s view n ≡ true) where
  Free : Table (Signed PrePrepare) → Type 0
  Free t = (m : Signed PrePrepare) → at t (vote_key n view leader) ≡ Some m → m.body.digest.0 ≡ digest

  Has : Table (Signed PrePrepare) → Type 0
  Has t = (m : Signed PrePrepare) × (at t (vote_key n view leader) ≡ Some m) × (m.body.digest.0 ≡ digest)

  has_more : (ms : List (Signed PrePrepare)) (t : Table (Signed PrePrepare)) → Has t → Has (add_pre_prepares c s ms t)
  unfolding Has
  has_more [] t w = w
  has_more (m ∷ ms) t w = has_more ms (add_pre_prepare c s m t) (w.0, kept_add (is_admitted c s m.body.view.0 m.body.number.0) t (vote_key m.body.number.0 m.body.view.0 m.id) (vote_key n view leader) m w.0 w.1, w.2)

  all_alike : List Fields → Type 0
  all_alike xs = (x : Fields) → IsIn x xs → (x.view ≡ view) × (x.number ≡ n → x.digest ≡ digest)

  recorded_list : (xs : List Fields) (ms : List (Signed PrePrepare)) (t : Table (Signed PrePrepare)) → are_given leader xs ms ≡ true → all_alike xs → ((x : Fields) × IsIn x xs × (x.number ≡ n)) → Free t → Has (add_pre_prepares c s ms t)
  unfolding Free Has all_alike
  recorded_list [] ms t e alike w free = absurd w.1
  recorded_list (x ∷ xs) [] t e alike w free = absurd (false≢true e)
  recorded_list (x ∷ xs) (m ∷ ms) t e alike w free =
      let parts = and_parts (is_by leader (λ b. same_fields (of_pre_prepare b) x) m) (are_given leader xs ms) e in
      let by = by_is leader (λ b. same_fields (of_pre_prepare b) x) m parts.0 in
      let fields = fields_are (of_pre_prepare m.body) x by.2 in
      let view_is : m.body.view.0 ≡ view = ap (λ (y : Fields). y.view) fields ∙ (alike x (inl refl)).0 in
      let number_of : m.body.number.0 ≡ x.number = ap (λ (y : Fields). y.number) fields in
      elim (cases_eq x.number n) [
        | inl same ↦
            let number_is : m.body.number.0 ≡ n = number_of ∙ same in
            let digest_is : m.body.digest.0 ≡ digest = ap (λ (y : Fields). y.digest) fields ∙ (alike x (inl refl)).1 same in
            let y = at_added t (vote_key n view leader) m in
            let here : Has (add_if true (vote_key n view leader) m t) = (y.0, y.1, elim y.2 [ inl own ↦ ap (λ (p : Signed PrePrepare). p.body.digest.0) own ∙ digest_is | inr old ↦ free y.0 old ]) in
            let with_key : Has (add_if true (vote_key m.body.number.0 m.body.view.0 m.id) m t) = subst (λ (k : Key). Has (add_if true k m t)) (λ i. vote_key (sym number_is i) (sym view_is i) (sym by.1 i)) here in
            let is : is_admitted c s m.body.view.0 m.body.number.0 ≡ true = (λ i. is_admitted c s (view_is i) (number_is i)) ∙ admitted in
            has_more ms (add_pre_prepare c s m t) (subst (λ (b : Bool). Has (add_if b (vote_key m.body.number.0 m.body.view.0 m.id) m t)) (sym is) with_key)
        | inr other ↦
            let later : IsIn w.0 xs = elim w.1 [ inl same ↦ absurd (other (ap (λ (y : Fields). y.number) (sym same) ∙ w.2)) | inr later ↦ later ] in
            recorded_list xs ms (add_pre_prepare c s m t) parts.1 (λ y h. alike y (inr h)) (w.0, later, w.2)
            (λ p found. elim (found_add (is_admitted c s m.body.view.0 m.body.number.0) t (vote_key m.body.number.0 m.body.view.0 m.id) (vote_key n view leader) m p found) [
              | inl new ↦ absurd (other (sym number_of ∙ sym (ap first_in new.0)))
              | inr old ↦ free p old
            ])
      ]

  pub listed_has : (ms : List (Signed ViewChange)) (ps : List (Signed PrePrepare)) (t : Table (Signed PrePrepare)) → are_given leader (given c view ms) ps ≡ true → digest ≡ given_digest c ms n → floor_of ms < n → n ≤ top_of ms
      → ((m : Signed PrePrepare) → at t (vote_key n view leader) ≡ Some m → ⊥) → (m : Signed PrePrepare) × (at (add_pre_prepares c s ps t) (vote_key n view leader) ≡ Some m) × (m.body.digest.0 ≡ digest)
  unfolding Free Has all_alike
  listed_has ms ps t e is h k none =
      recorded_list (given c view ms) ps t e
      (λ x within. let w = in_given c view ms x within in (w.0, λ number. w.1 ∙ ap (given_digest c ms) number ∙ sym is))
      (record { view = view; number = n; digest = given_digest c ms n }, given_at c view ms n h k, refl)
      (λ m found. absurd (none m found))

admits : (c : Setup) (t : Core) (b : NewView) (n : ℕ) → floor_of b.changes < n → t.low < n → n ≤ t.low + span c.config → is_admitted c (opened_by t b) b.view.0 n ≡ true
admits c t b n h k l =
    and_from _ _ (le-leb b.view.0 b.view.0 (omega arith))
    (and_from _ _ (and_from _ _ (lt-ltb t.low n k) (le-leb n (t.low + span c.config) l))
    (not_from_false _ (and_right (b.view.0 == b.view.0) (nat_le n (floor_of b.changes)) (lt-leb n (floor_of b.changes) h))))

same_low : (c : Setup) (s : Core) (view : ℕ) → (left_if_above c s view).low ≡ s.low
same_low c s view = elim (nat_lt s.view view) as (λ b. (cond b (left_for c s view) s).low ≡ s.low) [ true ↦ refl | false ↦ refl ]

-- After entering, each number up to the top that lies between the marks holds the digest that is given.
pub entered_holds : (c : Setup) (s : Core) (b : NewView) (leader n : ℕ) → are_given leader (given c b.view.0 b.changes) b.pre_prepares ≡ true → floor_of b.changes < n → n ≤ top_of b.changes → s.low < n → n ≤ s.low + span c.config
    → Holds n b.view.0 leader (given_digest c b.changes n) (entered c s b)
entered_holds c s b leader n e h k low high = inr (from (left_if_above c s b.view.0) (same_low c s b.view.0)) where
  above_top : (t : Core) (m : Signed PrePrepare) → at (keep (is_of_entered b.view.0 (top_of b.changes)) t.pre_prepares) (vote_key n b.view.0 leader) ≡ Some m → ⊥
  above_top t m found =
      let test = (found_keep (is_of_entered b.view.0 (top_of b.changes)) t.pre_prepares (vote_key n b.view.0 leader) m found).0 in
      false≢true (sym (or_from (nat_lt b.view.0 b.view.0) _ (le-ltb b.view.0 b.view.0 (omega arith)) (and_right (b.view.0 == b.view.0) (nat_lt (top_of b.changes) n) (le-ltb (top_of b.changes) n k))) ∙ test)

  from : (t : Core) → t.low ≡ s.low → (m : Signed PrePrepare) × (at (add_pre_prepares c (opened_by t b) b.pre_prepares (opened_by t b).pre_prepares) (vote_key n b.view.0 leader) ≡ Some m) × (m.body.digest.0 ≡ given_digest c b.changes n)
  from t same =
      listed_has c (opened_by t b) b.view.0 leader n (given_digest c b.changes n) (admits c t b n h (omega arith) (omega arith)) b.changes b.pre_prepares (opened_by t b).pre_prepares e refl h k (above_top t)
