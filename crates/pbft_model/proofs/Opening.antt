-- The NewView that a primary makes is valid.
use Rattle.std.proofs.Common.{◌≡◌, ℕ, zero, suc, ◌+◌, ◌*◌, ◌<◌, ◌≤◌, Bool, true, false, ◌&&◌, ◌||◌, cond, List, [], ◌∷◌, length, Option, Some, None, refl, sym, ap, subst, ◌∙◌, arith, inl, inr}
use Rattle.std.specs.Prelude.{nat_lt, not, ◌==◌}
use Rattle.std.proofs.lemmas.Bool.{true≢false, false≢true, cases_lt, cases_eq, and_parts, and_from, or_cases, or_left, or_right, eqb-true, eq-eqb, ne_eqb, leb-true, le-leb}
use Rattle.std.proofs.lemmas.Option.{same_Some}
use Rattle.pbft_model.specs.Words.{SigningState, Signed, ViewChange}
use Rattle.pbft_model.specs.Setup.{Setup, primary, replicas, quorum, count, is_least, signer_after}
use Rattle.pbft_model.specs.Tables.{Key, at, change_key}
use Rattle.pbft_model.specs.Certificates.{Fields, is_by, some_by, has_quorum}
use Rattle.pbft_model.specs.Validity.{has_view, has_proof, has_certificates, has_order, is_valid, is_valid_new_view, are_for_view, have_proofs, have_certificates, have_order, bodies_in, changed_by, given, are_given}
use Rattle.pbft_model.specs.Core.{Core}
use Rattle.pbft_model.specs.Rules.{change_of, wants_view, other_wants, is_chosen, chosen_changes, new_view_of, signed_list}
use Rattle.pbft_model.specs.Histories.{IsIn}
use Rattle.pbft_model.proofs.Found.{from_map, from_gathered}
use Rattle.pbft_model.proofs.Stages.{by_is, is_by_from, count_more}
use Rattle.pbft_model.proofs.Gathering.{count_least, length_gathered, signers_gathered}
use Rattle.pbft_model.proofs.Made.{same_self, all_from}

joined_step : (e q : Bool) (x y : ℕ) → x ≡ y → cond (e || q) 1 0 + x ≤ cond e 1 0 + (cond q 1 0 + y)
joined_step true true x y h = omega arith
joined_step true false x y h = omega arith
joined_step false true x y h = omega arith
joined_step false false x y h = omega arith

-- one number beside those that pass
count_one : (me n : ℕ) → n ≤ me → count (λ i. i == me) n ≡ 0
count_one me zero h = refl
count_one me (suc n) h = ap (λ (b : Bool). cond b 1 0 + count (λ i. i == me) n) (ne_eqb n me (λ e. absurd (omega arith))) ∙ zeros (count_one me n (omega arith)) where
  zeros : count (λ i. i == me) n ≡ 0 → 0 + count (λ i. i == me) n ≡ 0
  zeros h = omega arith

pub count_me : (me n : ℕ) → me < n → count (λ i. i == me) n ≡ 1
count_me me zero h = absurd (omega arith)
count_me me (suc n) h = elim (cases_eq n me) [
  | inl same ↦ ap (λ (b : Bool). cond b 1 0 + count (λ i. i == me) n) (eq-eqb n me same) ∙ one (count_one me n (omega arith))
  | inr other ↦ ap (λ (b : Bool). cond b 1 0 + count (λ i. i == me) n) (ne_eqb n me other) ∙ none (count_me me n (less other))
] where
  one : count (λ i. i == me) n ≡ 0 → 1 + count (λ i. i == me) n ≡ 1
  one h = omega arith

  none : count (λ i. i == me) n ≡ 1 → 0 + count (λ i. i == me) n ≡ 1
  none h = omega arith

  less : (n ≡ me → ⊥) → me < n
  less other = elim (cases_lt me n) [ inl below ↦ below | inr above ↦ absurd (other (omega arith)) ]

-- disjoint tests add up
apart_step : (e q : Bool) (x y z : ℕ) → (e ≡ true → q ≡ true → ⊥) → z ≡ x + y → cond (e || q) 1 0 + z ≡ (cond e 1 0 + x) + (cond q 1 0 + y)
apart_step true true x y z h k = absurd (h refl refl)
apart_step true false x y z h k = omega arith
apart_step false true x y z h k = omega arith
apart_step false false x y z h k = omega arith

count_apart : (p q : ℕ → Bool) (n : ℕ) → ((i : ℕ) → p i ≡ true → q i ≡ true → ⊥) → count (λ i. p i || q i) n ≡ count p n + count q n
count_apart p q zero h = omega arith
count_apart p q (suc n) h = apart_step (p n) (q n) (count p n) (count q n) (count (λ i. p i || q i) n) (h n) (count_apart p q n h)

other_apart : (c : Setup) (me : ℕ) (s : Core) (i : ℕ) → (i == me) ≡ true → other_wants me s i ≡ true → ⊥
other_apart c me s i same other = true≢false (sym ((and_parts (not (i == me)) (wants_view s i) other).0) ∙ ap not same)

-- the chosen are a quorum
chosen_count : (c : Setup) (me : ℕ) (s : Core) → me < replicas c.config → wants_view s me ≡ true → has_quorum c.config (wants_view s) ≡ true → count (is_chosen c me s) (replicas c.config) ≡ quorum c.config
chosen_count c me s below own e =
    let many = leb-true (quorum c.config) (count (wants_view s) (replicas c.config)) e in
    let split = count_more (wants_view s) (λ i. (i == me) || other_wants me s i) (replicas c.config) (λ i t. either i (i == me) refl t) in
    let wanted = count_apart (λ i. i == me) (other_wants me s) (replicas c.config) (other_apart c me s) in
    let chosen = count_apart (λ i. i == me) (is_least (2 * c.config.f) (other_wants me s)) (replicas c.config)
    (λ i same t. other_apart c me s i same ((and_parts (other_wants me s i) (nat_lt (count (other_wants me s) i) (2 * c.config.f)) t).0)) in
    let least = count_least (2 * c.config.f) (other_wants me s) (replicas c.config) in
    let one = count_me me (replicas c.config) below in
    omega arith where
      either : (i : ℕ) (b : Bool) → (i == me) ≡ b → wants_view s i ≡ true → ((i == me) || other_wants me s i) ≡ true
      either i true same t = or_left _ _ same
      either i false other t = or_right _ _ (and_from _ _ (ap not other) t)

-- a chosen ViewChange is for the view
chosen_wants : (c : Setup) (me : ℕ) (s : Core) (i : ℕ) → wants_view s me ≡ true → is_chosen c me s i ≡ true → wants_view s i ≡ true
chosen_wants c me s i own e = elim (or_cases (i == me) (is_least (2 * c.config.f) (other_wants me s) i) e) [
  | inl same ↦ subst (λ (j : ℕ). wants_view s j ≡ true) (sym (eqb-true i me same)) own
  | inr other ↦ (and_parts (not (i == me)) (wants_view s i) ((and_parts (other_wants me s i) (nat_lt (count (other_wants me s) i) (2 * c.config.f)) other).0)).1
]

wants_is : (s : Core) (i : ℕ) → wants_view s i ≡ true → (m : Signed ViewChange) × (change_of s i ≡ Some m) × (is_by i (λ v. v.view.0 == s.view) m ≡ true)
wants_is s i e = split (change_of s i) e where
  split : (o : Option (Signed ViewChange)) → some_by i (λ v. v.view.0 == s.view) o ≡ true → (m : Signed ViewChange) × (o ≡ Some m) × (is_by i (λ v. v.view.0 == s.view) m ≡ true)
  split None e = absurd (false≢true e)
  split (Some m) e = (m, refl, e)

signed_given : (me : ℕ) (xs : List Fields) (signer : SigningState) → are_given me xs (signed_list signer me xs) ≡ true
signed_given me [] signer = refl
signed_given me (x ∷ xs) signer = and_from _ _ (and_from _ _ (eq-eqb me me refl) (same_self x)) (signed_given me xs (signer_after signer 1))

valid_parts : (c : Setup) (v : ViewChange) → is_valid c v ≡ true → (has_view v ≡ true) × (has_proof c v ≡ true) × (has_certificates c v ≡ true) × (has_order c v ≡ true)
valid_parts c v e =
    let a = and_parts (has_view v) (has_proof c v && (has_certificates c v && has_order c v)) e in
    let b = and_parts (has_proof c v) (has_certificates c v && has_order c v) a.1 in
    let d = and_parts (has_certificates c v) (has_order c v) b.1 in
    (a.0, b.0, d.0, d.1)

pub new_view_made : (c : Setup) (me : ℕ) (s : Core) → (primary c.config s.view == me) ≡ true → wants_view s me ≡ true → has_quorum c.config (wants_view s) ≡ true
    → ((q : Key) (m : Signed ViewChange) → at s.changes q ≡ Some m → is_valid c m.body ≡ true) → is_valid_new_view c (new_view_of c me s) ≡ true
new_view_made c me s leads own e valid =
    let is_me : primary c.config s.view ≡ me = eqb-true _ _ leads in
    let below : me < replicas c.config = omega arith in
    let ms = chosen_changes c me s in
    let chosen = chosen_count c me s below own e in
    let found : (i : ℕ) → is_chosen c me s i ≡ true → (m : Signed ViewChange) × (change_of s i ≡ Some m) × (is_by i (λ v. true) m ≡ true)
    = λ i t. let w = wants_is s i (chosen_wants c me s i own t) in (w.0, w.1, is_by_from i (λ v. v.view.0 == s.view) (λ v. true) w.0 (λ _. refl) w.2) in
    let long = length_gathered (is_chosen c me s) (change_of s) (replicas c.config) (λ i t. let w = found i t in (w.0, w.1)) in
    let signers = signers_gathered (is_chosen c me s) (change_of s) (λ v. true) (replicas c.config) found (changed_by ms) (λ i t k. k) in
    let each : (v : ViewChange) → IsIn v (bodies_in ms) → (is_valid c v ≡ true) × ((v.view.0 == s.view) ≡ true) = λ v is.
    let w = from_map (λ (m : Signed ViewChange). m.body) ms v is in
    let g = from_gathered (is_chosen c me s) (change_of s) (replicas c.config) w.0 w.1 in
    let k = wants_is s g.0 (chosen_wants c me s g.0 own g.1) in
    let same : k.0 ≡ w.0 = same_Some k.0 w.0 (sym k.1 ∙ g.2) in
    let by = by_is g.0 (λ v. v.view.0 == s.view) k.0 k.2 in
    subst (λ (v : ViewChange). (is_valid c v ≡ true) × ((v.view.0 == s.view) ≡ true)) (sym w.2)
    (valid (change_key s.view g.0) w.0 g.2, subst (λ (m : Signed ViewChange). (m.body.view.0 == s.view) ≡ true) same by.2) in
    let views : are_for_view (new_view_of c me s) ≡ true = all_from (λ v. has_view v && (v.view.0 == s.view)) (bodies_in ms) (λ v is. let w = each v is in and_from _ _ ((valid_parts c v w.0).0) w.1) in
    let proofs : have_proofs c (new_view_of c me s) ≡ true = and_from _ _ (all_from (has_proof c) (bodies_in ms) (λ v is. (valid_parts c v ((each v is).0)).1))
    (and_from _ _ (eq-eqb (length ms) (quorum c.config) (omega arith)) (le-leb (quorum c.config) (count (changed_by ms) (replicas c.config)) (omega arith))) in
    let certificates : have_certificates c (new_view_of c me s) ≡ true = all_from (has_certificates c) (bodies_in ms) (λ v is. (valid_parts c v ((each v is).0)).2) in
    let orders : have_order c (new_view_of c me s) ≡ true = and_from _ _ (all_from (has_order c) (bodies_in ms) (λ v is. (valid_parts c v ((each v is).0)).3))
    (subst (λ (leader : ℕ). are_given leader (given c s.view ms) (signed_list s.signer me (given c s.view ms)) ≡ true) (sym is_me) (signed_given me (given c s.view ms) s.signer)) in
    and_from _ _ views (and_from _ _ proofs (and_from _ _ certificates orders))
