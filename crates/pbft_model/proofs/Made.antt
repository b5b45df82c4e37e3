-- What a replica makes of what it keeps is valid.
use Rattle.std.proofs.Common.{◌≡◌, ℕ, zero, suc, ◌+◌, ◌*◌, ◌<◌, ◌≤◌, Bool, true, false, ◌&&◌, ◌||◌, cond, T, List, [], ◌∷◌, length, Option, Some, None, refl, sym, ap, subst, ◌∙◌, arith, inl, inr, ◌⊎◌}
use Rattle.std.specs.Prelude.{nat_lt, nat_le, not, ◌==◌, bytes_eq}
use Rattle.std.specs.List.{list_any, list_all}
use Rattle.std.specs.Ordering.{nat_cmp, is_lt, ordering_then}
use Rattle.std.specs.Cmp.Lexicographic.{slice_cmp, nat_list_cmp_total}
use Rattle.std.specs.declared.cmp.Ordering.{Ordering}
use Rattle.std.specs.declared.cmp.Ordering.TheVariants.{Less, Equal, Greater}
use Rattle.std.specs.FinMap.{slice_cmp-IsAntisymmetric, nat_cmp-IsAntisymmetric}
use Rattle.std.specs.FinMap.Entries.{by_order, is_sorted, below_all, is_sorted-put, is_sorted-where_key}
use Rattle.std.proofs.lemmas.Bool.{false≢true, and_parts, and_from, or_left, eq-eqb, leb-true, le-leb, ltb-true, lt-ltb}
use Rattle.std.proofs.lemmas.Slice.Eq.{bytes_eq-Decides}
use Rattle.std.proofs.lemmas.Option.{same_Some}
use Rattle.pbft_model.specs.Words.{Signed, PrePrepare, Prepare, Checkpoint, Certificate, Replica}
use Rattle.pbft_model.specs.Setup.{Setup, primary, replicas, quorum, span, count, numbers_from, is_replica, is_least, gathered}
use Rattle.pbft_model.specs.Tables.{Key, Table, at, keep, with_entry, number_key, vote_key, checkpoint_key, entries_in, first_in}
use Rattle.pbft_model.specs.Certificates.{Fields, of_pre_prepare, of_prepare, same_fields, is_by, some_by, voted, voted_among, is_certificate, has_quorum, is_checkpoint_of, checkpointed, is_stable}
use Rattle.pbft_model.specs.Validity.{digest_in, is_proof, ascend_within, is_valid}
use Rattle.pbft_model.specs.Core.{Core, is_certified, is_known, is_matching, prepared_at, certificate_of, with_certificate, with_certificates, kept_on_leaving, inside, proof_of}
use Rattle.pbft_model.specs.Rules.{view_change_of}
use Rattle.pbft_model.specs.Histories.{IsIn}
use Rattle.pbft_model.proofs.Found.{from_map, from_gathered}
use Rattle.pbft_model.proofs.Stages.{by_is, voted_is, prepared_is}
use Rattle.pbft_model.proofs.Gathering.{count_least, length_gathered, signers_gathered}

pub same_self : (x : Fields) → same_fields x x ≡ true
same_self x = and_from _ _ (eq-eqb x.view x.view refl) (and_from _ _ (eq-eqb x.number x.number refl) ((bytes_eq-Decides x.digest x.digest).1 refl))

pub all_from : {X : Type 0} (test : X → Bool) (xs : List X) → ((x : X) → IsIn x xs → test x ≡ true) → list_all test xs ≡ true
all_from test [] h = refl
all_from test (x ∷ xs) h = and_from _ _ (h x (inl refl)) (all_from test xs (λ y is. h y (inr is)))

is_by_with : {B : Type 0} (i : ℕ) (test : B → Bool) (m : Signed B) → m.role ≡ Replica → m.id ≡ i → test m.body ≡ true → is_by i test m ≡ true
is_by_with i test m role id e = and_from _ _ (ap is_replica role) (and_from _ _ (eq-eqb _ _ id) e)

-- ---- a kept certificate

pub certificate_made : (c : Setup) (s : Core) (n : ℕ) (m : Signed PrePrepare) → prepared_at c s n ≡ Some m → is_certificate c.config (certificate_of c s m) ≡ true
certificate_made c s n m e =
    let is = prepared_is c s n m e in
    let x : Fields = of_pre_prepare m.body in
    let certified_x = (and_parts (is_certified c s x) (is_known c s x.digest) is.2).0 in
    let parts = and_parts (voted of_pre_prepare s.pre_prepares x (primary c.config x.view)) (nat_le (2 * c.config.f) (count (is_matching c s x) (replicas c.config))) certified_x in
    let enough = leb-true (2 * c.config.f) (count (is_matching c s x) (replicas c.config)) parts.1 in
    let least = count_least (2 * c.config.f) (is_matching c s x) (replicas c.config) in
    let value : ℕ → Option (Signed Prepare) = λ i. at s.prepares (vote_key m.body.number.0 m.body.view.0 i) in
    let found : (i : ℕ) → is_least (2 * c.config.f) (is_matching c s x) i ≡ true → (p : Signed Prepare) × (value i ≡ Some p) × (is_by i (λ b. same_fields (of_prepare b) x) p ≡ true)
    = λ i t. voted_is of_prepare s.prepares x i ((and_parts _ _ ((and_parts (is_matching c s x i) (nat_lt (count (is_matching c s x) i) (2 * c.config.f)) t).0)).1) in
    let signers = signers_gathered (is_least (2 * c.config.f) (is_matching c s x)) value (λ b. same_fields (of_prepare b) x) (replicas c.config) found
    (λ i. not (i == primary c.config x.view) && voted_among of_prepare (gathered (is_least (2 * c.config.f) (is_matching c s x)) value (replicas c.config)) x i)
    (λ i t k. and_from _ _ ((and_parts (not (i == primary c.config x.view)) (voted of_prepare s.prepares x i) ((and_parts (is_matching c s x i) (nat_lt (count (is_matching c s x) i) (2 * c.config.f)) t).0)).0) k) in
    let long = length_gathered (is_least (2 * c.config.f) (is_matching c s x)) value (replicas c.config) (λ i t. let w = found i t in (w.0, w.1)) in
    let own : is_by (primary c.config x.view) (λ b. same_fields (of_pre_prepare b) x) m ≡ true = is_by_with (primary c.config x.view) (λ b. same_fields (of_pre_prepare b) x) m is.3 (is.4 ∙ ap (primary c.config) (sym is.0)) (same_self x) in
    and_from _ _ (and_from _ _ (or_left _ _ own) (le-leb (2 * c.config.f) (count (λ i. not (i == primary c.config x.view) && voted_among of_prepare (gathered (is_least (2 * c.config.f) (is_matching c s x)) value (replicas c.config)) x i) (replicas c.config)) (omega arith)))
    (eq-eqb (length (gathered (is_least (2 * c.config.f) (is_matching c s x)) value (replicas c.config))) (2 * c.config.f) (omega arith))

-- ---- a proof

checkpoint_found : (cps : Table (Signed Checkpoint)) (number : ℕ) (digest : List ℕ) (i : ℕ) → checkpointed cps number digest i ≡ true
    → (m : Signed Checkpoint) × (at cps (checkpoint_key number i) ≡ Some m) × (is_by i (is_checkpoint_of number digest) m ≡ true)
checkpoint_found cps number digest i e = split (at cps (checkpoint_key number i)) e where
  split : (o : Option (Signed Checkpoint)) → some_by i (is_checkpoint_of number digest) o ≡ true → (m : Signed Checkpoint) × (o ≡ Some m) × (is_by i (is_checkpoint_of number digest) m ≡ true)
  split None e = absurd (false≢true e)
  split (Some m) e = (m, refl, e)

digest_of_all : (ms : List (Signed Checkpoint)) (digest : List ℕ) → ((m : Signed Checkpoint) → IsIn m ms → m.body.digest.0 ≡ digest) → 0 < length ms → digest_in ms ≡ digest
digest_of_all [] digest h k = absurd (omega arith)
digest_of_all (m ∷ ms) digest h k = h m (inl refl)

pub proof_made : (c : Setup) (s : Core) (number : ℕ) (digest : List ℕ) → is_stable c.config s.checkpoints number digest ≡ true → is_proof c number (proof_of c s number digest) ≡ true
proof_made c s number digest e =
    let test = checkpointed s.checkpoints number digest in
    let value : ℕ → Option (Signed Checkpoint) = λ i. at s.checkpoints (checkpoint_key number i) in
    let enough = leb-true (quorum c.config) (count test (replicas c.config)) e in
    let least = count_least (quorum c.config) test (replicas c.config) in
    let found : (i : ℕ) → is_least (quorum c.config) test i ≡ true → (m : Signed Checkpoint) × (value i ≡ Some m) × (is_by i (is_checkpoint_of number digest) m ≡ true)
    = λ i t. checkpoint_found s.checkpoints number digest i ((and_parts (test i) (nat_lt (count test i) (quorum c.config)) t).0) in
    let ms = proof_of c s number digest in
    let long = length_gathered (is_least (quorum c.config) test) value (replicas c.config) (λ i t. let w = found i t in (w.0, w.1)) in
    let digest_is : digest_in ms ≡ digest = digest_of_all ms digest (λ m within.
    let w = from_gathered (is_least (quorum c.config) test) value (replicas c.config) m within in
    let v = found w.0 w.1 in
    let same : v.0 ≡ m = same_Some v.0 m (sym v.1 ∙ w.2) in
    let by = by_is w.0 (is_checkpoint_of number digest) v.0 v.2 in
    subst (λ (p : Signed Checkpoint). p.body.digest.0 ≡ digest) same ((bytes_eq-Decides v.0.body.digest.0 digest).0 ((and_parts (v.0.body.number.0 == number) (bytes_eq v.0.body.digest.0 digest) by.2).1)))
    (omega arith) in
    let signers = signers_gathered (is_least (quorum c.config) test) value (is_checkpoint_of number digest) (replicas c.config) found (λ i. list_any (is_by i (is_checkpoint_of number digest)) ms) (λ i t k. k) in
    let many : has_quorum c.config (λ i. list_any (is_by i (is_checkpoint_of number digest)) ms) ≡ true = le-leb (quorum c.config) (count (λ i. list_any (is_by i (is_checkpoint_of number digest)) ms) (replicas c.config)) (omega arith) in
    and_from _ _ (eq-eqb (length ms) (quorum c.config) (omega arith)) (subst (λ (d : List ℕ). has_quorum c.config (λ i. list_any (is_by i (is_checkpoint_of number d)) ms) ≡ true) (sym digest_is) many)

-- ---- the table of kept certificates

-- each stands under its number, between the marks, is a certificate, and of a view below this one
abbrev pub IsKeptEntry : Setup → ℕ → ℕ → (Key × Certificate) → Type 0
IsKeptEntry c low view e =
    (e.0 ≡ number_key e.1.pre_prepare.body.number.0) × (low < e.1.pre_prepare.body.number.0) × (e.1.pre_prepare.body.number.0 ≤ low + span c.config)
    × (is_certificate c.config e.1 ≡ true) × (e.1.pre_prepare.body.view.0 < view)

abbrev pub IsKept : Setup → ℕ → ℕ → Table Certificate → Type 0
IsKept c low view t = T (is_sorted (slice_cmp nat_cmp) t) × ((e : Key × Certificate) → IsIn e t → IsKeptEntry c low view e)

from_put : {X : Type 0} (k : Key) (x : X) (t : Table X) (e : Key × X) → IsIn e (with_entry t k x) → (e ≡ (k, x)) ⊎ IsIn e t
from_put k x [] e (inl same) = inl same
from_put k x [] e (inr none) = absurd none
from_put {X} k x (d ∷ t) e h = cases (slice_cmp nat_cmp k d.0) refl h (from_put k x t e) where
  cases : (o : Ordering) → slice_cmp nat_cmp k d.0 ≡ o → IsIn e (by_order o ((k, x) ∷ d ∷ t) ((d.0, x) ∷ t) (d ∷ with_entry t k x)) → (IsIn e (with_entry t k x) → (e ≡ (k, x)) ⊎ IsIn e t) → (e ≡ (k, x)) ⊎ IsIn e (d ∷ t)
  cases Less is (inl same) rest = inl same
  cases Less is (inr old) rest = inr old
  cases Equal is (inl same) rest = inl (same ∙ (λ i. (sym (slice_cmp-IsAntisymmetric nat_cmp-IsAntisymmetric k d.0 is) i, x)))
  cases Equal is (inr old) rest = inr (inr old)
  cases Greater is (inl same) rest = inr (inl same)
  cases Greater is (inr later) rest = elim (rest later) [ inl same ↦ inl same | inr old ↦ inr (inr old) ]

from_where : {X : Type 0} (test : Key → Bool) (t : Table X) (e : Key × X) → IsIn e (keep test t) → (test e.0 ≡ true) × IsIn e t
from_where test [] e h = absurd h
from_where {X} test (d ∷ t) e h = cases (test d.0) refl h (from_where test t e) where
  cases : (b : Bool) → test d.0 ≡ b → IsIn e (cond b (d ∷ keep test t) (keep test t)) → (IsIn e (keep test t) → (test e.0 ≡ true) × IsIn e t) → (test e.0 ≡ true) × IsIn e (d ∷ t)
  cases true is (inl same) rest = (ap (λ (x : Key × X). test x.0) same ∙ is, inl same)
  cases true is (inr later) rest = let w = rest later in (w.0, inr w.1)
  cases false is later rest = let w = rest later in (w.0, inr w.1)

pub kept_with : (c : Setup) (s : Core) (view : ℕ) (ns : List ℕ) → ((n : ℕ) → IsIn n ns → (s.low < n) × (n ≤ s.low + span c.config)) → s.view < view → IsKept c s.low view s.kept → IsKept c s.low view (with_certificates c s ns s.kept)
kept_with c s view [] inside higher h = h
kept_with c s view (n ∷ ns) inside higher h = cases (prepared_at c s n) refl (kept_with c s view ns (λ k is. inside k (inr is)) higher h) where
  cases : (o : Option (Signed PrePrepare)) → prepared_at c s n ≡ o → IsKept c s.low view (with_certificates c s ns s.kept) → IsKept c s.low view (with_certificate c s n o (with_certificates c s ns s.kept))
  cases None e rest = rest
  cases (Some m) e rest =
      let is = prepared_is c s n m e in
      let between = inside n (inl refl) in
      let number = is.1 in
      let low = between.0 in
      let high = between.1 in
      let view_is = is.0 in (
        is_sorted-put (slice_cmp nat_cmp) nat_list_cmp_total (number_key n) (certificate_of c s m) (with_certificates c s ns s.kept) rest.0,
        λ d within. elim (from_put (number_key n) (certificate_of c s m) (with_certificates c s ns s.kept) d within) [
          | inl same ↦ subst (λ (x : Key × Certificate). IsKeptEntry c s.low view x) (sym same) (ap number_key (sym number), omega arith, omega arith, certificate_made c s n m e, omega arith)
          | inr old ↦ rest.1 d old
        ],
      )

pub numbers_within : (many first n : ℕ) → IsIn n (numbers_from first many) → (first ≤ n) × (n < first + many)
numbers_within zero first n h = absurd h
numbers_within (suc many) first n (inl same) = (omega arith, omega arith)
numbers_within (suc many) first n (inr later) = let w = numbers_within many (first + 1) n later in let low = w.0 in let high = w.1 in (omega arith, omega arith)

higher_view : (c : Setup) (low view view' : ℕ) (t : Table Certificate) → view ≤ view' → IsKept c low view t → IsKept c low view' t
higher_view c low view view' t up h = (h.0, λ e is. let w = h.1 e is in let below = w.4 in (w.0, w.1, w.2, w.3, omega arith))

pub kept_leaving : (c : Setup) (s : Core) (view : ℕ) → s.view < view → IsKept c s.low s.view s.kept → IsKept c s.low view (kept_on_leaving c s)
kept_leaving c s view higher h =
    kept_with c s view (inside c s) (λ n is. let w = numbers_within (span c.config) (s.low + 1) n is in let low = w.0 in let high = w.1 in (omega arith, omega arith)) higher
    (higher_view c s.low s.view view s.kept (omega arith) h)

pub kept_above : (c : Setup) (low number view : ℕ) (t : Table Certificate) → low ≤ number → IsKept c low view t → IsKept c number view (keep (λ key. nat_lt number (first_in key)) t)
kept_above c low number view t up h = (
  is_sorted-where_key (slice_cmp nat_cmp) (λ key. nat_lt number (first_in key)) t h.0,
  λ e is.
      let w = from_where (λ key. nat_lt number (first_in key)) t e is in
      let k = h.1 e w.1 in
      let above = ltb-true number (first_in e.0) w.0 in
      let same : first_in e.0 ≡ e.1.pre_prepare.body.number.0 = ap first_in k.0 in
      let high = k.2 in
      (k.0, omega arith, omega arith, k.3, k.4),
)

below_in : {X : Type 0} (k : Key) (t : Table X) (e : Key × X) → T (below_all (slice_cmp nat_cmp) k t) → IsIn e t → is_lt (slice_cmp nat_cmp k e.0) ≡ true
below_in k [] e h is = absurd is
below_in {X} k (d ∷ t) e h (inl same) = subst (λ (x : Key × X). is_lt (slice_cmp nat_cmp k x.0) ≡ true) (sym same) ((true_parts (is_lt (slice_cmp nat_cmp k d.0)) (below_all (slice_cmp nat_cmp) k t) h).0) where
  true_parts : (a b : Bool) → T (a && b) → (a ≡ true) × T b
  true_parts true b h = (refl, h)
  true_parts false b h = absurd h
below_in k (d ∷ t) e h (inr later) = below_in k t e (second (is_lt (slice_cmp nat_cmp k d.0)) (below_all (slice_cmp nat_cmp) k t) h) later where
  second : (a b : Bool) → T (a && b) → T b
  second true b h = h
  second false b h = absurd h

number_below : (n k : ℕ) → is_lt (slice_cmp nat_cmp (n ∷ []) (k ∷ [])) ≡ true → n < k
number_below n k e = cases (nat_lt n k) refl e where
  cases : (b : Bool) → nat_lt n k ≡ b → is_lt (ordering_then (cond b Less (cond (n == k) Equal Greater)) Equal) ≡ true → n < k
  cases true t e = ltb-true n k t
  cases false t e = absurd (other (n == k) e) where
    other : (b : Bool) → is_lt (ordering_then (cond b Equal Greater) Equal) ≡ true → ⊥
    other true e = false≢true e
    other false e = false≢true e

ascending : (first last : ℕ) (t : Table Certificate) → T (is_sorted (slice_cmp nat_cmp) t)
    → ((e : Key × Certificate) → IsIn e t → (e.0 ≡ number_key e.1.pre_prepare.body.number.0) × (first ≤ e.1.pre_prepare.body.number.0) × (e.1.pre_prepare.body.number.0 ≤ last)) → ascend_within first last (entries_in t) ≡ true
ascending first last [] sorted h = refl
ascending first last (e ∷ t) sorted h =
    let w = h e (inl refl) in
    let parts = split (below_all (slice_cmp nat_cmp) e.0 t) (is_sorted (slice_cmp nat_cmp) t) sorted in
    and_from _ _ (le-leb first e.1.pre_prepare.body.number.0 w.1) (and_from _ _ (le-leb e.1.pre_prepare.body.number.0 last w.2)
    (ascending (e.1.pre_prepare.body.number.0 + 1) last t parts.1 (λ d is.
    let v = h d (inr is) in
    let less = number_below e.1.pre_prepare.body.number.0 d.1.pre_prepare.body.number.0
    (subst (λ (k : Key). is_lt (slice_cmp nat_cmp k (number_key d.1.pre_prepare.body.number.0)) ≡ true) w.0 (subst (λ (k : Key). is_lt (slice_cmp nat_cmp e.0 k) ≡ true) v.0 (below_in e.0 t d parts.0 is))) in
    (v.0, omega arith, v.2)))) where
      split : (a b : Bool) → T (a && b) → T a × T b
      split true b h = (tt, h)
      split false b h = absurd h

-- ---- a ViewChange

abbrev pub HasProof : Setup → Core → Type 0
HasProof c s = (is_proof c s.low s.proof || (s.low == 0 && length s.proof == 0)) ≡ true

pub view_change_made : (c : Setup) (s : Core) (view : ℕ) → s.view < view → IsKept c s.low s.view s.kept → HasProof c s → is_valid c (view_change_of c s view) ≡ true
view_change_made c s view higher kept proof =
    let k = kept_leaving c s view higher kept in
    let each : (x : Certificate) → IsIn x (entries_in (kept_on_leaving c s)) → (e : Key × Certificate) × IsIn e (kept_on_leaving c s) × (x ≡ e.1) = λ x is. from_map (λ (e : Key × Certificate). e.1) (kept_on_leaving c s) x is in
    and_from _ _ (and_from _ _ (lt-ltb 0 view (omega arith)) (all_from (λ x. nat_lt x.pre_prepare.body.view.0 view) (entries_in (kept_on_leaving c s)) (λ x is.
    let w = each x is in subst (λ (y : Certificate). nat_lt y.pre_prepare.body.view.0 view ≡ true) (sym w.2) (lt-ltb w.0.1.pre_prepare.body.view.0 view ((k.1 w.0 w.1).4)))))
    (and_from _ _ proof
    (and_from _ _ (all_from (is_certificate c.config) (entries_in (kept_on_leaving c s)) (λ x is. let w = each x is in subst (λ (y : Certificate). is_certificate c.config y ≡ true) (sym w.2) ((k.1 w.0 w.1).3)))
    (ascending (s.low + 1) (s.low + span c.config) (kept_on_leaving c s) k.0 (λ e is. let w = k.1 e is in let low = w.1 in (w.0, omega arith, w.2)))))
