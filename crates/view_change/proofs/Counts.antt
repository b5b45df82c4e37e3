-- How many replicas' messages pass a test, in a list whose signers are listed and ascend.
use Rattle.std.proofs.Common.{◌≡◌, ℕ, zero, suc, ◌+◌, ◌<◌, ◌≤◌, ◌==◌, Bool, true, false, ◌&&◌, ◌||◌, cond, List, [], ◌∷◌, length, refl, sym, ap, ◌∙◌, arith, ◌⊎◌, inl, inr}
use Rattle.std.specs.Prelude.{nat_le}
use Rattle.std.specs.List.{AllByRecursion, list_all, list_any}
use Rattle.std.proofs.lemmas.Bool.{cases_eq, eqb-true, eq-eqb, ne_eqb, le-leb, leb-true, false_from_ne_true, false≢true}
use Rattle.pbft_codec.specs.Limits.{AscendFrom}
use Rattle.quorum_log.specs.Words.{Signed, Role, Replica}
use Rattle.quorum_log.specs.Setup.{count, is_replica}
use Rattle.quorum_log.specs.Certificates.{is_by}
use Rattle.quorum_log.proofs.Stages.{by_is}

-- one of so many replicas signed it
pub record IsReplicas {B : Type 0} (n : ℕ) (m : Signed B) : Type 0 where
  pub role : m.role ≡ Replica
  pub below : m.id < n

-- how many pass
abbrev pub passing : {B : Type 0} → (B → Bool) → List (Signed B) → ℕ
passing test [] = 0
passing test (m ∷ ms) = cond (test m.body) 1 0 + passing test ms

abbrev pub voter : {B : Type 0} → (B → Bool) → List (Signed B) → ℕ → Bool
voter test ms i = list_any (is_by i test) ms

-- ---- counts

pub same_count : (p q : ℕ → Bool) (n : ℕ) → ((i : ℕ) → p i ≡ q i) → count p n ≡ count q n
same_count p q zero h = refl
same_count p q (suc n) h = ap (λ (b : Bool). cond b 1 0 + count p n) (h n) ∙ ap (λ (m : ℕ). cond (q n) 1 0 + m) (same_count p q n h)

plus_zero : (x y : ℕ) → x ≡ y → 0 + x ≡ y
plus_zero x y e = omega arith

count_none : (p : ℕ → Bool) (n : ℕ) → ((i : ℕ) → i < n → p i ≡ false) → count p n ≡ 0
count_none p zero h = refl
count_none p (suc n) h = ap (λ (b : Bool). cond b 1 0 + count p n) (h n (omega arith)) ∙ plus_zero (count p n) 0 (count_none p n (λ i lt. h i (omega arith)))

either_step : (a b : Bool) (x y z : ℕ) → (a ≡ true → b ≡ false) → z ≡ x + y → cond (a || b) 1 0 + z ≡ (cond a 1 0 + x) + (cond b 1 0 + y)
either_step true true x y z h e = absurd (false≢true (sym (h refl)))
either_step true false x y z h e = omega arith
either_step false true x y z h e = omega arith
either_step false false x y z h e = omega arith

count_either : (p q : ℕ → Bool) (n : ℕ) → ((i : ℕ) → p i ≡ true → q i ≡ false) → count (λ i. p i || q i) n ≡ count p n + count q n
count_either p q zero h = refl
count_either p q (suc n) h = either_step (p n) (q n) (count p n) (count q n) _ (h n) (count_either p q n h)

count_at : (id n : ℕ) (t : Bool) → id < n → count (λ i. (id == i) && t) n ≡ cond t 1 0
count_at id zero t lt = absurd (omega arith)
count_at id (suc n) t lt = split (cases_eq id n) (λ less. count_at id n t less) where
  here : (id == n) ≡ true → count (λ i. (id == i) && t) (suc n) ≡ cond t 1 0
  here e =
      let rest : count (λ i. (id == i) && t) n ≡ 0 = count_none (λ i. (id == i) && t) n (λ i below. ap (λ (b : Bool). b && t) (ne_eqb id i (λ same. let at = eqb-true id n e in absurd (omega arith)))) in
      ap (λ (b : Bool). cond (b && t) 1 0 + count (λ i. (id == i) && t) n) e ∙ ap (λ (m : ℕ). cond t 1 0 + m) rest ∙ omega arith

  below : (id == n) ≡ false → count (λ i. (id == i) && t) n ≡ cond t 1 0 → count (λ i. (id == i) && t) (suc n) ≡ cond t 1 0
  below e rest = ap (λ (b : Bool). cond (b && t) 1 0 + count (λ i. (id == i) && t) n) e ∙ plus_zero (count (λ i. (id == i) && t) n) (cond t 1 0) rest

  split : (id ≡ n) ⊎ (id ≡ n → ⊥) → (id < n → count (λ i. (id == i) && t) n ≡ cond t 1 0) → count (λ i. (id == i) && t) (suc n) ≡ cond t 1 0
  split (inl same) rest = here (eq-eqb id n same)
  split (inr other) rest = below (ne_eqb id n other) (rest (omega (arith, other)))

-- ---- messages

pub one_counts : {B : Type 0} (test : B → Bool) (m : Signed B) (n : ℕ) → IsReplicas n m → count (λ i. is_by i test m) n ≡ cond (test m.body) 1 0
one_counts test m n h =
    same_count (λ i. is_by i test m) (λ i. (m.id == i) && test m.body) n (λ i. ap (λ (r : Role). is_replica r && ((m.id == i) && test m.body)) h.role)
    ∙ count_at m.id n (test m.body) h.below

-- a signer below those that ascend from there has no message among them
none_before : {B : Type 0} (test : B → Bool) (i low : ℕ) (ms : List (Signed B)) → i < low → AscendFrom low ms → voter test ms i ≡ false
none_before test i low [] lt h = refl
none_before test i low (m ∷ ms) lt h =
    let not_it : is_by i test m ≡ false = false_from_ne_true (is_by i test m) (λ t. let same = (by_is i test m t).1 in absurd (omega (arith, h.0))) in
    ap (λ (b : Bool). b || voter test ms i) not_it ∙ none_before test i (m.id + 1) ms (omega (arith, h.0)) h.1

pub counted : {B : Type 0} (test : B → Bool) (n low : ℕ) (ms : List (Signed B)) → AscendFrom low ms → AllByRecursion (IsReplicas n) ms → count (voter test ms) n ≡ passing test ms
counted test n low [] up h = count_none (λ i. false) n (λ i lt. refl)
counted test n low (m ∷ ms) up h =
    count_either (λ i. is_by i test m) (voter test ms) n (λ i t. let same = (by_is i test m t).1 in none_before test i (m.id + 1) ms (omega arith) up.1)
    ∙ ap (λ (a : ℕ). a + count (voter test ms) n) (one_counts test m n h.0)
    ∙ ap (λ (a : ℕ). cond (test m.body) 1 0 + a) (counted test n (m.id + 1) ms up.1 h.1)

-- ---- all of them

most : {B : Type 0} (test : B → Bool) (ms : List (Signed B)) → passing test ms ≤ length ms
most test [] = omega arith
most {B} test (m ∷ ms) = step (test m.body) (most test ms) where
  step : (b : Bool) → passing test ms ≤ length ms → cond b 1 0 + passing test ms ≤ suc (length ms)
  step true h = omega arith
  step false h = omega arith

all_pass : {B : Type 0} (test : B → Bool) (ms : List (Signed B)) → list_all (λ m. test m.body) ms ≡ true → passing test ms ≡ length ms
all_pass test [] e = refl
all_pass {B} test (m ∷ ms) e = step (test m.body) e (all_pass test ms) where
  step : (b : Bool) → (b && list_all (λ m. test m.body) ms) ≡ true → (list_all (λ m. test m.body) ms ≡ true → passing test ms ≡ length ms) → cond b 1 0 + passing test ms ≡ suc (length ms)
  step true all rest = let below = rest all in omega arith
  step false all rest = absurd (false≢true all)

some_fail : {B : Type 0} (test : B → Bool) (ms : List (Signed B)) → list_all (λ m. test m.body) ms ≡ false → passing test ms < length ms
some_fail test [] e = absurd (false≢true (sym e))
some_fail {B} test (m ∷ ms) e = step (test m.body) e (some_fail test ms) (most test ms) where
  step : (b : Bool) → (b && list_all (λ m. test m.body) ms) ≡ false → (list_all (λ m. test m.body) ms ≡ false → passing test ms < length ms) → passing test ms ≤ length ms
      → cond b 1 0 + passing test ms < suc (length ms)
  step true all rest le = let below = rest all in omega arith
  step false all rest le = omega arith

full : {B : Type 0} (test : B → Bool) (q : ℕ) (ms : List (Signed B)) → length ms ≡ q → nat_le q (passing test ms) ≡ list_all (λ m. test m.body) ms
full {B} test q ms is = split (list_all (λ m. test m.body) ms) refl where
  split : (b : Bool) → list_all (λ m. test m.body) ms ≡ b → nat_le q (passing test ms) ≡ b
  split true e = let many = all_pass test ms e in le-leb q (passing test ms) (omega arith)
  split false e = let few = some_fail test ms e in false_from_ne_true (nat_le q (passing test ms)) (λ t. let enough = leb-true q (passing test ms) t in absurd (omega arith))

-- so many messages, of as many replicas that pass: all of them pass
pub so_many_pass : {B : Type 0} (test : B → Bool) (n q : ℕ) (ms : List (Signed B)) → AscendFrom 0 ms → AllByRecursion (IsReplicas n) ms
    → ((length ms == q) && nat_le q (count (voter test ms) n)) ≡ ((length ms == q) && list_all (λ m. test m.body) ms)
so_many_pass {B} test n q ms up h = split (length ms == q) refl where
  split : (b : Bool) → (length ms == q) ≡ b → (b && nat_le q (count (voter test ms) n)) ≡ (b && list_all (λ m. test m.body) ms)
  split false e = refl
  split true e = ap (nat_le q) (counted test n 0 ms up h) ∙ full test q ms (eqb-true (length ms) q e)
