-- Counts over ten indexes, and over the replicas of a configuration.
use Rattle.std.proofs.Common.{◌≡◌, ◌≢◌, ℕ, zero, suc, ◌+◌, ◌-◌, ◌*◌, ◌<◌, ◌≤◌, ◌==◌, Bool, true, false, cond, not, ◌&&◌, List, Bor, Option, Some, None, refl, sym, ap, ◌∙◌, arith, ◌⊎◌, inl, inr}
use Rattle.std.specs.Prelude.{nat_le, nat_lt, is_some, ◌%◌}
use Rattle.std.proofs.lemmas.Bool.{cases_eq, cases_lt, eq-eqb, ne_eqb, le-leb, leb-true, false_from_ne_true}
use Rattle.std.proofs.Math.Nat.{mod-lt}
use Rattle.std.specs.Option.{option_copied}
use Rattle.std.specs.Int.{from_bool}
use Rattle.host_types.specs.Configuration.{Configuration, IsConfiguration, replicas_for}
use Rattle.pbft_model.specs.Setup.{count}
use Rattle.pbft_model.specs.Certificates.{certified, has_quorum}
use Rattle.pbft_model.specs.Opening.{CheckedMessage}
use Rattle.ballots.specs.Ballots.{Ballot, AreListed, vote_at, voted_for, is_for}

-- none above n pass
count_up_to : (test : ℕ → Bool) (n more : ℕ) → ((i : ℕ) → n ≤ i → test i ≡ false) → count test (more + n) ≡ count test n
count_up_to test n zero h = ap (count test) (omega arith)
count_up_to test n (suc more) h =
    let next : suc more + n ≡ suc (more + n) = omega arith in
    ap (count test) next ∙ ap (λ (b : Bool). cond b 1 0 + count test (more + n)) (h (more + n) (omega arith)) ∙ omega (arith, count_up_to test n more h)

-- of ten indexes those of the replicas count
pub count_listed : (c : Configuration) (votes : Ballot) (digest : List ℕ) → IsConfiguration c → AreListed c votes → count (voted_for digest votes) 10 ≡ count (voted_for digest votes) (replicas_for c.f)
count_listed c votes digest k h =
    let sum : 10 ≡ (10 - replicas_for c.f) + replicas_for c.f = omega (arith, k.max_faulty) in
    ap (count (voted_for digest votes)) sum ∙ count_up_to (voted_for digest votes) (replicas_for c.f) (10 - replicas_for c.f) (λ i le. ap (is_for digest) (h i le))

-- ---- all but one

pub same_count : (p q : ℕ → Bool) (n : ℕ) → ((i : ℕ) → i < n → p i ≡ q i) → count p n ≡ count q n
same_count p q zero h = refl
same_count p q (suc n) h = ap (λ (b : Bool). cond b 1 0 + count p n) (h n (omega arith)) ∙ ap (λ (m : ℕ). cond (q n) 1 0 + m) (same_count p q n (λ i lt. h i (omega arith)))

but_step : (test : ℕ → Bool) (one n : ℕ) → one < suc n → (one < n → cond (test one) 1 0 + count (λ i. not (i == one) && test i) n ≡ count test n) → (one ≡ n) ⊎ (one ≢ n) → cond (test one) 1 0 + count (λ i. not (i == one) && test i) (suc n) ≡ count test (suc n)
but_step test one n lt rest (inl at) =
    let rests : count (λ i. not (i == one) && test i) n ≡ count test n = same_count (λ i. not (i == one) && test i) test n (λ i below. ap (λ (b : Bool). not b && test i) (ne_eqb i one (λ e. absurd (omega arith)))) in
    let here : (not (n == one) && test n) ≡ false = ap (λ (b : Bool). not b && test n) (eq-eqb n one (sym at)) in
    let same : test one ≡ test n = ap test at in
    rw (here, same, rests) (omega arith)
but_step test one n lt rest (inr ne) =
    let here : (not (n == one) && test n) ≡ test n = ap (λ (b : Bool). not b && test n) (ne_eqb n one (λ e. ne (sym e))) in
    rw here (omega (arith, rest (omega arith)))

pub all_but : (test : ℕ → Bool) (one n : ℕ) → one < n → cond (test one) 1 0 + count (λ i. not (i == one) && test i) n ≡ count test n
all_but test one zero lt = absurd (omega arith)
all_but test one (suc n) lt = but_step test one n lt (λ below. all_but test one n below) (cases_eq one n)

-- ---- what the counts say of a digest

pub quorum_is : (c : Configuration) (votes : Ballot) (digest : List ℕ) (f n : ℕ) → IsConfiguration c → AreListed c votes → f ≡ c.f → n ≡ count (voted_for digest votes) 10
    → nat_lt (2 * f) n ≡ has_quorum c (voted_for digest votes)
quorum_is c votes digest f n k h is e =
    let more : suc (2 * f) ≡ 2 * c.f + 1 = omega (arith, is) in
    ap (λ (m : ℕ). nat_le m n) more ∙ ap (nat_le (2 * c.f + 1)) (e ∙ count_listed c votes digest k h)

is_first : (r : Option (Bor CheckedMessage)) (digest : List ℕ) (o : Option CheckedMessage) → option_copied r ≡ cond (is_for digest o) o None → is_some r ≡ is_for digest o
is_first None digest None e = refl
is_first None digest (Some m) e = step (is_for digest (Some m)) e where
  step : (b : Bool) → None ≡ cond b (Some m) None → false ≡ b
  step true e = absurd cc
  step false e = refl
is_first (Some r) digest None e = absurd cc
is_first (Some r) digest (Some m) e = step (is_for digest (Some m)) e where
  step : (b : Bool) → Some r.now ≡ cond b (Some m) None → true ≡ b
  step true e = refl
  step false e = absurd cc

as_digit : (b : Bool) → from_bool b ≡ cond b 1 0
as_digit true = refl
as_digit false = refl

pub backups_are : (c : Configuration) (votes : Ballot) (digest : List ℕ) (view f n p one : ℕ) (r : Option (Bor CheckedMessage)) → IsConfiguration c → AreListed c votes → f ≡ c.f
    → n ≡ count (voted_for digest votes) 10 → p ≡ view % replicas_for c.f → option_copied r ≡ cond (voted_for digest votes p) (vote_at votes p) None → one ≡ from_bool (is_some r)
    → nat_le (2 * f + one) n ≡ certified c (λ i. true) (voted_for digest votes) view
backups_are c votes digest view f n p one r k h is e at found o =
    let below : view % replicas_for c.f < replicas_for c.f = mod-lt view (omega arith) in
    let parts = all_but (voted_for digest votes) (view % replicas_for c.f) (replicas_for c.f) below in
    let was : one ≡ cond (voted_for digest votes (view % replicas_for c.f)) 1 0 = o ∙ as_digit (is_some r) ∙ ap (λ (b : Bool). cond b 1 0) (is_first r digest (vote_at votes p) found ∙ ap (voted_for digest votes) at) in
    let all : n ≡ count (voted_for digest votes) (replicas_for c.f) = e ∙ count_listed c votes digest k h in
    tests (2 * f + one) n (2 * c.f) (count (λ i. not (i == view % replicas_for c.f) && voted_for digest votes i) (replicas_for c.f)) one (omega (arith, is)) (omega (arith, parts, was, all)) where
      tests : (a b x y one : ℕ) → a ≡ x + one → b ≡ y + one → nat_le a b ≡ nat_le x y
      tests a b x y one e f = step (cases_lt y x) where
        step : (y < x) ⊎ (x ≤ y) → nat_le a b ≡ nat_le x y
        step (inl lt) = false_from_ne_true (nat_le a b) (λ t. absurd (omega (arith, leb-true a b t))) ∙ sym (false_from_ne_true (nat_le x y) (λ t. absurd (omega (arith, leb-true x y t))))
        step (inr le) = le-leb a b (omega arith) ∙ sym (le-leb x y le)
