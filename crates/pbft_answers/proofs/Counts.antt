-- Counts of correct replicas, with and without one of them.
use Rattle.std.proofs.Common.{◌≡◌, ◌⊎◌, ℕ, zero, suc, ◌+◌, ◌*◌, ◌<◌, ◌≤◌, Bool, true, false, ◌&&◌, cond, refl, sym, ap, subst, ◌∙◌, arith, inl, inr}
use Rattle.std.specs.Prelude.{not, ◌==◌}
use Rattle.std.proofs.lemmas.Bool.{true≢false, cases_eq, ne_eqb, and_parts, and_from, not-true, eqb-true, eq-eqb, not_from_false}
use Rattle.pbft_model.specs.Setup.{count}
use Rattle.pbft_progress.proofs.Duties.{count_below, count_outside, count_all}

one_more : (b : Bool) (x : ℕ) → x ≡ 0 → cond b 1 0 + x ≤ 1
one_more true x e = omega (arith, e)
one_more false x e = omega (arith, e)

none_more : (b : Bool) (x : ℕ) → b ≡ false → x ≡ 0 → cond b 1 0 + x ≡ 0
none_more true x f e = absurd (true≢false f)
none_more false x f e = omega (arith, e)

still_one : (b : Bool) (x : ℕ) → b ≡ false → x ≤ 1 → cond b 1 0 + x ≤ 1
still_one true x f e = absurd (true≢false f)
still_one false x f e = omega (arith, e)

none_below : (p n : ℕ) → n ≤ p → count (λ i. i == p) n ≡ 0
none_below p zero h = refl
none_below p (suc n) h = none_more (n == p) (count (λ i. i == p) n) (ne_eqb n p (λ e. absurd (omega (arith, h, e)))) (none_below p n (omega (arith, h)))

count_one : (p n : ℕ) → count (λ i. i == p) n ≤ 1
count_one p zero = omega arith
count_one p (suc n) = elim (cases_eq n p) [
  | inl same ↦ one_more (n == p) (count (λ i. i == p) n) (none_below p n (omega (arith, same)))
  | inr other ↦ still_one (n == p) (count (λ i. i == p) n) (ne_eqb n p other) (count_one p n)
]

-- all outside are many
pub many_right : (f n : ℕ) (out voted : ℕ → Bool) → n ≡ 3 * f + 1 → count out n ≤ f → ((i : ℕ) → i < n → out i ≡ false → voted i ≡ true) → 2 * f + 1 ≤ count voted n
many_right f n out voted is few h =
    let more = count_below (λ i. not (out i)) voted n (λ i below t. h i below (not-true (out i) t)) in
    let total = count_all out n in
    omega (arith, is, few, more, total)

-- and so are those beside one
pub many_beside : (f n p : ℕ) (out voted : ℕ → Bool) → n ≡ 3 * f + 1 → count out n ≤ f → ((i : ℕ) → i < n → out i ≡ false → (i ≡ p → ⊥) → voted i ≡ true) → 2 * f ≤ count (λ i. not (i == p) && voted i) n
many_beside f n p out voted is few h =
    let beside = count_outside (λ i. not (out i)) (λ i. i == p) n in
    let one = count_one p n in
    let total = count_all out n in
    let more = count_below (λ i. not (out i) && not (i == p)) (λ i. not (i == p) && voted i) n (λ i below t.
    let parts = and_parts (not (out i)) (not (i == p)) t in
    and_from (not (i == p)) (voted i) parts.1 (h i below (not-true (out i) parts.0) (λ e. true≢false (sym (eq-eqb i p e) ∙ not-true (i == p) parts.1)))) in
    omega (arith, is, few, beside, one, total, more)
