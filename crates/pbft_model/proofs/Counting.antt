-- Counting replicas: two quorums share a correct one.
use Rattle.std.proofs.Common.{◌≡◌, ℕ, zero, suc, ◌+◌, ◌*◌, ◌<◌, ◌≤◌, Bool, true, false, ◌&&◌, cond, refl, sym, subst, arith, inl, inr}
use Rattle.std.specs.Prelude.{not, ◌==◌}
use Rattle.std.proofs.lemmas.Bool.{eq-eqb, ne_eqb, cases_eq, and_parts}
use Rattle.pbft_model.specs.Setup.{count}

meet_step : (a b : Bool) (x y z n : ℕ) → x + y ≤ n + z → (cond a 1 0 + x) + (cond b 1 0 + y) ≤ suc n + (cond (a && b) 1 0 + z)
meet_step true true x y z n h = omega arith
meet_step true false x y z n h = omega arith
meet_step false true x y z n h = omega arith
meet_step false false x y z n h = omega arith

pub count_meet : (p q : ℕ → Bool) (n : ℕ) → count p n + count q n ≤ n + count (λ i. p i && q i) n
count_meet p q zero = omega arith
count_meet p q (suc n) = meet_step (p n) (q n) _ _ _ n (count_meet p q n)

-- a number in the greater count alone
pub found_outside : (r out : ℕ → Bool) (n : ℕ) → count out n < count r n → (i : ℕ) × (i < n) × (r i ≡ true) × (out i ≡ false)
found_outside r out zero h = absurd (omega arith)
found_outside r out (suc n) h = outside_step n (r n) (out n) refl refl h (found_outside r out n) where
  outside_step : (n : ℕ) (a b : Bool) → r n ≡ a → out n ≡ b → cond (out n) 1 0 + count out n < cond (r n) 1 0 + count r n
      → (count out n < count r n → (i : ℕ) × (i < n) × (r i ≡ true) × (out i ≡ false)) → (i : ℕ) × (i < suc n) × (r i ≡ true) × (out i ≡ false)
  outside_step n a b e f h rest = split a b e f (subst (λ (x : Bool). cond x 1 0 + count out n < cond a 1 0 + count r n) f (subst (λ (x : Bool). cond (out n) 1 0 + count out n < cond x 1 0 + count r n) e h)) where
    later : (count out n < count r n) → (i : ℕ) × (i < suc n) × (r i ≡ true) × (out i ≡ false)
    later less = let w = rest less in let below : w.0 < n = w.1 in (w.0, omega arith, w.2, w.3)

    split : (a b : Bool) → r n ≡ a → out n ≡ b → cond b 1 0 + count out n < cond a 1 0 + count r n → (i : ℕ) × (i < suc n) × (r i ≡ true) × (out i ≡ false)
    split true false e f h = (n, omega arith, e, f)
    split true true e f h = later (omega arith)
    split false true e f h = later (omega arith)
    split false false e f h = later (omega arith)

-- two sets of 2f + 1 of 3f + 1 share one outside any f
pub quorums_meet : (f n : ℕ) (p q out : ℕ → Bool) → n ≡ 3 * f + 1 → 2 * f + 1 ≤ count p n → 2 * f + 1 ≤ count q n → count out n ≤ f
    → (i : ℕ) × (i < n) × (p i ≡ true) × (q i ≡ true) × (out i ≡ false)
quorums_meet f n p q out is hp hq few =
    let meets = count_meet p q n in
    let more : count out n < count (λ i. p i && q i) n = omega arith in
    let w = found_outside (λ i. p i && q i) out n more in
    let both = and_parts (p w.0) (q w.0) w.2 in
    (w.0, w.1, both.0, both.1, w.3)

-- a set of 2f + 1 has a member outside any f
pub quorum_has : (f n : ℕ) (p out : ℕ → Bool) → 2 * f + 1 ≤ count p n → count out n ≤ f → (i : ℕ) × (i < n) × (p i ≡ true) × (out i ≡ false)
quorum_has f n p out hp few = found_outside p out n (omega arith)

single_step : (e a q : Bool) (x y : ℕ) → x ≤ y → cond (not e && q) 1 0 + x ≤ cond (cond e a q) 1 0 + y
single_step true true q x y h = omega arith
single_step true false q x y h = omega arith
single_step false a true x y h = omega arith
single_step false a false x y h = omega arith

count_beside : (p : ℕ) (a : Bool) (q : ℕ → Bool) (n : ℕ) → count (λ i. not (i == p) && q i) n ≤ count (λ i. cond (i == p) a (q i)) n
count_beside p a q zero = omega arith
count_beside p a q (suc n) = single_step (n == p) a (q n) _ _ (count_beside p a q n)

-- one voter and those beside it
pub count_with : (p : ℕ) (a : Bool) (q : ℕ → Bool) (n : ℕ) → a ≡ true → p < n → 1 + count (λ i. not (i == p) && q i) n ≤ count (λ i. cond (i == p) a (q i)) n
count_with p a q zero e h = absurd (omega arith)
count_with p a q (suc n) e h = elim (cases_eq n p) [ inl same ↦ at_it (eq-eqb n p same) | inr other ↦ past (ne_eqb n p other) (count_with p a q n e (not_it other)) ] where
  not_it : (n ≡ p → ⊥) → p < n
  not_it other = elim (cases_eq n p) [ inl same ↦ absurd (other same) | inr _ ↦ omega arith ]

  at_it : (n == p) ≡ true → 1 + (cond (not (n == p) && q n) 1 0 + count (λ i. not (i == p) && q i) n) ≤ cond (cond (n == p) a (q n)) 1 0 + count (λ i. cond (i == p) a (q i)) n
  at_it t =
      let rest = count_beside p a q n in
      let P : Bool → Type 0 = λ b. 1 + (cond (not b && q n) 1 0 + count (λ i. not (i == p) && q i) n) ≤ cond (cond b a (q n)) 1 0 + count (λ i. cond (i == p) a (q i)) n in
      let Q : Bool → Type 0 = λ b. 1 + (0 + count (λ i. not (i == p) && q i) n) ≤ cond b 1 0 + count (λ i. cond (i == p) a (q i)) n in
      let here : Q true = omega arith in
      subst P (sym t) (subst Q (sym e) here)

  past : (n == p) ≡ false → (1 + count (λ i. not (i == p) && q i) n ≤ count (λ i. cond (i == p) a (q i)) n) → 1 + (cond (not (n == p) && q n) 1 0 + count (λ i. not (i == p) && q i) n) ≤ cond (cond (n == p) a (q n)) 1 0 + count (λ i. cond (i == p) a (q i)) n
  past t rest =
      let P : Bool → Type 0 = λ b. 1 + (cond (not b && q n) 1 0 + count (λ i. not (i == p) && q i) n) ≤ cond (cond b a (q n)) 1 0 + count (λ i. cond (i == p) a (q i)) n in
      let here : P false = plain (q n) _ _ rest in
      subst P (sym t) here where
        plain : (b : Bool) (x y : ℕ) → 1 + x ≤ y → 1 + (cond b 1 0 + x) ≤ cond b 1 0 + y
        plain true x y h = omega arith
        plain false x y h = omega arith
