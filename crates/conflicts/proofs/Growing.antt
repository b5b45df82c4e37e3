-- Pairs that grow by the conflicts of one message with those before it, and then by those of the next.
use Rattle.std.proofs.Common.{◌≡◌, ◌⊎◌, ◌<◌, ◌≤◌, ◌+◌, ◌↔◌, ℕ, zero, suc, List, [], ◌∷◌, ◌++◌, length, refl, sym, ap, subst, arith, inl, inr}
use Rattle.std.specs.List.{Contains}
use Rattle.std.proofs.Math.Nat.{eq-or-lt_of_le}
use Rattle.std.proofs.lemmas.List.Elements.{Contains-append_left, Contains-append_right, Contains-append_cases}
use Rattle.std.proofs.lemmas.Option.{slice_get_within}
use Rattle.seal.specs.Opening.{CheckedMessage}
use Rattle.conflicts.specs.Claims.{IsConflict}
use Rattle.conflicts.specs.Gathering.{Grows, HasBelow}

one_has : {X : Type 0} → (x y : X) → Contains (x ∷ []) y → x ≡ y
one_has x y (zero, below, is) = is
one_has x y (suc k, below, is) = absurd (omega (arith, below))

one_is : {X : Type 0} → (x : X) → Contains (x ∷ []) x
one_is x = (0, omega arith, refl)

-- a number below the next one is the one, or below it
up_to : (i n : ℕ) → i < n + 1 → (i ≡ n) ⊎ (i < n)
up_to i n h = eq-or-lt_of_le (omega (arith, h))

pub none_yet : (ms : List CheckedMessage) (j : ℕ) (old : List (ℕ × ℕ)) → Grows ms j 0 old old
none_yet ms j old i k = (
  (λ has. inl has),
  (λ either. elim either [ inl has ↦ has | inr new ↦ absurd (omega (arith, new.1)) ]),
)

-- The pairs behind a conflict.
pub one_more : (ms : List CheckedMessage) (j n : ℕ) (old new : List (ℕ × ℕ)) → Grows ms j n old new → IsConflict ms n j → Grows ms j (n + 1) old (new ++ (n, j) ∷ [])
one_more ms j n old new grows is i k = (to, from)
  where
    last_is : ◌≡◌ {A = ℕ × ℕ} (n, j) (i, k) → (k ≡ j) × (i < n + 1) × IsConflict ms i k
    last_is e =
        let below : i ≡ n = sym (ap (λ (p : ℕ × ℕ). p.0) e) in
        (sym (ap (λ (p : ℕ × ℕ). p.1) e), omega (arith, below), subst (λ (p : ℕ × ℕ). IsConflict ms p.0 p.1) e is)

    to : Contains (new ++ (n, j) ∷ []) (i, k) → Contains old (i, k) ⊎ ((k ≡ j) × (i < n + 1) × IsConflict ms i k)
    to has = elim (Contains-append_cases new ((n, j) ∷ []) (i, k) has) [
      | inl before ↦ elim ((grows i k).0 before) [ inl o ↦ inl o | inr c ↦ inr (c.0, omega (arith, c.1), c.2) ]
      | inr last ↦ inr (last_is (one_has (n, j) (i, k) last))
    ]

    at_last : i ≡ n → k ≡ j → Contains (new ++ (n, j) ∷ []) (i, k)
    at_last first second = Contains-append_right new ((n, j) ∷ []) (i, k)
        (subst (λ (a : ℕ). Contains {X = ℕ × ℕ} ((n, j) ∷ []) (a, k)) (sym first) (subst (λ (b : ℕ). Contains {X = ℕ × ℕ} ((n, j) ∷ []) (n, b)) (sym second) (one_is (n, j))))

    from : Contains old (i, k) ⊎ ((k ≡ j) × (i < n + 1) × IsConflict ms i k) → Contains (new ++ (n, j) ∷ []) (i, k)
    from either = elim either [
      | inl o ↦ Contains-append_left new ((n, j) ∷ []) (i, k) ((grows i k).1 (inl o))
      | inr c ↦ elim (up_to i n c.1) [
        | inl same ↦ at_last same c.0
        | inr below ↦ Contains-append_left new ((n, j) ∷ []) (i, k) ((grows i k).1 (inr (c.0, below, c.2)))
      ]
    ]

-- No conflict: the pairs stay.
pub no_more : (ms : List CheckedMessage) (j n : ℕ) (old new : List (ℕ × ℕ)) → Grows ms j n old new → (IsConflict ms n j → ⊥) → Grows ms j (n + 1) old new
no_more ms j n old new grows is_not i k = (to, from)
  where
    to : Contains new (i, k) → Contains old (i, k) ⊎ ((k ≡ j) × (i < n + 1) × IsConflict ms i k)
    to has = elim ((grows i k).0 has) [ inl o ↦ inl o | inr c ↦ inr (c.0, omega (arith, c.1), c.2) ]

    no : i ≡ n → k ≡ j → IsConflict ms i k → ⊥
    no first second c = is_not (subst (λ (a : ℕ). IsConflict ms a j) first (subst (λ (b : ℕ). IsConflict ms i b) second c))

    from : Contains old (i, k) ⊎ ((k ≡ j) × (i < n + 1) × IsConflict ms i k) → Contains new (i, k)
    from either = elim either [
      | inl o ↦ (grows i k).1 (inl o)
      | inr c ↦ elim (up_to i n c.1) [ inl same ↦ absurd (no same c.0 c.2) | inr below ↦ (grows i k).1 (inr (c.0, below, c.2)) ]
    ]

-- ---- one message after another

pub none_below : (ms : List CheckedMessage) → HasBelow ms 0 []
none_below ms i k = ((λ has. absurd (empty has)), (λ c. absurd (omega (arith, c.0))))
  where
    empty : Contains {X = ℕ × ℕ} [] (i, k) → ⊥
    empty has = omega (arith, has.1)

pub next_below : (ms : List CheckedMessage) (n : ℕ) (old new : List (ℕ × ℕ)) → HasBelow ms n old → Grows ms n n old new → HasBelow ms (n + 1) new
next_below ms n old new below grows i k = (to, from)
  where
    to : Contains new (i, k) → (k < n + 1) × IsConflict ms i k
    to has = elim ((grows i k).0 has) [
      | inl o ↦ let c = (below i k).0 o in (omega (arith, c.0), c.1)
      | inr c ↦ (omega (arith, c.0), c.2)
    ]

    from : (k < n + 1) × IsConflict ms i k → Contains new (i, k)
    from c = elim (up_to k n c.0) [
      | inl same ↦ (grows i k).1 (inr (same, subst (λ (b : ℕ). i < b) same c.1.earlier, c.1))
      | inr less ↦ (grows i k).1 (inl ((below i k).1 (less, c.1)))
    ]

pub all_below : (ms : List CheckedMessage) (n : ℕ) (pairs : List (ℕ × ℕ)) → length ms ≤ n → HasBelow ms n pairs → (i k : ℕ) → Contains pairs (i, k) ↔ IsConflict ms i k
all_below ms n pairs all below i k = ((λ has. ((below i k).0 has).1), from)
  where
    from : IsConflict ms i k → Contains pairs (i, k)
    from c =
        let within = slice_get_within ms k c.second c.second_is in
        (below i k).1 (omega (arith, within, all), c)
