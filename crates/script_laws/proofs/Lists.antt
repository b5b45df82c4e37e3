-- Lists that split at one that passes, and lists that are mapped to the same.
use Rattle.std.proofs.Common.{◌≡◌, ℕ, suc, Bool, true, false, cond, List, [], ◌∷◌, ◌++◌, find, length, map, Some, None, refl, sym, ap, ◌∙◌, arith}
use Rattle.std.specs.Prelude.{filter, flat_map, is_some}
use Rattle.std.proofs.lemmas.Bool.{false≢true}

pub same_head : {A : Type 0} {x y : A} {xs ys : List A} → x ∷ xs ≡ y ∷ ys → x ≡ y
same_head h = cc h

pub same_tail : {A : Type 0} {x y : A} {xs ys : List A} → x ∷ xs ≡ y ∷ ys → xs ≡ ys
same_tail h = cc h

pub nil_cons : {A : Type 0} {x : A} {xs : List A} → [] ≡ x ∷ xs → ⊥
nil_cons h = cc h

-- ---- a list that splits at one that passes

module _ {A : Type 0} (p : A → Bool) where
  -- how many pass, of one and of others
  abbrev counted : Bool → ℕ → ℕ
  counted true n = suc n
  counted false n = n

  abbrev count : List A → ℕ
  count xs = length (filter p xs)

  count_cons : (x : A) (xs : List A) → count (x ∷ xs) ≡ counted (p x) (count xs)
  count_cons x xs = by (p x) where
    by : (b : Bool) → length (cond b (x ∷ filter p xs) (filter p xs)) ≡ counted b (length (filter p xs))
    by true = refl
    by false = refl

  counted_true : (b : Bool) (n : ℕ) → b ≡ true → counted b n ≡ suc n
  counted_true true n is = refl
  counted_true false n is = absurd (false≢true is)

  uncounted : (b : Bool) (m n : ℕ) → counted b m ≡ counted b n → m ≡ n
  uncounted true m n same = omega (arith, same)
  uncounted false m n same = same

  -- where it stands behind as many that pass, it is the same, and so are the others
  pub one_split : (us bs cs ds : List A) (x y : A) → us ++ x ∷ cs ≡ bs ++ y ∷ ds → p x ≡ true → p y ≡ true → length (filter p us) ≡ length (filter p bs)
      → (us ++ cs ≡ bs ++ ds) × (x ≡ y)
  one_split [] [] cs ds x y same px py many = (same_tail same, same_head same)
  one_split [] (b ∷ bs) cs ds x y same px py many =
      let first : p b ≡ true = ap p (sym (same_head same)) ∙ px in
      let more = count_cons b bs ∙ counted_true (p b) (count bs) first in
      absurd (omega (arith, many, more))
  one_split (a ∷ us) [] cs ds x y same px py many =
      let first : p a ≡ true = ap p (same_head same) ∙ py in
      let more = count_cons a us ∙ counted_true (p a) (count us) first in
      absurd (omega (arith, many, more))
  one_split (a ∷ us) (b ∷ bs) cs ds x y same px py many =
      let first : a ≡ b = same_head same in
      let counts : counted (p b) (count us) ≡ counted (p b) (count bs) = ap (λ (z : A). counted (p z) (count us)) (sym first) ∙ sym (count_cons a us) ∙ many ∙ count_cons b bs in
      let rest = one_split us bs cs ds x y (same_tail same) px py (uncounted (p b) (count us) (count bs) counts) in
      ((λ i. first i ∷ rest.0 i), rest.1)

  -- one that passes is found
  pub passing_found : (us cs : List A) (x : A) → p x ≡ true → find p (us ++ x ∷ cs) ≡ None → ⊥
  passing_found [] cs x px none = by (p x) px none where
    by : (b : Bool) → b ≡ true → cond b (Some x) (find p cs) ≡ None → ⊥
    by true is none = false≢true (sym (ap is_some none))
    by false is none = false≢true is
  passing_found (a ∷ us) cs x px none = by (p a) none (λ later. passing_found us cs x px later) where
    by : (b : Bool) → cond b (Some a) (find p (us ++ x ∷ cs)) ≡ None → (find p (us ++ x ∷ cs) ≡ None → ⊥) → ⊥
    by true none later = false≢true (sym (ap is_some none))
    by false none later = later none

-- ---- lists that are mapped to the same

-- what depends on what an element is mapped to alone is the same of both
pub flat_alike : {A B C : Type 0} (f : A → B) (g : A → List C) (h : B → List C) → ((a : A) → g a ≡ h (f a)) → (xs ys : List A) → map f xs ≡ map f ys
    → flat_map g xs ≡ flat_map g ys
flat_alike {A = A} f g h is xs ys same = flat xs ∙ ap (flat_map h) same ∙ sym (flat ys) where
  flat : (zs : List A) → flat_map g zs ≡ flat_map h (map f zs)
  flat [] = refl
  flat (z ∷ zs) = let first = is z in let rest = flat zs in λ i. first i ++ rest i
