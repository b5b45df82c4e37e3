-- What is gathered of the least signers has as many members, each by another signer.
use Rattle.std.proofs.Common.{◌≡◌, ℕ, zero, suc, ◌+◌, ◌<◌, ◌≤◌, Bool, true, false, ◌&&◌, cond, min, List, [], ◌∷◌, ◌++◌, length, Option, Some, None, refl, sym, ap, subst, ◌∙◌, arith, inl, inr}
use Rattle.std.specs.Prelude.{nat_lt}
use Rattle.std.specs.List.{list_any, filter_map, cons_option}
use Rattle.std.proofs.lemmas.Bool.{false≢true, ltb-true, ltb-false, cond-true}
use Rattle.pbft_model.specs.Words.{Signed}
use Rattle.pbft_model.specs.Setup.{count, numbers_from, is_least, gathered}
use Rattle.pbft_model.specs.Certificates.{is_by}
use Rattle.pbft_model.specs.Histories.{IsIn}
use Rattle.pbft_model.proofs.Calm.{any_in}
use Rattle.pbft_model.proofs.Stages.{in_numbers}

least_step : (m : ℕ) (a : Bool) (c k : ℕ) → k ≡ min m c → cond (a && nat_lt c m) 1 0 + k ≡ min m (cond a 1 0 + c)
least_step m false c k e = omega arith
least_step m true c k e = cases (nat_lt c m) refl where
  cases : (b : Bool) → nat_lt c m ≡ b → cond b 1 0 + k ≡ min m (1 + c)
  cases true t = let less = ltb-true c m t in omega arith
  cases false t = let more = ltb-false c m t in omega arith

-- the least so many, or all
pub count_least : (m : ℕ) (p : ℕ → Bool) (n : ℕ) → count (is_least m p) n ≡ min m (count p n)
count_least m p zero = omega arith
count_least m p (suc n) = least_step m (p n) (count p n) (count (is_least m p) n) (count_least m p n)

pub numbers_last : (many first : ℕ) → numbers_from first (suc many) ≡ numbers_from first many ++ (first + many) ∷ []
numbers_last zero first = λ i. zeros i ∷ [] where
  zeros : first ≡ first + 0
  zeros = omega arith
numbers_last (suc many) first =
    ap (λ (ns : List ℕ). first ∷ ns) (numbers_last many (first + 1)) ∙ (λ i. first ∷ (numbers_from (first + 1) many ++ moved i ∷ [])) where
      moved : (first + 1) + many ≡ first + suc many
      moved = omega arith

pub filter_append : {X : Type 0} (g : ℕ → Option X) (ns ms : List ℕ) → filter_map g (ns ++ ms) ≡ filter_map g ns ++ filter_map g ms
filter_append g [] ms = refl
filter_append {X} g (n ∷ ns) ms = ap (cons_option (g n)) (filter_append g ns ms) ∙ cases (g n) where
  cases : (o : Option X) → cons_option o (filter_map g ns ++ filter_map g ms) ≡ cons_option o (filter_map g ns) ++ filter_map g ms
  cases None = refl
  cases (Some x) = refl

length_more : {X : Type 0} (xs : List X) (o : Option X) (b : Bool) → (b ≡ true → (x : X) × (o ≡ Some x)) → length (xs ++ cons_option (cond b o None) []) ≡ cond b 1 0 + length xs
length_more [] o true h = let w = h refl in ap (λ (z : Option _). length (cons_option z [])) w.1
length_more [] o false h = refl
length_more (x ∷ xs) o b h = ap suc (length_more xs o b h) ∙ moved b where
  moved : (b : Bool) → suc (cond b 1 0 + length xs) ≡ cond b 1 0 + suc (length xs)
  moved true = omega arith
  moved false = omega arith

pub length_gathered : {X : Type 0} (test : ℕ → Bool) (value : ℕ → Option X) (n : ℕ) → ((i : ℕ) → test i ≡ true → (x : X) × (value i ≡ Some x)) → length (gathered test value n) ≡ count test n
length_gathered test value zero h = refl
length_gathered {X} test value (suc n) h =
    ap length (ap (filter_map g) (numbers_last n 0) ∙ filter_append g (numbers_from 0 n) ((0 + n) ∷ []) ∙ (λ i. filter_map g (numbers_from 0 n) ++ filter_map g (zeros i ∷ [])))
    ∙ length_more (gathered test value n) (value n) (test n) (h n) ∙ ap (λ (k : ℕ). cond (test n) 1 0 + k) (length_gathered test value n h) where
      g : ℕ → Option X
      g i = cond (test i) (value i) None

      zeros : 0 + n ≡ n
      zeros = omega arith

in_filter : {X : Type 0} (g : ℕ → Option X) (ns : List ℕ) (n : ℕ) (x : X) → IsIn n ns → g n ≡ Some x → IsIn x (filter_map g ns)
in_filter g [] n x h e = absurd h
in_filter {X} g (k ∷ ns) n x (inl same) e = subst (λ (o : Option X). IsIn x (cons_option o (filter_map g ns))) (sym e ∙ ap g same) (inl refl)
in_filter {X} g (k ∷ ns) n x (inr later) e = cases (g k) (in_filter g ns n x later e) where
  cases : (o : Option X) → IsIn x (filter_map g ns) → IsIn x (cons_option o (filter_map g ns))
  cases None h = h
  cases (Some y) h = inr h

pub in_gathered : {X : Type 0} (test : ℕ → Bool) (value : ℕ → Option X) (n i : ℕ) (x : X) → i < n → test i ≡ true → value i ≡ Some x → IsIn x (gathered test value n)
in_gathered {X} test value n i x below t e =
    in_filter (λ (j : ℕ). cond (test j) (value j) None) (numbers_from 0 n) i x (in_numbers n 0 i (omega arith) (omega arith)) (cond-true (test i) (value i) None t ∙ e)

count_below : (p q : ℕ → Bool) (n : ℕ) → ((i : ℕ) → i < n → p i ≡ true → q i ≡ true) → count p n ≤ count q n
count_below p q zero h = omega arith
count_below p q (suc n) h = step (p n) (q n) (h n (omega arith)) (count_below p q n (λ i below t. h i (omega arith) t)) where
  step : (a b : Bool) → (a ≡ true → b ≡ true) → count p n ≤ count q n → cond a 1 0 + count p n ≤ cond b 1 0 + count q n
  step true true k rest = omega arith
  step true false k rest = absurd (false≢true (k refl))
  step false true k rest = omega arith
  step false false k rest = omega arith

-- each signer that passed is among what was gathered
pub signers_gathered : {B : Type 0} (test : ℕ → Bool) (value : ℕ → Option (Signed B)) (say : B → Bool) (n : ℕ) → ((i : ℕ) → test i ≡ true → (m : Signed B) × (value i ≡ Some m) × (is_by i say m ≡ true))
    → (q : ℕ → Bool) → ((i : ℕ) → test i ≡ true → list_any (is_by i say) (gathered test value n) ≡ true → q i ≡ true) → count test n ≤ count q n
signers_gathered test value say n h q k =
    count_below test q n (λ i below t. let w = h i t in k i t (any_in (is_by i say) w.0 (gathered test value n) (in_gathered test value n i w.0 below t w.1) w.2))
