-- One signer for each correct replica from an id on.
use Rattle.std.proofs.Common.{◌≡◌, ℕ, suc, ◌+◌, ◌-◌, ◌<◌, Bool, true, false, not, cond, List, [], ◌∷◌, refl, sym, ap, subst, ◌∙◌, arith}
use Rattle.std.specs.Prelude.{filter, length, IsSomeAnd}
use Rattle.std.specs.List.{range_with_len}
use Rattle.host_types.specs.Configuration.{Configuration}
use Rattle.lms_tree.specs.Keys.{IsKeyOf}
use Rattle.lms_tree.specs.SigningState.{SigningState}
use Rattle.pbft_codec.specs.declared.signed.Role.TheVariants as roles
use Rattle.seal.specs.Signers.{key_of}
use Rattle.drained_records.specs.Worlds.{AreListed}

-- the correct ids from this one on, below n
abbrev pub ids_from : (ℕ → Bool) → ℕ → ℕ → List ℕ
ids_from faulty i n = filter (λ k. not (faulty k)) (range_with_len i (n - i))

from_here : (faulty : ℕ → Bool) (i n : ℕ) → i < n → ids_from faulty i n ≡ cond (not (faulty i)) (i ∷ ids_from faulty (i + 1) n) (ids_from faulty (i + 1) n)
from_here faulty i n below = ap (λ (k : ℕ). filter (λ (k : ℕ). not (faulty k)) (range_with_len i k)) (more i n below) where
  more : (i n : ℕ) → i < n → n - i ≡ suc (n - (i + 1))
  more i n below = omega (arith, below)

is_next : (faulty : ℕ → Bool) (i n : ℕ) → i < n → faulty i ≡ false → ids_from faulty i n ≡ i ∷ ids_from faulty (i + 1) n
is_next faulty i n below correct = from_here faulty i n below ∙ ap (λ (b : Bool). cond (not b) (i ∷ ids_from faulty (i + 1) n) (ids_from faulty (i + 1) n)) correct

passed_over : (faulty : ℕ → Bool) (i n : ℕ) → i < n → faulty i ≡ true → ids_from faulty i n ≡ ids_from faulty (i + 1) n
passed_over faulty i n below wrong = from_here faulty i n below ∙ ap (λ (b : Bool). cond (not b) (i ∷ ids_from faulty (i + 1) n) (ids_from faulty (i + 1) n)) wrong

-- one signer for each of these ids, with the key that is listed
pub record AreFor (c : Configuration) (ids : List ℕ) (signers : List SigningState) : Type 0 where
  pub many : length signers ≡ length ids
  pub keys : AreListed c ids signers

pub one_more : (c : Configuration) (f : ℕ → Bool) (i n : ℕ) (rest later : List SigningState) (signer : SigningState) → i < n → f i ≡ false → rest ≡ signer ∷ later
    → IsSomeAnd (key_of c roles.Replica i) (λ key. IsKeyOf key signer) → AreFor c (ids_from f (i + 1) n) later → AreFor c (ids_from f i n) rest
one_more c f i n rest later signer below correct is key left =
    subst (λ (ids : List ℕ). AreFor c ids rest) (sym (is_next f i n below correct))
    (subst (AreFor c (i ∷ ids_from f (i + 1) n)) (sym is) (record { many = ap suc left.many; keys = (key, left.keys) }))

pub one_passed : (c : Configuration) (f : ℕ → Bool) (i n : ℕ) (rest : List SigningState) → i < n → f i ≡ true → AreFor c (ids_from f (i + 1) n) rest → AreFor c (ids_from f i n) rest
one_passed c f i n rest below wrong left = subst (λ (ids : List ℕ). AreFor c ids rest) (sym (passed_over f i n below wrong)) left

pub at_the_end : (c : Configuration) (f : ℕ → Bool) (i n : ℕ) (rest : List SigningState) → n ≡ i → rest ≡ [] → AreFor c (ids_from f i n) rest
at_the_end c f i n rest same none =
    subst (AreFor c (ids_from f i n)) (sym none) (subst (λ (k : ℕ). AreFor c (filter (λ (k : ℕ). not (f k)) (range_with_len i k)) []) (sym (zero_left i n same)) (record { many = refl; keys = tt })) where
      zero_left : (i n : ℕ) → n ≡ i → n - i ≡ 0
      zero_left i n same = omega (arith, same)
