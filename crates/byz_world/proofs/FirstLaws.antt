-- The first members, one after another.
use Rattle.std.proofs.Common.{◌≡◌, ℕ, zero, suc, ◌+◌, ◌-◌, ◌<◌, ◌≤◌, Bool, true, false, not, cond, List, [], ◌∷◌, ◌++◌, refl, sym, ap, subst, ◌∙◌, arith}
use Rattle.std.specs.Prelude.{filter, IsSomeAnd}
use Rattle.std.specs.List.{range_with_len}
use Rattle.host_types.specs.Configuration.{Configuration, IsConfiguration, replicas_for}
use Rattle.lms_tree.specs.Keys.{IsKeyOf}
use Rattle.pbft_codec.specs.declared.signed.Role.TheVariants as roles
use Rattle.pbft_model.specs.Words.{SigningState}
use Rattle.seal.specs.Signers.{key_of}
use Rattle.replica_journal.specs.Steps.{first_with}
use Rattle.std.proofs.lemmas.List.{append_assoc}
use Rattle.byz_world.specs.Handing.{AreFrom}
use Rattle.byz_world.specs.Worlds.{AreListed, MemberFacts, correct_ids, first_members}

-- the correct ids from this one on, below n
abbrev pub ids_from : (ℕ → Bool) → ℕ → ℕ → List ℕ
ids_from faulty i n = filter (λ k. not (faulty k)) (range_with_len i (n - i))

from_here : (faulty : ℕ → Bool) (i n : ℕ) → i < n → ids_from faulty i n ≡ cond (not (faulty i)) (i ∷ ids_from faulty (i + 1) n) (ids_from faulty (i + 1) n)
from_here faulty i n below = ap (λ (k : ℕ). filter (λ (k : ℕ). not (faulty k)) (range_with_len i k)) (more i n below) where
  more : (i n : ℕ) → i < n → n - i ≡ suc (n - (i + 1))
  more i n below = omega (arith, below)

pub is_next : (faulty : ℕ → Bool) (i n : ℕ) → i < n → faulty i ≡ false → ids_from faulty i n ≡ i ∷ ids_from faulty (i + 1) n
is_next faulty i n below correct = from_here faulty i n below ∙ ap (λ (b : Bool). cond (not b) (i ∷ ids_from faulty (i + 1) n) (ids_from faulty (i + 1) n)) correct

pub passed_over : (faulty : ℕ → Bool) (i n : ℕ) → i < n → faulty i ≡ true → ids_from faulty i n ≡ ids_from faulty (i + 1) n
passed_over faulty i n below wrong = from_here faulty i n below ∙ ap (λ (b : Bool). cond (not b) (i ∷ ids_from faulty (i + 1) n) (ids_from faulty (i + 1) n)) wrong

pub none_left : (faulty : ℕ → Bool) (i n : ℕ) → n ≡ i → ids_from faulty i n ≡ []
none_left faulty i n same = ap (λ (k : ℕ). filter (λ (k : ℕ). not (faulty k)) (range_with_len i k)) (zero_left i n same) where
  zero_left : (i n : ℕ) → n ≡ i → n - i ≡ 0
  zero_left i n same = omega (arith, same)

-- ---- the loop

pub head_listed : (c : Configuration) (f : ℕ → Bool) (i n : ℕ) (rest later : List SigningState) (signer : SigningState) → i < n → f i ≡ false → rest ≡ signer ∷ later
    → AreListed c (ids_from f i n) rest → IsSomeAnd (key_of c roles.Replica i) (λ key. IsKeyOf key signer)
head_listed c f i n rest later signer below correct is listed =
    (subst (AreListed c (i ∷ ids_from f (i + 1) n)) is (subst (λ (ids : List ℕ). AreListed c ids rest) (is_next f i n below correct) listed)).0

abbrev pub first_member : Configuration → ℕ → SigningState → MemberFacts
first_member c i signer = record { replica = first_with c i signer; rows = [] }

-- What is made so far, and what is left to make.
abbrev pub IsLeft : Configuration → List ℕ → List MemberFacts → List SigningState → List MemberFacts → Type 0
IsLeft c ids ms rest all = (ms ++ first_members c ids rest ≡ all) × AreListed c ids rest

pub one_made : (c : Configuration) (f : ℕ → Bool) (i n : ℕ) (ms more all : List MemberFacts) (rest later : List SigningState) (signer : SigningState) (m : MemberFacts) → i < n → f i ≡ false
    → rest ≡ signer ∷ later → m ≡ first_member c i signer → more ≡ ms ++ m ∷ [] → IsLeft c (ids_from f i n) ms rest all → IsLeft c (ids_from f (i + 1) n) more later all
one_made c f i n ms more all rest later signer m below correct is made pushed left =
    let there = subst (λ (ids : List ℕ). IsLeft c ids ms rest all) (is_next f i n below correct) left in
    let here = subst (λ (ss : List SigningState). IsLeft c (i ∷ ids_from f (i + 1) n) ms ss all) is there in (
      ap (λ (xs : List MemberFacts). xs ++ first_members c (ids_from f (i + 1) n) later) (pushed ∙ ap (λ (x : MemberFacts). ms ++ x ∷ []) made)
          ∙ append_assoc ms (first_member c i signer ∷ []) (first_members c (ids_from f (i + 1) n) later) ∙ here.0,
      here.1.1,
    )

pub one_passed : (c : Configuration) (f : ℕ → Bool) (i n : ℕ) (ms same all : List MemberFacts) (rest later : List SigningState) → i < n → f i ≡ true → same ≡ ms → later ≡ rest
    → IsLeft c (ids_from f i n) ms rest all → IsLeft c (ids_from f (i + 1) n) same later all
one_passed c f i n ms same all rest later below wrong kept is left =
    subst (λ (xs : List MemberFacts). IsLeft c (ids_from f (i + 1) n) xs later all) (sym kept)
    (subst (λ (ss : List SigningState). IsLeft c (ids_from f (i + 1) n) ms ss all) (sym is) (subst (λ (ids : List ℕ). IsLeft c ids ms rest all) (passed_over f i n below wrong) left))

-- ---- what they are

first_are : (c : Configuration) (p : ℕ → Bool) (a n low : ℕ) (signers : List SigningState) → low ≤ a → AreFrom c low (first_members c (filter p (range_with_len a n)) signers)
first_are c p a zero low signers le = tt
first_are c p a (suc n) low signers le = either (p a) signers (λ ss. first_are c p (a + 1) n (a + 1) ss (omega arith)) (λ ss. first_are c p (a + 1) n low ss (omega (arith, le))) where
  either : (b : Bool) (ss : List SigningState) → ((xs : List SigningState) → AreFrom c (a + 1) (first_members c (filter p (range_with_len (a + 1) n)) xs))
      → ((xs : List SigningState) → AreFrom c low (first_members c (filter p (range_with_len (a + 1) n)) xs))
      → AreFrom c low (first_members c (cond b (a ∷ filter p (range_with_len (a + 1) n)) (filter p (range_with_len (a + 1) n))) ss)
  either true [] more same = tt
  either true (s ∷ ss) more same = (le, refl, more ss)
  either false ss more same = same ss

pub begins_well : (c d e : Configuration) (f : ℕ → Bool) (signers : List SigningState) (ms : List MemberFacts) → d ≡ c → e ≡ c → IsConfiguration e
    → ms ≡ first_members c (correct_ids c f) signers → IsConfiguration d × AreFrom d 0 ms
begins_well c d e f signers ms same read legal is = (
  subst IsConfiguration (read ∙ sym same) legal,
  subst (λ (x : Configuration). AreFrom x 0 ms) (sym same) (subst (AreFrom c 0) (sym is) (first_are c (λ (k : ℕ). not (f k)) 0 (replicas_for c.f) 0 signers (omega arith))),
)
