-- The signers of a script have the keys that are listed.
use Rattle.std.proofs.Common.{◌≡◌, ℕ, suc, ◌+◌, Bool, true, false, not, cond, List, [], ◌∷◌, length, map, Option, Some, refl, sym, ap, subst, ◌∙◌, arith, if◌then◌else◌}
use Rattle.std.specs.Prelude.{IsSomeAnd, filter, slice_get}
use Rattle.std.proofs.lemmas.List.{length-map}
use Rattle.std.specs.List.{range_with_len}
use Rattle.host_types.specs.Configuration.{Configuration, IsConfiguration, replicas_for}
use Rattle.host_types.specs.declared.key.PublicKey.{PublicKey}
use Rattle.lms_tree.specs.Keys.{IsKeyOf}
use Rattle.lms_tree.specs.SigningState.{SigningState}
use Rattle.drained_records.specs.Worlds.{AreListed, correct_ids}
use Rattle.world_script.specs.Keys.{correct_from}
use Rattle.world_queue.specs.Parties.{key_of}

-- ---- correct replicas

-- the ids of correct ones among so many from i on
abbrev ids_from : (ℕ → Bool) → ℕ → ℕ → List ℕ
ids_from faulty i n = filter (λ k. not (faulty k)) (range_with_len i n)

-- From replica i on, the keys are those of these signers.
abbrev Holds : Configuration → ℕ → List SigningState → Type 0
Holds c i ss = (j : ℕ) → slice_get c.keys (i + j) ≡ slice_get (map key_of ss) j

some_key : (o : Option PublicKey) (s : SigningState) → o ≡ Some (key_of s) → IsSomeAnd o (λ key. IsKeyOf key s)
some_key o s e = subst (λ (o : Option PublicKey). IsSomeAnd o (λ key. IsKeyOf key s)) (sym e) refl

behind : (c : Configuration) (i : ℕ) (s : SigningState) (ss : List SigningState) → Holds c i (s ∷ ss) → Holds c (i + 1) ss
behind c i s ss h j = ap (λ (k : ℕ). slice_get c.keys k) (moved i j) ∙ h (suc j) where
  moved : (i j : ℕ) → i + 1 + j ≡ i + suc j
  moved i j = omega arith

at_first : (c : Configuration) (i : ℕ) (s : SigningState) (ss : List SigningState) → Holds c i (s ∷ ss) → slice_get c.keys i ≡ Some (key_of s)
at_first c i s ss h = ap (λ (k : ℕ). slice_get c.keys k) (same i) ∙ h 0 where
  same : (i : ℕ) → i ≡ i + 0
  same i = omega arith

listed_if : (c : Configuration) (faulty : ℕ → Bool) (i : ℕ) (s : SigningState) (ss : List SigningState) (b : Bool) → slice_get c.keys i ≡ Some (key_of s)
    → AreListed c (ids_from faulty (i + 1) (length ss)) (correct_from faulty (i + 1) ss)
    → AreListed c (cond (not b) (i ∷ ids_from faulty (i + 1) (length ss)) (ids_from faulty (i + 1) (length ss))) (if b then correct_from faulty (i + 1) ss else s ∷ correct_from faulty (i + 1) ss)
listed_if c faulty i s ss true key rest = rest
listed_if c faulty i s ss false key rest = (some_key (slice_get c.keys i) s key, rest)

listed_from : (c : Configuration) (faulty : ℕ → Bool) (i : ℕ) (ss : List SigningState) → Holds c i ss → AreListed c (ids_from faulty i (length ss)) (correct_from faulty i ss)
listed_from c faulty i [] h = tt
listed_from c faulty i (s ∷ ss) h =
    listed_if c faulty i s ss (faulty i) (at_first c i s ss h) (listed_from c faulty (i + 1) ss (behind c i s ss h))

many_if : (faulty : ℕ → Bool) (i : ℕ) (s : SigningState) (ss : List SigningState) (b : Bool) → length (correct_from faulty (i + 1) ss) ≡ length (ids_from faulty (i + 1) (length ss))
    → length (if b then correct_from faulty (i + 1) ss else s ∷ correct_from faulty (i + 1) ss) ≡ length (cond (not b) (i ∷ ids_from faulty (i + 1) (length ss)) (ids_from faulty (i + 1) (length ss)))
many_if faulty i s ss true rest = rest
many_if faulty i s ss false rest = ap suc rest

many_from : (faulty : ℕ → Bool) (i : ℕ) (ss : List SigningState) → length (correct_from faulty i ss) ≡ length (ids_from faulty i (length ss))
many_from faulty i [] = refl
many_from faulty i (s ∷ ss) = many_if faulty i s ss (faulty i) (many_from faulty (i + 1) ss)

pub are_many : (c : Configuration) (faulty : ℕ → Bool) (ss correct : List SigningState) → length ss ≡ replicas_for c.f → correct ≡ correct_from faulty 0 ss
    → length correct ≡ length (correct_ids c faulty)
are_many c faulty ss correct long is =
    ap length is ∙ many_from faulty 0 ss ∙ ap (λ (n : ℕ). length (ids_from faulty 0 n)) long

pub are_listed : (c : Configuration) (faulty : ℕ → Bool) (ss correct : List SigningState) → length ss ≡ replicas_for c.f → c.keys ≡ map key_of ss → correct ≡ correct_from faulty 0 ss
    → AreListed c (correct_ids c faulty) correct
are_listed c faulty ss correct long keys is =
    subst (λ (n : ℕ). AreListed c (ids_from faulty 0 n) correct) long
    (subst (λ (xs : List SigningState). AreListed c (ids_from faulty 0 (length ss)) xs) (sym is)
    (listed_from c faulty 0 ss (from_first c ss keys))) where
      from_first : (c : Configuration) (ss : List SigningState) → c.keys ≡ map key_of ss → Holds c 0 ss
      from_first c ss keys j = ap (λ (k : ℕ). slice_get c.keys k) (same j) ∙ ap (λ (ks : List PublicKey). slice_get ks j) keys where
        same : (j : ℕ) → 0 + j ≡ j
        same j = omega arith

-- ---- a world

pub one_each : (c : Configuration) (ss : List SigningState) → IsConfiguration c → c.keys ≡ map key_of ss → length ss ≡ replicas_for c.f
one_each c ss legal keys = sym (length-map ss key_of) ∙ ap length (sym keys) ∙ legal.a_key_each
