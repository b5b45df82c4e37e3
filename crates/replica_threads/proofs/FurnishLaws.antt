-- The signers of listed keys.
use Rattle.std.proofs.Common.{◌≡◌, ℕ, zero, suc, ◌+◌, List, [], ◌∷◌, drop, Option, Some, ap, subst, sym, ◌∙◌, add-one}
use Rattle.std.specs.Prelude.{IsSomeAnd, slice_get}
use Rattle.host_types.specs.declared.key.PublicKey.{PublicKey}
use Rattle.lms_tree.specs.Keys.{IsKeyOf}
use Rattle.lms_tree.specs.SigningState.{SigningState}
use Rattle.replica_threads.specs.Hosts.{HasKeyAt}

-- the signer at an index
pub signer_at : (signers : List SigningState) (id : ℕ) (signer : SigningState) (rest : List SigningState) → drop id signers ≡ signer ∷ rest
    → (slice_get signers id ≡ Some signer) × (drop (id + 1) signers ≡ rest)
signer_at [] zero signer rest is = absurd (nothing is) where
  nothing : [] ≡ signer ∷ rest → ⊥
  nothing e = cc
signer_at [] (suc id) signer rest is = absurd (nothing is) where
  nothing : [] ≡ signer ∷ rest → ⊥
  nothing e = cc
signer_at (s ∷ signers) zero signer rest is = (ap (λ (xs : List SigningState). slice_get xs 0) is, ap (λ (xs : List SigningState). drop 1 xs) is)
signer_at (s ∷ signers) (suc id) signer rest is =
    let later = signer_at signers id signer rest is in
    (later.0, ap (λ n. drop n (s ∷ signers)) (add-one (suc id)) ∙ ap (λ n. drop n signers) (sym (add-one id)) ∙ later.1)

pub key_at : (keys : List PublicKey) (signers : List SigningState) (id : ℕ) (signer : SigningState) → slice_get signers id ≡ Some signer → HasKeyAt keys signers id
    → IsSomeAnd (slice_get keys id) (λ key. IsKeyOf key signer)
key_at keys signers id signer at has =
    subst (λ (o : Option SigningState). IsSomeAnd (slice_get keys id) (λ key. IsSomeAnd o (λ s. IsKeyOf key s))) at has
