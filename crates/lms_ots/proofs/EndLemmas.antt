-- What the chains of a leaf end with.
use Rattle.std.proofs.Common.{◌≡◌, ℕ, ◌<◌, List, [], ◌∷◌, slice_index, slice_index_or, replicate, refl, ◌∙◌, ap, arith}
use Rattle.std.proofs.lemmas.List.{get_or-replicate}
use Rattle.lms_ots.specs.Ots.{chain, tagged_hash}
use Rattle.lms_ots.specs.Words.{bytes_of, end_of}

-- the end of a chain, by its parts
pub end_is : (id : List ℕ) (leaf : ℕ) (froms counts : List ℕ) (starts : List (List ℕ)) (i f n : ℕ) (v : List ℕ)
    → slice_index froms i ≡ f → slice_index counts i ≡ n → bytes_of (slice_index_or starts i []) ≡ v
    → end_of id leaf froms counts starts i ≡ chain id leaf i f n v
end_is id leaf froms counts starts i f n v from count start = rw (from, count, start) refl

pub one_step : (id : List ℕ) (leaf i j : ℕ) (v : List ℕ) → chain id leaf i j 1 v ≡ tagged_hash id leaf i (j ∷ v)
unfolding chain
one_step id leaf i j v = ap (λ k. tagged_hash id leaf i (k ∷ v)) (omega arith)

-- a number that each chain has
pub in_each : (n i : ℕ) → i < 67 → slice_index (replicate 67 n) i ≡ n
in_each n i lt = get_or-replicate 67 i n 0 lt
