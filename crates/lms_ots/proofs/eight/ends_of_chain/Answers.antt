use Rattle.std.proofs.Common.{◌≡◌, ◌+◌, ◌≤◌, ◌^◌, ◌∙◌, ◌∷◌, ℕ, ap, arith, slice_index}
use Rattle.sha_lanes.specs.Lanes.{hash_in}
use Rattle.lms_ots.specs.Ots.{chain, chain_start, tagged_hash}
use Rattle.lms_ots.specs.Words.{bytes_of}
use Rattle.lms_ots.proofs.LaneLemmas.{same, same_in_each}
use Rattle.lms_ots.proofs.eight.ends_of_chain.Goals as goal

pub run_lanes-requires-clause-steps : goal.run_lanes-requires-clause-steps
run_lanes-requires-clause-steps c j lt = omega (arith, same_in_each 0 j lt, same_in_each 15 j lt)

pub returns : goal.returns
returns c l lt =
    let a = c.args in
    let id = a.id.now in
    let q = slice_index a.leaves l in
    let i = a.i in
    let number : slice_index (same i) l ≡ i = same_in_each i l lt in
    let start : bytes_of (hash_in c.step_lanes-values.result l) ≡ chain_start id q (bytes_of a.secret.now) i =
    c.step_lanes-values.ensures l lt
    ∙ (ap (λ n. tagged_hash id q n (slice_index (same 255) l ∷ bytes_of (hash_in c.in_each.result l))) number
    ∙ (ap (λ n. tagged_hash id q i (n ∷ bytes_of (hash_in c.in_each.result l))) (same_in_each 255 l lt)
    ∙ ap (λ v. tagged_hash id q i (255 ∷ v)) (c.in_each.ensures l lt))) in
    ap bytes_of (c.one_by_one.ensures l lt)
    ∙ (c.run_lanes.ensures l lt
    ∙ (ap (λ n. chain id q n (slice_index (same 0) l) (slice_index (same 15) l) (bytes_of (hash_in c.step_lanes-values.result l))) number
    ∙ (ap (λ n. chain id q i n (slice_index (same 15) l) (bytes_of (hash_in c.step_lanes-values.result l))) (same_in_each 0 l lt)
    ∙ (ap (λ n. chain id q i 0 n (bytes_of (hash_in c.step_lanes-values.result l))) (same_in_each 15 l lt)
    ∙ ap (λ v. chain id q i 0 15 v) start))))
