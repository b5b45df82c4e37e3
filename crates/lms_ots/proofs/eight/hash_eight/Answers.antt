use Rattle.std.proofs.Common.{◌≡◌, ◌∙◌, ◌*◌, ◌<◌, ℕ, List, [], ap, arith, drop, slice_index_or, sym, take}
use Rattle.sha2.specs.Sha256.{compress, hash_after, initial_hash_256}
use Rattle.sha2.proofs.Absorbing256.{hash_after_next}
use Rattle.sha_lanes.proofs.LaneLemmas.{below_eight}
use Rattle.lms_ots.specs.Words.{bytes_of}
use Rattle.lms_ots.proofs.eight.hash_eight.Goals as goal

pub hashing-init : goal.hashing-init
unfolding hash_after
hashing-init c l lt = c.initial_hash-hash.ensures l lt

pub hashing-preserved : goal.hashing-preserved
hashing-preserved c l lt =
    let m = slice_index_or c.args.messages.now l [] in
    let b = c.hashing.b in
    let at : 64 * b ≡ b * 64 = omega arith in
    c.compress-hash.ensures l lt (take 64 (drop (64 * b) m)) (c.block_at.ensures l lt)
    ∙ (ap (λ (h : List ℕ). compress h (take 64 (drop (64 * b) m))) (c.hashing.invariant l lt)
    ∙ (ap (λ n. compress (hash_after initial_hash_256 m b) (take 64 (drop n m))) at ∙ sym (hash_after_next initial_hash_256 m b)))

pub returns : goal.returns
returns c =
    let over = c.hashing-test.false in
    let within = c.hashing.auto.b-end in
    let done : c.hashing.b ≡ 34 = omega arith in
    let each : (l : ℕ) → l < 8 → bytes_of (slice_index_or c.one_by_one-words.result l []) ≡ bytes_of (hash_after initial_hash_256 (slice_index_or c.args.messages.now l []) 34) =
    λ l lt. ap bytes_of (c.one_by_one-words.ensures l lt ∙ (c.hashing.invariant l lt ∙ ap (hash_after initial_hash_256 (slice_index_or c.args.messages.now l [])) done)) in
    below_eight _
    (c.bytes_of.ensures ∙ each 0 (omega arith)) (c.bytes_of-2.ensures ∙ each 1 (omega arith)) (c.bytes_of-3.ensures ∙ each 2 (omega arith))
    (c.bytes_of-4.ensures ∙ each 3 (omega arith)) (c.bytes_of-5.ensures ∙ each 4 (omega arith)) (c.bytes_of-6.ensures ∙ each 5 (omega arith))
    (c.bytes_of-7.ensures ∙ each 6 (omega arith)) (c.bytes_of-8.ensures ∙ each 7 (omega arith))
