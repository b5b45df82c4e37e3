use Rattle.std.proofs.Common.{◌≡◌, ◌∙◌, ℕ, List, [], ◌∷◌, ◌++◌, ap, refl, slice_index}
use Rattle.std.specs.Int.{to_be_bytes, w32}
use Rattle.sha2.specs.Sha256.{word_at}
use Rattle.sha_lanes.specs.Lanes.{word_in}
use Rattle.lms_ots.proofs.Blocks.{holds_step}
use Rattle.lms_ots.proofs.LaneLemmas.{lane_below, same, same_in_each}
use Rattle.lms_ots.proofs.lanes.block.Goals as goal

pub returns : goal.returns
returns c j lt =
    let v = c.args.values.now in
    let words : List (List ℕ) =
    same c.word_at.result ∷ same c.word_at-2.result ∷ same c.word_at-3.result ∷ same c.word_at-4.result
    ∷ c.args.leaves ∷ c.tag_word.result ∷ c.straddling.result ∷ c.straddling-2.result ∷ c.straddling-3.result ∷ c.straddling-4.result
    ∷ c.straddling-5.result ∷ c.straddling-6.result ∷ c.straddling-7.result ∷ c.straddling-8.result ∷ same 0 ∷ same 440 ∷ [] in
    let end : word_in words j 13 ≡ word_at (to_be_bytes w32 (word_in v j 7) ++ to_be_bytes w32 0x80000000) 1 =
    c.straddling-8.ensures j lt ∙ ap (λ n. word_at (to_be_bytes w32 (word_in v j 7) ++ to_be_bytes w32 n) 1) (same_in_each 0x80000000 j lt) in
    holds_step words j (slice_index c.args.leaves j) (slice_index c.args.chains j) (slice_index c.args.steps j)
    (word_in v j 0) (word_in v j 1) (word_in v j 2) (word_in v j 3) (word_in v j 4) (word_in v j 5) (word_in v j 6) (word_in v j 7)
    (lane_below c.args.leaves c.fits-leaves j lt) c.args.id.now c.told-id
    (same_in_each c.word_at.result j lt ∙ c.word_at.ensures) (same_in_each c.word_at-2.result j lt ∙ c.word_at-2.ensures)
    (same_in_each c.word_at-3.result j lt ∙ c.word_at-3.ensures) (same_in_each c.word_at-4.result j lt ∙ c.word_at-4.ensures) refl
    (c.tag_word.ensures j lt) (c.straddling.ensures j lt) (c.straddling-2.ensures j lt) (c.straddling-3.ensures j lt) (c.straddling-4.ensures j lt)
    (c.straddling-5.ensures j lt) (c.straddling-6.ensures j lt) (c.straddling-7.ensures j lt) end (same_in_each 0 j lt) (same_in_each 440 j lt)
