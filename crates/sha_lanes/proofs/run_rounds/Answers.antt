use Rattle.std.proofs.Common.{◌≡◌, ◌*◌, ◌∙◌, refl, rules, arith}
use Rattle.sha2.specs.Sha256.{rounds}
use Rattle.sha2.proofs.Schedule256.{IsRoundsAt_at, IsWindow_first}
use Rattle.sha_lanes.specs.Lanes.{hash_in, words_in}
use Rattle.sha_lanes.proofs.LaneLemmas.{length_of_lane, word_of_lane}
use Rattle.sha_lanes.proofs.run_rounds.Goals as goal

pub turns-init : goal.turns-init
unfolding rounds
turns-init c j lt bytes holds =
    let h = hash_in c.args.v.now j in
    let w = c.args.block in
    let window = IsWindow_first bytes (words_in w j) (length_of_lane w j ∙ search rules) (λ k le. word_of_lane w j k (search rules) ∙ holds k le) in
    let one = c.first_four_steps.ensures j lt bytes h window refl in
    let two = c.first_four_steps-2.ensures j lt bytes h window one in
    let three = c.first_four_steps-3.ensures j lt bytes h window two in
    (window, c.first_four_steps-4.ensures j lt bytes h window three)

pub turns-preserved : goal.turns-preserved
turns-preserved c j lt bytes holds =
    let h = hash_in c.args.v.now j in
    let one = c.four_steps.ensures j lt bytes h (IsRoundsAt_at bytes h _ _ _ _ (omega arith) (c.turns.invariant j lt bytes holds)) in
    let two = c.four_steps-in-turns.ensures j lt bytes h one in
    let three = c.four_steps-in-turns-2.ensures j lt bytes h two in
    let four = c.four_steps-in-turns-3.ensures j lt bytes h three in
    IsRoundsAt_at bytes h _ _ _ _ (omega arith) four

pub returns : goal.returns
returns c j lt bytes holds =
    let done : 16 * c.turns.turn ≡ 64 = omega (arith, c.turns.auto.turn-end (omega arith)) in
    (rw done at (c.turns.invariant j lt bytes holds)).1
