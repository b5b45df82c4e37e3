use Rattle.std.proofs.Common.{◌≡◌, ◌+◌, ◌%◌, ◌<◌, length, arith, refl, rules, slice_index}
use Rattle.sha_lanes.specs.Lanes.{words_in}
use Rattle.sha_lanes.proofs.LaneLemmas.{word_of_lane}
use Rattle.sha_lanes.proofs.rounds.next_word.Goals as goal

pub returns-clause-value : goal.returns-clause-value
returns-clause-value c j lt =
    let w = c.args.w.now in
    let p = c.args.place in
    let here : p % 16 ≡ p = omega arith in
    rw (
      c.add-word.ensures j lt,
      c.add.ensures j lt,
      c.add-sum.ensures j lt,
      c.small_sigma1.ensures j lt,
      c.small_sigma0.ensures j lt,
      here,
      word_of_lane w j ((p + 14) % 16) (search rules),
      word_of_lane w j ((p + 9) % 16) (search rules),
      word_of_lane w j ((p + 1) % 16) (search rules),
      word_of_lane w j p (search rules),
    )
    refl
