use Rattle.std.proofs.Common.{refl, sym, rules}
use Rattle.sha2.proofs.Schedule256.{rounds_first}
use Rattle.sha_lanes.specs.Lanes.{hash_in, words_in}
use Rattle.sha_lanes.proofs.LaneLemmas.{word_of_lane}
use Rattle.sha_lanes.proofs.rounds.first_step.Goals as goal

pub returns : goal.returns
returns c j lt b h window held =
    let word = sym (word_of_lane c.args.w.now j c.args.t (search rules)) in
    rounds_first b h (words_in c.args.w.now j) (hash_in c.args.v j) c.args.t _ _ _ c.requires window held refl word (c.round.ensures j lt)
