use Rattle.std.proofs.Common.{◌∙◌, ap}
use Rattle.sha2.specs.Sha256.{add_state, compress}
use Rattle.sha_lanes.specs.Lanes.{hash_in}
use Rattle.sha_lanes.proofs.compress.Goals as goal

pub returns : goal.returns
unfolding compress
returns c j lt bytes holds =
    c.add_hash.ensures j lt ∙ ap (add_state (hash_in c.args.hash j)) (c.run_rounds.ensures j lt bytes holds)
