use Rattle.std.proofs.Common.{◌∙◌, List, ℕ, ap}
use Rattle.sha2.specs.Sha256.{compress}
use Rattle.sha_lanes.proofs.hash_block.Goals as goal

pub returns : goal.returns
returns c j lt bytes holds =
    c.compress.ensures j lt bytes holds ∙ ap (λ (h : List ℕ). compress h bytes) (c.initial_hash.ensures j lt)
