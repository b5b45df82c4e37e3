use Rattle.lms_ots.specs.Ots.{tagged_hash}
use Rattle.lms_level.proofs.nodes.leaf_node.Goals as goal

pub returns : goal.returns
unfolding tagged_hash
returns c = c.finalize.ensures _ (c.update.ensures _ c.hasher-hasher.ensures)
