use Rattle.std.proofs.Common.{◌∙◌, ap}
use Rattle.std.proofs.lemmas.List.{append_assoc}
use Rattle.sha2.specs.Sha256.{sha256}
use Rattle.lms_level.specs.Ots.{tagged_hash}
use Rattle.lms_tree.proofs.nodes.hash_of_two.Goals as goal

pub returns : goal.returns
unfolding tagged_hash
returns c =
    c.finalize.ensures _ (c.update-2.ensures _ (c.update.ensures _ c.hasher-hasher.ensures))
    ∙ ap sha256 (append_assoc _ c.args.first.now c.args.second.now)
