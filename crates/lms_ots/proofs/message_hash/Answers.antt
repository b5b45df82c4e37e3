use Rattle.std.proofs.Common.{◌∙◌}
use Rattle.lms_ots.proofs.Hashing.{hash_behind_prefix}
use Rattle.lms_ots.proofs.message_hash.Goals as goal

pub returns : goal.returns
returns c =
    c.finalize.ensures _ (c.update.ensures _ c.hasher_with-hasher.ensures)
    ∙ hash_behind_prefix c.args.id.now c.args.leaf c.args.randomizer.now c.args.message.now
