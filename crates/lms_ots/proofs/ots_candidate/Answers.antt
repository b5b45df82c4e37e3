use Rattle.std.proofs.Common.{◌∙◌}
use Rattle.lms_ots.specs.Ots.{randomizer_in}
use Rattle.lms_ots.proofs.Hashing.{hash_behind_prefix}
use Rattle.lms_ots.proofs.ots_candidate.Goals as goal

pub returns : goal.returns
returns c = c.ots_candidate_of_hash.ensures c.args.message.now
    (c.finalize.ensures _ (c.update.ensures _ c.message_hasher-hasher.ensures)
    ∙ hash_behind_prefix c.args.id.now c.args.leaf (randomizer_in c.args.signature.now) c.args.message.now)
