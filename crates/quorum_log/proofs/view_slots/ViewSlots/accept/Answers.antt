use Rattle.quorum_log.proofs.Slots.{no_other_in, refused}
use Rattle.quorum_log.proofs.view_slots.ViewSlots.accept.Goals as goal

pub returns-in_err-open-clause-fault : goal.returns-in_err-open-clause-fault
returns-in_err-open-clause-fault c =
    let none = no_other_in c.args.vote.now.digest.0 c.args.vote.now.kind c.args.message.now.message.id _ c.in_err-open.ensures.absent in
    refused _ _ c.from_residual.ensures.1 none
