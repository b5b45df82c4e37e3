use Rattle.std.proofs.Common.{ap, ◌∙◌, ◌+◌, ◌^◌}
use Rattle.ballots.specs.Ballots.{mask_at}
use Rattle.ballots.proofs.Masks.{raised}
use Rattle.ballots.proofs.votes.tally.Goals as goal

pub returns-clause-set : goal.returns-clause-set
returns-clause-set c = λ q.
    raised c.args.masks.now c.insert.new.self c.args.digest.now q c.with_bit.result (mask_at c.args.masks.now c.args.digest.now + 2 ^ c.args.signer)
    (c.in_ok-insert.ensures.updates.0 q) (c.with_bit.ensures ∙ ap (λ n. n + 2 ^ c.args.signer) c.mask-mask.ensures)
