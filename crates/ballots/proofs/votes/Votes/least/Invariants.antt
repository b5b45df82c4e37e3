use Rattle.std.proofs.Common.{◌≡◌, ◌≤◌}
use Rattle.pbft_model.specs.Setup.{count}
use Rattle.ballots.specs.Ballots.{voted_for, least_below}
use Rattle.ballots.proofs.votes.Votes.least.Given as goal

abbrev pub invariant-loop-signer : goal.invariant-loop-signer
invariant-loop-signer l =
    (l.list.config ≡ l.fn.config.value)
    × (l.seen ≡ count (voted_for l.digest.0 l.self) l.signer)
    × (l.seen ≤ l.signer)
    × (l.list.messages ≡ least_below l.signer l.many l.digest.0 l.self)
