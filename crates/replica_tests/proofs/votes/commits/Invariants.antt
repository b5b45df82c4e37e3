use Rattle.ballots.specs.Ballots.{AreUnder, AreListed}
use Rattle.replica_tests.proofs.votes.commits.Given as goal

abbrev pub invariant-loop-word : goal.invariant-loop-word
invariant-loop-word l = AreUnder l.fn.config.value l.votes × AreListed l.fn.config.value l.votes
