use Rattle.std.proofs.Common.{◌≡◌}
use Rattle.seal.specs.Lists.{CheckedMessages}
use Rattle.seal.proofs.opening.list_under.Given as goal

abbrev pub invariant-loop-message : goal.invariant-loop-message
invariant-loop-message l = ◌≡◌ {A = CheckedMessages} l.list (record { config = l.config.value; messages = l.yielded })
