use Rattle.std.proofs.Common.{◌≡◌, drop}
use Rattle.seal.specs.Signers.{first_fault}
use Rattle.seal.proofs.verify_parts.verify_all.Given as goal

abbrev pub invariant-loop-message : goal.invariant-loop-message
invariant-loop-message l = first_fault l.config l.messages ≡ first_fault l.config (drop l.message-index l.messages)
