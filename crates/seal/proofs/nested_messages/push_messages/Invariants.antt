use Rattle.std.proofs.Common.{◌≡◌, ◌++◌, take}
use Rattle.std.specs.Prelude.{map}
use Rattle.seal.specs.Parts.{as_message}
use Rattle.seal.proofs.nested_messages.push_messages.Given as goal

abbrev pub invariant-loop-message : goal.invariant-loop-message
invariant-loop-message g l = l.out.items ≡ l.fn.out.items ++ map (as_message g.B.MessageBody.as_body) (take l.message-index l.messages)
