use Rattle.std.proofs.Common.{◌≡◌, ◌++◌, List, drop}
use Rattle.std.specs.Prelude.{map}
use Rattle.quorum_log.specs.Words.{Signed}
use Rattle.seal.specs.Lists.{messages_of}
use Rattle.seal.specs.Parts.{as_message}
use Rattle.view_change.proofs.nested.copies_of.Given as goal

abbrev pub invariant-loop-message : goal.invariant-loop-message
invariant-loop-message g l =
    (ms : List (Signed g.row.B.Denot)) → messages_of l.messages ≡ map (as_message g.B.MessageBody.as_body) ms → l.copies.items ++ drop l.message-index ms ≡ ms
