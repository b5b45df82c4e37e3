use Rattle.service_core.proofs.Turns.{IsTurn}
use Rattle.service_core.proofs.reader.are_in_turn.Given as goal

abbrev pub invariant-loop-id : goal.invariant-loop-id
invariant-loop-id l = IsTurn l.ids l.replies l.id-index l.next
