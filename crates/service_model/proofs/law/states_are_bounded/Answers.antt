use Rattle.service_model.proofs.Bounds.{genesis_bounded, step_bounded, own_reply, reply_is_last}
use Rattle.service_model.proofs.Lengths.{state_length}
use Rattle.service_model.proofs.law.states_are_bounded.Goals as goal

pub returns-clause-first : goal.returns-clause-first
returns-clause-first c = genesis_bounded

pub returns-clause-next : goal.returns-clause-next
returns-clause-next c = step_bounded

pub returns-clause-own : goal.returns-clause-own
returns-clause-own c = own_reply

pub returns-clause-last : goal.returns-clause-last
returns-clause-last c = reply_is_last

pub returns-clause-length : goal.returns-clause-length
returns-clause-length c = state_length
