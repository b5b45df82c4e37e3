use Rattle.client_session.proofs.Accepting.{is_answered, is_reply_to}
use Rattle.client_session.proofs.laws.accepted_replies_are_answers.Goals as goal

pub returns : goal.returns
returns c = λ setup j s ms reply honest config fresh real accepts. (
  is_reply_to setup j s ms reply honest config fresh real accepts,
  is_answered setup j s ms reply honest config fresh real accepts,
)
