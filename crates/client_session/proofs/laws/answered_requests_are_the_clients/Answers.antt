use Rattle.client_session.proofs.Rising.{own_request}
use Rattle.client_session.proofs.laws.answered_requests_are_the_clients.Goals as goal

pub returns : goal.returns
returns c = own_request
