use Rattle.view_change.proofs.Sealing.{authentic_is_short}
use Rattle.view_change.proofs.laws.authentic_signatures_are_short.Goals as goal

pub returns : goal.returns
returns c = authentic_is_short
