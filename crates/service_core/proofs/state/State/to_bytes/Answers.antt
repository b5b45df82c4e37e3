use Rattle.std.proofs.Common.{[]}
use Rattle.service_core.proofs.state.State.to_bytes.Goals as goal

pub returns : goal.returns
returns c = c.in_ok-put.ensures [] c.new-bytes.ensures.items
