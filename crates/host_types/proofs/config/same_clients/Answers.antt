use Rattle.std.proofs.lemmas.Slice.Eq.{slice_eq-Decides}
use Rattle.host_types.proofs.EntryLemmas.{client_decides}
use Rattle.host_types.proofs.config.same_clients.Goals as goal

pub returns : goal.returns
returns c = slice_eq-Decides client_decides c.args.left.now c.args.right.now c.eq.result c.eq.ensures
