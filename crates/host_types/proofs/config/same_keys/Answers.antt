use Rattle.std.proofs.lemmas.Slice.Eq.{slice_eq-Decides}
use Rattle.host_types.proofs.EntryLemmas.{key_decides}
use Rattle.host_types.proofs.config.same_keys.Goals as goal

pub returns : goal.returns
returns c = slice_eq-Decides key_decides c.args.left.now c.args.right.now c.eq.result c.eq.ensures
