use Rattle.std.proofs.Common.{sym, ap, ◌∙◌, arith}
use Rattle.std.specs.FinSet as finite
use Rattle.host_types.proofs.BitLemmas.{contains_bit}
use Rattle.host_types.proofs.replica_set.ReplicaSet.contains.Goals as goal

pub returns : goal.returns
returns c = c.has_bit.ensures ∙ sym (contains_bit c.self.inside.words 256 c.args.id.0 (omega arith)) ∙ ap (λ s. finite.contains s c.args.id.0) c.self.view_is
