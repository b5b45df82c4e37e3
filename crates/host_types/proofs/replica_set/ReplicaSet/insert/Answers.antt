use Rattle.std.proofs.Common.{not, sym, ap, ◌∙◌, arith}
use Rattle.std.specs.FinSet as finite
use Rattle.host_types.proofs.BitLemmas.{contains_bit, bits_below-with_bit}
use Rattle.host_types.proofs.replica_set.ReplicaSet.insert.Goals as goal

pub returns-clause-inserted : goal.returns-clause-inserted
returns-clause-inserted c =
    rw (c.from-word.ensures, c.from-bit.ensures) (bits_below-with_bit c.self.inside.words c.args.id.0 (omega arith) (omega arith) ∙ ap (λ s. finite.insert s c.args.id.0) c.self.view_is)

pub returns-clause-is_new : goal.returns-clause-is_new
returns-clause-is_new c =
    ap not (c.has_bit-is_new.ensures ∙ sym (contains_bit c.self.inside.words 256 c.args.id.0 (omega arith)) ∙ ap (λ s. finite.contains s c.args.id.0) c.self.view_is)
