use Rattle.std.proofs.Common.{◌∙◌, sym, true, false, add-zero}
use Rattle.host_types.proofs.BitLemmas.{counted_none, counts_more}
use Rattle.host_types.proofs.replica_set.ReplicaSet.len.Goals as goal
use Rattle.host_types.proofs.replica_set.ReplicaSet.len.Goals.{then-has_bit, else-has_bit}

pub loop-id-init : goal.loop-id-init
loop-id-init c = counted_none _

pub loop-id-preserved : goal.loop-id-preserved
loop-id-preserved c =
    elim c.if-has_bit.branch [
      | then-has_bit w ↦ rw w.count-is (counts_more c.self.inside.words c.loop-id.id c.loop-id.count true c.loop-id.invariant (sym w.if-has_bit.true ∙ c.has_bit.ensures))
      | else-has_bit w ↦ rw (w.count-is, ← (add-zero c.loop-id.count)) (counts_more c.self.inside.words c.loop-id.id c.loop-id.count false c.loop-id.invariant (sym w.if-has_bit.false ∙ c.has_bit.ensures))
    ]
