use Rattle.std.proofs.Common.{ℕ, ◌+◌, List, Bor, sym, ap, subst, ◌∙◌}
use Rattle.std.specs.FinSet as set
use Rattle.lms_tree.specs.declared.signer.Signer.{Signer}
use Rattle.world_script.proofs.OneForEach.{AreFor, ids_from, one_more, one_passed}
use Rattle.world_script.proofs.signers.are_listed.Goals.{then-not-contains+in-Some+else-not-is_listed, else-not-contains}
use Rattle.world_script.proofs.signers.are_listed.Goals as goal

pub loop-id-preserved : goal.loop-id-preserved
loop-id-preserved c = elim c.if-not-contains.branch [
  | then-not-contains+in-Some+else-not-is_listed w ↦ λ left. c.loop-id.invariant
      (one_more c.args.config.now.value (λ (i : ℕ). set.contains c.args.faulty.now i) c.loop-id.id c.replica_count-count.result c.loop-id.rest.now w.in-Some.later.now w.in-Some.signer.now c.loop-id-test.true
      (sym c.contains.ensures ∙ w.if-not-contains.true) w.in-Some.ensures.cases.0 (w.is_listed.ensures w.if-not-is_listed.false)
      (subst (AreFor c.args.config.now.value (ids_from (λ (i : ℕ). set.contains c.args.faulty.now i) (c.loop-id.id + 1) c.replica_count-count.result)) (ap (λ (b : Bor (List Signer)). b.now) w.rest-is) left))
  | else-not-contains w ↦ λ left. c.loop-id.invariant
      (one_passed c.args.config.now.value (λ (i : ℕ). set.contains c.args.faulty.now i) c.loop-id.id c.replica_count-count.result c.loop-id.rest.now c.loop-id-test.true
      (sym c.contains.ensures ∙ w.if-not-contains.false)
      (subst (AreFor c.args.config.now.value (ids_from (λ (i : ℕ). set.contains c.args.faulty.now i) (c.loop-id.id + 1) c.replica_count-count.result)) (ap (λ (b : Bor (List Signer)). b.now) w.rest-is) left))
]
