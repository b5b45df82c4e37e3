use Rattle.std.proofs.Common.{ℕ, ◌∷◌, Vec, Global, sym, ap, ◌∙◌}
use Rattle.std.specs.FinSet as set
use Rattle.std.specs.declared.vec.IntoIter.{IntoIter}
use Rattle.lms_tree.specs.declared.signer.Signer.{Signer}
use Rattle.byz_world.specs.declared.member.Member.{Member}
use Rattle.byz_world.proofs.FirstLaws.{head_listed, one_made, one_passed}
use Rattle.byz_world.proofs.world.first_members.Goals.{then-not-contains+in-Some+in_ok-new+in_ok-push, else-not-contains}
use Rattle.byz_world.proofs.world.first_members.Goals as goal

pub new-requires-clause-key : goal.new-requires-clause-key
new-requires-clause-key c =
    head_listed c.args.config.now.value (λ (i : ℕ). set.contains c.args.faulty.now i) c.loop-id.id c.args.count c.loop-id.signers.rest.items c.next.new.self.rest.items c.in-Some.signer c.loop-id-test.true
    (sym c.contains.ensures ∙ c.if-not-contains.true) c.in-Some.ensures.items c.loop-id.invariant.1

pub loop-id-preserved : goal.loop-id-preserved
loop-id-preserved c = elim c.if-not-contains.branch [
  | then-not-contains+in-Some+in_ok-new+in_ok-push w ↦
      one_made c.args.config.now.value (λ (i : ℕ). set.contains c.args.faulty.now i) c.loop-id.id c.args.count c.loop-id.members.items c.if-not-contains.members.items _ c.loop-id.signers.rest.items
      c.if-not-contains.signers.rest.items w.in-Some.signer w.in_ok-new.field-0 c.loop-id-test.true (sym c.contains.ensures ∙ w.if-not-contains.true) (w.in-Some.ensures.items ∙ ap (λ (it : IntoIter Signer Global). w.in-Some.signer ∷ it.rest.items) (sym w.signers-is)) w.in_ok-new.ensures
      (ap (λ (v : Vec Member Global). v.items) w.members-is ∙ w.in_ok-push.ensures.items) c.loop-id.invariant
  | else-not-contains w ↦
      one_passed c.args.config.now.value (λ (i : ℕ). set.contains c.args.faulty.now i) c.loop-id.id c.args.count c.loop-id.members.items c.if-not-contains.members.items _ c.loop-id.signers.rest.items
      c.if-not-contains.signers.rest.items c.loop-id-test.true (sym c.contains.ensures ∙ w.if-not-contains.false) (ap (λ (v : Vec Member Global). v.items) w.members-is)
      (ap (λ (it : IntoIter Signer Global). it.rest.items) w.signers-is) c.loop-id.invariant
]
