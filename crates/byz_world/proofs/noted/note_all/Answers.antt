use Rattle.std.proofs.Common.{List, ◌≡◌, suc, ◌++◌, ◌∷◌, map, take, drop, Bor, arith, sym, subst}
use Rattle.replica_journal.specs.Done.{Done}
use Rattle.byz_world.specs.declared.audit_fault.AuditFault.{AuditFault}
use Rattle.byz_world.specs.Audits.{SaysOther, SomeDiffer}
use Rattle.byz_world.specs.Noting.{IsNoted, IsRefusal}
use Rattle.byz_world.proofs.Lists.{split_at}
use Rattle.byz_world.proofs.NotedLaws.{differ_here, refusal_follows, refused}
use Rattle.byz_world.proofs.noted.note_all.Goals as goal

pub returns-in_err-note-clause-fault : goal.returns-in_err-note-clause-fault
returns-in_err-note-clause-fault c =
    let now : Bor Done → Done = λ (d : Bor Done). d.now in
    let i = c.loop-item.item-index in
    let done = c.args.done.now in
    let x = c.item-item.result.now in
    let whole : (before : List Done) → (before ++ map now (take i done)) ++ x ∷ map now (drop (suc i) done) ≡ before ++ map now done =
    λ (before : List Done). subst (λ (b : Bor Done). (before ++ map now (take i done)) ++ b.now ∷ map now (drop (suc i) done) ≡ before ++ map now done) (sym c.item-item.is) (split_at now before done i c.item-item.result (omega arith)) in
    refused c.from_residual.result c.in_err-note.field-0.0
    (λ (fault : AuditFault). (before : List Done) → IsNoted before c.args.noted.now → IsRefusal (SomeDiffer (before ++ map now done) (before ++ map now done)) fault) c.from_residual.ensures.1
    (λ before noted. refusal_follows (SaysOther (before ++ map now (take i done)) x) (SomeDiffer (before ++ map now done) (before ++ map now done)) c.in_err-note.field-0.0
    (λ other. subst (λ (xs : List Done). SomeDiffer xs xs) (whole before) (differ_here (before ++ map now (take i done)) (map now (drop (suc i) done)) x other))
    (c.in_err-note.ensures.fault (before ++ map now (take i done)) (c.loop-item.invariant before noted)))
