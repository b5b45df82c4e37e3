use Rattle.std.proofs.Common.{◌≡◌, suc, List, ◌++◌, map, take, drop, get_or, Bor, Vec, Global, sym, ◌∙◌, ap, subst, arith}
use Rattle.std.proofs.lemmas.List.{take_all}
use Rattle.host_types.specs.declared.ReplicaId.{ReplicaId}
use Rattle.replica_journal.specs.Facts.{RowFacts}
use Rattle.replica_journal.specs.Done.{Done}
use Rattle.replica_journal.specs.Row.{Row}
use Rattle.byz_world.specs.Audits.{Agree, all_done, all_rise, done_in}
use Rattle.byz_world.specs.Noting.{IsNoted}
use Rattle.byz_world.proofs.AuditLaws.{audit_made, audit_refused, done_whole}
use Rattle.byz_world.proofs.records.audit.Goals as goal

abbrev Record : Type 0
Record = ReplicaId × Vec Row Global

rows : Record → List RowFacts
rows r = r.1.items

pub returns-in_err-note_all : goal.returns-in_err-note_all
unfolding rows
returns-in_err-note_all c =
    let now : Bor Done → Done = λ (d : Bor Done). d.now in
    let i = c.loop-record.record-index in
    let records = c.args.records.now in
    let before = all_done (map rows (take i records)) in
    let late = all_done (map rows (drop (suc i) records)) in
    let said : map now c.deref-in-loop-record.result.now ≡ done_in (rows (get_or records i c.record-item.result)) =
    ap (map now) c.deref-in-loop-record.ensures.value ∙ c.in_ok-done.ensures ∙ ap done_in c.deref.ensures.value ∙ ap (λ (r : Record). done_in (rows r)) c.record-item.is in
    audit_refused (map rows records) (before ++ map now c.deref-in-loop-record.result.now) late c.from_residual-in_err-note_all.result c.in_err-note_all.field-0.0
    (ap (λ (d : List Done). (before ++ d) ++ late) said ∙ done_whole rows records i c.record-item.result (omega arith))
    c.from_residual-in_err-note_all.ensures.1
    (c.in_err-note_all.ensures.fault before c.loop-record.invariant.0)

pub returns-then-not-all_rise : goal.returns-then-not-all_rise
unfolding rows
returns-then-not-all_rise c =
    let records = c.args.records.now in
    let whole : take c.loop-record.record-index records ≡ records = take_all c.loop-record.record-index records (omega arith) in
    let agree = subst (λ (rs : List Record). Agree (all_done (map rows rs))) whole c.loop-record.invariant.0.agree in
    let rise = subst (λ (rs : List Record). c.loop-record.all_rise ≡ all_rise (map rows rs)) whole c.loop-record.invariant.1 in
    (agree, sym rise ∙ c.if-not-all_rise.true)

pub returns : goal.returns
unfolding rows
returns c =
    let records = c.args.records.now in
    let whole : take c.loop-record.record-index records ≡ records = take_all c.loop-record.record-index records (omega arith) in
    let noted = subst (λ (rs : List Record). IsNoted (all_done (map rows rs)) c.loop-record.noted) whole c.loop-record.invariant.0 in
    let rise = subst (λ (rs : List Record). c.loop-record.all_rise ≡ all_rise (map rows rs)) whole c.loop-record.invariant.1 in
    audit_made (map rows records) noted.agree (sym rise ∙ c.if-not-all_rise.false) c.history_of.result (c.history_of.ensures (all_done (map rows records)) noted)
