use Rattle.std.proofs.Common.{◌++◌, ap, ◌∙◌, sym, List, ℕ, length, map}
use Rattle.std.specs.Prelude.{flat_map}
use Rattle.std.proofs.lemmas.List.{append-nil, length-map}
use Rattle.tenant_parts.specs.Verified.{Verified}
use Rattle.service_model.specs.Words.{u32_bytes}
use Rattle.service_model.specs.declared.version.Version.TheVariants.{Second}
use Rattle.service_model.specs.Encoding.{encoded_procedure}
use Rattle.tenant_parts.specs.Procedures.{procedure_of}
use Rattle.service_core.proofs.Fed.{fed_same, fed_more, fed_all, flat_map-map}
use Rattle.service_core.proofs.encoding.put_procedures.Goals as goal

abbrev piece : Verified → List ℕ
piece p = encoded_procedure Second (procedure_of p)

pub loop-procedure-init : goal.loop-procedure-init
loop-procedure-init g c =
    fed_same g.S.Sink.holds c.args.sink.now c.put_u32.new.sink (u32_bytes (length c.args.procedures.now)) _ (sym (append-nil (u32_bytes (length c.args.procedures.now)))) c.in_ok-put_u32.ensures

pub loop-procedure-preserved : goal.loop-procedure-preserved
loop-procedure-preserved g c =
    fed_more g.S.Sink.holds c.args.sink.now c.loop-procedure.sink c.put_procedure.new.sink (u32_bytes (length c.args.procedures.now)) piece c.args.procedures.now c.loop-procedure.procedure-index c.procedure-item.result
    c.loop-procedure-test.true c.procedure-item.is c.loop-procedure.invariant c.in_ok-put_procedure.ensures

pub returns : goal.returns
returns g c =
    let procedures = map procedure_of c.args.procedures.now in
    fed_same g.S.Sink.holds c.args.sink.now c.loop-procedure.sink (u32_bytes (length c.args.procedures.now) ++ flat_map piece c.args.procedures.now) (u32_bytes (length procedures) ++ flat_map (encoded_procedure Second) procedures)
    (ap (λ (n : ℕ). u32_bytes n ++ flat_map piece c.args.procedures.now) (sym (length-map c.args.procedures.now procedure_of))
    ∙ ap (λ (ys : List ℕ). u32_bytes (length procedures) ++ ys) (sym (flat_map-map (encoded_procedure Second) procedure_of c.args.procedures.now)))
    (fed_all g.S.Sink.holds c.args.sink.now c.loop-procedure.sink (u32_bytes (length c.args.procedures.now)) piece c.args.procedures.now c.loop-procedure.procedure-index c.loop-procedure-test.false c.loop-procedure.invariant)
