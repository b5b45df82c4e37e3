use Rattle.std.proofs.Common.{arith, refl}
use Rattle.std.proofs.lemmas.Result.{IfOk-weaker}
use Rattle.std.proofs.lemmas.List.{length-map}
use Rattle.tenant_parts.specs.Procedures.{procedure_of}
use Rattle.tenant_parts.proofs.Doing.{installs_refused, procedures_of}
use Rattle.tenant_parts.proofs.operation.install.Goals as goal

pub returns-in_default-clause-installs : goal.returns-in_default-clause-installs
returns-in_default-clause-installs c =
    IfOk-weaker c.code_alone-in_default.result _ _ (λ bytes is.
    installs_refused (procedures_of c.args.procedures.now.items) (procedures_of c.args.procedures.now.items) (record { profile = c.args.profile; code = c.args.code.now }) bytes.items
    (omega (arith, length-map c.args.procedures.now.items procedure_of, c.len-id.ensures))
    (λ bound accepts. c.in_default.not-Memory (c.in-Err.ensures.only bound accepts)) refl is) c.code_alone-in_default.ensures
