use Rattle.std.proofs.Common.{refl, sym, subst, map}
use Rattle.std.proofs.lemmas.Result.{IfOk-weaker}
use Rattle.tenant_parts.specs.declared.operation.Operation.{Operation as Read}
use Rattle.service_model.specs.Operations.{Does}
use Rattle.tenant_parts.specs.Procedures.{procedure_of}
use Rattle.tenant_parts.specs.ReadOperations.{meaning_of}
use Rattle.tenant_parts.proofs.operation.perform.Goals as goal

pub returns-in-Install-clause-does : goal.returns-in-Install-clause-does
returns-in-Install-clause-does c =
    IfOk-weaker c.install.result _ _ (λ bytes is.
    subst (λ (op : Read). Does c.args.client.0 (meaning_of op) (map procedure_of c.args.procedures.now.items) c.args.entries.now.entries (map procedure_of c.install.new.procedures.items) c.args.entries.now.entries bytes.items)
    (sym c.in-Install.is) (is, refl)) c.install.ensures.installs
