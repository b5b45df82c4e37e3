use Rattle.host_types.proofs.ClientLemmas.{legal}
use Rattle.std.proofs.Common.{sym, ◌∙◌, ap, arith}
use Rattle.host_types.specs.Configuration.{too_many, some_client_twice}
use Rattle.host_types.proofs.config.Config.new.Goals as goal

pub invariant_of-result : goal.invariant_of-result
invariant_of-result c =
    legal _ (omega arith) (omega arith) (omega arith) (omega arith) (omega arith)
    (ap too_many (sym c.deref.ensures.value) ∙ sym c.if-has_too_many.ensures)
    (ap some_client_twice (sym c.deref-2.ensures.value) ∙ sym c.if-has_client_twice.ensures)
