use Rattle.std.proofs.lemmas.Result.{IfErr-weaker}
use Rattle.service_model.specs.declared.version.Version.TheVariants.{Second}
use Rattle.service_core.proofs.state.State.from_canonical.Goals as goal

pub returns-clause-none : goal.returns-clause-none
returns-clause-none c = IfErr-weaker c.from_bytes.result _ _ (λ fault none bad state is. none bad state (Second, is)) c.from_bytes.ensures.none
