use Rattle.std.proofs.lemmas.Result.{IfOk-weaker}
use Rattle.seal.proofs.Wholes.{parts_by_children}
use Rattle.seal.proofs.opening.nested.Goals as goal

pub returns-clause-parts : goal.returns-clause-parts
returns-clause-parts c = IfOk-weaker c.messages_within.result _ _ (λ messages_within is. parts_by_children c.args.message.now messages_within.items is) c.messages_within.ensures
