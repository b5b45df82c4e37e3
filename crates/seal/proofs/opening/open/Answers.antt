use Rattle.seal.proofs.Openings.{only_from_exact}
use Rattle.seal.proofs.opening.open.Goals as goal

pub returns-clause-only : goal.returns-clause-only
returns-clause-only c = λ m encodes authentic. only_from_exact c.opened.result c.args.config.now.value c.args.bytes.now m c.opened.ensures.exact encodes authentic
