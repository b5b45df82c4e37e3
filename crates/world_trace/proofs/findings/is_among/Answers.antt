use Rattle.std.proofs.lemmas.List.Elements.{Decides-contains, contains_decides}
use Rattle.world_trace.proofs.Blames.{blame_decides}
use Rattle.world_trace.proofs.findings.is_among.Goals as goal

pub returns : goal.returns
returns c = Decides-contains c.args.blamed.now c.args.blame.now c.contains.result (contains_decides _ blame_decides c.args.blamed.now c.args.blame.now c.contains.result c.contains.ensures.cases)
