use Rattle.world_trace.proofs.Finding.{shrinks}
use Rattle.world_trace.proofs.findings.Searching.write_choices.Goals as goal

pub returns : goal.returns
returns g c = shrinks c.args.self.script.now c.args.self.search c.args.outcome _ _ _ c.if-not-self.false c.write_choices.ensures
