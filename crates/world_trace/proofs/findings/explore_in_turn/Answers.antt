use Rattle.std.proofs.Common.{◌≡◌, Err, rules, sym, subst}
use Rattle.world_script.specs.declared.fault.RunFault.TheVariants.{Memory}
use Rattle.world_trace.specs.Searches.{Searches}
use Rattle.world_trace.proofs.Finding.{starved}
use Rattle.world_trace.proofs.findings.explore_in_turn.Goals as goal

pub returns-in_err-sources : goal.returns-in_err-sources
returns-in_err-sources g c =
    let same : c.from_residual.result ≡ Err Memory = search rules in
    subst (Searches c.args.script.now c.args.search (g.O.Write.contents c.args.writer.now) (g.O.Write.contents c.args.writer.now)) (sym same)
    (starved c.args.script.now c.args.search (g.O.Write.contents c.args.writer.now))
