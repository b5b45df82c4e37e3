use Rattle.std.proofs.Common.{◌≡◌, Err, refl, rules, sym, subst}
use Rattle.world_trace.specs.Finding.{TellsBlame}
use Rattle.world_trace.proofs.Finding.{one_fails, one_told}
use Rattle.world_trace.proofs.findings.Searching.write_blame.Goals as goal

pub returns-in_err-write_one : goal.returns-in_err-write_one
returns-in_err-write_one g c =
    let same : c.from_residual.result ≡ Err c.in_err-write_one.field-0.0 = search rules in
    subst (λ r. TellsBlame c.args.seed c.args.heard.now c.args.blamed.now.items c.write_one.new.blamed.items (g.O.Write.contents c.args.writer.now) (g.O.Write.contents c.write_one.new.writer) r) (sym same)
    (one_fails c.args.seed c.loop-blame.blame-index c.args.heard.now _ _ _ _ _ _ c.loop-blame-test.true refl c.loop-blame.invariant _ c.write_one.new.blamed.items c.write_one.new.blamed.items _ c.in_err-write_one.ensures)

pub loop-blame-preserved : goal.loop-blame-preserved
loop-blame-preserved g c =
    one_told c.args.seed c.loop-blame.blame-index c.args.heard.now _ _ _ _ _ _ c.loop-blame-test.true refl c.loop-blame.invariant _ _ c.in_ok-write_one.ensures
