use Rattle.std.proofs.Common.{◌+◌, [], None, sym, subst, ◌∙◌}
use Rattle.world_chart.specs.Happening.{Happening}
use Rattle.world_trace.specs.Telling.{TellsSome}
use Rattle.world_trace.proofs.Telling.{cut_line, cut_mark}
use Rattle.world_trace.proofs.trace.write_told.Goals as goal

pub returns-in-Err-clause-early : goal.returns-in-Err-clause-early
returns-in-Err-clause-early g c =
    subst (TellsSome c.args.mark.now c.args.happened.now (g.O.Write.contents c.args.writer.now) (g.O.Write.contents c.write_text.new.writer)) (sym c.in-Err.ensures.fault)
    (0, cut_mark _ _ c.args.mark.now c.args.happened.now c.in-Err.ensures.front)

pub returns-in-Err-write_text-clause-early : goal.returns-in-Err-write_text-clause-early
returns-in-Err-write_text-clause-early g c =
    subst (TellsSome c.args.mark.now c.args.happened.now (g.O.Write.contents c.args.writer.now) (g.O.Write.contents c.write_text-in-loop-happening.new.writer)) (sym c.in-Err-write_text.ensures.fault) (
      c.loop-happening.happening-index + 1,
      cut_line _ _ _ c.args.mark.now c.deref.result.now c.args.happened.now c.loop-happening.happening-index (Happening.Began 0 None (record { ref_ptr = (0, 0); now = [] })) c.loop-happening-test.true
          (c.deref.ensures ∙ c.in_ok-line.ensures) c.loop-happening.invariant c.in-Err-write_text.ensures.front,
    )
