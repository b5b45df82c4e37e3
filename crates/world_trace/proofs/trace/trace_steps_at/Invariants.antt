use Rattle.std.proofs.Common.{◌≡◌}
use Rattle.std.specs.Prelude.{min}
use Rattle.std.specs.String.{string_bytes}
use Rattle.world_trace.proofs.Tracing.{AreTraced}
use Rattle.world_trace.proofs.trace.trace_steps_at.Given as goal

abbrev pub invariant-loop-step : goal.invariant-loop-step
invariant-loop-step g l =
    (l.number ≡ min l.step-index 4294967295)
    × AreTraced l.placed.lines.items l.placed.script l.step-index (g.O.Write.contents l.fn.writer) (g.O.Write.contents l.writer) (record { stage = l.traced.stage; unread = string_bytes l.traced.unread })
