use Rattle.std.proofs.Common.{◌≡◌, None}
use Rattle.std.specs.Prelude.{min}
use Rattle.std.specs.String.{string_bytes}
use Rattle.world_script.proofs.Playing.{AreDone}
use Rattle.world_trace.specs.Searches.{in_order}
use Rattle.world_trace.specs.Shrinking.{order_at}
use Rattle.world_trace.proofs.shrink.Found.run.Given as goal

abbrev pub invariant-loop-step : goal.invariant-loop-step
invariant-loop-step l =
    (l.number ≡ min l.step-index 4294967295)
    × (l.index ≡ l.step-index)
    × AreDone (in_order (order_at l.orders l.self.finding.seed) l.self.script.now) l.step-index None None (record { stage = l.explorer.stage; unread = string_bytes l.explorer.unread })
