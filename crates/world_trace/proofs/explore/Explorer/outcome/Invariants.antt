use Rattle.std.proofs.Common.{◌≡◌, None}
use Rattle.std.specs.Prelude.{min}
use Rattle.std.specs.String.{string_bytes}
use Rattle.script_text.specs.Orders.{ordered}
use Rattle.world_script.proofs.Playing.{AreDone}
use Rattle.world_trace.proofs.explore.Explorer.outcome.Given as goal

abbrev pub invariant-loop-step : goal.invariant-loop-step
invariant-loop-step l =
    (l.number ≡ min l.step-index 4294967295)
    × AreDone (ordered l.seed l.script) l.step-index None None (record { stage = l.self.stage; unread = string_bytes l.self.unread })
