use Rattle.std.proofs.Common.{◌≡◌, ℕ, map}
use Rattle.std.specs.List.{range_with_len}
use Rattle.script_text.specs.Node.TheVariants.{Replica}
use Rattle.world_script.proofs.stage.everyone.Given as goal

abbrev pub invariant-loop-id : goal.invariant-loop-id
invariant-loop-id l = l.nodes.items ≡ map Replica (map (λ (id : ℕ). record { 0 = id }) (range_with_len 0 l.id))
