use Rattle.std.proofs.Common.{◌≡◌, ◌+◌}
use Rattle.world_script.proofs.keys.spend.Given as goal

abbrev pub invariant-loop-turn : goal.invariant-loop-turn
invariant-loop-turn l = l.signer ≡ record l.fn.signer { next_leaf = l.fn.signer.next_leaf + l.turn }
