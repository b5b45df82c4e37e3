use Rattle.std.proofs.Common.{◌≡◌, take}
use Rattle.world_script.proofs.keys.signers.Given as goal

abbrev pub invariant-loop-source : goal.invariant-loop-source
invariant-loop-source l = l.signers.items ≡ take l.source-index l.sources
