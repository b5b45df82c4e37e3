use Rattle.std.proofs.Common.{◌≡◌, ◌∷◌}
use Rattle.std.specs.Prelude.{map}
use Rattle.seal.specs.Parts.{part_of}
use Rattle.seal.proofs.opening.parts.Given as goal

abbrev pub invariant-loop-inside : goal.invariant-loop-inside
invariant-loop-inside l = l.parts.items ≡ part_of l.message.message ∷ map part_of l.yielded
