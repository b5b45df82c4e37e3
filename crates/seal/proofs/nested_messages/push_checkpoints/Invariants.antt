use Rattle.std.proofs.Common.{◌≡◌, ◌++◌, take}
use Rattle.std.specs.Prelude.{map}
use Rattle.std.specs.List.{flat_map}
use Rattle.pbft_codec.specs.declared.body.Body.TheVariants as bodies
use Rattle.seal.specs.Parts.{as_message}
use Rattle.seal.proofs.nested_messages.push_checkpoints.Given as goal

abbrev pub invariant-loop-change : goal.invariant-loop-change
invariant-loop-change l = l.out.items ≡ l.fn.out.items ++ flat_map (λ m. map (as_message bodies.Checkpoint) m.body.checkpoints) (take l.change-index l.changes)
