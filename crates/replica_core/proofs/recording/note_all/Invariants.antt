use Rattle.std.proofs.Common.{◌≡◌, List, take}
use Rattle.std.specs.Prelude.{map}
use Rattle.pbft_codec.specs.declared.body.Body.TheVariants as bodies
use Rattle.pbft_model.specs.Words.{Checkpoint, Signed}
use Rattle.pbft_model.specs.Acts.{add_checkpoints}
use Rattle.checkpoints.specs.Kept.{KeptCheckpoints}
use Rattle.seal.specs.Parts.{as_message}
use Rattle.replica_core.proofs.recording.note_all.Given as goal

abbrev pub invariant-loop-message : goal.invariant-loop-message
invariant-loop-message l =
    (◌≡◌ {A = KeptCheckpoints} l.table (record l.fn.table { checkpoints = l.table.checkpoints }))
    × ((ms : List (Signed Checkpoint)) → l.fn.list.messages ≡ map (as_message bodies.Checkpoint) ms
    → l.table.checkpoints ≡ add_checkpoints l.fn.table.low (take l.message-index ms) l.fn.table.checkpoints)
