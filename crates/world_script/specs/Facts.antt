-- Statement: a stage, which is what a running script holds.
use Rattle.std.specs.Prelude.{List}
pub use Rattle.drained_records.specs.Facts.{RowFacts, destination_of, done_of, input_of, output_of, row_of}
use Rattle.drained_records.specs.Worlds.{WorldFacts}
use Rattle.world_queue.specs.Sessions.{SessionState}
use Rattle.world_queue.specs.declared.forging.Forger.{Forger}
use Rattle.world_script.specs.declared.made.Made.{Made}
use Rattle.world_queue.specs.declared.named.Named.{Named}
use Rattle.world_queue.specs.Letters.{LetterFacts}

-- What a running script holds.
pub record StageFacts : Type 0 where
  pub world : WorldFacts
  -- the signers of the faulty replicas
  pub forgers : List Forger
  pub sessions : List SessionState
  -- the requests that were made
  pub made : List Made
  -- the messages that steps gave names to
  pub named : List Named
  -- the messages on their way, the next one first
  pub queue : List LetterFacts
