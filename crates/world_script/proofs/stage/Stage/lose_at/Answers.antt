use Rattle.std.proofs.Common.{List, [], ℕ, ap, ◌∙◌}
use Rattle.world_script.specs.Facts.{StageFacts}
use Rattle.world_script.specs.Stages.{Turn}
use Rattle.world_script.proofs.stage.Stage.lose_at.Goals as goal

pub returns : goal.returns
returns g c =
    let taken = c.take_meant-letter.ensures in (
      record {
        letter = c.take_meant-letter.result;
        left = taken.0;
        taken = taken.1;
        turn = ap {B = Turn} (λ (bs : List ℕ). (bs, c.take_meant-letter.new.self)) c.new.ensures.bytes ∙ ap {B = Turn} (λ (s : StageFacts). ([], s)) taken.2;
      },
      c.in_ok-lost.ensures,
    )
