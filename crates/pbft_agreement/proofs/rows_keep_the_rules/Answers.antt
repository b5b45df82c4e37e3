-- As `proofs/RowRules.antt` has it.
use Rattle.pbft_agreement.proofs.RowRules.{one_voice, keeps_views, checks_where_executed}
use Rattle.pbft_agreement.proofs.rows_keep_the_rules.Goals as goal

pub returns : goal.returns
returns k = record { voice = one_voice; views = keeps_views; checkpoints = checks_where_executed }
