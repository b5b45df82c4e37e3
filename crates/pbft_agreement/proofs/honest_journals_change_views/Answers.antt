-- The honest family through a view change, as `proofs/EpisodeRows.antt` has it.
use Rattle.pbft_agreement.proofs.EpisodeRows.{honest_episode, executed_twice, replied_twice, carried, stable, installed}
use Rattle.pbft_agreement.proofs.honest_journals_change_views.Goals as goal

pub returns : goal.returns
returns c = record { honest = honest_episode; executes = executed_twice; replies = replied_twice; changes = carried; stable = stable; installs = installed }
