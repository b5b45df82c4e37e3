-- A run without a view change, as `proofs/Steady.antt` has it.
use Rattle.pbft_model.proofs.Steady.{stays, commits}
use Rattle.pbft_model.proofs.a_steady_run_stays_in_view_0.Goals as goal

pub returns : goal.returns
returns c = record { stays = stays; commits = commits }
