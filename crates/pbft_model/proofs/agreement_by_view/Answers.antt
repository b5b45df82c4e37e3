-- Agreement by view, as `proofs/ByView.antt` has it.
use Rattle.pbft_model.proofs.ByView.{agrees_by_view}
use Rattle.pbft_model.proofs.agreement_by_view.Goals as goal

pub returns : goal.returns
returns c setup family unforged = agrees_by_view setup family unforged
