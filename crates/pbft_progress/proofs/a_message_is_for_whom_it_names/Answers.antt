use Rattle.std.proofs.Common.{refl, sym}
use Rattle.pbft_progress.proofs.a_message_is_for_whom_it_names.Goals as goal

pub returns : goal.returns
returns k = record { all = λ i. tt; one = λ i. refl; alone = λ i to h. sym h; client = λ i to h. h }
