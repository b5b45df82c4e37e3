-- As `proofs/Recording.antt` has it.
use Rattle.pbft_progress.proofs.Recording.{pre_prepare_recorded, prepare_recorded, commit_recorded_too}
use Rattle.pbft_progress.proofs.a_vote_within_the_marks_is_recorded.Goals as goal

pub returns : goal.returns
returns k = record {
  pre_prepare = λ c me signer m t s b came. pre_prepare_recorded c me signer m t s came b;
  prepare = λ c me signer m t s b came. prepare_recorded c me signer m t s came b;
  commit = λ c me signer m t s b came. commit_recorded_too c me signer m t s came b;
}
