-- As `proofs/Answering.antt` and `proofs/Asking.antt` have it.
use Rattle.pbft_answers.proofs.Executing.{window_in_time}
use Rattle.pbft_answers.proofs.Answering.{enough_execute, all_end, honest_end}
use Rattle.pbft_answers.proofs.Asking.{asked}
use Rattle.pbft_answers.proofs.the_first_window_is_answered.Goals as goal

pub returns : goal.returns
returns k = record {
  enough = λ c j h drained w x proposed. enough_execute c j h w.stands w.leader drained w.asks w.spreads x (window_in_time c j h w.stands w.leader x (w.within x proposed)) proposed;
  all = λ c j h drained w nothing x proposed. all_end c j h w.stands w.leader drained w.asks w.spreads nothing x (window_in_time c j h w.stands w.leader x (w.within x proposed)) proposed;
  honest = λ c j h drained w nobody x proposed. honest_end c j h w.stands w.leader drained w.asks w.spreads nobody x (window_in_time c j h w.stands w.leader x (w.within x proposed)) proposed;
  asked = λ c j h drained w m received s comes room. asked c j h w.stands w.leader m received s comes room;
}
