-- As `proofs/Timely.antt`, `proofs/Answering.antt` and `proofs/Asking.antt` have it.
use Rattle.pbft_answers.proofs.Timely.{comes_in_time, window_timely}
use Rattle.pbft_answers.proofs.Answering.{enough_execute, all_execute, honest_end}
use Rattle.pbft_answers.proofs.Asking.{asked}
use Rattle.pbft_answers.proofs.a_timely_view_is_answered.Goals as goal

pub returns : goal.returns
returns k = record {
  window = window_timely;
  enough = λ c j h drained w x proposed. enough_execute c j h w.stands w.leader drained w.asks w.spreads x (λ n le. comes_in_time c j h w.stands w.leader w.in_time n) proposed;
  all = λ c j h drained w nothing x proposed. all_execute c j h w.stands w.leader drained w.asks w.spreads nothing x (λ n le. comes_in_time c j h w.stands w.leader w.in_time n) proposed;
  honest = λ c j h drained w nobody x proposed. honest_end c j h w.stands w.leader drained w.asks w.spreads nobody x (λ n le. comes_in_time c j h w.stands w.leader w.in_time n) proposed;
  asked = λ c j h drained w m received s comes room. asked c j h w.stands w.leader m received s comes room;
}
