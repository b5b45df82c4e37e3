-- As `proofs/Clients.antt` has it.
use Rattle.std.proofs.Common.{Some, ap, ◌∙◌}
use Rattle.client_answers.proofs.Clients.{replies, accepts_some, executes, only, newest_out}
use Rattle.client_answers.proofs.Listed.{entries, over}
use Rattle.client_answers.proofs.a_timely_view_answers_its_clients.Goals as goal

pub returns : goal.returns
returns k = record {
  replies = λ c j h w x m out i correct result done. replies c j h w x m out i correct result done;
  accepts = λ c j h drained w x m out s ms session hears. accepts_some c j h w x m out drained s ms session hears;
  answer = λ c j h drained w x m out s ms session hears fresh real.
      let accepted = accepts_some c j h w x m out drained s ms session hears in
      let done = executes c j h w x m out drained in
      let law = k.accepted_replies_are_answers.ensures c j s ms accepted.0 h session.config_is fresh real accepted.1 in
      let same = only c j h w x m out drained s ms session accepted.0 law.0 (law.1 (entries c j h w.stands w.leader) (over c j h w.stands w.leader)) in
      (done.0, done.1, accepted.1 ∙ ap Some same);
  newest = λ c j h w m n. newest_out c j h w m n;
}
