use Rattle.std.proofs.Common.{◌≡◌, Some, refl, subst}
use Rattle.lms_tree.specs.Keys.{after_signing}
use Rattle.client_session.specs.Sessions.{SessionState, accepted_by, asked}
use Rattle.replica_threads.specs.Setup.{setup_of}
use Rattle.host_client.specs.Calls.{left_by}
use Rattle.host_client.proofs.law.calls_are_answered.Goals as goal

pub returns : goal.returns
returns c = λ h records closed faulty s t op called reply report config real accepts.
    let from : SessionState = asked s op (after_signing s.signer) in
    let honest = closed.agree.family faulty report in
    let heard = subst (λ (x : SessionState). accepted_by x ≡ Some reply) called.is accepts in
    let law = c.accepted_replies_are_answers.ensures (setup_of h.config) (left_by h records closed faulty) from called.messages reply honest config refl real heard in
    record { to = law.0; answered = law.1 }
