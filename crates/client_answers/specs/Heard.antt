-- Statement: the session of the client in the worked family, and the messages that it is offered.
use Rattle.std.specs.Prelude.{ℕ, List, [], ◌∷◌}
use Rattle.pbft_answers.specs.Words.{Signed, Body}
use Rattle.pbft_answers.specs.Setup.{signer_after}
use Rattle.pbft_answers.specs.Duties.{reply_body}
use Rattle.pbft_answers.specs.Example.{signer_of, the_config, message_of}
use Rattle.pbft_answers.specs.Worked.{the_reply}
use Rattle.pbft_answers.specs.Answered.{reply_by}
use Rattle.client_session.specs.Sessions.{SessionState, asked, session_behind}

-- It has asked for its first operation.
abbrev pub the_session : (ℕ → List ℕ) → SessionState
the_session secrets =
    let signer = signer_of secrets 100 in
    asked (session_behind (the_config secrets) (record { 0 = 100 }) signer 0) (7 ∷ []) (signer_after signer 1)

-- another result, by the faulty replica
abbrev pub a_lie : (ℕ → List ℕ) → Signed Body
a_lie secrets = message_of secrets 3 0 (reply_body 0 (record the_reply { result = 2 ∷ [] }))

abbrev pub the_messages : (ℕ → List ℕ) → List (Signed Body)
the_messages secrets = a_lie secrets ∷ reply_by secrets 2 ∷ reply_by secrets 0 ∷ reply_by secrets 1 ∷ []
