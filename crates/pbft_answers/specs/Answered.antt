-- Statement: an honest family of journals whose messages have all come, in which a client's request is executed by each correct
-- replica in view 0, while the fourth is faulty and silent.
use Rattle.std.specs.Prelude.{ℕ, zero, suc, ◌==◌, List, [], ◌∷◌}
use Rattle.pbft_model.specs.Words.{Signed, Body, as_message}
use Rattle.pbft_codec.specs.declared.body.Body.TheVariants as bodies
use Rattle.pbft_model.specs.Acts.{Act, Send, Execute, All, ToClient}
use Rattle.pbft_agreement.specs.Journals.{Journals}
use Rattle.pbft_agreement.specs.Worked.{the_outcome, after_request, a_pre_prepare, a_prepare, a_commit, reply_in_view_0}
use Rattle.pbft_agreement.specs.Example.{signer_of, the_config, the_setup, a_request, the_digest, message_of}
use Rattle.pbft_agreement.specs.Episode.{Turn, taking, rows_of_turns}

abbrev pub the_proposal : (ℕ → List ℕ) → Signed Body
the_proposal secrets = message_of secrets 0 0 (a_pre_prepare 0 1 the_digest)

abbrev pub prepare_by : (ℕ → List ℕ) → ℕ → Signed Body
prepare_by secrets me = message_of secrets me 0 (a_prepare 0 1 the_digest)

abbrev pub commit_by : (ℕ → List ℕ) → ℕ → Signed Body
commit_by secrets me = message_of secrets me 1 (a_commit 0 1 the_digest)

abbrev pub reply_by : (ℕ → List ℕ) → ℕ → Signed Body
reply_by secrets me = message_of secrets me 2 reply_in_view_0

-- The request is executed and answered.
abbrev pub executing : (ℕ → List ℕ) → ℕ → List Act
executing secrets me = Execute 1 the_digest (after_request (the_config secrets)) the_outcome ∷ Send (ToClient 100) (reply_by secrets me) ∷ []

-- A backup prepares, commits with the other backup's Prepare, and executes with the two others' Commits.
abbrev pub turns_of_backup : (ℕ → List ℕ) → ℕ → ℕ → List Turn
turns_of_backup secrets me other =
    taking (as_message bodies.Request (a_request secrets)) []
    ∷ taking (the_proposal secrets) (Send All (prepare_by secrets me) ∷ [])
    ∷ taking (prepare_by secrets other) (Send All (commit_by secrets me) ∷ [])
    ∷ taking (commit_by secrets 0) []
    ∷ taking (commit_by secrets other) (executing secrets me)
    ∷ []

abbrev pub turns_by : (ℕ → List ℕ) → ℕ → List Turn
turns_by secrets zero =
    taking (as_message bodies.Request (a_request secrets)) (Send All (the_proposal secrets) ∷ [])
    ∷ taking (prepare_by secrets 1) []
    ∷ taking (prepare_by secrets 2) (Send All (commit_by secrets 0) ∷ [])
    ∷ taking (commit_by secrets 1) []
    ∷ taking (commit_by secrets 2) (executing secrets 0)
    ∷ []
turns_by secrets (suc zero) = turns_of_backup secrets 1 2
turns_by secrets (suc (suc zero)) = turns_of_backup secrets 2 1
turns_by secrets (suc (suc (suc n))) = []

-- Replica 3 is faulty.
abbrev pub the_answered : (List ℕ → List ℕ) → (ℕ → List ℕ) → Journals
the_answered hash secrets =
    record { faulty = λ i. i == 3; signer = signer_of secrets; rows = λ i. rows_of_turns (the_setup hash secrets) (turns_by secrets i) }
