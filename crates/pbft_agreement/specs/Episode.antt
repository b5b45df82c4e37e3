-- Statement: an honest family of journals through a view change: a correct replica executes a request in view 0, another one
-- in view 1, to which the request's certificate was carried; a checkpoint becomes stable, and a third installs its snapshot.
use Rattle.std.specs.Prelude.{◌≡◌, ℕ, zero, suc, ◌==◌, List, [], ◌∷◌, map, Option, Some, None}
use Rattle.pbft_model.specs.Words.{Configuration, Signed, Body, PrePrepare, Prepare, Certificate, ViewChange, NewView, as_message}
use Rattle.pbft_codec.specs.declared.body.Body.TheVariants as bodies
use Rattle.pbft_codec.specs.declared.body.fetch.Fetch.TheVariants as fetches
use Rattle.pbft_model.specs.Sequential.{Service, encoded}
use Rattle.pbft_model.specs.Setup.{Setup, signed_by, signer_after}
use Rattle.pbft_model.specs.Core.{Core}
use Rattle.pbft_model.specs.Acts.{Act, Send, Enter, Rise, Execute, Install, All, ToReplica, ToClient}
use Rattle.pbft_model.specs.Rows.{Row, Input, Received, TimedOut, all_outputs, all_done, all_leaves}
use Rattle.pbft_model.specs.Rules.{pre_prepare_of}
use Rattle.pbft_agreement.specs.Journals.{Journals, ComesTo}
use Rattle.pbft_agreement.specs.Worked.{fields_at, the_reply, the_outcome, after_request, a_prepare, a_commit, a_checkpoint, reply_in_view_0}
use Rattle.pbft_model.specs.Duties.{reply_body}
use Rattle.pbft_agreement.specs.Example.{signer_of, the_config, a_request, the_digest, message_of}

-- The same replicas and the same client, with a checkpoint after each number.
abbrev pub episode_config : (ℕ → List ℕ) → Configuration
episode_config secrets = record (the_config secrets) { k = 1 }

abbrev pub episode_setup : (List ℕ → List ℕ) → (ℕ → List ℕ) → Setup
episode_setup hash secrets = record { config = episode_config secrets; hash = hash }

abbrev pub the_state : (ℕ → List ℕ) → Service
the_state secrets = after_request (episode_config secrets)

-- the SHA-256 digest of that state's bytes
abbrev pub the_state_digest : List ℕ
the_state_digest =
    25 ∷ 178 ∷ 37 ∷ 10 ∷ 209 ∷ 26 ∷ 170 ∷ 192 ∷ 172 ∷ 195 ∷ 236 ∷ 89 ∷ 83 ∷ 152 ∷ 241 ∷ 244 ∷
    109 ∷ 196 ∷ 71 ∷ 112 ∷ 39 ∷ 196 ∷ 128 ∷ 145 ∷ 195 ∷ 146 ∷ 233 ∷ 37 ∷ 156 ∷ 147 ∷ 133 ∷ 216 ∷ []

-- ---- what is said, by who says it and the leaf that signs

abbrev pub proposal_by : (ℕ → List ℕ) → ℕ → ℕ → ℕ → Signed PrePrepare
proposal_by secrets me leaf view =
    signed_by bodies.PrePrepare (signer_after (signer_of secrets me) leaf) me (pre_prepare_of (fields_at view 1 the_digest))

abbrev pub prepare_by : (ℕ → List ℕ) → ℕ → ℕ → ℕ → Signed Prepare
prepare_by secrets me leaf view =
    signed_by bodies.Prepare (signer_after (signer_of secrets me) leaf) me (record { view = record { 0 = view }; number = record { 0 = 1 }; digest = record { 0 = the_digest } })

-- Replica 1 prepared the request in view 0, with the Prepare of 3, and reports it as it leaves the view.
abbrev pub the_certificate : (ℕ → List ℕ) → Certificate
the_certificate secrets = record { pre_prepare = proposal_by secrets 0 0 0; prepares = prepare_by secrets 1 0 0 ∷ prepare_by secrets 3 0 0 ∷ [] }

abbrev pub change_with : List Certificate → ViewChange
change_with certificates = record { view = record { 0 = 1 }; low = record { 0 = 0 }; checkpoints = []; certificates = certificates }

abbrev pub change_by : (ℕ → List ℕ) → ℕ → ℕ → List Certificate → Signed ViewChange
change_by secrets me leaf certificates = signed_by bodies.ViewChange (signer_after (signer_of secrets me) leaf) me (change_with certificates)

-- Replica 2 has prepared nothing, and 3, which is faulty, keeps silent about its Prepare. The view's primary carries the
-- certificate's digest into view 1.
abbrev pub the_new_view : (ℕ → List ℕ) → NewView
the_new_view secrets = record {
  view = record { 0 = 1 };
  changes = change_by secrets 1 2 (the_certificate secrets ∷ []) ∷ change_by secrets 2 0 [] ∷ change_by secrets 3 2 [] ∷ [];
  pre_prepares = proposal_by secrets 1 3 1 ∷ [];
}

abbrev pub new_view_by_1 : (ℕ → List ℕ) → Signed NewView
new_view_by_1 secrets = signed_by bodies.NewView (signer_after (signer_of secrets 1) 4) 1 (the_new_view secrets)

abbrev pub checkpoint_by : (ℕ → List ℕ) → ℕ → ℕ → Signed Body
checkpoint_by secrets me leaf = message_of secrets me leaf (a_checkpoint 1 the_state_digest)

abbrev pub the_fetch : (ℕ → List ℕ) → Signed Body
the_fetch secrets = message_of secrets 2 3 (bodies.Fetch (fetches.State (record { 0 = 1 })))

abbrev pub the_snapshot : (ℕ → List ℕ) → Signed Body
the_snapshot secrets = message_of secrets 0 4 (bodies.Snapshot (record { number = record { 0 = 1 }; state = encoded (the_state secrets) }))

abbrev pub request_of_client : (ℕ → List ℕ) → Signed Body
request_of_client secrets = as_message bodies.Request (a_request secrets)

-- ---- what each replica does

-- An input, with its reading as a state, and the acts that it leads to.
pub record Turn : Type 0 where
  pub input : Input
  pub reading : Option Service
  pub acts : List Act

abbrev pub taking : Signed Body → List Act → Turn
taking m acts = record { input = Received m; reading = None; acts = acts }

abbrev pub row_of_turn : Setup → Turn → Row
row_of_turn c t = record { input = t.input; outputs = all_outputs t.acts; done = all_done c t.acts; leaves = all_leaves t.acts }

abbrev pub rows_of_turns : Setup → List Turn → List Row
rows_of_turns c turns = map (row_of_turn c) turns

abbrev pub executing : (ℕ → List ℕ) → Act
executing secrets = Execute 1 the_digest (the_state secrets) the_outcome

-- The primary of view 0 proposes the request, executes it in that view, and sends the snapshot when it is asked for it.
abbrev pub turns_of_0 : (ℕ → List ℕ) → List Turn
turns_of_0 secrets =
    taking (request_of_client secrets) (Send All (as_message bodies.PrePrepare (proposal_by secrets 0 0 0)) ∷ [])
    ∷ taking (message_of secrets 1 0 (a_prepare 0 1 the_digest)) []
    ∷ taking (message_of secrets 3 0 (a_prepare 0 1 the_digest)) (Send All (message_of secrets 0 1 (a_commit 0 1 the_digest)) ∷ [])
    ∷ taking (message_of secrets 1 1 (a_commit 0 1 the_digest)) []
    ∷ taking (message_of secrets 3 1 (a_commit 0 1 the_digest)) (executing secrets
    ∷ Send (ToClient 100) (message_of secrets 0 2 reply_in_view_0)
    ∷ Send All (checkpoint_by secrets 0 3)
    ∷ [])
    ∷ taking (checkpoint_by secrets 1 7) []
    ∷ taking (checkpoint_by secrets 3 5) (Rise 1 the_state_digest ∷ [])
    ∷ taking (the_fetch secrets) (Send (ToReplica 2) (the_snapshot secrets) ∷ [])
    ∷ []

-- Replica 1 commits to it in view 0, leaves the view with its certificate, leads view 1 and executes it there.
abbrev pub turns_of_1 : (ℕ → List ℕ) → List Turn
turns_of_1 secrets =
    taking (request_of_client secrets) []
    ∷ taking (as_message bodies.PrePrepare (proposal_by secrets 0 0 0)) (Send All (message_of secrets 1 0 (a_prepare 0 1 the_digest)) ∷ [])
    ∷ taking (message_of secrets 3 0 (a_prepare 0 1 the_digest)) (Send All (message_of secrets 1 1 (a_commit 0 1 the_digest)) ∷ [])
    ∷ record { input = TimedOut; reading = None; acts = Send All (as_message bodies.ViewChange (change_by secrets 1 2 (the_certificate secrets ∷ []))) ∷ [] }
    ∷ taking (as_message bodies.ViewChange (change_by secrets 2 0 [])) []
    ∷ taking (as_message bodies.ViewChange (change_by secrets 3 2 [])) (Send All (as_message bodies.NewView (new_view_by_1 secrets)) ∷ [])
    ∷ taking (message_of secrets 2 1 (a_prepare 1 1 the_digest)) []
    ∷ taking (message_of secrets 3 3 (a_prepare 1 1 the_digest)) (Send All (message_of secrets 1 5 (a_commit 1 1 the_digest)) ∷ [])
    ∷ taking (message_of secrets 2 2 (a_commit 1 1 the_digest)) []
    ∷ taking (message_of secrets 3 4 (a_commit 1 1 the_digest)) (executing secrets
    ∷ Send (ToClient 100) (message_of secrets 1 6 (reply_body 1 the_reply))
    ∷ Send All (checkpoint_by secrets 1 7)
    ∷ [])
    ∷ taking (checkpoint_by secrets 0 3) []
    ∷ taking (checkpoint_by secrets 3 5) (Rise 1 the_state_digest ∷ [])
    ∷ []

-- Replica 2 times out, follows replica 1 into view 1 and commits to the request, but misses the others' Commits. Their
-- Checkpoints show it that number 1 is stable, and it fetches the snapshot and installs it.
abbrev pub turns_of_2 : (ℕ → List ℕ) → List Turn
turns_of_2 secrets =
    taking (request_of_client secrets) []
    ∷ record { input = TimedOut; reading = None; acts = Send All (as_message bodies.ViewChange (change_by secrets 2 0 [])) ∷ [] }
    ∷ taking (as_message bodies.NewView (new_view_by_1 secrets)) (Enter (new_view_by_1 secrets)
    ∷ Send All (message_of secrets 2 1 (a_prepare 1 1 the_digest))
    ∷ [])
    ∷ taking (message_of secrets 3 3 (a_prepare 1 1 the_digest)) (Send All (message_of secrets 2 2 (a_commit 1 1 the_digest)) ∷ [])
    ∷ taking (checkpoint_by secrets 0 3) []
    ∷ taking (checkpoint_by secrets 1 7) []
    ∷ taking (checkpoint_by secrets 3 5) (Send All (the_fetch secrets) ∷ [])
    ∷ record { input = Received (the_snapshot secrets); reading = Some (the_state secrets); acts = Install 1 (encoded (the_state secrets)) (the_state secrets) ∷ [] }
    ∷ []

-- Replica 3 is faulty.
abbrev pub turns_by : (ℕ → List ℕ) → ℕ → List Turn
turns_by secrets zero = turns_of_0 secrets
turns_by secrets (suc zero) = turns_of_1 secrets
turns_by secrets (suc (suc zero)) = turns_of_2 secrets
turns_by secrets (suc (suc (suc n))) = []

abbrev pub the_episode : (List ℕ → List ℕ) → (ℕ → List ℕ) → Journals
the_episode hash secrets = record {
  faulty = λ i. i == 3;
  signer = signer_of secrets;
  rows = λ i. rows_of_turns (episode_setup hash secrets) (turns_by secrets i);
}

-- Behind its rows a replica has the low mark at this number, stable by the Checkpoints of these signers.
pub record IsStableAfter (c : Setup) (j : Journals) (i number : ℕ) (signers : List ℕ) : Type 0 where
  pub core : Core
  pub comes : ComesTo c j i (j.rows i) core
  pub low : core.low ≡ number
  pub proof : map (λ m. m.id) core.proof ≡ signers
