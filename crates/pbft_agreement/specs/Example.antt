-- Statement: an honest family of histories, and one of journals, in which a correct replica executes a client's request.
-- With them agreement is no statement about nothing.
use Rattle.std.specs.Prelude.{ℕ, zero, suc, ◌==◌, List, [], ◌∷◌, map, replicate, None}
use Rattle.host_types.specs.declared.key.PublicKey.{PublicKey}
use Rattle.seal.specs.Keys.{public_key_of_signer}
use Rattle.pbft_model.specs.Words.{Configuration, SigningState, Signed, Body, RequestBody, Client, as_message, sealed_message}
use Rattle.pbft_codec.specs.declared.body.Body.TheVariants as bodies
use Rattle.pbft_model.specs.Setup.{Setup, fresh}
use Rattle.pbft_model.specs.Acts.{Act, Take, Send, Execute, All, ToClient}
use Rattle.pbft_model.specs.Rows.{Row, Received, all_outputs, all_done, all_leaves}
use Rattle.pbft_model.specs.Families.{Family}
use Rattle.pbft_agreement.specs.Journals.{Journals}
use Rattle.pbft_agreement.specs.Worked.{the_client, the_request, the_outcome, after_request, own, a_pre_prepare, a_prepare, a_commit, reply_in_view_0}

-- f = 1 and one client, under whatever hash. Whatever secrets the signers have, the keys are theirs.
abbrev pub tree_id : ℕ → List ℕ
tree_id n = n ∷ replicate 15 0

abbrev pub signer_of : (ℕ → List ℕ) → ℕ → SigningState
signer_of secrets n = fresh (tree_id n) (secrets n)

abbrev pub key_of : (ℕ → List ℕ) → ℕ → PublicKey
key_of secrets n = public_key_of_signer (signer_of secrets n)

abbrev pub the_config : (ℕ → List ℕ) → Configuration
the_config secrets = record {
  f = 1;
  k = 2;
  keys = key_of secrets 0 ∷ key_of secrets 1 ∷ key_of secrets 2 ∷ key_of secrets 3 ∷ [];
  clients = the_client (key_of secrets 100) ∷ [];
}

abbrev pub the_setup : (List ℕ → List ℕ) → (ℕ → List ℕ) → Setup
the_setup hash secrets = record { config = the_config secrets; hash = hash }

abbrev pub a_request : (ℕ → List ℕ) → Signed RequestBody
a_request secrets =
    record { role = Client; id = 100; body = the_request.body; sig = (sealed_message (signer_of secrets 100) Client 100 (bodies.Request the_request.body)).sig }

-- The SHA-256 digest of the request's signed bytes: the client's role and id, the kind, the time, and the operation
-- behind its length.
abbrev pub the_digest : List ℕ
the_digest =
    128 ∷ 94 ∷ 172 ∷ 70 ∷ 55 ∷ 44 ∷ 78 ∷ 132 ∷ 109 ∷ 2 ∷ 203 ∷ 227 ∷ 99 ∷ 187 ∷ 35 ∷ 196 ∷
    189 ∷ 220 ∷ 186 ∷ 90 ∷ 222 ∷ 143 ∷ 64 ∷ 227 ∷ 53 ∷ 176 ∷ 0 ∷ 138 ∷ 227 ∷ 81 ∷ 1 ∷ 141 ∷ []

-- a message of a replica, by the leaf that signs
abbrev pub message_of : (ℕ → List ℕ) → ℕ → ℕ → Body → Signed Body
message_of secrets me leaf body = own (signer_of secrets me) me leaf body

-- The primary proposes the request and commits to it, with the Prepares of 1 and of 3, which is faulty.
abbrev pub acts_of_primary : (ℕ → List ℕ) → List Act
acts_of_primary secrets =
    Send All (message_of secrets 0 1 (a_commit 0 1 the_digest))
    ∷ Take (message_of secrets 3 0 (a_prepare 0 1 the_digest)) None
    ∷ Take (message_of secrets 1 0 (a_prepare 0 1 the_digest)) None
    ∷ Send All (message_of secrets 0 0 (a_pre_prepare 0 1 the_digest))
    ∷ Take (as_message bodies.Request (a_request secrets)) None
    ∷ []

-- Replica 1 prepares and commits too, and executes the request.
abbrev pub acts_of_backup : (ℕ → List ℕ) → List Act
acts_of_backup secrets =
    Execute 1 the_digest (after_request (the_config secrets)) the_outcome
    ∷ Take (message_of secrets 3 1 (a_commit 0 1 the_digest)) None
    ∷ Take (message_of secrets 0 1 (a_commit 0 1 the_digest)) None
    ∷ Send All (message_of secrets 1 1 (a_commit 0 1 the_digest))
    ∷ Take (message_of secrets 3 0 (a_prepare 0 1 the_digest)) None
    ∷ Send All (message_of secrets 1 0 (a_prepare 0 1 the_digest))
    ∷ Take (message_of secrets 0 0 (a_pre_prepare 0 1 the_digest)) None
    ∷ Take (as_message bodies.Request (a_request secrets)) None
    ∷ []

-- Replica 2 gets nothing, and 3 is faulty.
abbrev pub acts_by : (ℕ → List ℕ) → ℕ → List Act
acts_by secrets zero = acts_of_primary secrets
acts_by secrets (suc zero) = acts_of_backup secrets
acts_by secrets (suc (suc n)) = []

abbrev pub the_family : (ℕ → List ℕ) → Family
the_family secrets = record { faulty = λ i. i == 3; signer = signer_of secrets; acts = acts_by secrets }

-- ---- the same in journals: each message that is received, and all that it makes a replica do

abbrev pub Reaction : Type 0
Reaction = Signed Body × List Act

abbrev pub row_of : Setup → Reaction → Row
row_of c reaction = record {
  input = Received reaction.0;
  outputs = all_outputs reaction.1;
  done = all_done c reaction.1;
  leaves = all_leaves reaction.1;
}

abbrev pub rows_of : Setup → List Reaction → List Row
rows_of c reactions = map (row_of c) reactions

-- The primary proposes the request as it comes, and commits to it with the second Prepare.
abbrev pub reactions_of_primary : (ℕ → List ℕ) → List Reaction
reactions_of_primary secrets =
    (as_message bodies.Request (a_request secrets), Send All (message_of secrets 0 0 (a_pre_prepare 0 1 the_digest)) ∷ [])
    ∷ (message_of secrets 1 0 (a_prepare 0 1 the_digest), [])
    ∷ (message_of secrets 3 0 (a_prepare 0 1 the_digest), Send All (message_of secrets 0 1 (a_commit 0 1 the_digest)) ∷ [])
    ∷ []

-- Replica 1 prepares it with the proposal and commits to it with another's Prepare; with the second Commit of another it
-- executes it, and replies to the client.
abbrev pub reactions_of_backup : (ℕ → List ℕ) → List Reaction
reactions_of_backup secrets =
    (as_message bodies.Request (a_request secrets), [])
    ∷ (message_of secrets 0 0 (a_pre_prepare 0 1 the_digest), Send All (message_of secrets 1 0 (a_prepare 0 1 the_digest)) ∷ [])
    ∷ (message_of secrets 3 0 (a_prepare 0 1 the_digest), Send All (message_of secrets 1 1 (a_commit 0 1 the_digest)) ∷ [])
    ∷ (message_of secrets 0 1 (a_commit 0 1 the_digest), [])
    ∷ (
      message_of secrets 3 1 (a_commit 0 1 the_digest),
      Execute 1 the_digest (after_request (the_config secrets)) the_outcome
          ∷ Send (ToClient 100) (message_of secrets 1 2 reply_in_view_0)
          ∷ [],
    )
    ∷ []

-- Replica 2 gets nothing, and 3 is faulty.
abbrev pub reactions_by : (ℕ → List ℕ) → ℕ → List Reaction
reactions_by secrets zero = reactions_of_primary secrets
reactions_by secrets (suc zero) = reactions_of_backup secrets
reactions_by secrets (suc (suc n)) = []

abbrev pub the_journals : (List ℕ → List ℕ) → (ℕ → List ℕ) → Journals
the_journals hash secrets =
    record { faulty = λ i. i == 3; signer = signer_of secrets; rows = λ i. rows_of (the_setup hash secrets) (reactions_by secrets i) }
