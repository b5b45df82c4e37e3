-- Statement: what a client accepts where the replies that it was offered are real: what the service answered to its
-- request.
use Rattle.std.specs.Prelude.{◌≡◌, ℕ, ◌-◌, ◌≤◌, ◌++◌, List, [], ◌∷◌, slice_get, Option, Some}
use Rattle.host_types.specs.declared.request.Reply.{Reply}
use Rattle.pbft_codec.specs.declared.body.Body.{Body}
use Rattle.pbft_codec.specs.declared.body.Body.TheVariants as bodies
use Rattle.pbft_codec.specs.declared.body.request.RequestBody.{RequestBody}
use Rattle.pbft_codec.specs.declared.signed.Role.TheVariants.{Replica}
use Rattle.pbft_codec.specs.declared.signed.Signed.{Signed}
use Rattle.seal.specs.Parts.{as_message, part_of}
use Rattle.seal.specs.Signers.{IsAuthentic}
use Rattle.pbft_agreement.specs.Agreement.{ServesFirst}
use Rattle.pbft_model.specs.Histories.{IsIn}
use Rattle.pbft_model.specs.Families.{IsCorrect}
use Rattle.pbft_agreement.specs.Journals.{HasGiven, IsReceived, Journals}
use Rattle.pbft_model.specs.Sequential.{Outcome, Service}
use Rattle.pbft_model.specs.Setup.{Setup}
use Rattle.client_session.specs.Sessions.{SessionState, offered}

-- a session that was offered these messages, one after another
abbrev pub after_offers : SessionState → List (Signed Body) → SessionState
after_offers s [] = s
after_offers s (m ∷ ms) = after_offers (offered s m) ms

-- A session has come from another by offers of authentic messages.
pub record HasHeard (s t : SessionState) : Type 0 where
  pub messages : List (Signed Body)
  pub authentic : (m : Signed Body) → IsIn m messages → IsAuthentic s.config m
  pub is : t ≡ after_offers s messages

-- The messages are authentic, and nobody forged: what names a correct replica as its signer, that one gave.
pub record AreReal (c : Setup) (j : Journals) (ms : List (Signed Body)) : Type 0 where
  pub authentic : (m : Signed Body) → IsIn m ms → IsAuthentic c.config m
  pub given : (m : Signed Body) → IsIn m ms → m.role ≡ Replica → IsCorrect c j.faulty m.id → HasGiven (part_of m) (j.rows m.id)

-- The list has at the reply's number a client's request of the reply's client and time, and this reply is the
-- service's answer to it there.
pub record IsAnswered (c : Setup) (entries : List (Option (Signed RequestBody))) (reply : Reply) : Type 0 where
  pub not_zero : 1 ≤ reply.number.0
  pub request : Signed RequestBody
  pub is_entry : slice_get entries (reply.number.0 - 1) ≡ Some (Some request)
  pub client_is : request.id ≡ reply.client.0
  pub time_is : request.body.time ≡ reply.time
  pub state : Service
  pub earlier : List Outcome
  pub outcome : Outcome
  pub serves : ServesFirst c entries reply.number.0 state (earlier ++ outcome ∷ [])
  pub reply_is : outcome.reply ≡ Some reply

-- It is a reply to a session's open request.
pub record IsReplyTo (s : SessionState) (reply : Reply) : Type 0 where
  pub client_is : reply.client ≡ s.client
  pub time_is : reply.time ≡ s.time

-- A client alone signs under its key: each request of it that a correct replica received is the one that it made at
-- that time, of this operation.
abbrev pub SignsAlone : Setup → Journals → ℕ → (ℕ → List ℕ) → Type 0
SignsAlone c j client operation =
    (m : Signed RequestBody) → IsReceived c j (as_message bodies.Request m) → m.id ≡ client → m.body.op ≡ operation m.body.time
