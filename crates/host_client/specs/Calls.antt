-- Statement: what a call of a host has heard, and when its reply is the service's answer.
use Rattle.std.specs.Prelude.{◌≡◌, ◌⊎◌, ℕ, Bool, List, Option, Some}
use Rattle.host_types.specs.declared.request.Reply.{Reply}
use Rattle.lms_tree.specs.Keys.{after_signing}
use Rattle.pbft_codec.specs.declared.body.Body.{Body}
use Rattle.pbft_codec.specs.declared.body.request.RequestBody.{RequestBody}
use Rattle.pbft_codec.specs.declared.signed.Signed.{Signed}
use Rattle.seal.specs.Signers.{IsAuthentic}
use Rattle.client_session.specs.Accepted.{AreReal, HasHeard, IsAnswered, IsReplyTo}
use Rattle.client_session.specs.Journals.{AgreesOver, Journals}
use Rattle.client_session.specs.Sessions.{SessionState, accepted_by, asked, offered}
use Rattle.replica_threads.specs.Facts.{RowFacts}
use Rattle.replica_threads.specs.Hosts.{AgreeAtClose, HostFacts}
use Rattle.replica_threads.specs.Records.{journals_of}
use Rattle.replica_threads.specs.Setup.{setup_of}
use Rattle.replica_threads.specs.Worlds.{IsHonestReport}

-- It stays as it is, or is offered an authentic message.
abbrev pub Hears : SessionState → SessionState → Type 0
Hears s t = (t ≡ s) ⊎ ((m : Signed Body) × IsAuthentic s.config m × (t ≡ offered s m))

-- The session made the request of this operation, and was then offered authentic messages: so it came to this.
abbrev pub HasCalled : SessionState → List ℕ → SessionState → Type 0
HasCalled s op t = HasHeard (asked s op (after_signing s.signer)) t

-- The journals that a host left, where these replicas are faulty.
abbrev pub left_by : (h : HostFacts) (records : List (List RowFacts)) → AgreeAtClose h records → (ℕ → Bool) → Journals
left_by h records closed faulty = journals_of faulty closed.signer records

-- The reply that a call accepts is to its request; and on each list of requests that accounts for what the correct replicas
-- did, it is the service's answer.
pub record IsAnswerOf (h : HostFacts) (j : Journals) (s : SessionState) (op : List ℕ) (reply : Reply) : Type 0 where
  pub to : IsReplyTo (asked s op (after_signing s.signer)) reply
  pub answered : (entries : List (Option (Signed RequestBody))) → AgreesOver (setup_of h.config) j entries → IsAnswered (setup_of h.config) entries reply

-- What a call accepts is the service's answer: where at most f of the host's replicas are faulty, nobody forged a correct
-- one's message, Replies to the client included, and no digests collided.
abbrev pub CallsAreAnswered : HostFacts → List (List RowFacts) → Type 0
CallsAreAnswered h records = (closed : AgreeAtClose h records) (faulty : ℕ → Bool) (s t : SessionState) (op : List ℕ) (called : HasCalled s op t) (reply : Reply)
    → IsHonestReport (setup_of h.config) (left_by h records closed faulty) → s.config ≡ h.config
    → AreReal (setup_of h.config) (left_by h records closed faulty) called.messages → accepted_by t ≡ Some reply
    → IsAnswerOf h (left_by h records closed faulty) s op reply
