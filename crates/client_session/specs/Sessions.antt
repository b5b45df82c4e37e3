-- Statement: a client's session (Castro and Liskov 1999, section 4.1): the requests that it makes, and the
-- reply that it accepts.
use Rattle.std.proofs.Common.{zero, suc}
use Rattle.std.specs.Prelude.{◌≡◌, ℕ, ◌+◌, ◌++◌, ◌==◌, Bool, ◌&&◌, cond, nat_lt, List, [], ◌∷◌, find, Option, Some, None, is_none, is_some, bytes_eq, if◌then◌else◌}
use Rattle.std.specs.List.{list_any}
use Rattle.std.specs.Option.{option_map}
use Rattle.host_types.specs.Configuration.{Configuration, replicas_for}
use Rattle.host_types.specs.declared.ClientId.{ClientId}
use Rattle.host_types.specs.declared.key.PublicKey.{PublicKey}
use Rattle.host_types.specs.declared.request.Reply.{Reply}
use Rattle.lms_tree.specs.Keys.{IsKeyOf}
use Rattle.lms_tree.specs.SigningState.{SigningState}
use Rattle.pbft_codec.specs.declared.body.Body.{Body}
use Rattle.pbft_codec.specs.declared.body.Body.TheVariants as bodies
use Rattle.pbft_codec.specs.declared.body.reply.ReplyBody.{ReplyBody}
use Rattle.pbft_codec.specs.declared.signed.Role.TheVariants.{Client}
use Rattle.pbft_codec.specs.declared.signed.Signed.{Signed}
use Rattle.seal.specs.Opening.{sealed_message}
use Rattle.seal.specs.Signers.{key_of}
use Rattle.client_session.specs.declared.answer.Answer.{Answer}

-- What a contract sees of a session.
pub record SessionState : Type 0 where
  pub config : Configuration
  pub client : ClientId
  pub signer : SigningState
  -- the time of the last request; before the first, the time that it goes on behind, which is 0 for a new client
  pub time : ℕ
  -- what was replied to the open request, in the order of the offers, until a reply was accepted
  pub answers : List Answer
  -- the last request that was made, which is open until a reply is accepted
  pub request : Option (Signed Body)

-- a session that has made no request, and whose first one has the time behind this one
abbrev pub session_behind : Configuration → ClientId → SigningState → ℕ → SessionState
session_behind config client signer time = record { config = config; client = client; signer = signer; time = time; answers = []; request = None }

-- The session's signer has the key that is listed for the client.
pub record MaySign (s : SessionState) : Type 0 where
  pub key : PublicKey
  pub listed : key_of s.config Client s.client.0 ≡ Some key
  pub is_key : IsKeyOf key s.signer

-- ---- requests

abbrev pub request_of : SessionState → List ℕ → Body
request_of s op = bodies.Request (record { time = s.time + 1; op = op })

-- the message that a session makes of an operation
abbrev pub next_request : SessionState → List ℕ → Signed Body
next_request s op = sealed_message s.signer Client s.client.0 (request_of s op)

-- a session that has made the request of an operation, with this signer then
abbrev pub asked : SessionState → List ℕ → SigningState → SessionState
asked s op signer = record s { signer = signer; time = s.time + 1; answers = []; request = Some (next_request s op) }

-- ---- replies

-- the answer has this number and this result
abbrev pub says : ℕ → List ℕ → Answer → Bool
says number result a = (a.number.0 == number) && bytes_eq a.result result

-- the replica has answered so
abbrev pub has_said : List Answer → ℕ → List ℕ → ℕ → Bool
has_said answers number result replica = list_any (λ a. (a.replica == replica) && says number result a) answers

-- how many of the replicas below n have
unfoldable pub backers : List Answer → ℕ → List ℕ → ℕ → ℕ
backers answers number result zero = 0
backers answers number result (suc n) = cond (has_said answers number result n) 1 0 + backers answers number result n

-- f + 1 different replicas have answered so, of which one is correct if at most f are faulty
abbrev pub is_vouched : ℕ → List Answer → ℕ → List ℕ → Bool
is_vouched f answers number result = nat_lt f (backers answers number result (replicas_for f))

abbrev pub is_vouched_answer : ℕ → List Answer → Answer → Bool
is_vouched_answer f answers a = is_vouched f answers a.number.0 a.result

abbrev pub reply_to : SessionState → Answer → Reply
reply_to s a = record { client = s.client; time = s.time; number = a.number; result = a.result }

-- The reply that is accepted: what f + 1 different replicas have answered to the open request.
abbrev pub accepted_by : SessionState → Option Reply
accepted_by s = option_map (reply_to s) (find (is_vouched_answer s.config.f s.answers) s.answers)

-- It is a reply to the open request, and none is accepted yet.
abbrev pub awaits : SessionState → ReplyBody → Bool
awaits s b = is_some s.request && (is_none (accepted_by s) && ((b.client.0 == s.client.0) && (b.time == s.time)))

abbrev pub answer_in : ℕ → ReplyBody → Answer
answer_in replica b = record { replica = replica; number = b.number; result = b.result }

-- a session that was offered a body: all but replies to the open request is passed over
abbrev pub after_offer : SessionState → ℕ → Body → SessionState
after_offer s replica (bodies.Reply b) =
    if awaits s b then record s { answers = s.answers ++ answer_in replica b ∷ [] } else s
after_offer s replica _ = s

abbrev pub offered : SessionState → Signed Body → SessionState
offered s m = after_offer s m.id m.body
