-- Statement: reading from left to right, with the first fault that is met.
--
-- Each field is checked in its turn, within what holds it (the message, or a body within its length), as `Fields` says. At
-- the end of a body, and of the message, no byte may be left.
use Rattle.std.specs.Prelude.{◌≡◌, ℕ, zero, suc, ◌+◌, List, [], ◌∷◌, length, Option, Some, None, is_some, Result, Ok, Err, nat_lt, ◌==◌, if◌then◌else◌}
use Rattle.std.specs.Int.{w64}
use Rattle.host_types.specs.declared.Digest.{Digest}
use Rattle.host_types.specs.declared.SeqNo.{SeqNo}
use Rattle.host_types.specs.declared.View.{View}
use Rattle.codec_fields.specs.declared.fault.CodecFault.{CodecFault}
use Rattle.codec_fields.specs.declared.fault.CodecFault.TheVariants.{Truncated, Trailing, BadKind, BadField, TooLong, Memory}
use Rattle.codec_fields.specs.Fields.{◌>>=◌, Reading, pair, map, number_at, view_at, client_at, sequence_number_at, digest_at, length_prefixed_at, count_at, id_at}
use Rattle.pbft_codec.specs.declared.body.Body.{Body}
use Rattle.pbft_codec.specs.declared.body.Body.TheVariants as bodies
use Rattle.pbft_codec.specs.declared.body.certificate.Certificate.{Certificate}
use Rattle.pbft_codec.specs.declared.body.checkpoint.Checkpoint.{Checkpoint}
use Rattle.pbft_codec.specs.declared.body.commit.Commit.{Commit}
use Rattle.pbft_codec.specs.declared.body.fetch.Fetch.{Fetch}
use Rattle.pbft_codec.specs.declared.body.fetch.Fetch.TheVariants as fetches
use Rattle.pbft_codec.specs.declared.body.new_view.NewView.{NewView}
use Rattle.pbft_codec.specs.declared.body.pre_prepare.PrePrepare.{PrePrepare}
use Rattle.pbft_codec.specs.declared.body.prepare.Prepare.{Prepare}
use Rattle.pbft_codec.specs.declared.body.reply.ReplyBody.{ReplyBody}
use Rattle.pbft_codec.specs.declared.body.request.RequestBody.{RequestBody}
use Rattle.pbft_codec.specs.declared.body.snapshot.Snapshot.{Snapshot}
use Rattle.pbft_codec.specs.declared.body.view_change.ViewChange.{ViewChange}
use Rattle.pbft_codec.specs.declared.kind.Kind.{Kind}
use Rattle.pbft_codec.specs.declared.kind.Kind.TheVariants as kinds
use Rattle.pbft_codec.specs.declared.signed.Role.{Role}
use Rattle.pbft_codec.specs.declared.signed.Role.TheVariants.{Replica, Client}
use Rattle.pbft_codec.specs.declared.signed.Signed.{Signed}
use Rattle.pbft_codec.specs.Kinds.{kind_byte, kind_of}
use Rattle.pbft_codec.specs.Encoding.{max_bytes}

-- What decoding answers is what reading gives, unless memory ran out.
abbrev pub IsUnlessMemory : {A : Type 0} → Result A CodecFault → Result A CodecFault → Type 0
IsUnlessMemory (Ok x) read = read ≡ Ok x
IsUnlessMemory (Err Memory) read = Unit {0}
IsUnlessMemory (Err e) read = read ≡ Err e

-- ---- ways of reading

-- All of the bytes.
abbrev pub whole : {A : Type 0} → Reading A → List ℕ → Result A CodecFault
whole reading bytes = do
  a ← reading bytes
  if length a.1 == 0 then Ok a.0 else Err Trailing

-- So many values, where the one before says from where the next may begin.
unfoldable pub many_at : {A : Type 0} → (ℕ → Reading A) → (A → ℕ) → ℕ → ℕ → Reading (List A)
many_at reading next zero low bytes = Ok ([], bytes)
many_at reading next (suc n) low bytes = do
  first ← reading low bytes
  others ← many_at reading next n (next first.0) first.1
  Ok (first.0 ∷ others.0, others.1)

-- ---- signed bodies and lists

unfoldable pub role_at : Reading Role
role_at [] = Err Truncated
role_at (b ∷ rest) = if b == 1 then Ok (Replica, rest) else if b == 2 then Ok (Client, rest) else Err BadField

-- A length, and so many bytes, which a value fills.
unfoldable pub framed : {A : Type 0} → Reading A → Reading A
framed reading bytes = do
  inside ← length_prefixed_at bytes
  value ← whole reading inside.0
  Ok (value, inside.1)

-- A signed body: the signer's role and id, the body, the signature.
unfoldable pub signed_at : {B : Type 0} → Reading B → ℕ → Reading (Signed B)
signed_at body low =
    map (λ p. record { role = p.0; id = p.1.0; body = p.1.1.0; sig = p.1.1.1 })
    (pair role_at (pair (id_at low) (pair (framed body) length_prefixed_at)))

-- A count, at most this one, and so many values.
abbrev pub bounded_list_at : {A : Type 0} → ℕ → (ℕ → Reading A) → (A → ℕ) → Reading (List A)
bounded_list_at max reading next bytes = do
  n ← count_at max bytes
  many_at reading next n.0 0 n.1

-- Signed bodies with ids that ascend strictly.
unfoldable pub ascending_at : {B : Type 0} → ℕ → Reading B → Reading (List (Signed B))
ascending_at max body = bounded_list_at max (signed_at body) (λ m. m.id + 1)

-- Values in any order.
unfoldable pub list_at : {A : Type 0} → ℕ → Reading A → Reading (List A)
list_at max reading = bounded_list_at max (λ _. reading) (λ _. 0)

-- The bytes behind the byte of this kind.
unfoldable pub behind : Kind → List ℕ → Result (List ℕ) CodecFault
behind kind [] = Err Truncated
behind kind (b ∷ rest) =
    if b == kind_byte kind then Ok rest
    else if is_some (kind_of b) then Err BadField
    else Err BadKind

-- The byte of this kind, and fields behind it.
abbrev pub kind_at : {A : Type 0} → Kind → Reading A → Reading A
kind_at kind fields bytes = do
  rest ← behind kind bytes
  fields rest

-- ---- bodies, behind the byte of their kind

unfoldable pub request_at : Reading RequestBody
request_at = map (λ p. record { time = p.0; op = p.1 }) (pair (number_at w64) length_prefixed_at)

-- A view, a number and a digest.
abbrev pub proposal_at : Reading (View × (SeqNo × Digest))
proposal_at = pair view_at (pair sequence_number_at digest_at)

unfoldable pub pre_prepare_at : Reading PrePrepare
pre_prepare_at = map (λ p. record { view = p.0; number = p.1.0; digest = p.1.1 }) proposal_at

unfoldable pub prepare_at : Reading Prepare
prepare_at = map (λ p. record { view = p.0; number = p.1.0; digest = p.1.1 }) proposal_at

unfoldable pub commit_at : Reading Commit
commit_at = map (λ p. record { view = p.0; number = p.1.0; digest = p.1.1 }) proposal_at

unfoldable pub reply_at : Reading ReplyBody
reply_at =
    map (λ p. record { view = p.0; client = p.1.0; time = p.1.1.0; number = p.1.1.1.0; result = p.1.1.1.1 })
    (pair view_at (pair client_at (pair (number_at w64) (pair sequence_number_at length_prefixed_at))))

unfoldable pub checkpoint_at : Reading Checkpoint
checkpoint_at = map (λ p. record { number = p.0; digest = p.1 }) (pair sequence_number_at digest_at)

unfoldable pub certificate_at : Reading Certificate
certificate_at =
    map (λ p. record { pre_prepare = p.0; prepares = p.1 })
    (pair (signed_at (kind_at kinds.PrePrepare pre_prepare_at) 0) (ascending_at 10 (kind_at kinds.Prepare prepare_at)))

unfoldable pub view_change_at : Reading ViewChange
view_change_at =
    map (λ p. record { view = p.0; low = p.1.0; checkpoints = p.1.1.0; certificates = p.1.1.1 })
    (pair view_at (pair sequence_number_at
    (pair (ascending_at 10 (kind_at kinds.Checkpoint checkpoint_at)) (list_at 16 certificate_at))))

unfoldable pub new_view_at : Reading NewView
new_view_at =
    map (λ p. record { view = p.0; changes = p.1.0; pre_prepares = p.1.1 })
    (pair view_at (pair (ascending_at 10 (kind_at kinds.ViewChange view_change_at))
    (list_at 16 (signed_at (kind_at kinds.PrePrepare pre_prepare_at) 0))))

unfoldable pub fetch_at : Reading Fetch
fetch_at [] = Err Truncated
fetch_at (selector ∷ rest) =
    if selector == 1 then map fetches.Request digest_at rest
    else if selector == 2 then map fetches.State sequence_number_at rest
    else Err BadField

unfoldable pub snapshot_at : Reading Snapshot
snapshot_at = map (λ p. record { number = p.0; state = p.1 }) (pair sequence_number_at length_prefixed_at)

-- ---- messages

unfoldable pub fields_at : Kind → Reading Body
fields_at kinds.Request = map bodies.Request request_at
fields_at kinds.PrePrepare = map bodies.PrePrepare pre_prepare_at
fields_at kinds.Prepare = map bodies.Prepare prepare_at
fields_at kinds.Commit = map bodies.Commit commit_at
fields_at kinds.Reply = map bodies.Reply reply_at
fields_at kinds.Checkpoint = map bodies.Checkpoint checkpoint_at
fields_at kinds.ViewChange = map bodies.ViewChange view_change_at
fields_at kinds.NewView = map bodies.NewView new_view_at
fields_at kinds.Fetch = map bodies.Fetch fetch_at
fields_at kinds.Snapshot = map bodies.Snapshot snapshot_at

abbrev pub known_at : Option Kind → Reading Body
known_at None bytes = Err BadKind
known_at (Some kind) bytes = fields_at kind bytes

-- A body of any kind.
unfoldable pub body_at : Reading Body
body_at [] = Err Truncated
body_at (b ∷ rest) = known_at (kind_of b) rest

-- The message that all of the bytes encode, or the first fault.
unfoldable pub reading : List ℕ → Result (Signed Body) CodecFault
reading bytes = if nat_lt max_bytes (length bytes) then Err TooLong else whole (signed_at body_at 0) bytes
