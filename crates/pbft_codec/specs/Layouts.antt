-- Statement: the layout of the fields of a message and of each body. Numbers are unsigned, their highest
-- byte first; bytes behind a length of four bytes, lists behind a count of four bytes.
use Rattle.std.specs.Prelude.{ℕ, List, [], ◌∷◌, ◌++◌, length}
use Rattle.std.specs.List.{flat_map}
use Rattle.std.specs.Int.{w32, w64, to_be_bytes}
use Rattle.host_types.specs.declared.ClientId.{ClientId}
use Rattle.host_types.specs.declared.Digest.{Digest}
use Rattle.host_types.specs.declared.SeqNo.{SeqNo}
use Rattle.host_types.specs.declared.View.{View}
use Rattle.pbft_codec.specs.declared.body.certificate.Certificate.{Certificate}
use Rattle.pbft_codec.specs.declared.body.checkpoint.Checkpoint.{Checkpoint}
use Rattle.pbft_codec.specs.declared.body.commit.Commit.{Commit}
use Rattle.pbft_codec.specs.declared.body.fetch.Fetch.{Fetch}
use Rattle.pbft_codec.specs.declared.body.fetch.Fetch.TheVariants as fetches
use Rattle.pbft_codec.specs.declared.body.new_view.NewView.{NewView}
use Rattle.pbft_codec.specs.declared.body.pre_prepare.PrePrepare.{PrePrepare}
use Rattle.pbft_codec.specs.declared.body.prepare.Prepare.{Prepare}
use Rattle.pbft_codec.specs.declared.body.reply.ReplyBody.{ReplyBody}
use Rattle.pbft_codec.specs.declared.body.request.RequestBody.{RequestBody}
use Rattle.pbft_codec.specs.declared.body.snapshot.Snapshot.{Snapshot}
use Rattle.pbft_codec.specs.declared.body.view_change.ViewChange.{ViewChange}
use Rattle.pbft_codec.specs.declared.kind.Kind.{Kind}
use Rattle.pbft_codec.specs.declared.kind.Kind.TheVariants as kinds
use Rattle.pbft_codec.specs.declared.signed.Role.{Role}
use Rattle.pbft_codec.specs.declared.signed.Role.TheVariants.{Replica, Client}
use Rattle.pbft_codec.specs.declared.signed.Signed.{Signed}
use Rattle.pbft_codec.specs.Kinds.{kind_byte}

abbrev pub role_byte : Role → ℕ
role_byte Replica = 1
role_byte Client = 2

abbrev pub view : View → List ℕ
view v = to_be_bytes w32 v.0

abbrev pub client : ClientId → List ℕ
client c = to_be_bytes w32 c.0

abbrev pub number : SeqNo → List ℕ
number n = to_be_bytes w64 n.0

-- A length, and so many bytes.
unfoldable pub length_prefixed : List ℕ → List ℕ
length_prefixed bytes = to_be_bytes w32 (length bytes) ++ bytes

-- A count, and so many values.
unfoldable pub encoded_list : {A : Type 0} → (A → List ℕ) → List A → List ℕ
encoded_list encoded xs = to_be_bytes w32 (length xs) ++ flat_map encoded xs

-- Who signs, and a body with its length, and a signature with its length.
unfoldable pub signed : {B : Type 0} → (B → List ℕ) → Signed B → List ℕ
signed body m = (role_byte m.role ∷ []) ++ to_be_bytes w32 m.id ++ length_prefixed (body m.body) ++ length_prefixed m.sig

-- The byte of a kind, and the fields of a body.
abbrev pub of_kind : {A : Type 0} → Kind → (A → List ℕ) → A → List ℕ
of_kind kind fields x = kind_byte kind ∷ fields x

unfoldable pub request : RequestBody → List ℕ
request r = to_be_bytes w64 r.time ++ length_prefixed r.op

-- What three kinds of votes name: a view, a number, a digest.
unfoldable pub proposal : View → SeqNo → Digest → List ℕ
proposal v n digest = view v ++ number n ++ digest.0

abbrev pub pre_prepare : PrePrepare → List ℕ
pre_prepare p = proposal p.view p.number p.digest

abbrev pub prepare : Prepare → List ℕ
prepare p = proposal p.view p.number p.digest

abbrev pub commit : Commit → List ℕ
commit c = proposal c.view c.number c.digest

unfoldable pub reply : ReplyBody → List ℕ
reply r = view r.view ++ client r.client ++ to_be_bytes w64 r.time ++ number r.number ++ length_prefixed r.result

unfoldable pub checkpoint : Checkpoint → List ℕ
checkpoint c = number c.number ++ c.digest.0

-- Signed bodies of one kind, as other bodies hold them.
abbrev pub signed_pre_prepare : Signed PrePrepare → List ℕ
signed_pre_prepare = signed (of_kind kinds.PrePrepare pre_prepare)

abbrev pub signed_prepare : Signed Prepare → List ℕ
signed_prepare = signed (of_kind kinds.Prepare prepare)

abbrev pub signed_checkpoint : Signed Checkpoint → List ℕ
signed_checkpoint = signed (of_kind kinds.Checkpoint checkpoint)

unfoldable pub certificate : Certificate → List ℕ
certificate c = signed_pre_prepare c.pre_prepare ++ encoded_list signed_prepare c.prepares

unfoldable pub view_change : ViewChange → List ℕ
view_change v = view v.view ++ number v.low ++ encoded_list signed_checkpoint v.checkpoints ++ encoded_list certificate v.certificates

abbrev pub signed_view_change : Signed ViewChange → List ℕ
signed_view_change = signed (of_kind kinds.ViewChange view_change)

unfoldable pub new_view : NewView → List ℕ
new_view n = view n.view ++ encoded_list signed_view_change n.changes ++ encoded_list signed_pre_prepare n.pre_prepares

unfoldable pub fetch : Fetch → List ℕ
fetch (fetches.Request digest) = 1 ∷ digest.0
fetch (fetches.State n) = 2 ∷ number n

unfoldable pub snapshot : Snapshot → List ℕ
snapshot s = number s.number ++ length_prefixed s.state
