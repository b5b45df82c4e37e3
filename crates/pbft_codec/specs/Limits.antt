-- Statement: which fields each body may have. A sequence number is below 2^48. A list holds at most 10
-- signers, one message of each replica: 3f + 1 with f at most 3. It holds at most 16 sequence numbers,
-- those between the water marks: two checkpoint intervals, which are at most 8.
use Rattle.std.specs.Prelude.{◌≡◌, ℕ, ◌+◌, ◌<◌, ◌≤◌, ◌^◌, List, [], ◌∷◌, length}
use Rattle.std.specs.List.{AllByRecursion}
use Rattle.host_types.specs.declared.Digest.{Digest}
use Rattle.host_types.specs.declared.SeqNo.{SeqNo}
use Rattle.host_types.specs.declared.View.{View}
use Rattle.pbft_codec.specs.declared.body.certificate.Certificate.{Certificate}
use Rattle.pbft_codec.specs.declared.body.checkpoint.Checkpoint.{Checkpoint}
use Rattle.pbft_codec.specs.declared.body.commit.Commit.{Commit}
use Rattle.pbft_codec.specs.declared.body.fetch.Fetch.{Fetch}
use Rattle.pbft_codec.specs.declared.body.fetch.Fetch.TheVariants as fetches
use Rattle.pbft_codec.specs.declared.body.new_view.NewView.{NewView}
use Rattle.pbft_codec.specs.declared.body.pre_prepare.PrePrepare.{PrePrepare}
use Rattle.pbft_codec.specs.declared.body.prepare.Prepare.{Prepare}
use Rattle.pbft_codec.specs.declared.body.reply.ReplyBody.{ReplyBody}
use Rattle.pbft_codec.specs.declared.body.view_change.ViewChange.{ViewChange}
use Rattle.pbft_codec.specs.declared.signed.Signed.{Signed}

-- ---- numbers, counts and the order of ids

abbrev pub IsSequenceNumber : SeqNo → Type 0
IsSequenceNumber n = n.0 < 2 ^ 48

-- Ids ascend strictly, and the first is at least this one.
abbrev pub AscendFrom : {B : Type 0} → ℕ → List (Signed B) → Type 0
AscendFrom low [] = Unit {0}
AscendFrom low (m ∷ ms) = (low ≤ m.id) × AscendFrom (m.id + 1) ms

-- Each body is as this says.
abbrev pub EachBody : {B : Type 0} → (B → Type 0) → List (Signed B) → Type 0
EachBody P ms = AllByRecursion (λ m. P m.body) ms

pub record CertificateWellFormed (c : Certificate) : Type 0 where
  pub number : IsSequenceNumber c.pre_prepare.body.number
  pub few : length c.prepares ≤ 10
  pub ascend : AscendFrom 0 c.prepares
  pub numbers : EachBody (λ p. IsSequenceNumber p.number) c.prepares

pub record ViewChangeWellFormed (v : ViewChange) : Type 0 where
  pub low : IsSequenceNumber v.low
  pub few_checkpoints : length v.checkpoints ≤ 10
  pub ascend : AscendFrom 0 v.checkpoints
  pub numbers : EachBody (λ c. IsSequenceNumber c.number) v.checkpoints
  pub few_certificates : length v.certificates ≤ 16
  pub certificates : AllByRecursion CertificateWellFormed v.certificates

pub record NewViewWellFormed (n : NewView) : Type 0 where
  pub few_changes : length n.changes ≤ 10
  pub ascend : AscendFrom 0 n.changes
  pub changes : EachBody ViewChangeWellFormed n.changes
  pub few_pre_prepares : length n.pre_prepares ≤ 16
  pub numbers : EachBody (λ p. IsSequenceNumber p.number) n.pre_prepares

-- ---- the range of fields: numbers of four and eight bytes, digests of 32

abbrev pub IsView : View → Type 0
IsView v = v.0 < 2 ^ 32

abbrev pub IsDigest : Digest → Type 0
IsDigest d = length d.0 ≡ 32

pub record ProposalFieldsInRange (view : View) (digest : Digest) : Type 0 where
  pub view_in_range : IsView view
  pub digest_in_range : IsDigest digest

pub record SignedFieldsInRange {B : Type 0} (FieldsInRange : B → Type 0) (m : Signed B) : Type 0 where
  pub id_in_range : m.id < 2 ^ 32
  pub body_in_range : FieldsInRange m.body

abbrev pub PrePrepareFieldsInRange : PrePrepare → Type 0
PrePrepareFieldsInRange p = ProposalFieldsInRange p.view p.digest

abbrev pub PrepareFieldsInRange : Prepare → Type 0
PrepareFieldsInRange p = ProposalFieldsInRange p.view p.digest

abbrev pub CommitFieldsInRange : Commit → Type 0
CommitFieldsInRange c = ProposalFieldsInRange c.view c.digest

abbrev pub CheckpointFieldsInRange : Checkpoint → Type 0
CheckpointFieldsInRange c = IsDigest c.digest

pub record CertificateFieldsInRange (c : Certificate) : Type 0 where
  pub pre_prepare_in_range : SignedFieldsInRange PrePrepareFieldsInRange c.pre_prepare
  pub prepares_in_range : AllByRecursion (SignedFieldsInRange PrepareFieldsInRange) c.prepares

pub record ViewChangeFieldsInRange (v : ViewChange) : Type 0 where
  pub view_in_range : IsView v.view
  pub checkpoints_in_range : AllByRecursion (SignedFieldsInRange CheckpointFieldsInRange) v.checkpoints
  pub certificates_in_range : AllByRecursion CertificateFieldsInRange v.certificates

pub record NewViewFieldsInRange (n : NewView) : Type 0 where
  pub view_in_range : IsView n.view
  pub changes_in_range : AllByRecursion (SignedFieldsInRange ViewChangeFieldsInRange) n.changes
  pub pre_prepares_in_range : AllByRecursion (SignedFieldsInRange PrePrepareFieldsInRange) n.pre_prepares

pub record ReplyFieldsInRange (r : ReplyBody) : Type 0 where
  pub view_in_range : IsView r.view
  pub client_in_range : r.client.0 < 2 ^ 32
  pub time_in_range : r.time < 2 ^ 64

-- Which state or request a Fetch names.
abbrev pub FetchWellFormed : Fetch → Type 0
FetchWellFormed (fetches.Request digest) = Unit {0}
FetchWellFormed (fetches.State n) = IsSequenceNumber n

abbrev pub FetchFieldsInRange : Fetch → Type 0
FetchFieldsInRange (fetches.Request digest) = IsDigest digest
FetchFieldsInRange (fetches.State n) = Unit {0}
