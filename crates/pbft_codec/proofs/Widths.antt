-- What the fields of a message hold, lengths too. Within the limit of length the lengths follow.
use Rattle.std.proofs.Common.{◌≡◌, ℕ, ◌+◌, ◌<◌, ◌≤◌, ◌^◌, List, [], ◌∷◌, length, ap, ◌∙◌, arith}
use Rattle.std.specs.List.{AllByRecursion}
use Rattle.pbft_codec.specs.declared.body.Body.{Body}
use Rattle.pbft_codec.specs.declared.body.Body.TheVariants as bodies
use Rattle.pbft_codec.specs.declared.body.certificate.Certificate.{Certificate}
use Rattle.pbft_codec.specs.declared.body.checkpoint.Checkpoint.{Checkpoint}
use Rattle.pbft_codec.specs.declared.body.fetch.Fetch.TheVariants as fetches
use Rattle.pbft_codec.specs.declared.body.new_view.NewView.{NewView}
use Rattle.pbft_codec.specs.declared.body.pre_prepare.PrePrepare.{PrePrepare}
use Rattle.pbft_codec.specs.declared.body.prepare.Prepare.{Prepare}
use Rattle.pbft_codec.specs.declared.body.view_change.ViewChange.{ViewChange}
use Rattle.pbft_codec.specs.declared.kind.Kind.TheVariants as kinds
use Rattle.pbft_codec.specs.declared.signed.Signed.{Signed}
use Rattle.pbft_codec.specs.Layouts.{of_kind, length_prefixed, encoded_list, signed, request, pre_prepare, prepare, reply, checkpoint, signed_pre_prepare, signed_prepare, signed_checkpoint, certificate, view_change, signed_view_change, new_view, snapshot}
use Rattle.pbft_codec.specs.Encoding.{body, encoding, max_bytes}
use Rattle.std.specs.Int.{w32, to_be_bytes}
use Rattle.std.specs.List.{flat_map}
use Rattle.std.proofs.lemmas.List.{length-append}
use Rattle.std.proofs.lemmas.List.Concat.{flat_map-cons}
use Rattle.pbft_codec.specs.Limits.{IsView, IsDigest, ProposalFieldsInRange, SignedFieldsInRange, PrePrepareFieldsInRange, PrepareFieldsInRange, CheckpointFieldsInRange, CertificateFieldsInRange, ViewChangeFieldsInRange, NewViewFieldsInRange}
use Rattle.pbft_codec.specs.Bodies.{BodyFieldsInRange}

abbrev pub LengthInRange : List ℕ → Type 0
LengthInRange bytes = length bytes < 2 ^ 32

pub record SignedWidths {B : Type 0} (fields : B → List ℕ) (Widths : B → Type 0) (m : Signed B) : Type 0 where
  pub id_in_range : m.id < 2 ^ 32
  pub body_in_range : Widths m.body
  pub body_length_in_range : LengthInRange (fields m.body)
  pub sig_length_in_range : LengthInRange m.sig

abbrev pub PrePrepareWidths : Signed PrePrepare → Type 0
PrePrepareWidths = SignedWidths (of_kind kinds.PrePrepare pre_prepare) (λ p. ProposalFieldsInRange p.view p.digest)

abbrev pub PrepareWidths : Signed Prepare → Type 0
PrepareWidths = SignedWidths (of_kind kinds.Prepare prepare) (λ p. ProposalFieldsInRange p.view p.digest)

abbrev pub CheckpointWidths : Signed Checkpoint → Type 0
CheckpointWidths = SignedWidths (of_kind kinds.Checkpoint checkpoint) (λ c. IsDigest c.digest)

pub record CertificateWidths (c : Certificate) : Type 0 where
  pub pre_prepare_in_range : PrePrepareWidths c.pre_prepare
  pub prepares_in_range : AllByRecursion PrepareWidths c.prepares

pub record ViewChangeWidths (v : ViewChange) : Type 0 where
  pub view_in_range : IsView v.view
  pub checkpoints_in_range : AllByRecursion CheckpointWidths v.checkpoints
  pub certificates_in_range : AllByRecursion CertificateWidths v.certificates

pub record NewViewWidths (n : NewView) : Type 0 where
  pub view_in_range : IsView n.view
  pub changes_in_range : AllByRecursion (SignedWidths (of_kind kinds.ViewChange view_change) ViewChangeWidths) n.changes
  pub pre_prepares_in_range : AllByRecursion PrePrepareWidths n.pre_prepares

abbrev pub BodyWidths : Body → Type 0
BodyWidths (bodies.Request r) = (r.time < 2 ^ 64) × LengthInRange r.op
BodyWidths (bodies.PrePrepare p) = ProposalFieldsInRange p.view p.digest
BodyWidths (bodies.Prepare p) = ProposalFieldsInRange p.view p.digest
BodyWidths (bodies.Commit c) = ProposalFieldsInRange c.view c.digest
BodyWidths (bodies.Reply r) = IsView r.view × (r.client.0 < 2 ^ 32) × (r.time < 2 ^ 64) × LengthInRange r.result
BodyWidths (bodies.Checkpoint c) = IsDigest c.digest
BodyWidths (bodies.ViewChange v) = ViewChangeWidths v
BodyWidths (bodies.NewView n) = NewViewWidths n
BodyWidths (bodies.Fetch (fetches.Request digest)) = IsDigest digest
BodyWidths (bodies.Fetch (fetches.State n)) = Unit {0}
BodyWidths (bodies.Snapshot s) = LengthInRange s.state

-- ---- lengths of wholes and of parts

pub length_length_prefixed : (bytes : List ℕ) → length (length_prefixed bytes) ≡ 4 + length bytes
unfolding length_prefixed
length_length_prefixed bytes = omega (arith, length-append (to_be_bytes w32 (length bytes)) bytes)

pub length_signed : {B : Type 0} (s : B → List ℕ) (m : Signed B) → length (signed s m) ≡ 13 + length (s m.body) + length m.sig
unfolding signed
length_signed s m = omega (arith, length-append (length_prefixed (s m.body)) (length_prefixed m.sig), length_length_prefixed (s m.body), length_length_prefixed m.sig)

pub length_list : {A : Type 0} (s : A → List ℕ) (xs : List A) → length (encoded_list s xs) ≡ 4 + length (flat_map s xs)
unfolding encoded_list
length_list s xs = omega (arith, length-append (to_be_bytes w32 (length xs)) (flat_map s xs))

pub length_more : {A : Type 0} (s : A → List ℕ) (x : A) (xs : List A) → length (flat_map s (x ∷ xs)) ≡ length (s x) + length (flat_map s xs)
length_more s x xs = ap length (flat_map-cons s x xs) ∙ length-append (s x) (flat_map s xs)

-- ---- lengths left out

narrow_signed : {B : Type 0} (s : B → List ℕ) (W V : B → Type 0) → ((b : B) → W b → V b) → (m : Signed B) → SignedWidths s W m → SignedFieldsInRange V m
narrow_signed s W V inner m fits = record { id_in_range = fits.id_in_range; body_in_range = inner m.body fits.body_in_range }

narrow_all : {B : Type 0} (s : B → List ℕ) (W V : B → Type 0) → ((b : B) → W b → V b) → (ms : List (Signed B)) → AllByRecursion (SignedWidths s W) ms → AllByRecursion (SignedFieldsInRange V) ms
narrow_all s W V inner [] fits = tt
narrow_all s W V inner (m ∷ ms) fits = (narrow_signed s W V inner m fits.0, narrow_all s W V inner ms fits.1)

narrow_certificate : (c : Certificate) → CertificateWidths c → CertificateFieldsInRange c
narrow_certificate c fits = record {
  pre_prepare_in_range = narrow_signed (of_kind kinds.PrePrepare pre_prepare) PrePrepareFieldsInRange PrePrepareFieldsInRange (λ b h. h) c.pre_prepare fits.pre_prepare_in_range;
  prepares_in_range = narrow_all (of_kind kinds.Prepare prepare) PrepareFieldsInRange PrepareFieldsInRange (λ b h. h) c.prepares fits.prepares_in_range;
}

narrow_certificates : (cs : List Certificate) → AllByRecursion CertificateWidths cs → AllByRecursion CertificateFieldsInRange cs
narrow_certificates [] fits = tt
narrow_certificates (c ∷ cs) fits = (narrow_certificate c fits.0, narrow_certificates cs fits.1)

narrow_view_change : (v : ViewChange) → ViewChangeWidths v → ViewChangeFieldsInRange v
narrow_view_change v fits = record {
  view_in_range = fits.view_in_range;
  checkpoints_in_range = narrow_all (of_kind kinds.Checkpoint checkpoint) CheckpointFieldsInRange CheckpointFieldsInRange (λ b h. h) v.checkpoints fits.checkpoints_in_range;
  certificates_in_range = narrow_certificates v.certificates fits.certificates_in_range;
}

narrow_new_view : (n : NewView) → NewViewWidths n → NewViewFieldsInRange n
narrow_new_view n fits = record {
  view_in_range = fits.view_in_range;
  changes_in_range = narrow_all (of_kind kinds.ViewChange view_change) ViewChangeWidths ViewChangeFieldsInRange narrow_view_change n.changes fits.changes_in_range;
  pre_prepares_in_range = narrow_all (of_kind kinds.PrePrepare pre_prepare) PrePrepareFieldsInRange PrePrepareFieldsInRange (λ b h. h) n.pre_prepares fits.pre_prepares_in_range;
}

pub narrow_body : (b : Body) → BodyWidths b → BodyFieldsInRange b
narrow_body (bodies.Request r) fits = fits.0
narrow_body (bodies.PrePrepare p) fits = fits
narrow_body (bodies.Prepare p) fits = fits
narrow_body (bodies.Commit c) fits = fits
narrow_body (bodies.Reply r) fits = record { view_in_range = fits.0; client_in_range = fits.1; time_in_range = fits.2 }
narrow_body (bodies.Checkpoint c) fits = fits
narrow_body (bodies.ViewChange v) fits = narrow_view_change v fits
narrow_body (bodies.NewView n) fits = narrow_new_view n fits
narrow_body (bodies.Fetch (fetches.Request digest)) fits = fits
narrow_body (bodies.Fetch (fetches.State n)) fits = tt
narrow_body (bodies.Snapshot s) fits = tt

-- ---- lengths that follow from the length of the whole

widen_signed : {B : Type 0} (s : B → List ℕ) (V W : B → Type 0) → ((b : B) → V b → LengthInRange (s b) → W b) → (m : Signed B) → SignedFieldsInRange V m → LengthInRange (signed s m) → SignedWidths s W m
widen_signed s V W inner m fits len =
    let body_len : LengthInRange (s m.body) = omega (arith, length_signed s m, len) in
    record { id_in_range = fits.id_in_range; body_in_range = inner m.body fits.body_in_range body_len; body_length_in_range = body_len; sig_length_in_range = omega (arith, length_signed s m, len) }

widen_all : {B : Type 0} (s : B → List ℕ) (V W : B → Type 0) → ((b : B) → V b → LengthInRange (s b) → W b) → (ms : List (Signed B)) → AllByRecursion (SignedFieldsInRange V) ms → LengthInRange (flat_map (signed s) ms) → AllByRecursion (SignedWidths s W) ms
widen_all s V W inner [] fits len = tt
widen_all s V W inner (m ∷ ms) fits len =
    (widen_signed s V W inner m fits.0 (omega (arith, length_more (signed s) m ms, len)), widen_all s V W inner ms fits.1 (omega (arith, length_more (signed s) m ms, len)))

widen_certificate : (c : Certificate) → CertificateFieldsInRange c → LengthInRange (certificate c) → CertificateWidths c
unfolding certificate
widen_certificate c fits len =
    let total = length-append (signed_pre_prepare c.pre_prepare) (encoded_list signed_prepare c.prepares) in
    record {
      pre_prepare_in_range = widen_signed (of_kind kinds.PrePrepare pre_prepare) PrePrepareFieldsInRange PrePrepareFieldsInRange (λ b h l. h) c.pre_prepare fits.pre_prepare_in_range (omega (arith, total, len));
      prepares_in_range = widen_all (of_kind kinds.Prepare prepare) PrepareFieldsInRange PrepareFieldsInRange (λ b h l. h) c.prepares fits.prepares_in_range (omega (arith, total, len, length_list signed_prepare c.prepares));
    }

widen_certificates : (cs : List Certificate) → AllByRecursion CertificateFieldsInRange cs → LengthInRange (flat_map certificate cs) → AllByRecursion CertificateWidths cs
widen_certificates [] fits len = tt
widen_certificates (c ∷ cs) fits len =
    (widen_certificate c fits.0 (omega (arith, length_more certificate c cs, len)), widen_certificates cs fits.1 (omega (arith, length_more certificate c cs, len)))

widen_view_change : (v : ViewChange) → ViewChangeFieldsInRange v → LengthInRange (of_kind kinds.ViewChange view_change v) → ViewChangeWidths v
unfolding view_change
widen_view_change v fits len =
    let total = length-append (encoded_list signed_checkpoint v.checkpoints) (encoded_list certificate v.certificates) in
    record {
      view_in_range = fits.view_in_range;
      checkpoints_in_range = widen_all (of_kind kinds.Checkpoint checkpoint) CheckpointFieldsInRange CheckpointFieldsInRange (λ b h l. h) v.checkpoints fits.checkpoints_in_range (omega (arith, total, len, length_list signed_checkpoint v.checkpoints));
      certificates_in_range = widen_certificates v.certificates fits.certificates_in_range (omega (arith, total, len, length_list certificate v.certificates));
    }

widen_new_view : (n : NewView) → NewViewFieldsInRange n → LengthInRange (of_kind kinds.NewView new_view n) → NewViewWidths n
unfolding new_view
widen_new_view n fits len =
    let total = length-append (encoded_list signed_view_change n.changes) (encoded_list signed_pre_prepare n.pre_prepares) in
    record {
      view_in_range = fits.view_in_range;
      changes_in_range = widen_all (of_kind kinds.ViewChange view_change) ViewChangeFieldsInRange ViewChangeWidths widen_view_change n.changes fits.changes_in_range (omega (arith, total, len, length_list signed_view_change n.changes));
      pre_prepares_in_range = widen_all (of_kind kinds.PrePrepare pre_prepare) PrePrepareFieldsInRange PrePrepareFieldsInRange (λ b h l. h) n.pre_prepares fits.pre_prepares_in_range (omega (arith, total, len, length_list signed_pre_prepare n.pre_prepares));
    }

widen_body : (b : Body) → BodyFieldsInRange b → LengthInRange (body b) → BodyWidths b
unfolding body request reply snapshot
widen_body (bodies.Request r) fits len = (fits, omega (arith, len, length_length_prefixed r.op))
widen_body (bodies.PrePrepare p) fits len = fits
widen_body (bodies.Prepare p) fits len = fits
widen_body (bodies.Commit c) fits len = fits
widen_body (bodies.Reply r) fits len = (fits.view_in_range, fits.client_in_range, fits.time_in_range, omega (arith, len, length_length_prefixed r.result))
widen_body (bodies.Checkpoint c) fits len = fits
widen_body (bodies.ViewChange v) fits len = widen_view_change v fits len
widen_body (bodies.NewView n) fits len = widen_new_view n fits len
widen_body (bodies.Fetch (fetches.Request digest)) fits len = fits
widen_body (bodies.Fetch (fetches.State n)) fits len = tt
widen_body (bodies.Snapshot s) fits len = omega (arith, len, length_length_prefixed s.state)

-- a message within the limit of length
pub widen_message : (m : Signed Body) → SignedFieldsInRange BodyFieldsInRange m → length (encoding m) ≤ max_bytes → SignedWidths body BodyWidths m
widen_message m fits le = widen_signed body BodyFieldsInRange BodyWidths widen_body m fits (omega (arith, le))
