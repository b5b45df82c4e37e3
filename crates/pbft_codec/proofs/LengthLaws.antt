-- How long encodings are.
use Rattle.std.proofs.Common.{◌≡◌, ℕ, ◌+◌, List, [], ◌∷◌, ◌++◌, length, refl, arith}
use Rattle.std.specs.Int.{w64, to_be_bytes}
use Rattle.std.specs.List.{AllByRecursion, flat_map}
use Rattle.std.proofs.lemmas.List.{length-append}
use Rattle.host_types.specs.declared.Digest.{Digest}
use Rattle.host_types.specs.declared.SeqNo.{SeqNo}
use Rattle.host_types.specs.declared.View.{View}
use Rattle.pbft_codec.specs.declared.body.Body.{Body}
use Rattle.pbft_codec.specs.declared.body.Body.TheVariants as bodies
use Rattle.pbft_codec.specs.declared.body.certificate.Certificate.{Certificate}
use Rattle.pbft_codec.specs.declared.body.checkpoint.Checkpoint.{Checkpoint}
use Rattle.pbft_codec.specs.declared.body.fetch.Fetch.TheVariants as fetches
use Rattle.pbft_codec.specs.declared.body.new_view.NewView.{NewView}
use Rattle.pbft_codec.specs.declared.body.pre_prepare.PrePrepare.{PrePrepare}
use Rattle.pbft_codec.specs.declared.body.prepare.Prepare.{Prepare}
use Rattle.pbft_codec.specs.declared.body.reply.ReplyBody.{ReplyBody}
use Rattle.pbft_codec.specs.declared.body.request.RequestBody.{RequestBody}
use Rattle.pbft_codec.specs.declared.body.snapshot.Snapshot.{Snapshot}
use Rattle.pbft_codec.specs.declared.body.view_change.ViewChange.{ViewChange}
use Rattle.pbft_codec.specs.declared.kind.Kind.TheVariants as kinds
use Rattle.pbft_codec.specs.declared.signed.Signed.{Signed}
use Rattle.pbft_codec.specs.Layouts.{view, client, number, length_prefixed, encoded_list, signed, of_kind, request, proposal, pre_prepare, prepare, reply, checkpoint, signed_pre_prepare, signed_prepare, signed_checkpoint, certificate, view_change, signed_view_change, new_view, fetch, snapshot}
use Rattle.pbft_codec.specs.Limits.{IsDigest, SignedFieldsInRange, PrePrepareFieldsInRange, PrepareFieldsInRange, CheckpointFieldsInRange, CertificateFieldsInRange, ViewChangeFieldsInRange, NewViewFieldsInRange}
use Rattle.pbft_codec.specs.Lengths.{total, signed_length, certificate_length, view_change_length, new_view_length}
use Rattle.pbft_codec.specs.Bodies.{BodyFieldsInRange, encoded_length_of}
use Rattle.pbft_codec.specs.Encoding.{body, encoding}
use Rattle.pbft_codec.proofs.Widths.{length_length_prefixed, length_signed, length_list, length_more}

length_all : {A : Type 0} (s : A → List ℕ) (n : A → ℕ) (P : A → Type 0) → ((x : A) → P x → length (s x) ≡ n x) → (xs : List A) → AllByRecursion P xs → length (flat_map s xs) ≡ total n xs
length_all s n P each [] all = refl
length_all s n P each (x ∷ xs) all = omega (arith, length_more s x xs, each x all.0, length_all s n P each xs all.1)

length_listed : {A : Type 0} (s : A → List ℕ) (n : A → ℕ) (P : A → Type 0) → ((x : A) → P x → length (s x) ≡ n x) → (xs : List A) → AllByRecursion P xs → length (encoded_list s xs) ≡ 4 + total n xs
length_listed s n P each xs all = omega (arith, length_list s xs, length_all s n P each xs all)

length_signed_body : {B : Type 0} (s : B → List ℕ) (n : B → ℕ) (P : B → Type 0) → ((b : B) → P b → length (s b) ≡ n b) → (m : Signed B) → SignedFieldsInRange P m → length (signed s m) ≡ signed_length n m
length_signed_body s n P each m h = omega (arith, length_signed s m, each m.body h.body_in_range)

length_proposal : (v : View) (k : SeqNo) (d : Digest) → IsDigest d → length (proposal v k d) ≡ 44
unfolding proposal
length_proposal v k d h = omega (arith, h, length-append (view v ++ number k) d.0, length-append (view v) (number k))

length_pre_prepare : (p : PrePrepare) → PrePrepareFieldsInRange p → length (of_kind kinds.PrePrepare pre_prepare p) ≡ 45
length_pre_prepare p h = omega (arith, length_proposal p.view p.number p.digest h.digest_in_range)

length_prepare : (p : Prepare) → PrepareFieldsInRange p → length (of_kind kinds.Prepare prepare p) ≡ 45
length_prepare p h = omega (arith, length_proposal p.view p.number p.digest h.digest_in_range)

length_checkpoint : (c : Checkpoint) → CheckpointFieldsInRange c → length (of_kind kinds.Checkpoint checkpoint c) ≡ 41
unfolding checkpoint
length_checkpoint c h = omega (arith, h, length-append (number c.number) c.digest.0)

length_signed_pre_prepare : (m : Signed PrePrepare) → SignedFieldsInRange PrePrepareFieldsInRange m → length (signed_pre_prepare m) ≡ signed_length (λ _. 45) m
length_signed_pre_prepare m h = length_signed_body (of_kind kinds.PrePrepare pre_prepare) (λ _. 45) PrePrepareFieldsInRange length_pre_prepare m h

length_signed_prepare : (m : Signed Prepare) → SignedFieldsInRange PrepareFieldsInRange m → length (signed_prepare m) ≡ signed_length (λ _. 45) m
length_signed_prepare m h = length_signed_body (of_kind kinds.Prepare prepare) (λ _. 45) PrepareFieldsInRange length_prepare m h

length_signed_checkpoint : (m : Signed Checkpoint) → SignedFieldsInRange CheckpointFieldsInRange m → length (signed_checkpoint m) ≡ signed_length (λ _. 41) m
length_signed_checkpoint m h = length_signed_body (of_kind kinds.Checkpoint checkpoint) (λ _. 41) CheckpointFieldsInRange length_checkpoint m h

length_certificate : (c : Certificate) → CertificateFieldsInRange c → length (certificate c) ≡ certificate_length c
unfolding certificate
length_certificate c h =
    omega (
      arith,
      length-append (signed_pre_prepare c.pre_prepare) (encoded_list signed_prepare c.prepares),
      length_signed_pre_prepare c.pre_prepare h.pre_prepare_in_range,
      length_listed signed_prepare (signed_length (λ _. 45)) (SignedFieldsInRange PrepareFieldsInRange) length_signed_prepare c.prepares h.prepares_in_range,
    )

length_view_change : (v : ViewChange) → ViewChangeFieldsInRange v → length (of_kind kinds.ViewChange view_change v) ≡ view_change_length v
unfolding view_change
length_view_change v h =
    let front : List ℕ = view v.view ++ number v.low in
    let one : List ℕ = encoded_list signed_checkpoint v.checkpoints in
    omega (
      arith,
      length-append (front ++ one) (encoded_list certificate v.certificates),
      length-append front one,
      length-append (view v.view) (number v.low),
      length_listed signed_checkpoint (signed_length (λ _. 41)) (SignedFieldsInRange CheckpointFieldsInRange) length_signed_checkpoint v.checkpoints h.checkpoints_in_range,
      length_listed certificate certificate_length CertificateFieldsInRange length_certificate v.certificates h.certificates_in_range,
    )

length_signed_view_change : (m : Signed ViewChange) → SignedFieldsInRange ViewChangeFieldsInRange m → length (signed_view_change m) ≡ signed_length view_change_length m
length_signed_view_change m h = length_signed_body (of_kind kinds.ViewChange view_change) view_change_length ViewChangeFieldsInRange length_view_change m h

length_new_view : (n : NewView) → NewViewFieldsInRange n → length (of_kind kinds.NewView new_view n) ≡ new_view_length n
unfolding new_view
length_new_view n h =
    let one : List ℕ = encoded_list signed_view_change n.changes in
    omega (
      arith,
      length-append (view n.view ++ one) (encoded_list signed_pre_prepare n.pre_prepares),
      length-append (view n.view) one,
      length_listed signed_view_change (signed_length view_change_length) (SignedFieldsInRange ViewChangeFieldsInRange) length_signed_view_change n.changes h.changes_in_range,
      length_listed signed_pre_prepare (signed_length (λ _. 45)) (SignedFieldsInRange PrePrepareFieldsInRange) length_signed_pre_prepare n.pre_prepares h.pre_prepares_in_range,
    )

length_request : (r : RequestBody) → length (request r) ≡ 12 + length r.op
unfolding request
length_request r = omega (arith, length-append (to_be_bytes w64 r.time) (length_prefixed r.op), length_length_prefixed r.op)

length_reply : (r : ReplyBody) → length (reply r) ≡ 28 + length r.result
unfolding reply
length_reply r =
    let one : List ℕ = view r.view ++ client r.client in
    let two : List ℕ = one ++ to_be_bytes w64 r.time in
    omega (arith, length-append (two ++ number r.number) (length_prefixed r.result), length-append two (number r.number), length-append one (to_be_bytes w64 r.time), length-append (view r.view) (client r.client), length_length_prefixed r.result)

length_snapshot : (s : Snapshot) → length (snapshot s) ≡ 12 + length s.state
unfolding snapshot
length_snapshot s = omega (arith, length-append (number s.number) (length_prefixed s.state), length_length_prefixed s.state)

pub length_body : (b : Body) → BodyFieldsInRange b → length (body b) ≡ encoded_length_of b
unfolding body fetch
length_body (bodies.Request r) h = omega (arith, length_request r)
length_body (bodies.PrePrepare p) h = length_pre_prepare p h
length_body (bodies.Prepare p) h = length_prepare p h
length_body (bodies.Commit c) h = omega (arith, length_proposal c.view c.number c.digest h.digest_in_range)
length_body (bodies.Reply r) h = omega (arith, length_reply r)
length_body (bodies.Checkpoint c) h = length_checkpoint c h
length_body (bodies.ViewChange v) h = length_view_change v h
length_body (bodies.NewView n) h = length_new_view n h
length_body (bodies.Fetch (fetches.Request d)) h = omega (arith, h)
length_body (bodies.Fetch (fetches.State n)) h = refl
length_body (bodies.Snapshot s) h = omega (arith, length_snapshot s)

pub length_encoding : (m : Signed Body) → length (encoding m) ≡ 13 + length (body m.body) + length m.sig
length_encoding m = length_signed body m
