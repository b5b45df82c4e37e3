-- The laws of bodies.
use Rattle.std.proofs.Common.{◌≡◌, ℕ, ◌+◌, ◌^◌, ◌<◌, ◌≤◌, Bool, true, false, cond, eqb, List, [], ◌∷◌, ◌++◌, length, Ok, Err, refl, ap, subst, ◌∙◌, inl, inr, arith}
use Rattle.std.specs.Int.{w64, to_be_bytes}
use Rattle.std.specs.Prelude.{is_some}
use Rattle.std.proofs.lemmas.Bool.{eqb-true}
use Rattle.std.proofs.lemmas.Bool.Decides.{eqb_tells}
use Rattle.host_types.specs.declared.Digest.{Digest}
use Rattle.host_types.specs.declared.SeqNo.{SeqNo}
use Rattle.host_types.specs.declared.View.{View}
use Rattle.pbft_codec.specs.declared.body.Body.{Body}
use Rattle.pbft_codec.specs.declared.body.Body.TheVariants as bodies
use Rattle.pbft_codec.specs.declared.body.certificate.Certificate.{Certificate}
use Rattle.pbft_codec.specs.declared.body.checkpoint.Checkpoint.{Checkpoint}
use Rattle.pbft_codec.specs.declared.body.fetch.Fetch.{Fetch}
use Rattle.pbft_codec.specs.declared.body.fetch.Fetch.TheVariants as fetches
use Rattle.pbft_codec.specs.declared.body.pre_prepare.PrePrepare.{PrePrepare}
use Rattle.pbft_codec.specs.declared.body.prepare.Prepare.{Prepare}
use Rattle.pbft_codec.specs.declared.body.view_change.ViewChange.{ViewChange}
use Rattle.codec_fields.specs.declared.fault.CodecFault.TheVariants.{Truncated, BadKind, BadField}
use Rattle.pbft_codec.specs.declared.kind.Kind.{Kind}
use Rattle.pbft_codec.specs.declared.kind.Kind.TheVariants as kinds
use Rattle.pbft_codec.specs.declared.signed.Signed.{Signed}
use Rattle.pbft_codec.specs.Kinds.{kind_byte, kind_of}
use Rattle.codec_fields.specs.Fields.{Reading, pair, map, number_at, view_at, client_at, sequence_number_at, digest_at, length_prefixed_at}
use Rattle.pbft_codec.specs.Reading.{signed_at, ascending_at, list_at, behind, kind_at, request_at, proposal_at, pre_prepare_at, prepare_at, commit_at, reply_at, checkpoint_at, certificate_at, view_change_at, new_view_at, fetch_at, snapshot_at}
use Rattle.pbft_codec.specs.Limits.{IsSequenceNumber, IsView, IsDigest, CertificateWellFormed, ViewChangeWellFormed, ProposalFieldsInRange}
use Rattle.pbft_codec.specs.Bodies.{BodyWellFormed}
use Rattle.pbft_codec.proofs.Widths.{LengthInRange, CertificateWidths, ViewChangeWidths, BodyWidths}
use Rattle.pbft_codec.specs.Layouts.{view, client, number, length_prefixed, encoded_list, of_kind, request, proposal, pre_prepare, prepare, commit, reply, checkpoint, signed_pre_prepare, signed_prepare, signed_checkpoint, certificate, view_change, signed_view_change, new_view, fetch, snapshot}
use Rattle.pbft_codec.proofs.Forms.{IsBytes, IsBytes-rest, bind_ok, ok_is, Takes, IsForm, form_pair, form_map, forms_many, AllFrom}
use Rattle.pbft_codec.proofs.FieldLaws.{wide64, form_number, form_view, form_client, form_sequence_number, form_digest, form_length_prefixed, form_signed, form_listed}
use Rattle.pbft_codec.proofs.ListLaws.{SignedReadable, split_signed, join_signed, split_ascending, join_ascending, split_any, join_any, split_each, join_each}

-- ---- the byte of a kind

same_passes : (n : ℕ) → eqb n n ≡ true
same_passes n = elim (eqb_tells n n) [ inl p ↦ p.0 | inr p ↦ absurd (p.1 refl) ]

behind_again : (kind : Kind) (rest : List ℕ) → behind kind (kind_byte kind ∷ rest) ≡ Ok rest
unfolding behind
behind_again kind rest = rw (same_passes (kind_byte kind)) refl

behind_none : (kind : Kind) → behind kind [] ≡ Err Truncated
unfolding behind
behind_none kind = refl

behind_takes : (kind : Kind) (bytes rest : List ℕ) → behind kind bytes ≡ Ok rest → bytes ≡ kind_byte kind ∷ rest
unfolding behind
behind_takes kind [] rest e = absurd cc
behind_takes kind (b ∷ bytes) rest e = by_test (eqb b (kind_byte kind)) (is_some (kind_of b)) refl e where
  by_test : (t known : Bool) → eqb b (kind_byte kind) ≡ t → cond t (Ok bytes) (cond known (Err BadField) (Err BadKind)) ≡ Ok rest → b ∷ bytes ≡ kind_byte kind ∷ rest
  by_test true known is e' =
      let k : b ≡ kind_byte kind = eqb-true _ _ is in
      let r : bytes ≡ rest = ok_is bytes rest e' in
      cc
  by_test false true is e' = absurd cc
  by_test false false is e' = absurd cc

pub form_kind : {A : Type 0} (kind : Kind) (reading : Reading A) (s : A → List ℕ) (F : A → Type 0) → IsForm reading s F → IsForm (kind_at kind reading) (of_kind kind s) F
form_kind {A} kind reading s F f = record {
  takes = λ bytes x fits e.
      let r = bind_ok (behind kind bytes) reading x e in
      let text = behind_takes kind bytes r.0 r.1 in
      let fit : IsBytes r.0 = IsBytes-rest (kind_byte kind) r.0 (subst (λ (t : List ℕ). IsBytes t) text fits) in
      let one = f.takes r.0 x fit r.2 in
      (record { parts = text ∙ ap (λ (t : List ℕ). kind_byte kind ∷ t) one.0.parts; rest_bytes = one.0.rest_bytes }, one.1);
  again = λ x rest fits. rw (behind_again kind (s x ++ rest)) (f.again x rest fits);
  short = λ x front back fits more e. cut_kind x front back fits more e;
} where
  cut_kind : (x : A) (front back : List ℕ) → F x → 0 < length back → kind_byte kind ∷ s x ≡ front ++ back → kind_at kind reading front ≡ Err Truncated
  cut_kind x [] back fits more e = rw (behind_none kind) refl
  cut_kind x (c ∷ front) back fits more e =
      let head : kind_byte kind ≡ c = cc in
      let tail : s x ≡ front ++ back = cc in
      rw (← head, behind_again kind front) (f.short x front back fits more tail)

-- ---- flat bodies

-- well-formed, and what the fields can hold
abbrev pub BodyReadable : Body → Type 0
BodyReadable b = BodyWellFormed b × BodyWidths b

pub form_request : IsForm request_at request (λ r. BodyReadable (bodies.Request r))
unfolding request_at request
form_request =
    form_map (pair (number_at w64) length_prefixed_at) (λ p. to_be_bytes w64 p.0 ++ length_prefixed p.1) (λ p. (p.0 < 2 ^ 64) × LengthInRange p.1)
    (λ p. record { time = p.0; op = p.1 }) (λ r. (r.time, r.op)) request (λ r. BodyReadable (bodies.Request r)) (λ _. refl) (λ _. refl) (λ p fits. (tt, fits)) (λ r fits. fits.1)
    (form_pair (number_at w64) (to_be_bytes w64) (λ n. n < 2 ^ 64) length_prefixed_at length_prefixed LengthInRange (form_number w64 (2 ^ 64) wide64) form_length_prefixed)

abbrev vote_text : View × (SeqNo × Digest) → List ℕ
vote_text p = view p.0 ++ (number p.1.0 ++ p.1.1.0)

abbrev VoteInRange : View × (SeqNo × Digest) → Type 0
VoteInRange p = IsView p.0 × (IsSequenceNumber p.1.0 × IsDigest p.1.1)

form_vote_fields : IsForm proposal_at vote_text VoteInRange
form_vote_fields =
    form_pair view_at view IsView (pair sequence_number_at digest_at) (λ p. number p.0 ++ p.1.0) (λ p. IsSequenceNumber p.0 × IsDigest p.1) form_view
    (form_pair sequence_number_at number IsSequenceNumber digest_at (λ d. d.0) IsDigest form_sequence_number form_digest)

pub form_pre_prepare : IsForm pre_prepare_at pre_prepare (λ p. BodyReadable (bodies.PrePrepare p))
unfolding pre_prepare_at proposal
form_pre_prepare =
    form_map proposal_at vote_text VoteInRange (λ p. record { view = p.0; number = p.1.0; digest = p.1.1 }) (λ p. (p.view, (p.number, p.digest))) pre_prepare (λ p. BodyReadable (bodies.PrePrepare p)) (λ _. refl) (λ _. refl)
    (λ p fits. (fits.1.0, record { view_in_range = fits.0; digest_in_range = fits.1.1 })) (λ p fits. (fits.1.view_in_range, (fits.0, fits.1.digest_in_range))) form_vote_fields

pub form_prepare : IsForm prepare_at prepare (λ p. BodyReadable (bodies.Prepare p))
unfolding prepare_at proposal
form_prepare =
    form_map proposal_at vote_text VoteInRange (λ p. record { view = p.0; number = p.1.0; digest = p.1.1 }) (λ p. (p.view, (p.number, p.digest))) prepare (λ p. BodyReadable (bodies.Prepare p)) (λ _. refl) (λ _. refl)
    (λ p fits. (fits.1.0, record { view_in_range = fits.0; digest_in_range = fits.1.1 })) (λ p fits. (fits.1.view_in_range, (fits.0, fits.1.digest_in_range))) form_vote_fields

pub form_commit : IsForm commit_at commit (λ c. BodyReadable (bodies.Commit c))
unfolding commit_at proposal
form_commit =
    form_map proposal_at vote_text VoteInRange (λ p. record { view = p.0; number = p.1.0; digest = p.1.1 }) (λ p. (p.view, (p.number, p.digest))) commit (λ c. BodyReadable (bodies.Commit c)) (λ _. refl) (λ _. refl)
    (λ p fits. (fits.1.0, record { view_in_range = fits.0; digest_in_range = fits.1.1 })) (λ p fits. (fits.1.view_in_range, (fits.0, fits.1.digest_in_range))) form_vote_fields

pub form_reply : IsForm reply_at reply (λ r. BodyReadable (bodies.Reply r))
unfolding reply_at reply
form_reply =
    form_map (pair view_at (pair client_at (pair (number_at w64) (pair sequence_number_at length_prefixed_at))))
    (λ p. view p.0 ++ (client p.1.0 ++ (to_be_bytes w64 p.1.1.0 ++ (number p.1.1.1.0 ++ length_prefixed p.1.1.1.1))))
    (λ p. IsView p.0 × ((p.1.0.0 < 2 ^ 32) × ((p.1.1.0 < 2 ^ 64) × (IsSequenceNumber p.1.1.1.0 × LengthInRange p.1.1.1.1))))
    (λ p. record { view = p.0; client = p.1.0; time = p.1.1.0; number = p.1.1.1.0; result = p.1.1.1.1 }) (λ r. (r.view, (r.client, (r.time, (r.number, r.result)))))
    reply (λ r. BodyReadable (bodies.Reply r)) (λ _. refl) (λ _. refl)
    (λ p fits. (fits.1.1.1.0, (fits.0, fits.1.0, fits.1.1.0, fits.1.1.1.1)))
    (λ r fits. (fits.1.0, (fits.1.1, (fits.1.2, (fits.0, fits.1.3)))))
    (form_pair view_at view IsView (pair client_at (pair (number_at w64) (pair sequence_number_at length_prefixed_at))) (λ p. client p.0 ++ (to_be_bytes w64 p.1.0 ++ (number p.1.1.0 ++ length_prefixed p.1.1.1))) (λ p. (p.0.0 < 2 ^ 32) × ((p.1.0 < 2 ^ 64) × (IsSequenceNumber p.1.1.0 × LengthInRange p.1.1.1))) form_view
    (form_pair client_at client (λ c. c.0 < 2 ^ 32) (pair (number_at w64) (pair sequence_number_at length_prefixed_at)) (λ p. to_be_bytes w64 p.0 ++ (number p.1.0 ++ length_prefixed p.1.1)) (λ p. (p.0 < 2 ^ 64) × (IsSequenceNumber p.1.0 × LengthInRange p.1.1)) form_client
    (form_pair (number_at w64) (to_be_bytes w64) (λ n. n < 2 ^ 64) (pair sequence_number_at length_prefixed_at) (λ p. number p.0 ++ length_prefixed p.1) (λ p. IsSequenceNumber p.0 × LengthInRange p.1) (form_number w64 (2 ^ 64) wide64)
    (form_pair sequence_number_at number IsSequenceNumber length_prefixed_at length_prefixed LengthInRange form_sequence_number form_length_prefixed))))

pub form_checkpoint : IsForm checkpoint_at checkpoint (λ c. BodyReadable (bodies.Checkpoint c))
unfolding checkpoint_at checkpoint
form_checkpoint =
    form_map (pair sequence_number_at digest_at) (λ p. number p.0 ++ p.1.0) (λ p. IsSequenceNumber p.0 × IsDigest p.1)
    (λ p. record { number = p.0; digest = p.1 }) (λ c. (c.number, c.digest)) checkpoint (λ c. BodyReadable (bodies.Checkpoint c)) (λ _. refl) (λ _. refl) (λ p fits. fits) (λ c fits. fits)
    (form_pair sequence_number_at number IsSequenceNumber digest_at (λ d. d.0) IsDigest form_sequence_number form_digest)

pub form_snapshot : IsForm snapshot_at snapshot (λ s. BodyReadable (bodies.Snapshot s))
unfolding snapshot_at snapshot
form_snapshot =
    form_map (pair sequence_number_at length_prefixed_at) (λ p. number p.0 ++ length_prefixed p.1) (λ p. IsSequenceNumber p.0 × LengthInRange p.1)
    (λ p. record { number = p.0; state = p.1 }) (λ s. (s.number, s.state)) snapshot (λ s. BodyReadable (bodies.Snapshot s)) (λ _. refl) (λ _. refl) (λ p fits. fits) (λ s fits. fits)
    (form_pair sequence_number_at number IsSequenceNumber length_prefixed_at length_prefixed LengthInRange form_sequence_number form_length_prefixed)

-- ---- a request for what is missing

fetch_takes : (bytes : List ℕ) (x : Fetch × List ℕ) → IsBytes bytes → fetch_at bytes ≡ Ok x → Takes bytes (fetch x.0) x.1 × BodyReadable (bodies.Fetch x.0)
unfolding fetch_at fetch
fetch_takes [] x fits e = absurd cc
fetch_takes (b ∷ rest) x fits e = by_first (eqb b 1) (eqb b 2) refl refl e where
  by_first : (first second : Bool) → eqb b 1 ≡ first → eqb b 2 ≡ second → cond first (map fetches.Request digest_at rest) (cond second (map fetches.State sequence_number_at rest) (Err BadField)) ≡ Ok x → Takes (b ∷ rest) (fetch x.0) x.1 × BodyReadable (bodies.Fetch x.0)
  by_first true second is _ e' =
      let k : b ≡ 1 = eqb-true _ _ is in
      let d = bind_ok (digest_at rest) (λ a. Ok (fetches.Request a.0, a.1)) x e' in
      let one = form_digest.takes rest d.0 (IsBytes-rest b rest fits) d.1 in
      let out : Fetch × List ℕ = (fetches.Request d.0.0, d.0.1) in
      let text : b ∷ rest ≡ (1 ∷ d.0.0.0) ++ d.0.1 = rw k (ap (λ (t : List ℕ). 1 ∷ t) one.0.parts) in
      subst (λ (y : Fetch × List ℕ). Takes (b ∷ rest) (fetch y.0) y.1 × BodyReadable (bodies.Fetch y.0)) (ok_is out x d.2) (record { parts = text; rest_bytes = one.0.rest_bytes }, (tt, one.1))
  by_first false true _ is e' =
      let k : b ≡ 2 = eqb-true _ _ is in
      let n = bind_ok (sequence_number_at rest) (λ a. Ok (fetches.State a.0, a.1)) x e' in
      let one = form_sequence_number.takes rest n.0 (IsBytes-rest b rest fits) n.1 in
      let out : Fetch × List ℕ = (fetches.State n.0.0, n.0.1) in
      let text : b ∷ rest ≡ (2 ∷ number n.0.0) ++ n.0.1 = rw k (ap (λ (t : List ℕ). 2 ∷ t) one.0.parts) in
      subst (λ (y : Fetch × List ℕ). Takes (b ∷ rest) (fetch y.0) y.1 × BodyReadable (bodies.Fetch y.0)) (ok_is out x n.2) (record { parts = text; rest_bytes = one.0.rest_bytes }, (one.1, tt))
  by_first false false _ _ e' = absurd cc

fetch_again : (f : Fetch) (rest : List ℕ) → BodyReadable (bodies.Fetch f) → fetch_at (fetch f ++ rest) ≡ Ok (f, rest)
unfolding fetch_at fetch
fetch_again (fetches.Request digest) rest fits = rw (form_digest.again digest rest fits.1) refl
fetch_again (fetches.State n) rest fits = rw (form_sequence_number.again n rest fits.0) refl

fetch_short : (f : Fetch) (front back : List ℕ) → BodyReadable (bodies.Fetch f) → 0 < length back → fetch f ≡ front ++ back → fetch_at front ≡ Err Truncated
unfolding fetch_at fetch
fetch_short f [] back fits more e = refl
fetch_short (fetches.Request digest) (c ∷ front) back fits more e =
    let head : 1 ≡ c = cc in
    let tail : digest.0 ≡ front ++ back = cc in
    rw (← head, form_digest.short digest front back fits.1 more tail) refl
fetch_short (fetches.State n) (c ∷ front) back fits more e =
    let head : 2 ≡ c = cc in
    let tail : number n ≡ front ++ back = cc in
    rw (← head, form_sequence_number.short n front back fits.0 more tail) refl

pub form_fetch : IsForm fetch_at fetch (λ f. BodyReadable (bodies.Fetch f))
form_fetch = record { takes = fetch_takes; again = fetch_again; short = fetch_short }

-- ---- nested bodies

abbrev ProposalForm : PrePrepare → Type 0
ProposalForm p = IsSequenceNumber p.number

abbrev ProposalWidths : PrePrepare → Type 0
ProposalWidths p = ProposalFieldsInRange p.view p.digest

form_proposal : (low : ℕ) → IsForm (signed_at (kind_at kinds.PrePrepare pre_prepare_at) low) signed_pre_prepare (λ m. (low ≤ m.id) × SignedReadable (of_kind kinds.PrePrepare pre_prepare) ProposalForm ProposalWidths m)
form_proposal low = form_signed (kind_at kinds.PrePrepare pre_prepare_at) (of_kind kinds.PrePrepare pre_prepare) (λ p. ProposalForm p × ProposalWidths p) low (form_kind kinds.PrePrepare pre_prepare_at pre_prepare (λ p. ProposalForm p × ProposalWidths p) form_pre_prepare)

abbrev VoteForm : Prepare → Type 0
VoteForm p = IsSequenceNumber p.number

abbrev VoteWidths : Prepare → Type 0
VoteWidths p = ProposalFieldsInRange p.view p.digest

abbrev VoteReadable : ℕ → Signed Prepare → Type 0
VoteReadable low m = (low ≤ m.id) × SignedReadable (of_kind kinds.Prepare prepare) VoteForm VoteWidths m

form_votes : IsForm (ascending_at 10 (kind_at kinds.Prepare prepare_at)) (encoded_list signed_prepare) (λ ms. (length ms ≤ 10) × AllFrom VoteReadable (λ m. m.id + 1) 0 ms)
unfolding ascending_at
form_votes =
    form_listed 10 (signed_at (kind_at kinds.Prepare prepare_at)) signed_prepare VoteReadable (λ m. m.id + 1) (omega arith)
    (forms_many (signed_at (kind_at kinds.Prepare prepare_at)) signed_prepare VoteReadable (λ m. m.id + 1)
    (λ low. form_signed (kind_at kinds.Prepare prepare_at) (of_kind kinds.Prepare prepare) (λ p. VoteForm p × VoteWidths p) low (form_kind kinds.Prepare prepare_at prepare (λ p. VoteForm p × VoteWidths p) form_prepare)))

abbrev StableForm : Checkpoint → Type 0
StableForm c = IsSequenceNumber c.number

abbrev StableWidths : Checkpoint → Type 0
StableWidths c = IsDigest c.digest

abbrev StableReadable : ℕ → Signed Checkpoint → Type 0
StableReadable low m = (low ≤ m.id) × SignedReadable (of_kind kinds.Checkpoint checkpoint) StableForm StableWidths m

form_stables : IsForm (ascending_at 10 (kind_at kinds.Checkpoint checkpoint_at)) (encoded_list signed_checkpoint) (λ ms. (length ms ≤ 10) × AllFrom StableReadable (λ m. m.id + 1) 0 ms)
unfolding ascending_at
form_stables =
    form_listed 10 (signed_at (kind_at kinds.Checkpoint checkpoint_at)) signed_checkpoint StableReadable (λ m. m.id + 1) (omega arith)
    (forms_many (signed_at (kind_at kinds.Checkpoint checkpoint_at)) signed_checkpoint StableReadable (λ m. m.id + 1)
    (λ low. form_signed (kind_at kinds.Checkpoint checkpoint_at) (of_kind kinds.Checkpoint checkpoint) (λ c. StableForm c × StableWidths c) low (form_kind kinds.Checkpoint checkpoint_at checkpoint (λ c. StableForm c × StableWidths c) form_checkpoint)))

pub form_certificate : IsForm certificate_at certificate (λ c. CertificateWellFormed c × CertificateWidths c)
unfolding certificate_at certificate
form_certificate =
    form_map (pair (signed_at (kind_at kinds.PrePrepare pre_prepare_at) 0) (ascending_at 10 (kind_at kinds.Prepare prepare_at)))
    (λ p. signed_pre_prepare p.0 ++ encoded_list signed_prepare p.1)
    (λ p. ((0 ≤ p.0.id) × SignedReadable (of_kind kinds.PrePrepare pre_prepare) ProposalForm ProposalWidths p.0) × ((length p.1 ≤ 10) × AllFrom VoteReadable (λ m. m.id + 1) 0 p.1))
    (λ p. record { pre_prepare = p.0; prepares = p.1 }) (λ c. (c.pre_prepare, c.prepares)) certificate (λ c. CertificateWellFormed c × CertificateWidths c) (λ _. refl) (λ _. refl)
    (λ p fits.
    let one = split_signed (of_kind kinds.PrePrepare pre_prepare) ProposalForm ProposalWidths p.0 fits.0.1 in
    let votes = split_ascending (of_kind kinds.Prepare prepare) VoteForm VoteWidths 0 p.1 fits.1.1 in
    (record { number = one.0; few = fits.1.0; ascend = votes.0.0; numbers = votes.0.1 }, record { pre_prepare_in_range = one.1; prepares_in_range = votes.1 }))
    (λ c fits.
    ((omega arith, join_signed (of_kind kinds.PrePrepare pre_prepare) ProposalForm ProposalWidths c.pre_prepare fits.0.number fits.1.pre_prepare_in_range), (fits.0.few, join_ascending (of_kind kinds.Prepare prepare) VoteForm VoteWidths 0 c.prepares fits.0.ascend fits.0.numbers fits.1.prepares_in_range)))
    (form_pair (signed_at (kind_at kinds.PrePrepare pre_prepare_at) 0) signed_pre_prepare (λ m. (0 ≤ m.id) × SignedReadable (of_kind kinds.PrePrepare pre_prepare) ProposalForm ProposalWidths m)
    (ascending_at 10 (kind_at kinds.Prepare prepare_at)) (encoded_list signed_prepare) (λ ms. (length ms ≤ 10) × AllFrom VoteReadable (λ m. m.id + 1) 0 ms) (form_proposal 0) form_votes)

abbrev CertificateReadable : ℕ → Certificate → Type 0
CertificateReadable low c = CertificateWellFormed c × CertificateWidths c

form_certificates : IsForm (list_at 16 certificate_at) (encoded_list certificate) (λ cs. (length cs ≤ 16) × AllFrom CertificateReadable (λ _. 0) 0 cs)
unfolding list_at
form_certificates = form_listed 16 (λ _. certificate_at) certificate CertificateReadable (λ _. 0) (omega arith) (forms_many (λ _. certificate_at) certificate CertificateReadable (λ _. 0) (λ _. form_certificate))

pub form_view_change : IsForm view_change_at view_change (λ v. BodyReadable (bodies.ViewChange v))
unfolding view_change_at view_change
form_view_change =
    form_map (pair view_at (pair sequence_number_at (pair (ascending_at 10 (kind_at kinds.Checkpoint checkpoint_at)) (list_at 16 certificate_at))))
    (λ p. view p.0 ++ (number p.1.0 ++ (encoded_list signed_checkpoint p.1.1.0 ++ encoded_list certificate p.1.1.1)))
    (λ p. IsView p.0 × (IsSequenceNumber p.1.0 × (((length p.1.1.0 ≤ 10) × AllFrom StableReadable (λ m. m.id + 1) 0 p.1.1.0) × ((length p.1.1.1 ≤ 16) × AllFrom CertificateReadable (λ _. 0) 0 p.1.1.1))))
    (λ p. record { view = p.0; low = p.1.0; checkpoints = p.1.1.0; certificates = p.1.1.1 }) (λ v. (v.view, (v.low, (v.checkpoints, v.certificates))))
    view_change (λ v. BodyReadable (bodies.ViewChange v)) (λ _. refl) (λ _. refl)
    (λ p fits.
    let stables = split_ascending (of_kind kinds.Checkpoint checkpoint) StableForm StableWidths 0 p.1.1.0 fits.1.1.0.1 in
    let certificates = split_each CertificateWellFormed CertificateWidths p.1.1.1 fits.1.1.1.1 in
    (record { low = fits.1.0; few_checkpoints = fits.1.1.0.0; ascend = stables.0.0; numbers = stables.0.1; few_certificates = fits.1.1.1.0; certificates = certificates.0 }, record { view_in_range = fits.0; checkpoints_in_range = stables.1; certificates_in_range = certificates.1 }))
    (λ v fits. (
      fits.1.view_in_range,
      (
        fits.0.low,
        (
          (fits.0.few_checkpoints, join_ascending (of_kind kinds.Checkpoint checkpoint) StableForm StableWidths 0 v.checkpoints fits.0.ascend fits.0.numbers fits.1.checkpoints_in_range),
          (fits.0.few_certificates, join_each CertificateWellFormed CertificateWidths v.certificates fits.0.certificates fits.1.certificates_in_range),
        ),
      ),
    ))
    (form_pair view_at view IsView (pair sequence_number_at (pair (ascending_at 10 (kind_at kinds.Checkpoint checkpoint_at)) (list_at 16 certificate_at))) (λ p. number p.0 ++ (encoded_list signed_checkpoint p.1.0 ++ encoded_list certificate p.1.1)) (λ p. IsSequenceNumber p.0 × (((length p.1.0 ≤ 10) × AllFrom StableReadable (λ m. m.id + 1) 0 p.1.0) × ((length p.1.1 ≤ 16) × AllFrom CertificateReadable (λ _. 0) 0 p.1.1))) form_view
    (form_pair sequence_number_at number IsSequenceNumber (pair (ascending_at 10 (kind_at kinds.Checkpoint checkpoint_at)) (list_at 16 certificate_at)) (λ p. encoded_list signed_checkpoint p.0 ++ encoded_list certificate p.1) (λ p. ((length p.0 ≤ 10) × AllFrom StableReadable (λ m. m.id + 1) 0 p.0) × ((length p.1 ≤ 16) × AllFrom CertificateReadable (λ _. 0) 0 p.1)) form_sequence_number
    (form_pair (ascending_at 10 (kind_at kinds.Checkpoint checkpoint_at)) (encoded_list signed_checkpoint) (λ ms. (length ms ≤ 10) × AllFrom StableReadable (λ m. m.id + 1) 0 ms) (list_at 16 certificate_at) (encoded_list certificate) (λ cs. (length cs ≤ 16) × AllFrom CertificateReadable (λ _. 0) 0 cs) form_stables form_certificates)))

abbrev ChangeReadable : ℕ → Signed ViewChange → Type 0
ChangeReadable low m = (low ≤ m.id) × SignedReadable (of_kind kinds.ViewChange view_change) ViewChangeWellFormed ViewChangeWidths m

form_changes : IsForm (ascending_at 10 (kind_at kinds.ViewChange view_change_at)) (encoded_list signed_view_change) (λ ms. (length ms ≤ 10) × AllFrom ChangeReadable (λ m. m.id + 1) 0 ms)
unfolding ascending_at
form_changes =
    form_listed 10 (signed_at (kind_at kinds.ViewChange view_change_at)) signed_view_change ChangeReadable (λ m. m.id + 1) (omega arith)
    (forms_many (signed_at (kind_at kinds.ViewChange view_change_at)) signed_view_change ChangeReadable (λ m. m.id + 1)
    (λ low. form_signed (kind_at kinds.ViewChange view_change_at) (of_kind kinds.ViewChange view_change) (λ v. ViewChangeWellFormed v × ViewChangeWidths v) low (form_kind kinds.ViewChange view_change_at view_change (λ v. ViewChangeWellFormed v × ViewChangeWidths v) form_view_change)))

abbrev ProposalReadable : ℕ → Signed PrePrepare → Type 0
ProposalReadable low m = (0 ≤ m.id) × SignedReadable (of_kind kinds.PrePrepare pre_prepare) ProposalForm ProposalWidths m

form_proposals : IsForm (list_at 16 (signed_at (kind_at kinds.PrePrepare pre_prepare_at) 0)) (encoded_list signed_pre_prepare) (λ ms. (length ms ≤ 16) × AllFrom ProposalReadable (λ _. 0) 0 ms)
unfolding list_at
form_proposals =
    form_listed 16 (λ _. signed_at (kind_at kinds.PrePrepare pre_prepare_at) 0) signed_pre_prepare ProposalReadable (λ _. 0) (omega arith)
    (forms_many (λ _. signed_at (kind_at kinds.PrePrepare pre_prepare_at) 0) signed_pre_prepare ProposalReadable (λ _. 0) (λ _. form_proposal 0))

pub form_new_view : IsForm new_view_at new_view (λ n. BodyReadable (bodies.NewView n))
unfolding new_view_at new_view
form_new_view =
    form_map (pair view_at (pair (ascending_at 10 (kind_at kinds.ViewChange view_change_at)) (list_at 16 (signed_at (kind_at kinds.PrePrepare pre_prepare_at) 0))))
    (λ p. view p.0 ++ (encoded_list signed_view_change p.1.0 ++ encoded_list signed_pre_prepare p.1.1))
    (λ p. IsView p.0 × (((length p.1.0 ≤ 10) × AllFrom ChangeReadable (λ m. m.id + 1) 0 p.1.0) × ((length p.1.1 ≤ 16) × AllFrom ProposalReadable (λ _. 0) 0 p.1.1)))
    (λ p. record { view = p.0; changes = p.1.0; pre_prepares = p.1.1 }) (λ n. (n.view, (n.changes, n.pre_prepares)))
    new_view (λ n. BodyReadable (bodies.NewView n)) (λ _. refl) (λ _. refl)
    (λ p fits.
    let changes = split_ascending (of_kind kinds.ViewChange view_change) ViewChangeWellFormed ViewChangeWidths 0 p.1.0 fits.1.0.1 in
    let proposals = split_any (of_kind kinds.PrePrepare pre_prepare) ProposalForm ProposalWidths p.1.1 fits.1.1.1 in
    (record { few_changes = fits.1.0.0; ascend = changes.0.0; changes = changes.0.1; few_pre_prepares = fits.1.1.0; numbers = proposals.0 }, record { view_in_range = fits.0; changes_in_range = changes.1; pre_prepares_in_range = proposals.1 }))
    (λ n fits. (
      fits.1.view_in_range,
      (
        (fits.0.few_changes, join_ascending (of_kind kinds.ViewChange view_change) ViewChangeWellFormed ViewChangeWidths 0 n.changes fits.0.ascend fits.0.changes fits.1.changes_in_range),
        (fits.0.few_pre_prepares, join_any (of_kind kinds.PrePrepare pre_prepare) ProposalForm ProposalWidths n.pre_prepares fits.0.numbers fits.1.pre_prepares_in_range),
      ),
    ))
    (form_pair view_at view IsView (pair (ascending_at 10 (kind_at kinds.ViewChange view_change_at)) (list_at 16 (signed_at (kind_at kinds.PrePrepare pre_prepare_at) 0))) (λ p. encoded_list signed_view_change p.0 ++ encoded_list signed_pre_prepare p.1) (λ p. ((length p.0 ≤ 10) × AllFrom ChangeReadable (λ m. m.id + 1) 0 p.0) × ((length p.1 ≤ 16) × AllFrom ProposalReadable (λ _. 0) 0 p.1)) form_view
    (form_pair (ascending_at 10 (kind_at kinds.ViewChange view_change_at)) (encoded_list signed_view_change) (λ ms. (length ms ≤ 10) × AllFrom ChangeReadable (λ m. m.id + 1) 0 ms) (list_at 16 (signed_at (kind_at kinds.PrePrepare pre_prepare_at) 0)) (encoded_list signed_pre_prepare) (λ ms. (length ms ≤ 16) × AllFrom ProposalReadable (λ _. 0) 0 ms) form_changes form_proposals))
