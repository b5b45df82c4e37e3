-- How long the encodings of bodies are whose nested messages are authentic, and what checked messages make.
use Rattle.std.proofs.Common.{◌≡◌, ℕ, ◌+◌, ◌*◌, ◌<◌, ◌≤◌, List, [], ◌∷◌, ◌++◌, get_or, length, map, take, Option, Some, None, refl, sym, ap, subst, ◌∙◌, arith, length-append}
use Rattle.std.specs.Int.{w64, to_be_bytes}
use Rattle.std.specs.List.{AllByRecursion, flat_map}
use Rattle.std.proofs.lemmas.List.{take_all, take_more}
use Rattle.host_types.specs.Configuration.{Configuration}
use Rattle.host_types.specs.declared.Digest.{Digest}
use Rattle.host_types.specs.declared.SeqNo.{SeqNo}
use Rattle.host_types.specs.declared.View.{View}
use Rattle.seal.specs.SigningState.{SigningState}
use Rattle.seal.proofs.KeyLemmas.{short-signature}
use Rattle.seal.proofs.ShortLemmas.{valid-short}
use Rattle.pbft_codec.specs.declared.body.Body.TheVariants as bodies
use Rattle.pbft_codec.specs.declared.body.fetch.Fetch.TheVariants as fetches
use Rattle.pbft_codec.specs.Bodies.{BodyFieldsInRange, BodyWellFormed, encoded_length_of}
use Rattle.pbft_codec.specs.Encoding.{body as encoded_body}
use Rattle.pbft_codec.specs.Layouts.{certificate, client, encoded_list, length_prefixed, new_view, number, proposal, reply, signed_checkpoint, signed_pre_prepare, signed_view_change, view, view_change}
use Rattle.pbft_codec.specs.Lengths.{certificate_length, fetch_length, new_view_length, signed_length, total, view_change_length}
use Rattle.pbft_codec.specs.Limits.{CertificateFieldsInRange, CertificateWellFormed, CheckpointFieldsInRange, EachBody, FetchFieldsInRange, FetchWellFormed, IsDigest, IsSequenceNumber, NewViewFieldsInRange, NewViewWellFormed, PrePrepareFieldsInRange, PrepareFieldsInRange, SignedFieldsInRange, ViewChangeFieldsInRange, ViewChangeWellFormed}
use Rattle.pbft_codec.proofs.LengthLaws.{length_body}
use Rattle.pbft_codec.proofs.Widths.{length_length_prefixed}
use Rattle.quorum_log.specs.Words.{Body, Certificate, Checkpoint, Commit, Fetch, NewView, PrePrepare, Prepare, ReplyBody, Signed, Snapshot, ViewChange}
use Rattle.quorum_log.specs.declared.certificate.CheckedCertificate.{CheckedCertificate}
use Rattle.seal.specs.Lists.{AreChecked, CheckedMessages, under}
use Rattle.seal.specs.Opening.{CheckedMessage, IsChecked, around_body}
use Rattle.seal.specs.Parts.{as_message, in_certificate, in_view_change, nested_in, with_nested}
use Rattle.seal.specs.Signers.{IsAuthentic}
use Rattle.seal.proofs.Authenticity.{all_join, all_split}
use Rattle.view_change.specs.Made.{IsCertificateOf, IsMadeOf, IsNewViewOf, OneForOne}
use Rattle.view_change.specs.Sealable.{AreUnder, HasFewMessages, HasShortList, HasShortLists, IsCheckedCertificate, IsSealable}

-- ---- signatures

pub authentic_is_short : (c : Configuration) (m : Signed Body) → IsAuthentic c m → length m.sig ≤ 5076
authentic_is_short c m h = valid-short h.key _ m.sig h.signature

pub around_is_short : (s : SigningState) → around_body s ≤ 5089
around_is_short s = let le = short-signature s.height s.bottom in omega (arith, le)

-- ---- sums

total_le : {A : Type 0} (f : A → ℕ) (most : ℕ) (xs : List A) → AllByRecursion (λ x. f x ≤ most) xs → total f xs ≤ length xs * most
total_le f most [] h = omega arith
total_le f most (x ∷ xs) h = let rest = total_le f most xs h.1 in omega (arith, h.0, rest)

shorts : {B : Type 0} (c : Configuration) (kind : B → Body) (f : B → ℕ) (many : ℕ) (ms : List (Signed B)) → AllByRecursion (λ m. f m.body ≤ many) ms → AllByRecursion (IsAuthentic c) (map (as_message kind) ms)
    → AllByRecursion (λ m. signed_length f m ≤ 5089 + many) ms
shorts c kind f many [] le h = tt
shorts c kind f many (m ∷ ms) le h =
    let sig : length m.sig ≤ 5076 = authentic_is_short c (as_message kind m) h.0 in (omega (arith, sig, le.0), shorts c kind f many ms le.1 h.1)

flats : {B : Type 0} (many : ℕ) (ms : List (Signed B)) → AllByRecursion (λ m. many ≤ many) ms
flats many [] = tt
flats many (m ∷ ms) = (omega arith, flats many ms)

-- ---- certificates, ViewChanges and NewViews

certificate_is_short : (c : Configuration) (x : Certificate) → CertificateWellFormed x → AllByRecursion (IsAuthentic c) (in_certificate x) → certificate_length x ≤ 56478
certificate_is_short c x h authentic =
    let own : length x.pre_prepare.sig ≤ 5076 = authentic_is_short c (as_message bodies.PrePrepare x.pre_prepare) authentic.0 in
    let all : total (signed_length (λ _. 45)) x.prepares ≤ length x.prepares * 5134
    = total_le (signed_length (λ _. 45)) 5134 x.prepares (shorts c bodies.Prepare (λ _. 45) 45 x.prepares (flats 45 x.prepares) authentic.1) in
    omega (arith, own, all, h.few)

certificates_are_short : (c : Configuration) (xs : List Certificate) → AllByRecursion CertificateWellFormed xs → AllByRecursion (IsAuthentic c) (flat_map in_certificate xs) → AllByRecursion (λ x. certificate_length x ≤ 56478) xs
certificates_are_short c [] h authentic = tt
certificates_are_short c (x ∷ xs) h authentic =
    let parts = all_split (IsAuthentic c) (in_certificate x) (flat_map in_certificate xs) authentic in
    (certificate_is_short c x h.0 parts.0, certificates_are_short c xs h.1 parts.1)

pub change_is_short : (c : Configuration) (v : ViewChange) → ViewChangeWellFormed v → AllByRecursion (IsAuthentic c) (in_view_change v) → view_change_length v ≤ 954969
change_is_short c v h authentic =
    let parts = all_split (IsAuthentic c) (map (as_message bodies.Checkpoint) v.checkpoints) (flat_map in_certificate v.certificates) authentic in
    let checkpoints : total (signed_length (λ _. 41)) v.checkpoints ≤ length v.checkpoints * 5130
    = total_le (signed_length (λ _. 41)) 5130 v.checkpoints (shorts c bodies.Checkpoint (λ _. 41) 41 v.checkpoints (flats 41 v.checkpoints) parts.0) in
    let certificates : total certificate_length v.certificates ≤ length v.certificates * 56478
    = total_le certificate_length 56478 v.certificates (certificates_are_short c v.certificates h.certificates parts.1) in
    omega (arith, checkpoints, certificates, h.few_checkpoints, h.few_certificates)

changes_are_short : (c : Configuration) (ms : List (Signed ViewChange)) → EachBody ViewChangeWellFormed ms → AllByRecursion (IsAuthentic c) (flat_map with_nested ms) → AllByRecursion (λ m. signed_length view_change_length m ≤ 960058) ms
changes_are_short c [] h authentic = tt
changes_are_short c (m ∷ ms) h authentic =
    let parts = all_split (IsAuthentic c) (with_nested m) (flat_map with_nested ms) authentic in
    let own : length m.sig ≤ 5076 = authentic_is_short c (as_message bodies.ViewChange m) parts.0.0 in
    let inside = change_is_short c m.body h.0 parts.0.1 in
    (omega (arith, own, inside), changes_are_short c ms h.1 parts.1)

-- there are at most 2f + 1 changes, with f at most 3: ten of the longest would not fit
pub new_view_is_short : (c : Configuration) (n : NewView) → NewViewWellFormed n → length n.changes ≤ 7 → AllByRecursion (IsAuthentic c) (nested_in (bodies.NewView n)) → new_view_length n ≤ 6802563
new_view_is_short c n h few authentic =
    let parts = all_split (IsAuthentic c) (flat_map with_nested n.changes) (map (as_message bodies.PrePrepare) n.pre_prepares) authentic in
    let changes : total (signed_length view_change_length) n.changes ≤ length n.changes * 960058
    = total_le (signed_length view_change_length) 960058 n.changes (changes_are_short c n.changes h.changes parts.0) in
    let proposals : total (signed_length (λ _. 45)) n.pre_prepares ≤ length n.pre_prepares * 5134
    = total_le (signed_length (λ _. 45)) 5134 n.pre_prepares (shorts c bodies.PrePrepare (λ _. 45) 45 n.pre_prepares (flats 45 n.pre_prepares) parts.1) in
    omega (arith, changes, proposals, few, h.few_pre_prepares)

-- ---- sealable bodies

fits : (c : Configuration) (b : Body) (many : ℕ) → BodyWellFormed b → AllByRecursion (IsAuthentic c) (nested_in b) → length (encoded_body b) ≡ many → many ≤ 8383519 → IsSealable c b
fits c b many h authentic is le = record {
  well_formed = h;
  nested = authentic;
  within = λ s. let around = around_is_short s in omega (arith, around, is, le);
}

-- the length doesn't depend on the view
view_alone : (v : ViewChange) (w : View) → length (encoded_body (bodies.ViewChange v)) ≡ length (encoded_body (bodies.ViewChange (record v { view = w })))
unfolding encoded_body view_change
view_alone v w =
    let one : List ℕ = encoded_list signed_checkpoint v.checkpoints in
    let two : List ℕ = encoded_list certificate v.certificates in
    omega (
      arith,
      length-append ((view v.view ++ number v.low) ++ one) two,
      length-append (view v.view ++ number v.low) one,
      length-append (view v.view) (number v.low),
      length-append ((view w ++ number v.low) ++ one) two,
      length-append (view w ++ number v.low) one,
      length-append (view w) (number v.low),
    )

new_view_alone : (n : NewView) (w : View) → length (encoded_body (bodies.NewView n)) ≡ length (encoded_body (bodies.NewView (record n { view = w })))
unfolding encoded_body new_view
new_view_alone n w =
    let one : List ℕ = encoded_list signed_view_change n.changes in
    let two : List ℕ = encoded_list signed_pre_prepare n.pre_prepares in
    omega (arith, length-append (view n.view ++ one) two, length-append (view n.view) one, length-append (view w ++ one) two, length-append (view w) one)

abbrev first_view : View
first_view = record { 0 = 0 }

pub change_is_sealable : (c : Configuration) (v : ViewChange) → ViewChangeWellFormed v → AllByRecursion (SignedFieldsInRange CheckpointFieldsInRange) v.checkpoints → AllByRecursion CertificateFieldsInRange v.certificates
    → AllByRecursion (IsAuthentic c) (in_view_change v) → IsSealable c (bodies.ViewChange v)
change_is_sealable c v h checkpoints certificates authentic =
    let le = change_is_short c v h authentic in
    let range : ViewChangeFieldsInRange (record v { view = first_view }) = record { view_in_range = omega arith; checkpoints_in_range = checkpoints; certificates_in_range = certificates } in
    fits c (bodies.ViewChange v) (view_change_length v) h authentic (view_alone v first_view ∙ length_body (bodies.ViewChange (record v { view = first_view })) range) (omega (arith, le))

pub new_view_is_sealable : (c : Configuration) (n : NewView) → NewViewWellFormed n → length n.changes ≤ 7 → AllByRecursion (SignedFieldsInRange ViewChangeFieldsInRange) n.changes → AllByRecursion (SignedFieldsInRange PrePrepareFieldsInRange) n.pre_prepares
    → AllByRecursion (IsAuthentic c) (nested_in (bodies.NewView n)) → IsSealable c (bodies.NewView n)
new_view_is_sealable c n h few changes pre_prepares authentic =
    let le = new_view_is_short c n h few authentic in
    let range : NewViewFieldsInRange (record n { view = first_view }) = record { view_in_range = omega arith; changes_in_range = changes; pre_prepares_in_range = pre_prepares } in
    fits c (bodies.NewView n) (new_view_length n) h authentic (new_view_alone n first_view ∙ length_body (bodies.NewView (record n { view = first_view })) range) (omega (arith, le))

-- a body that holds no message is sealable where it fits
pub flat_is_sealable : (c : Configuration) (b : Body) → BodyWellFormed b → BodyFieldsInRange b → nested_in b ≡ [] → encoded_length_of b ≤ 8383519 → IsSealable c b
flat_is_sealable c b h range none le = fits c b (encoded_length_of b) h (subst (AllByRecursion (IsAuthentic c)) (sym none) tt) (length_body b range) le

-- ---- what holds of checked messages of one kind

abbrev Each : {B : Type 0} → Configuration → (B → Body) → List (Signed B) → Type 0
Each c kind ms = AllByRecursion (λ x. IsChecked (under c x)) (map (as_message kind) ms)

-- their bodies are of the grammar
numbers_of : {B : Type 0} (c : Configuration) (kind : B → Body) (P : B → Type 0) (ms : List (Signed B)) → ((b : B) → BodyWellFormed (kind b) → P b) → Each c kind ms → EachBody P ms
numbers_of c kind P [] f h = tt
numbers_of c kind P (m ∷ ms) f h = (f m.body h.0.encodes.well_formed.well_formed, numbers_of c kind P ms f h.1)

ranges_of : {B : Type 0} (c : Configuration) (kind : B → Body) (P : B → Type 0) (ms : List (Signed B)) → ((b : B) → BodyFieldsInRange (kind b) → P b) → Each c kind ms → AllByRecursion (SignedFieldsInRange P) ms
ranges_of c kind P [] f h = tt
ranges_of c kind P (m ∷ ms) f h =
    let range = h.0.encodes.well_formed.fields_in_range in
    (record { id_in_range = range.id_in_range; body_in_range = f m.body range.body_in_range }, ranges_of c kind P ms f h.1)

-- and they are authentic themselves
pub authentic_of : {B : Type 0} (c : Configuration) (kind : B → Body) (ms : List (Signed B)) → Each c kind ms → AllByRecursion (IsAuthentic c) (map (as_message kind) ms)
authentic_of c kind [] h = tt
authentic_of c kind (m ∷ ms) h = (h.0.authentic.0, authentic_of c kind ms h.1)

-- with all that is nested in them
all_authentic : (c : Configuration) (ms : List (Signed ViewChange)) → Each c bodies.ViewChange ms → AllByRecursion (IsAuthentic c) (flat_map with_nested ms)
all_authentic c [] h = tt
all_authentic c (m ∷ ms) h = all_join (IsAuthentic c) (with_nested m) (flat_map with_nested ms) h.0.authentic (all_authentic c ms h.1)

pub each_of : {B : Type 0} (c : Configuration) (kind : B → Body) (l : CheckedMessages) (ms : List (Signed B)) → AreChecked l → l.config ≡ c → l.messages ≡ map (as_message kind) ms → Each c kind ms
each_of c kind l ms h is all =
    subst (λ (k : CheckedMessages). AllByRecursion (λ x. IsChecked (under k.config x)) k.messages) (λ i. record { config = is i; messages = all i }) h

-- ---- certificates

pub record IsGood (c : Configuration) (ys : List Certificate) : Type 0 where
  pub well_formed : AllByRecursion CertificateWellFormed ys
  pub in_range : AllByRecursion CertificateFieldsInRange ys
  pub authentic : AllByRecursion (IsAuthentic c) (flat_map in_certificate ys)

one_good : (c : Configuration) (x : CheckedCertificate) (y : Certificate) → IsCertificateOf x y → (x.pre_prepare.config ≡ c) × (x.prepares.config ≡ c) → IsCheckedCertificate x → HasShortList y
    → CertificateWellFormed y × CertificateFieldsInRange y × AllByRecursion (IsAuthentic c) (in_certificate y)
one_good c x y is under_c checked short =
    let own : IsChecked (under c (as_message bodies.PrePrepare y.pre_prepare))
    = subst IsChecked (λ i. let m : CheckedMessage = record { config = under_c.0 i; message = is.pre_prepare i } in m) checked.0 in
    let each = each_of c bodies.Prepare x.prepares y.prepares checked.1 under_c.1 is.prepares in
    let range = own.encodes.well_formed.fields_in_range in (
      record { number = own.encodes.well_formed.well_formed; few = short.0; ascend = short.1; numbers = numbers_of c bodies.Prepare (λ p. IsSequenceNumber p.number) y.prepares (λ b h. h) each },
      record {
        pre_prepare_in_range = record { id_in_range = range.id_in_range; body_in_range = range.body_in_range };
        prepares_in_range = ranges_of c bodies.Prepare PrepareFieldsInRange y.prepares (λ b h. h) each;
      },
      (own.authentic.0, authentic_of c bodies.Prepare y.prepares each),
    )

pub all_good : (c : Configuration) (xs : List CheckedCertificate) (ys : List Certificate) → OneForOne IsCertificateOf xs ys → AreUnder c xs → AllByRecursion IsCheckedCertificate xs → AllByRecursion HasShortList ys → IsGood c ys
all_good c [] [] are under_c checked short = record { well_formed = tt; in_range = tt; authentic = tt }
all_good c [] (y ∷ ys) are under_c checked short = absurd are
all_good c (x ∷ xs) [] are under_c checked short = absurd are
all_good c (x ∷ xs) (y ∷ ys) are under_c checked short =
    let one = one_good c x y are.0 under_c.0 checked.0 short.0 in
    let rest = all_good c xs ys are.1 under_c.1 checked.1 short.1 in
    record {
      well_formed = (one.0, rest.well_formed);
      in_range = (one.1, rest.in_range);
      authentic = all_join (IsAuthentic c) (in_certificate y) (flat_map in_certificate ys) one.2 rest.authentic;
    }

-- those up to an index are checked
pub more_checked : (xs : List CheckedCertificate) (i : ℕ) (x : CheckedCertificate) → i < length xs → x ≡ get_or xs i x → AllByRecursion IsCheckedCertificate (take i xs) → IsCheckedCertificate x → AllByRecursion IsCheckedCertificate (take (i + 1) xs)
more_checked xs i x lt is h own =
    subst (AllByRecursion IsCheckedCertificate) (sym (take_more xs i x lt ∙ ap (λ y. take i xs ++ y ∷ []) (sym is)))
    (all_join IsCheckedCertificate (take i xs) (x ∷ []) h (own, tt))

pub all_checked : (xs : List CheckedCertificate) (i : ℕ) → length xs ≤ i → AllByRecursion IsCheckedCertificate (take i xs) → AllByRecursion IsCheckedCertificate xs
all_checked xs i le h = subst (AllByRecursion IsCheckedCertificate) (take_all i xs le) h

-- ---- what is made of checked messages

pub made_is_sealable : (view : View) (low : SeqNo) (proof : CheckedMessages) (certificates : List CheckedCertificate) (v : ViewChange) → AreChecked proof → AllByRecursion IsCheckedCertificate certificates
    → IsMadeOf view low proof certificates v → HasShortLists v → AreUnder proof.config certificates → IsSealable proof.config (bodies.ViewChange v)
made_is_sealable view low proof certificates v checked all is short under_c =
    let c = proof.config in
    let each = each_of c bodies.Checkpoint proof v.checkpoints checked refl is.checkpoints in
    let good = all_good c certificates v.certificates is.carries under_c all short.certificates in
    change_is_sealable c v
    (record {
      low = short.low;
      few_checkpoints = short.few_checkpoints;
      ascend = short.ascend;
      numbers = numbers_of c bodies.Checkpoint (λ x. IsSequenceNumber x.number) v.checkpoints (λ b h. h) each;
      few_certificates = short.few_certificates;
      certificates = good.well_formed;
    })
    (ranges_of c bodies.Checkpoint CheckpointFieldsInRange v.checkpoints (λ b h. h) each) good.in_range
    (all_join (IsAuthentic c) (map (as_message bodies.Checkpoint) v.checkpoints) (flat_map in_certificate v.certificates) (authentic_of c bodies.Checkpoint v.checkpoints each) good.authentic)

pub new_view_made_is_sealable : (view : View) (changes pre_prepares : CheckedMessages) (n : NewView) → AreChecked changes → AreChecked pre_prepares → pre_prepares.config ≡ changes.config
    → IsNewViewOf view changes pre_prepares n → HasFewMessages n → IsSealable changes.config (bodies.NewView n)
new_view_made_is_sealable view changes pre_prepares n checked also same is few =
    let c = changes.config in
    let each = each_of c bodies.ViewChange changes n.changes checked refl is.changes_are in
    let proposals = each_of c bodies.PrePrepare pre_prepares n.pre_prepares also same is.proposals in
    new_view_is_sealable c n
    (record {
      few_changes = omega (arith, few.few_changes);
      ascend = few.ascend;
      changes = numbers_of c bodies.ViewChange ViewChangeWellFormed n.changes (λ b h. h) each;
      few_pre_prepares = few.few_pre_prepares;
      numbers = numbers_of c bodies.PrePrepare (λ p. IsSequenceNumber p.number) n.pre_prepares (λ b h. h) proposals;
    })
    few.few_changes
    (ranges_of c bodies.ViewChange ViewChangeFieldsInRange n.changes (λ b h. h) each) (ranges_of c bodies.PrePrepare PrePrepareFieldsInRange n.pre_prepares (λ b h. h) proposals)
    (all_join (IsAuthentic c) (flat_map with_nested n.changes) (map (as_message bodies.PrePrepare) n.pre_prepares) (all_authentic c n.changes each) (authentic_of c bodies.PrePrepare n.pre_prepares proposals))

-- ---- bodies that hold no message

length_of_proposal : (v : View) (k : SeqNo) (d : Digest) → IsDigest d → length (proposal v k d) ≡ 44
unfolding proposal
length_of_proposal v k d h = omega (arith, h, length-append (view v ++ number k) d.0, length-append (view v) (number k))

length_pre_prepare : (p : PrePrepare) → IsDigest p.digest → length (encoded_body (bodies.PrePrepare p)) ≡ 45
unfolding encoded_body
length_pre_prepare p h = omega (arith, length_of_proposal p.view p.number p.digest h)

length_prepare : (p : Prepare) → IsDigest p.digest → length (encoded_body (bodies.Prepare p)) ≡ 45
unfolding encoded_body
length_prepare p h = omega (arith, length_of_proposal p.view p.number p.digest h)

length_commit : (p : Commit) → IsDigest p.digest → length (encoded_body (bodies.Commit p)) ≡ 45
unfolding encoded_body
length_commit p h = omega (arith, length_of_proposal p.view p.number p.digest h)

length_reply : (r : ReplyBody) → length (encoded_body (bodies.Reply r)) ≡ 29 + length r.result
unfolding encoded_body reply
length_reply r =
    let one : List ℕ = view r.view ++ client r.client in
    let two : List ℕ = one ++ to_be_bytes w64 r.time in
    omega (arith, length-append (two ++ number r.number) (length_prefixed r.result), length-append two (number r.number), length-append one (to_be_bytes w64 r.time), length-append (view r.view) (client r.client), length_length_prefixed r.result)

pub pre_prepare_is_sealable : (c : Configuration) (p : PrePrepare) → IsSequenceNumber p.number → IsDigest p.digest → IsSealable c (bodies.PrePrepare p)
pre_prepare_is_sealable c p h digest = fits c (bodies.PrePrepare p) 45 h tt (length_pre_prepare p digest) (omega arith)

pub prepare_is_sealable : (c : Configuration) (p : Prepare) → IsSequenceNumber p.number → IsDigest p.digest → IsSealable c (bodies.Prepare p)
prepare_is_sealable c p h digest = fits c (bodies.Prepare p) 45 h tt (length_prepare p digest) (omega arith)

pub commit_is_sealable : (c : Configuration) (p : Commit) → IsSequenceNumber p.number → IsDigest p.digest → IsSealable c (bodies.Commit p)
commit_is_sealable c p h digest = fits c (bodies.Commit p) 45 h tt (length_commit p digest) (omega arith)

pub reply_is_sealable : (c : Configuration) (r : ReplyBody) → IsSequenceNumber r.number → length r.result ≤ 265 → IsSealable c (bodies.Reply r)
reply_is_sealable c r h few = fits c (bodies.Reply r) (29 + length r.result) h tt (length_reply r) (omega (arith, few))

pub checkpoint_is_sealable : (c : Configuration) (x : Checkpoint) → IsSequenceNumber x.number → IsDigest x.digest → IsSealable c (bodies.Checkpoint x)
checkpoint_is_sealable c x h digest = fits c (bodies.Checkpoint x) 41 h tt (length_body (bodies.Checkpoint x) digest) (omega arith)

fetch_is_short : (f : Fetch) → fetch_length f ≤ 34
fetch_is_short (fetches.Request digest) = omega arith
fetch_is_short (fetches.State n) = omega arith

pub fetch_is_sealable : (c : Configuration) (f : Fetch) → FetchWellFormed f → FetchFieldsInRange f → IsSealable c (bodies.Fetch f)
fetch_is_sealable c f h range =
    let le = fetch_is_short f in fits c (bodies.Fetch f) (fetch_length f) h tt (length_body (bodies.Fetch f) range) (omega (arith, le))

-- the bytes of a state are at most so many
pub snapshot_is_sealable : (c : Configuration) (s : Snapshot) → IsSequenceNumber s.number → length s.state ≤ 5788337 → IsSealable c (bodies.Snapshot s)
snapshot_is_sealable c s h few = fits c (bodies.Snapshot s) (13 + length s.state) h tt (length_body (bodies.Snapshot s) tt) (omega (arith, few))
