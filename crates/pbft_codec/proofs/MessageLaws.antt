-- The laws of bodies of any kind, and of messages.
use Rattle.std.proofs.Common.{◌≡◌, ℕ, ◌^◌, ◌<◌, ◌≤◌, Bool, true, false, cond, eqb, ltb, List, [], ◌∷◌, ◌++◌, length, Option, Some, None, Result, Ok, Err, refl, sym, ap, subst, ◌∙◌, arith}
use Rattle.std.specs.Int.{w32, to_be_bytes}
use Rattle.std.specs.List.{find}
use Rattle.std.specs.Prelude.{IfOk}
use Rattle.std.proofs.lemmas.Bool.{eqb-true, ltb-false, le-ltb}
use Rattle.std.proofs.lemmas.List.{length-append, append-nil}
use Rattle.pbft_codec.specs.declared.body.Body.{Body}
use Rattle.pbft_codec.specs.declared.body.Body.TheVariants as bodies
use Rattle.codec_fields.specs.declared.fault.CodecFault.{CodecFault}
use Rattle.codec_fields.specs.declared.fault.CodecFault.TheVariants.{Truncated, Trailing, TooLong}
use Rattle.pbft_codec.specs.declared.kind.Kind.{Kind}
use Rattle.pbft_codec.specs.declared.kind.Kind.TheVariants as kinds
use Rattle.pbft_codec.specs.declared.signed.Role.{Role}
use Rattle.pbft_codec.specs.declared.signed.Signed.{Signed}
use Rattle.pbft_codec.specs.Kinds.{kind_byte, kind_of, kinds as every_kind}
use Rattle.codec_fields.specs.Fields.{Reading, pair, map, number_at}
use Rattle.pbft_codec.specs.Reading.{IsUnlessMemory, whole, role_at, signed_at, request_at, pre_prepare_at, prepare_at, commit_at, reply_at, checkpoint_at, view_change_at, new_view_at, fetch_at, snapshot_at, fields_at, known_at, body_at, reading}
use Rattle.pbft_codec.specs.WellFormed.{WellFormed, Encodes}
use Rattle.pbft_codec.proofs.Widths.{SignedWidths, narrow_body, widen_message}
use Rattle.pbft_codec.specs.Layouts.{request, pre_prepare, prepare, commit, reply, checkpoint, view_change, new_view, fetch, snapshot, role_byte}
use Rattle.pbft_codec.specs.Bodies.{kind_in, fields}
use Rattle.pbft_codec.specs.Encoding.{body, encoding, signed_text, max_bytes}
use Rattle.pbft_codec.proofs.Forms.{IsBytes, IsBytes-rest, bind_ok, ok_is, Takes, IsForm, form_pair, whole_takes, whole_again, whole_behind}
use Rattle.pbft_codec.proofs.FieldLaws.{wide32, form_number, form_role, form_signed}
use Rattle.pbft_codec.proofs.BodyLaws.{BodyReadable, form_request, form_pre_prepare, form_prepare, form_commit, form_reply, form_checkpoint, form_view_change, form_new_view, form_fetch, form_snapshot}

-- ---- kinds

-- what was found passes the test
found_passes : {A : Type 0} (p : A → Bool) (xs : List A) (x : A) → find p xs ≡ Some x → p x ≡ true
found_passes p [] x e = absurd cc
found_passes {A} p (y ∷ ys) x e = by_test (p y) refl e (found_passes p ys x) where
  by_test : (t : Bool) → p y ≡ t → cond t (Some y) (find p ys) ≡ Some x → (find p ys ≡ Some x → p x ≡ true) → p x ≡ true
  by_test true is e' later =
      let same : y ≡ x = cc in
      subst (λ (z : A). p z ≡ true) same is
  by_test false is e' later = later e'

kind_is : (b : ℕ) (kind : Kind) → kind_of b ≡ Some kind → kind_byte kind ≡ b
unfolding kind_of
kind_is b kind e = eqb-true _ _ (found_passes (λ k. eqb (kind_byte k) b) every_kind kind e)

kind_again : (kind : Kind) → kind_of (kind_byte kind) ≡ Some kind
unfolding kind_of
kind_again kinds.Request = refl
kind_again _ = refl

-- ---- the fields of a body

-- what was read of this kind
pub record TakesBody (kind : Kind) (bytes : List ℕ) (b : Body) (rest : List ℕ) : Type 0 where
  pub kind_is : kind_in b ≡ kind
  pub text : Takes bytes (fields b) rest
  pub fits : BodyReadable b

variant_takes : {A : Type 0} (r : Reading A) (s : A → List ℕ) (make : A → Body) (kind : Kind) (bytes : List ℕ) (x : Body × List ℕ) → IsForm r s (λ a. BodyReadable (make a)) → ((a : A) → kind_in (make a) ≡ kind) → ((a : A) → fields (make a) ≡ s a) → IsBytes bytes → map make r bytes ≡ Ok x → TakesBody kind bytes x.0 x.1
variant_takes r s make kind bytes x f is same fits e =
    let a = bind_ok (r bytes) (λ a. Ok (make a.0, a.1)) x e in
    let one = f.takes bytes a.0 fits a.1 in
    let out : Body × List ℕ = (make a.0.0, a.0.1) in
    let text : Takes bytes (fields (make a.0.0)) a.0.1 = rw (same a.0.0) one.0 in
    subst (λ (y : Body × List ℕ). TakesBody kind bytes y.0 y.1) (ok_is out x a.2) (record { kind_is = is a.0.0; text = text; fits = one.1 })

fields_take : (kind : Kind) (bytes : List ℕ) (x : Body × List ℕ) → IsBytes bytes → fields_at kind bytes ≡ Ok x → TakesBody kind bytes x.0 x.1
unfolding fields_at
fields_take kinds.Request bytes x fits e = variant_takes request_at request bodies.Request kinds.Request bytes x form_request (λ _. refl) (λ _. refl) fits e
fields_take kinds.PrePrepare bytes x fits e = variant_takes pre_prepare_at pre_prepare bodies.PrePrepare kinds.PrePrepare bytes x form_pre_prepare (λ _. refl) (λ _. refl) fits e
fields_take kinds.Prepare bytes x fits e = variant_takes prepare_at prepare bodies.Prepare kinds.Prepare bytes x form_prepare (λ _. refl) (λ _. refl) fits e
fields_take kinds.Commit bytes x fits e = variant_takes commit_at commit bodies.Commit kinds.Commit bytes x form_commit (λ _. refl) (λ _. refl) fits e
fields_take kinds.Reply bytes x fits e = variant_takes reply_at reply bodies.Reply kinds.Reply bytes x form_reply (λ _. refl) (λ _. refl) fits e
fields_take kinds.Checkpoint bytes x fits e = variant_takes checkpoint_at checkpoint bodies.Checkpoint kinds.Checkpoint bytes x form_checkpoint (λ _. refl) (λ _. refl) fits e
fields_take kinds.ViewChange bytes x fits e = variant_takes view_change_at view_change bodies.ViewChange kinds.ViewChange bytes x form_view_change (λ _. refl) (λ _. refl) fits e
fields_take kinds.NewView bytes x fits e = variant_takes new_view_at new_view bodies.NewView kinds.NewView bytes x form_new_view (λ _. refl) (λ _. refl) fits e
fields_take kinds.Fetch bytes x fits e = variant_takes fetch_at fetch bodies.Fetch kinds.Fetch bytes x form_fetch (λ _. refl) (λ _. refl) fits e
fields_take kinds.Snapshot bytes x fits e = variant_takes snapshot_at snapshot bodies.Snapshot kinds.Snapshot bytes x form_snapshot (λ _. refl) (λ _. refl) fits e

variant_again : {A : Type 0} (r : Reading A) (s : A → List ℕ) (make : A → Body) (a : A) (rest : List ℕ) → IsForm r s (λ a. BodyReadable (make a)) → BodyReadable (make a) → map make r (s a ++ rest) ≡ Ok (make a, rest)
variant_again r s make a rest f fits = rw (f.again a rest fits) refl

fields_again : (b : Body) (rest : List ℕ) → BodyReadable b → fields_at (kind_in b) (fields b ++ rest) ≡ Ok (b, rest)
unfolding fields_at
fields_again (bodies.Request r) rest fits = variant_again request_at request bodies.Request r rest form_request fits
fields_again (bodies.PrePrepare p) rest fits = variant_again pre_prepare_at pre_prepare bodies.PrePrepare p rest form_pre_prepare fits
fields_again (bodies.Prepare p) rest fits = variant_again prepare_at prepare bodies.Prepare p rest form_prepare fits
fields_again (bodies.Commit c) rest fits = variant_again commit_at commit bodies.Commit c rest form_commit fits
fields_again (bodies.Reply r) rest fits = variant_again reply_at reply bodies.Reply r rest form_reply fits
fields_again (bodies.Checkpoint c) rest fits = variant_again checkpoint_at checkpoint bodies.Checkpoint c rest form_checkpoint fits
fields_again (bodies.ViewChange v) rest fits = variant_again view_change_at view_change bodies.ViewChange v rest form_view_change fits
fields_again (bodies.NewView n) rest fits = variant_again new_view_at new_view bodies.NewView n rest form_new_view fits
fields_again (bodies.Fetch f) rest fits = variant_again fetch_at fetch bodies.Fetch f rest form_fetch fits
fields_again (bodies.Snapshot s) rest fits = variant_again snapshot_at snapshot bodies.Snapshot s rest form_snapshot fits

variant_short : {A : Type 0} (r : Reading A) (s : A → List ℕ) (make : A → Body) (a : A) (front back : List ℕ) → IsForm r s (λ a. BodyReadable (make a)) → BodyReadable (make a) → 0 < length back → s a ≡ front ++ back → map make r front ≡ Err Truncated
variant_short r s make a front back f fits more e = rw (f.short a front back fits more e) refl

fields_short : (b : Body) (front back : List ℕ) → BodyReadable b → 0 < length back → fields b ≡ front ++ back → fields_at (kind_in b) front ≡ Err Truncated
unfolding fields_at
fields_short (bodies.Request r) front back fits more e = variant_short request_at request bodies.Request r front back form_request fits more e
fields_short (bodies.PrePrepare p) front back fits more e = variant_short pre_prepare_at pre_prepare bodies.PrePrepare p front back form_pre_prepare fits more e
fields_short (bodies.Prepare p) front back fits more e = variant_short prepare_at prepare bodies.Prepare p front back form_prepare fits more e
fields_short (bodies.Commit c) front back fits more e = variant_short commit_at commit bodies.Commit c front back form_commit fits more e
fields_short (bodies.Reply r) front back fits more e = variant_short reply_at reply bodies.Reply r front back form_reply fits more e
fields_short (bodies.Checkpoint c) front back fits more e = variant_short checkpoint_at checkpoint bodies.Checkpoint c front back form_checkpoint fits more e
fields_short (bodies.ViewChange v) front back fits more e = variant_short view_change_at view_change bodies.ViewChange v front back form_view_change fits more e
fields_short (bodies.NewView n) front back fits more e = variant_short new_view_at new_view bodies.NewView n front back form_new_view fits more e
fields_short (bodies.Fetch f) front back fits more e = variant_short fetch_at fetch bodies.Fetch f front back form_fetch fits more e
fields_short (bodies.Snapshot s) front back fits more e = variant_short snapshot_at snapshot bodies.Snapshot s front back form_snapshot fits more e

-- ---- bodies of any kind

body_takes : (bytes : List ℕ) (x : Body × List ℕ) → IsBytes bytes → body_at bytes ≡ Ok x → Takes bytes (body x.0) x.1 × BodyReadable x.0
unfolding body_at body
body_takes [] x fits e = absurd cc
body_takes (b ∷ rest) x fits e = by_kind (kind_of b) refl e where
  by_kind : (k : Option Kind) → kind_of b ≡ k → known_at k rest ≡ Ok x → Takes (b ∷ rest) (kind_byte (kind_in x.0) ∷ fields x.0) x.1 × BodyReadable x.0
  by_kind None is e' = absurd cc
  by_kind (Some kind) is e' =
      let one = fields_take kind rest x (IsBytes-rest b rest fits) e' in
      let head : kind_byte (kind_in x.0) ≡ b = ap kind_byte one.kind_is ∙ kind_is b kind is in
      (record { parts = rw head (ap (λ (t : List ℕ). b ∷ t) one.text.parts); rest_bytes = one.text.rest_bytes }, one.fits)

body_again : (b : Body) (rest : List ℕ) → BodyReadable b → body_at (body b ++ rest) ≡ Ok (b, rest)
unfolding body_at body
body_again b rest fits = rw (kind_again (kind_in b)) (fields_again b rest fits)

body_short : (b : Body) (front back : List ℕ) → BodyReadable b → 0 < length back → body b ≡ front ++ back → body_at front ≡ Err Truncated
unfolding body_at body
body_short b [] back fits more e = refl
body_short b (c ∷ front) back fits more e =
    let head : kind_byte (kind_in b) ≡ c = cc in
    let tail : fields b ≡ front ++ back = cc in
    rw (← head, kind_again (kind_in b)) (fields_short b front back fits more tail)

form_body : IsForm body_at body BodyReadable
form_body = record { takes = body_takes; again = body_again; short = body_short }

-- ---- messages

abbrev pub MessageReadable : Signed Body → Type 0
MessageReadable m = (0 ≤ m.id) × SignedWidths body BodyReadable m

form_message : IsForm (signed_at body_at 0) encoding MessageReadable
form_message = form_signed body_at body BodyReadable 0 form_body

pub fits_from : (m : Signed Body) → MessageReadable m → WellFormed m
fits_from m fits = record {
  well_formed = fits.1.body_in_range.0;
  fields_in_range = record { id_in_range = fits.1.id_in_range; body_in_range = narrow_body m.body fits.1.body_in_range.1 };
}

pub fits_for : (m : Signed Body) → WellFormed m → length (encoding m) ≤ max_bytes → MessageReadable m
fits_for m fits le =
    let widths = widen_message m fits.fields_in_range le in
    (omega arith, record { id_in_range = widths.id_in_range; body_in_range = (fits.well_formed, widths.body_in_range); body_length_in_range = widths.body_length_in_range; sig_length_in_range = widths.sig_length_in_range })

-- bytes within the limit
within_limit : (bytes : List ℕ) → length bytes ≤ max_bytes → reading bytes ≡ whole (signed_at body_at 0) bytes
unfolding reading
within_limit bytes le = rw (le-ltb max_bytes (length bytes) le) refl

pub reading_found : (bytes : List ℕ) (m : Signed Body) → IsBytes bytes → reading bytes ≡ Ok m → Encodes bytes m
unfolding reading
reading_found bytes m fits e = by_test (ltb max_bytes (length bytes)) refl e where
  by_test : (t : Bool) → ltb max_bytes (length bytes) ≡ t → cond t (Err TooLong) (whole (signed_at body_at 0) bytes) ≡ Ok m → Encodes bytes m
  by_test true is e' = absurd cc
  by_test false is e' =
      let one = whole_takes (signed_at body_at 0) encoding MessageReadable bytes m form_message fits e' in
      record { well_formed = fits_from m one.1; encoded = one.0; within = ltb-false _ _ is }

pub reading_only : (bytes : List ℕ) (m : Signed Body) → Encodes bytes m → reading bytes ≡ Ok m
reading_only bytes m encodes =
    let fits = fits_for m encodes.well_formed (omega (arith, encodes.within, ap length encodes.encoded)) in
    within_limit bytes encodes.within ∙ ap (whole (signed_at body_at 0)) encodes.encoded ∙ whole_again (signed_at body_at 0) encoding MessageReadable m form_message fits

pub reading_cut : (bytes : List ℕ) (m : Signed Body) (rest : List ℕ) → 0 < length rest → Encodes (bytes ++ rest) m → reading bytes ≡ Err Truncated
reading_cut bytes m rest more encodes =
    let fits = fits_for m encodes.well_formed (omega (arith, encodes.within, ap length encodes.encoded)) in
    let short : length bytes ≤ max_bytes = omega (arith, encodes.within, length-append bytes rest) in
    let one : signed_at body_at 0 bytes ≡ Err Truncated = form_message.short m bytes rest fits more (sym encodes.encoded) in
    within_limit bytes short ∙ rw one refl

pub reading_behind : (bytes : List ℕ) (m : Signed Body) (rest : List ℕ) → 0 < length rest → WellFormed m → bytes ≡ encoding m ++ rest → length bytes ≤ max_bytes → reading bytes ≡ Err Trailing
reading_behind bytes m rest more fits e le =
    let widths = fits_for m fits (omega (arith, le, ap length e, length-append (encoding m) rest)) in
    within_limit bytes le ∙ ap (whole (signed_at body_at 0)) e ∙ whole_behind (signed_at body_at 0) encoding MessageReadable m rest form_message widths more

-- ---- different messages

pub one_message : (bytes : List ℕ) (m n : Signed Body) → Encodes bytes m → Encodes bytes n → m ≡ n
one_message bytes m n one two = ok_is m n (sym (reading_only bytes m one) ∙ reading_only bytes n two)

abbrev Text : Type 0
Text = Role × (ℕ × Body)

form_text : IsForm (pair role_at (pair (number_at w32) body_at)) (λ (p : Text). (role_byte p.0 ∷ []) ++ (to_be_bytes w32 p.1.0 ++ body p.1.1)) (λ p. Unit {0} × ((p.1.0 < 2 ^ 32) × BodyReadable p.1.1))
form_text =
    form_pair role_at (λ r. role_byte r ∷ []) (λ _. Unit {0}) (pair (number_at w32) body_at) (λ p. to_be_bytes w32 p.0 ++ body p.1) (λ p. (p.0 < 2 ^ 32) × BodyReadable p.1) form_role
    (form_pair (number_at w32) (to_be_bytes w32) (λ n. n < 2 ^ 32) body_at body BodyReadable (form_number w32 (2 ^ 32) wide32) form_body)

-- the signer and the body as they are read
read_text : (m : Signed Body) → MessageReadable m → pair role_at (pair (number_at w32) body_at) (signed_text m) ≡ Ok ((m.role, (m.id, m.body)), [])
read_text m fits =
    ap (pair role_at (pair (number_at w32) body_at)) (sym (append-nil (signed_text m))) ∙ form_text.again (m.role, (m.id, m.body)) [] (tt, (fits.1.id_in_range, fits.1.body_in_range))

pub one_signed_text : (m n : Signed Body) → WellFormed m → WellFormed n → length (encoding m) ≤ max_bytes → length (encoding n) ≤ max_bytes → signed_text m ≡ signed_text n → (m.role ≡ n.role) × (m.id ≡ n.id) × (m.body ≡ n.body)
one_signed_text m n one two one_short two_short e =
    let both_read = sym (read_text m (fits_for m one one_short)) ∙ ap (pair role_at (pair (number_at w32) body_at)) e ∙ read_text n (fits_for n two two_short) in
    let same : (m.role, (m.id, m.body)) ≡ (n.role, (n.id, n.body)) = ap (λ (x : Text × List ℕ). x.0) (ok_is ((m.role, (m.id, m.body)), []) ((n.role, (n.id, n.body)), []) both_read) in
    (ap (λ (t : Text). t.0) same, ap (λ (t : Text). t.1.0) same, ap (λ (t : Text). t.1.1) same)

-- ---- what decoding answers

pub is_found : (bytes : List ℕ) (r : Result (Signed Body) CodecFault) → IsBytes bytes → IsUnlessMemory r (reading bytes) → IfOk r (λ m. Encodes bytes m)
is_found bytes (Ok m) fits given = reading_found bytes m fits given
is_found bytes (Err e) fits given = tt

pub answers : (r : Result (Signed Body) CodecFault) (read wanted : Result (Signed Body) CodecFault) → IsUnlessMemory r read → read ≡ wanted → IsUnlessMemory r wanted
answers r read wanted given e = subst (λ (w : Result (Signed Body) CodecFault). IsUnlessMemory r w) e given
