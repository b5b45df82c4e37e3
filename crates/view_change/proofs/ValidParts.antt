-- Valid parts make a valid ViewChange.
use Rattle.std.proofs.Common.{◌≡◌, ◌⊎◌, ℕ, ◌+◌, ◌*◌, ◌≤◌, ◌==◌, inl, inr, Bool, true, false, ◌&&◌, ◌||◌, List, [], ◌∷◌, length, map, None, refl, sym, ap, subst, ◌∙◌, arith}
use Rattle.std.specs.Prelude.{bytes_eq, nat_le, nat_lt}
use Rattle.std.specs.List.{AllByRecursion, list_all}
use Rattle.std.proofs.lemmas.Bool.{eq-eqb, le-leb, lt-ltb}
use Rattle.std.proofs.lemmas.List.{length-map}
use Rattle.std.proofs.lemmas.Slice.Eq.{bytes_eq-Decides}
use Rattle.host_types.specs.Configuration.{Configuration, IsConfiguration, replicas_for}
use Rattle.host_types.specs.declared.SeqNo.{SeqNo}
use Rattle.host_types.specs.declared.View.{View}
use Rattle.pbft_codec.specs.declared.body.Body.{Body}
use Rattle.pbft_codec.specs.declared.body.Body.TheVariants as bodies
use Rattle.pbft_codec.specs.Limits.{AscendFrom}
use Rattle.quorum_log.proofs.Made.{same_self}
use Rattle.quorum_log.specs.Certificates.{Fields, is_checkpoint_of, of_pre_prepare, of_prepare, same_fields}
use Rattle.quorum_log.specs.Setup.{Setup, span, setup_of}
use Rattle.quorum_log.specs.Validity.{ascend_within, digest_in, first_fault, has_certificates, has_view, is_proof, view_change_fault}
use Rattle.quorum_log.specs.Words.{Certificate, Checkpoint, PrePrepare, Prepare, Signed, ViewChange}
use Rattle.quorum_log.specs.declared.certificate.CheckedCertificate.{CheckedCertificate}
use Rattle.seal.specs.Lists.{AreChecked, CheckedMessages}
use Rattle.seal.specs.Parts.{as_message}
use Rattle.view_change.specs.Made.{AreValidParts, AscendWithin, IsCertificateOf, IsCheckpointAt, IsMadeOf, IsPrepareFor, IsStableBy, IsValidChange, OneForOne}
use Rattle.view_change.specs.Opened.{is_full_certificate}
use Rattle.view_change.specs.Sealable.{HasShortList, IsCheckedCertificate}
use Rattle.view_change.proofs.Counts.{so_many_pass}
use Rattle.view_change.proofs.Openings.{certificates_are}
use Rattle.view_change.proofs.Sealing.{all_good, authentic_of, each_of}
use Rattle.view_change.proofs.Signers.{checkpoints_listed}

both : (a b : Bool) → a ≡ true → b ≡ true → (a && b) ≡ true
both a b e f = ap (λ (x : Bool). x && b) e ∙ f

or_last : (a b : Bool) → b ≡ true → (a || b) ≡ true
or_last true b e = refl
or_last false b e = e

-- a message of a kind
with_kind : {B : Type 0} (kind : B → Body) (m : Signed Body) (b : B) → m.body ≡ kind b → m ≡ as_message kind (record { role = m.role; id = m.id; body = b; sig = m.sig })
with_kind kind m b is = λ i. record { role = m.role; id = m.id; body = is i; sig = m.sig }

ascend_as : {B : Type 0} (kind : B → Body) (low : ℕ) (ms : List (Signed B)) → AscendFrom low (map (as_message kind) ms) → AscendFrom low ms
ascend_as kind low [] h = tt
ascend_as kind low (m ∷ ms) h = (h.0, ascend_as kind (m.id + 1) ms h.1)

-- ---- Checkpoints

record IsCheckpoints (number : ℕ) (digest : List ℕ) (ms : List (Signed Body)) : Type 0 where
  bs : List (Signed Checkpoint)
  are : ms ≡ map (as_message bodies.Checkpoint) bs
  all : list_all (λ m. is_checkpoint_of number digest m.body) bs ≡ true
  first : (bs ≡ []) ⊎ (digest_in bs ≡ digest)

checkpoints_of : (number : ℕ) (digest : List ℕ) (ms : List (Signed Body)) → AllByRecursion (IsCheckpointAt number digest) ms → IsCheckpoints number digest ms
checkpoints_of number digest [] each = record { bs = []; are = refl; all = refl; first = inl refl }
checkpoints_of number digest (m ∷ ms) each =
    let one = each.0 in
    let rest = checkpoints_of number digest ms each.1 in
    let b : Signed Checkpoint = record { role = m.role; id = m.id; body = one.checkpoint; sig = m.sig } in
    let is = with_kind bodies.Checkpoint m one.checkpoint one.is in
    record {
      bs = b ∷ rest.bs;
      are = λ i. is i ∷ rest.are i;
      all = both (is_checkpoint_of number digest one.checkpoint) (list_all (λ m. is_checkpoint_of number digest m.body) rest.bs)
          (both (one.checkpoint.number.0 == number) (bytes_eq one.checkpoint.digest.0 digest) (eq-eqb one.checkpoint.number.0 number one.number_is) ((bytes_eq-Decides one.checkpoint.digest.0 digest).1 one.digest_is)) rest.all;
      first = inr one.digest_is;
    }

module _ (c : Configuration) (legal : IsConfiguration c) where
  stable_is_proof : (number : ℕ) (l : CheckedMessages) → AreChecked l → l.config ≡ c → (h : IsStableBy c number l.messages) (w : IsCheckpoints number h.digest l.messages)
      → is_proof (setup_of c) number w.bs ≡ true
  stable_is_proof number l checked under_c h w =
      let each = each_of c bodies.Checkpoint l w.bs checked under_c w.are in
      let long : length w.bs ≡ 2 * c.f + 1 = sym (length-map w.bs (as_message bodies.Checkpoint)) ∙ ap length (sym w.are) ∙ h.many in
      let up = ascend_as bodies.Checkpoint 0 w.bs (subst (AscendFrom 0) w.are h.ascend) in
      let passes = sym (so_many_pass (is_checkpoint_of number (digest_in w.bs)) (replicas_for c.f) (2 * c.f + 1) w.bs up (checkpoints_listed c legal w.bs (authentic_of c bodies.Checkpoint w.bs each))) in
      sym passes ∙ both (length w.bs == 2 * c.f + 1) (list_all (λ m. is_checkpoint_of number (digest_in w.bs) m.body) w.bs) (eq-eqb (length w.bs) (2 * c.f + 1) long) (all_so w.first) where
        none_here : w.bs ≡ [] → ⊥
        none_here empty =
            let long : length w.bs ≡ 2 * c.f + 1 = sym (length-map w.bs (as_message bodies.Checkpoint)) ∙ ap length (sym w.are) ∙ h.many in
            let short : length w.bs ≡ 0 = ap length empty in absurd (omega (arith, long, short))

        all_so : (w.bs ≡ []) ⊎ (digest_in w.bs ≡ h.digest) → list_all (λ m. is_checkpoint_of number (digest_in w.bs) m.body) w.bs ≡ true
        all_so (inl empty) = absurd (none_here empty)
        all_so (inr digest) = subst (λ (d : List ℕ). list_all (λ m. is_checkpoint_of number d m.body) w.bs ≡ true) (sym digest) w.all

-- ---- certificates

record IsPrepares (p : PrePrepare) (ms : List (Signed Body)) : Type 0 where
  bs : List (Signed Prepare)
  are : ms ≡ map (as_message bodies.Prepare) bs
  all : list_all (λ m. same_fields (of_prepare m.body) (of_pre_prepare p)) bs ≡ true

prepares_of : (p : PrePrepare) (ms : List (Signed Body)) → AllByRecursion (IsPrepareFor p) ms → IsPrepares p ms
prepares_of p [] each = record { bs = []; are = refl; all = refl }
prepares_of p (m ∷ ms) each =
    let one = each.0 in
    let rest = prepares_of p ms each.1 in
    let is = with_kind bodies.Prepare m one.prepare one.is in
    record {
      bs = record { role = m.role; id = m.id; body = one.prepare; sig = m.sig } ∷ rest.bs;
      are = λ i. is i ∷ rest.are i;
      all = both (same_fields (of_prepare one.prepare) (of_pre_prepare p)) (list_all (λ m. same_fields (of_prepare m.body) (of_pre_prepare p)) rest.bs)
          (ap (λ (f : Fields). same_fields f (of_pre_prepare p)) one.matches ∙ same_self (of_pre_prepare p)) rest.all;
    }

record IsCarried (c : Configuration) (view first last : ℕ) (xs : List CheckedCertificate) : Type 0 where
  ys : List Certificate
  are : OneForOne IsCertificateOf xs ys
  lower : list_all (λ x. nat_lt x.pre_prepare.body.view.0 view) ys ≡ true
  full : list_all (is_full_certificate c) ys ≡ true
  order : ascend_within first last ys ≡ true
  short : AllByRecursion HasShortList ys

carried_of : (c : Configuration) (view first last : ℕ) (xs : List CheckedCertificate) → IsConfiguration c → AscendWithin c view first last xs → IsCarried c view first last xs
carried_of c view first last [] legal h = record { ys = []; are = tt; lower = refl; full = refl; order = refl; short = tt }
carried_of c view first last (x ∷ xs) legal (p, is, below, above, up_to, rest) =
    let more = carried_of c view (p.number.0 + 1) last xs legal rest in
    let ps = prepares_of p x.prepares.messages is.each in
    let m = x.pre_prepare.message in
    let y : Certificate = record { pre_prepare = record { role = m.role; id = m.id; body = p; sig = m.sig }; prepares = ps.bs } in
    let long : length ps.bs ≡ 2 * c.f = sym (length-map ps.bs (as_message bodies.Prepare)) ∙ ap length (sym ps.are) ∙ is.many in
    record {
      ys = y ∷ more.ys;
      are = (record { pre_prepare = with_kind bodies.PrePrepare m p is.proposal; prepares = ps.are }, more.are);
      lower = both (nat_lt p.view.0 view) (list_all (λ x. nat_lt x.pre_prepare.body.view.0 view) more.ys) (lt-ltb p.view.0 view below) more.lower;
      full = both (is_full_certificate c y) (list_all (is_full_certificate c) more.ys)
          (both (length ps.bs == 2 * c.f) (list_all (λ m. same_fields (of_prepare m.body) (of_pre_prepare p)) ps.bs) (eq-eqb (length ps.bs) (2 * c.f) long) ps.all) more.full;
      order = both (nat_le first p.number.0) (nat_le p.number.0 last && ascend_within (p.number.0 + 1) last more.ys) (le-leb first p.number.0 above)
          (both (nat_le p.number.0 last) (ascend_within (p.number.0 + 1) last more.ys) (le-leb p.number.0 last up_to) more.order);
      short = (((few (length ps.bs) c.f long legal.max_faulty), ascend_as bodies.Prepare 0 ps.bs (subst (AscendFrom 0) ps.are is.ascend)), more.short);
    } where
      few : (n f : ℕ) → n ≡ 2 * f → f ≤ 3 → n ≤ 10
      few n f e le = omega (arith, e, le)

-- ---- a ViewChange of valid parts

pub record IsMadeValid (view : View) (low : SeqNo) (proof : CheckedMessages) (certificates : List CheckedCertificate) : Type 0 where
  pub change : ViewChange
  pub made : IsMadeOf view low proof certificates change
  pub valid : view_change_fault (setup_of proof.config) change ≡ None

-- the Checkpoints of a ViewChange that prove its low mark
abbrev IsProved : CheckedMessages → ℕ → Type 0
IsProved proof number =
    (bs : List (Signed Checkpoint)) × (proof.messages ≡ map (as_message bodies.Checkpoint) bs)
    × ((is_proof (setup_of proof.config) number bs || ((number == 0) && (length bs == 0))) ≡ true)

pub made_valid : (view : View) (low : SeqNo) (proof : CheckedMessages) (certificates : List CheckedCertificate) → AreChecked proof → AllByRecursion IsCheckedCertificate certificates
    → IsConfiguration proof.config → AreValidParts view low proof certificates → IsMadeValid view low proof certificates
made_valid view low proof certificates checked all legal parts = with_proof (proved parts.stable) where
  proved : IsStableBy proof.config low.0 proof.messages ⊎ ((low.0 ≡ 0) × (proof.messages ≡ [])) → IsProved proof low.0
  proved (inl h) =
      let w = checkpoints_of low.0 h.digest proof.messages h.each in
      (w.bs, w.are, ap (λ (b : Bool). b || ((low.0 == 0) && (length w.bs == 0))) (stable_is_proof proof.config legal low.0 proof checked refl h w))
  proved (inr (zero_is, none)) = ([], none, or_last (is_proof (setup_of proof.config) low.0 []) ((low.0 == 0) && true) (both (low.0 == 0) true (eq-eqb low.0 0 zero_is) refl))

  with_proof : IsProved proof low.0 → IsMadeValid view low proof certificates
  with_proof (bs, are, is_proved) =
      let carried = carried_of proof.config view.0 (low.0 + 1) (low.0 + span proof.config) certificates legal parts.carries in
      let good = all_good proof.config certificates carried.ys carried.are parts.alike all carried.short in
      let v : ViewChange = record { view = view; low = low; checkpoints = bs; certificates = carried.ys } in
      let view_ok : has_view v ≡ true = both (nat_lt 0 view.0) (list_all (λ x. nat_lt x.pre_prepare.body.view.0 view.0) carried.ys) (lt-ltb 0 view.0 parts.later) carried.lower in
      let certified : has_certificates (setup_of proof.config) v ≡ true = sym (certificates_are proof.config legal carried.ys good.well_formed good.authentic) ∙ carried.full in
      record {
        change = v;
        made = record { view_is = refl; low_is = refl; checkpoints = are; carries = carried.are };
        valid = λ i. first_fault (view_ok i) (is_proved i) (certified i) (carried.order i);
      }

pub valid_body : (c : Setup) (v : ViewChange) (body : Body) → body ≡ bodies.ViewChange v → view_change_fault c v ≡ None → IsValidChange c body
valid_body c v body is valid = subst (IsValidChange c) (sym is) valid
