-- A NewView that is signed from the opening of valid ViewChanges is valid, and its proposals are few.
use Rattle.std.proofs.Common.{◌≡◌, ℕ, ◌+◌, ◌*◌, ◌≤◌, ◌==◌, Bool, true, false, ◌&&◌, List, [], ◌∷◌, None, length, refl, sym, ap, subst, ◌∙◌, arith}
use Rattle.std.specs.Prelude.{map, nat_le}
use Rattle.std.specs.List.{AllByRecursion, list_all}
use Rattle.std.proofs.lemmas.Bool.{and_parts, and_from, eq-eqb, leb-true}
use Rattle.host_types.specs.Configuration.{Configuration, IsConfiguration, replicas_for}
use Rattle.pbft_codec.specs.declared.body.Body.TheVariants as bodies
use Rattle.quorum_log.specs.Words.{Signed, Body, Role, PrePrepare, Certificate, ViewChange, NewView}
use Rattle.quorum_log.specs.Setup.{Setup, primary, quorum, span, is_replica, setup_of}
use Rattle.quorum_log.specs.Certificates.{Fields, of_pre_prepare, same_fields, is_by, has_quorum}
use Rattle.quorum_log.specs.Rules.{pre_prepare_of}
use Rattle.quorum_log.specs.Validity.{first_fault, greatest_of, floor_of, certificates_in, ascend_within, has_view, has_proof, has_certificates, has_order, view_change_fault, new_view_fault, bodies_in, changed_by, are_for_view, have_proofs, have_certificates, have_order, given, are_given}
use Rattle.quorum_log.proofs.Made.{same_self}
use Rattle.seal.specs.Lists.{CheckedMessages, AreChecked, under}
use Rattle.seal.specs.Opening.{IsChecked}
use Rattle.seal.specs.Parts.{as_message}
use Rattle.seal.specs.Signers.{IsAuthentic}
use Rattle.view_change.specs.declared.opening.Opening.{Opening}
use Rattle.view_change.specs.Opening.{IsSignedBy, IsSignedFrom}
use Rattle.view_change.proofs.Counts.{so_many_pass}
use Rattle.view_change.proofs.Signers.{changes_listed}
use Rattle.view_change.proofs.Walking.{greatest_over}

-- ---- how many proposals there are

within_last : (first last : ℕ) (xs : List Certificate) → ascend_within first last xs ≡ true → greatest_of (map (λ x. x.pre_prepare.body.number.0) xs) ≤ last
within_last first last [] e = omega arith
within_last first last (x ∷ xs) e =
    let number = x.pre_prepare.body.number.0 in
    let a = and_parts (nat_le first number) (nat_le number last && ascend_within (number + 1) last xs) e in
    let b = and_parts (nat_le number last) (ascend_within (number + 1) last xs) a.1 in
    let here = leb-true number last b.0 in
    let rest = within_last (number + 1) last xs b.1 in
    omega arith

pub within_span : (c : Setup) (ms : List (Signed ViewChange)) → list_all (has_order c) (bodies_in ms) ≡ true
    → greatest_of (map (λ x. x.pre_prepare.body.number.0) (certificates_in ms)) ≤ floor_of ms + span c.config
within_span c [] e = omega arith
within_span c (m ∷ ms) e =
    let a = and_parts (has_order c m.body) (list_all (has_order c) (bodies_in ms)) e in
    let own = within_last (m.body.low.0 + 1) (m.body.low.0 + span c.config) m.body.certificates a.0 in
    let rest = within_span c ms a.1 in
    let parts = greatest_over (λ x. x.pre_prepare.body.number.0) m.body.certificates (certificates_in ms) in
    omega arith

-- ---- what is signed

signed_one : (leader : ℕ) (x : Fields) (m : Signed PrePrepare) → m.body ≡ pre_prepare_of x → IsSignedBy leader m → is_by leader (λ b. same_fields (of_pre_prepare b) x) m ≡ true
signed_one leader x m body_is by =
    ap (λ (r : Role). is_replica r && ((m.id == leader) && same_fields (of_pre_prepare m.body) x)) by.role
    ∙ ap (λ (b : Bool). b && same_fields (of_pre_prepare m.body) x) (eq-eqb m.id leader by.signer)
    ∙ ap (λ (p : PrePrepare). same_fields (of_pre_prepare p) x) body_is
    ∙ same_self x

signed_all : (leader : ℕ) (xs : List Fields) (ms : List (Signed PrePrepare)) → map (λ m. m.body) ms ≡ map pre_prepare_of xs → AllByRecursion (IsSignedBy leader) ms → are_given leader xs ms ≡ true
signed_all leader [] [] e h = refl
signed_all leader [] (m ∷ ms) e h = absurd cc
signed_all leader (x ∷ xs) [] e h = absurd cc
signed_all leader (x ∷ xs) (m ∷ ms) e h =
    let body_is : m.body ≡ pre_prepare_of x = cc in
    let rest_is : map (λ m. m.body) ms ≡ map pre_prepare_of xs = cc in
    and_from _ _ (signed_one leader x m body_is h.0) (signed_all leader xs ms rest_is h.1)

-- ---- the ViewChanges

record Passes (view proof certificates order : Bool) : Type 0 where
  view_is : view ≡ true
  proof_is : proof ≡ true
  certificates_are : certificates ≡ true
  order_is : order ≡ true

faultless : (a b c d : Bool) → first_fault a b c d ≡ None → Passes a b c d
faultless true true true true e = record { view_is = refl; proof_is = refl; certificates_are = refl; order_is = refl }
faultless false b c d e = absurd cc
faultless true false c d e = absurd cc
faultless true true false d e = absurd cc
faultless true true true false e = absurd cc

no_fault : (a b c d : Bool) → a ≡ true → b ≡ true → c ≡ true → d ≡ true → first_fault a b c d ≡ None
no_fault a b c d p q r s = rw (p, q, r, s) refl

abbrev IsFor : Setup → ℕ → ViewChange → Type 0
IsFor c view v = (view_change_fault c v ≡ None) × (v.view.0 ≡ view)

passes : (c : Setup) (v : ViewChange) → view_change_fault c v ≡ None → Passes (has_view v) (has_proof c v) (has_certificates c v) (has_order c v)
passes c v e = faultless (has_view v) (has_proof c v) (has_certificates c v) (has_order c v) e

all_for : (c : Setup) (view : ℕ) (vs : List ViewChange) → AllByRecursion (IsFor c view) vs → list_all (λ v. has_view v && v.view.0 == view) vs ≡ true
all_for c view [] h = refl
all_for c view (v ∷ vs) h = and_from _ _ (and_from _ _ ((passes c v h.0.0).view_is) (eq-eqb v.view.0 view h.0.1)) (all_for c view vs h.1)

all_proved : (c : Setup) (view : ℕ) (vs : List ViewChange) → AllByRecursion (IsFor c view) vs → list_all (has_proof c) vs ≡ true
all_proved c view [] h = refl
all_proved c view (v ∷ vs) h = and_from _ _ ((passes c v h.0.0).proof_is) (all_proved c view vs h.1)

all_certified : (c : Setup) (view : ℕ) (vs : List ViewChange) → AllByRecursion (IsFor c view) vs → list_all (has_certificates c) vs ≡ true
all_certified c view [] h = refl
all_certified c view (v ∷ vs) h = and_from _ _ ((passes c v h.0.0).certificates_are) (all_certified c view vs h.1)

all_ordered : (c : Setup) (view : ℕ) (vs : List ViewChange) → AllByRecursion (IsFor c view) vs → list_all (has_order c) vs ≡ true
all_ordered c view [] h = refl
all_ordered c view (v ∷ vs) h = and_from _ _ ((passes c v h.0.0).order_is) (all_ordered c view vs h.1)

all_true : {B : Type 0} (ms : List (Signed B)) → list_all (λ m. true) ms ≡ true
all_true [] = refl
all_true (m ∷ ms) = all_true ms

authentic : (c : Configuration) (ms : List (Signed Body)) → AllByRecursion (λ m. IsChecked (under c m)) ms → AllByRecursion (IsAuthentic c) ms
authentic c [] h = tt
authentic c (m ∷ ms) h = (h.0.authentic.0, authentic c ms h.1)

-- so many ViewChanges, signers ascending, are of a quorum
of_quorum : (c : Configuration) → IsConfiguration c → (n : NewView) (l : CheckedMessages) (view : ℕ) (o : Opening) → l.config ≡ c → l.messages ≡ map (as_message bodies.ViewChange) n.changes → AreChecked l
    → IsSignedFrom (setup_of c) view o n → (length n.changes == quorum c && has_quorum c (changed_by n.changes)) ≡ true
of_quorum c k n l view o config_is is checked h =
    let each = authentic c l.messages (subst (λ (d : Configuration). AllByRecursion (λ m. IsChecked (under d m)) l.messages) config_is checked) in
    let listed = changes_listed c k n.changes (subst (λ (ms : List (Signed Body)). AllByRecursion (IsAuthentic c) ms) is each) in
    so_many_pass (λ v. true) (replicas_for c.f) (2 * c.f + 1) n.changes h.ascend listed
    ∙ ap (λ (b : Bool). (length n.changes == 2 * c.f + 1) && b) (all_true n.changes)
    ∙ ap (λ (b : Bool). b && true) (eq-eqb (length n.changes) (2 * c.f + 1) h.many)

pub signed_is_valid : (c : Configuration) → IsConfiguration c → (n : NewView) (l : CheckedMessages) (view : ℕ) (o : Opening) → l.config ≡ c → l.messages ≡ map (as_message bodies.ViewChange) n.changes → AreChecked l
    → o.entries.items ≡ map pre_prepare_of (given (setup_of c) view n.changes) → IsSignedFrom (setup_of c) view o n → new_view_fault (setup_of c) n ≡ None
signed_is_valid c k n l view o config_is is checked entries_are h =
    let s = setup_of c in
    let each : AllByRecursion (IsFor s n.view.0) (bodies_in n.changes) = subst (λ (w : ℕ). AllByRecursion (IsFor s w) (bodies_in n.changes)) (sym h.view_is) h.valid in
    let proposals = signed_all (primary s.config view) (given s view n.changes) n.pre_prepares (h.proposals ∙ entries_are) h.signers in
    let proposes : are_given (primary s.config n.view.0) (given s n.view.0 n.changes) n.pre_prepares ≡ true =
    ap (λ (w : ℕ). are_given (primary s.config w) (given s w n.changes) n.pre_prepares) h.view_is ∙ proposals in
    no_fault (are_for_view n) (have_proofs s n) (have_certificates s n) (have_order s n)
    (all_for s n.view.0 (bodies_in n.changes) each)
    (and_from _ _ (all_proved s n.view.0 (bodies_in n.changes) each) (of_quorum c k n l view o config_is is checked h))
    (all_certified s n.view.0 (bodies_in n.changes) each)
    (and_from _ _ (all_ordered s n.view.0 (bodies_in n.changes) each) proposes)
