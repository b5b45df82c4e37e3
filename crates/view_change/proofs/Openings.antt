-- The tests of opened messages are those of the definitions.
use Rattle.std.proofs.Common.{◌≡◌, ℕ, ◌+◌, ◌*◌, ◌==◌, Bool, true, false, ◌&&◌, ◌||◌, not, List, [], ◌∷◌, length, refl, sym, ap, subst, ◌∙◌}
use Rattle.std.specs.Prelude.{nat_le, map}
use Rattle.std.specs.List.{AllByRecursion, list_all, flat_map}
use Rattle.std.proofs.lemmas.Bool.{eqb-true, eq-eqb, false_from_ne_true, false≢true}
use Rattle.host_types.specs.Configuration.{Configuration, IsConfiguration, replicas_for}
use Rattle.pbft_codec.specs.declared.body.Body.TheVariants as bodies
use Rattle.pbft_codec.specs.Bodies.{BodyWellFormed}
use Rattle.pbft_codec.specs.Limits.{CertificateWellFormed, ViewChangeWellFormed, NewViewWellFormed}
use Rattle.quorum_log.specs.Words.{Signed, Body, Role, PrePrepare, Prepare, Certificate, ViewChange, NewView}
use Rattle.quorum_log.specs.Setup.{primary, count, is_replica, setup_of}
use Rattle.quorum_log.specs.Certificates.{Fields, of_pre_prepare, of_prepare, same_fields, is_by, voted_among, is_certificate, is_checkpoint_of}
use Rattle.quorum_log.specs.Validity.{digest_in, has_view, has_proof, has_certificates, has_order, first_fault, view_change_fault, new_view_fault, bodies_in, are_for_view, have_proofs, have_certificates, are_given, given}
use Rattle.quorum_log.proofs.Made.{same_self}
use Rattle.quorum_log.proofs.Stages.{by_is, fields_are}
use Rattle.seal.specs.Opening.{CheckedMessage, IsChecked}
use Rattle.seal.specs.Parts.{as_message, in_certificate, nested_in, with_nested}
use Rattle.seal.specs.Signers.{IsAuthentic, primary_of}
use Rattle.seal.proofs.Authenticity.{all_split}
use Rattle.view_change.specs.Faults.{answer}
use Rattle.view_change.specs.Opened.{IsOpened, change_fault, each_change, has_full_certificates, has_full_proof, have_full_proofs, have_given_order, is_for_view, is_full_certificate, opening_fault}
use Rattle.view_change.proofs.Counts.{voter, same_count, so_many_pass}
use Rattle.view_change.proofs.Signers.{IsBackups, authentic_sender, checkpoints_listed, prepares_listed, changes_listed, backups_prepare}

-- ---- certificates

-- the view's primary has no matching Prepare
no_primary : (c : Configuration) (x : Fields) (i : ℕ) (ms : List (Signed Prepare)) → AllByRecursion (IsBackups c) ms → (i == primary c x.view) ≡ true
    → voter (λ b. same_fields (of_prepare b) x) ms i ≡ false
no_primary c x i [] h e = refl
no_primary c x i (m ∷ ms) h e =
    let test : Prepare → Bool = λ b. same_fields (of_prepare b) x in
    let not_it : is_by i test m ≡ false = false_from_ne_true (is_by i test m) (λ t.
    let by = by_is i test m t in
    let view : m.body.view.0 ≡ x.view = ap (λ (f : Fields). f.view) (fields_are (of_prepare m.body) x by.2) in
    let at : primary c m.body.view.0 ≡ m.id = ap (primary c) view ∙ sym (eqb-true i (primary c x.view) e) ∙ sym by.1 in
    absurd (false≢true (sym h.0 ∙ eq-eqb (primary_of c m.body.view) m.id at))) in
    ap (λ (b : Bool). b || voter test ms i) not_it ∙ no_primary c x i ms h.1 e

backups_alone : (c : Configuration) (x : Fields) (ms : List (Signed Prepare)) → AllByRecursion (IsBackups c) ms → (i : ℕ)
    → (not (i == primary c x.view) && voter (λ b. same_fields (of_prepare b) x) ms i) ≡ voter (λ b. same_fields (of_prepare b) x) ms i
backups_alone c x ms h i = split (i == primary c x.view) refl where
  split : (b : Bool) → (i == primary c x.view) ≡ b → (not b && voter (λ b. same_fields (of_prepare b) x) ms i) ≡ voter (λ b. same_fields (of_prepare b) x) ms i
  split true e = sym (no_primary c x i ms h e)
  split false e = refl

swapped : (a l : Bool) → ((true && a) && l) ≡ (l && a)
swapped true true = refl
swapped true false = refl
swapped false true = refl
swapped false false = refl

own_proposal : (c : Configuration) → IsConfiguration c → (m : Signed PrePrepare) → IsAuthentic c (as_message bodies.PrePrepare m)
    → voted_among of_pre_prepare (m ∷ []) (of_pre_prepare m.body) (primary c m.body.view.0) ≡ true
own_proposal c k m a =
    let s = authentic_sender c k (as_message bodies.PrePrepare m) refl a in
    let leader = primary c m.body.view.0 in
    let same : (m.id == leader) ≡ true = eq-eqb m.id leader (sym (eqb-true leader m.id s.sends)) in
    ap (λ (r : Role). (is_replica r && ((m.id == leader) && same_fields (of_pre_prepare m.body) (of_pre_prepare m.body))) || false) s.role_is
    ∙ ap (λ (b : Bool). (b && same_fields (of_pre_prepare m.body) (of_pre_prepare m.body)) || false) same
    ∙ ap (λ (b : Bool). b || false) (same_self (of_pre_prepare m.body))

pub certificate_is : (c : Configuration) → IsConfiguration c → (x : Certificate) → CertificateWellFormed x → AllByRecursion (IsAuthentic c) (in_certificate x)
    → is_full_certificate c x ≡ is_certificate c x
certificate_is c k x w a =
    let fields = of_pre_prepare x.pre_prepare.body in
    let test : Prepare → Bool = λ b. same_fields (of_prepare b) fields in
    let n = replicas_for c.f in
    let others = same_count (λ i. not (i == primary c fields.view) && voter test x.prepares i) (voter test x.prepares) n (backups_alone c fields x.prepares (backups_prepare c k x.prepares a.1)) in
    let proposes = own_proposal c k x.pre_prepare a.0 in
    sym (so_many_pass test n (2 * c.f) x.prepares w.ascend (prepares_listed c k x.prepares a.1))
    ∙ sym (swapped (nat_le (2 * c.f) (count (voter test x.prepares) n)) (length x.prepares == 2 * c.f))
    ∙ ap (λ (m : ℕ). (true && nat_le (2 * c.f) m) && (length x.prepares == 2 * c.f)) (sym others)
    ∙ ap (λ (b : Bool). (b && nat_le (2 * c.f) (count (λ i. not (i == primary c fields.view) && voter test x.prepares i) n)) && (length x.prepares == 2 * c.f)) (sym proposes)

pub certificates_are : (c : Configuration) → IsConfiguration c → (xs : List Certificate) → AllByRecursion CertificateWellFormed xs → AllByRecursion (IsAuthentic c) (flat_map in_certificate xs)
    → list_all (is_full_certificate c) xs ≡ list_all (is_certificate c) xs
certificates_are c k [] w a = refl
certificates_are c k (x ∷ xs) w a =
    let parts = all_split (IsAuthentic c) (in_certificate x) (flat_map in_certificate xs) a in
    ap (λ (b : Bool). b && list_all (is_full_certificate c) xs) (certificate_is c k x w.0 parts.0)
    ∙ ap (λ (b : Bool). is_certificate c x && b) (certificates_are c k xs w.1 parts.1)

-- ---- a ViewChange

proof_is : (c : Configuration) → IsConfiguration c → (v : ViewChange) → IsOpened c v → has_full_proof c v ≡ has_proof (setup_of c) v
proof_is c k v h =
    let parts = all_split (IsAuthentic c) (map (as_message bodies.Checkpoint) v.checkpoints) (flat_map in_certificate v.certificates) h.authentic in
    ap (λ (b : Bool). b || ((v.low.0 == 0) && (length v.checkpoints == 0)))
    (sym (so_many_pass (is_checkpoint_of v.low.0 (digest_in v.checkpoints)) (replicas_for c.f) (2 * c.f + 1) v.checkpoints h.well_formed.ascend (checkpoints_listed c k v.checkpoints parts.0)))

has_certificates_is : (c : Configuration) → IsConfiguration c → (v : ViewChange) → IsOpened c v → has_full_certificates c v ≡ has_certificates (setup_of c) v
has_certificates_is c k v h =
    let parts = all_split (IsAuthentic c) (map (as_message bodies.Checkpoint) v.checkpoints) (flat_map in_certificate v.certificates) h.authentic in
    certificates_are c k v.certificates h.well_formed.certificates parts.1

pub change_fault_is : (c : Configuration) → IsConfiguration c → (v : ViewChange) → IsOpened c v → change_fault c v ≡ view_change_fault (setup_of c) v
change_fault_is c k v h =
    ap (λ (b : Bool). first_fault (has_view v) b (has_full_certificates c v) (has_order (setup_of c) v)) (proof_is c k v h)
    ∙ ap (λ (b : Bool). first_fault (has_view v) (has_proof (setup_of c) v) b (has_order (setup_of c) v)) (has_certificates_is c k v h)

-- ---- a NewView

abbrev AreOpened : Configuration → List (Signed ViewChange) → Type 0
AreOpened c ms = AllByRecursion (λ m. IsOpened c m.body) ms

over_bodies : (test : ViewChange → Bool) (ms : List (Signed ViewChange)) → each_change test ms ≡ list_all test (bodies_in ms)
over_bodies test [] = refl
over_bodies test (m ∷ ms) = ap (λ (b : Bool). test m.body && b) (over_bodies test ms)

same_tests : (c : Configuration) (test test' : ViewChange → Bool) → ((v : ViewChange) → IsOpened c v → test v ≡ test' v) → (ms : List (Signed ViewChange)) → AreOpened c ms
    → each_change test ms ≡ list_all test' (bodies_in ms)
same_tests c test test' same [] h = refl
same_tests c test test' same (m ∷ ms) h =
    ap (λ (b : Bool). b && each_change test ms) (same m.body h.0) ∙ ap (λ (b : Bool). test' m.body && b) (same_tests c test test' same ms h.1)

each_opened : (c : Configuration) (ms : List (Signed ViewChange)) → AllByRecursion (λ m. ViewChangeWellFormed m.body) ms → AllByRecursion (IsAuthentic c) (flat_map with_nested ms) → AreOpened c ms
each_opened c [] w a = tt
each_opened c (m ∷ ms) w a =
    let parts = all_split (IsAuthentic c) (with_nested m) (flat_map with_nested ms) a in
    (record { well_formed = w.0; authentic = parts.0.1 }, each_opened c ms w.1 parts.1)

themselves : (c : Configuration) (ms : List (Signed ViewChange)) → AllByRecursion (IsAuthentic c) (flat_map with_nested ms) → AllByRecursion (IsAuthentic c) (map (as_message bodies.ViewChange) ms)
themselves c [] a = tt
themselves c (m ∷ ms) a =
    let parts = all_split (IsAuthentic c) (with_nested m) (flat_map with_nested ms) a in
    (parts.0.0, themselves c ms parts.1)

all_true : {B : Type 0} (ms : List (Signed B)) → list_all (λ m. true) ms ≡ true
all_true [] = refl
all_true (m ∷ ms) = all_true ms

and_true : (b : Bool) → (b && true) ≡ b
and_true true = refl
and_true false = refl

-- What is known of a NewView that was opened.
pub record IsOpenedView (c : Configuration) (n : NewView) : Type 0 where
  pub well_formed : NewViewWellFormed n
  pub authentic : AllByRecursion (IsAuthentic c) (flat_map with_nested n.changes)

many_are : (c : Configuration) → IsConfiguration c → (n : NewView) → IsOpenedView c n
    → (length n.changes == 2 * c.f + 1) ≡ ((length n.changes == 2 * c.f + 1) && nat_le (2 * c.f + 1) (count (voter (λ v. true) n.changes) (replicas_for c.f)))
many_are c k n h =
    sym (and_true (length n.changes == 2 * c.f + 1))
    ∙ ap (λ (b : Bool). (length n.changes == 2 * c.f + 1) && b) (sym (all_true n.changes))
    ∙ sym (so_many_pass (λ v. true) (replicas_for c.f) (2 * c.f + 1) n.changes h.well_formed.ascend (changes_listed c k n.changes (themselves c n.changes h.authentic)))

proofs_are : (c : Configuration) → IsConfiguration c → (n : NewView) → IsOpenedView c n → have_full_proofs c n ≡ have_proofs (setup_of c) n
proofs_are c k n h =
    let opened = each_opened c n.changes h.well_formed.changes h.authentic in
    ap (λ (b : Bool). b && (length n.changes == 2 * c.f + 1)) (same_tests c (has_full_proof c) (has_proof (setup_of c)) (proof_is c k) n.changes opened)
    ∙ ap (λ (b : Bool). list_all (has_proof (setup_of c)) (bodies_in n.changes) && b) (many_are c k n h)

pub opening_fault_is : (c : Configuration) → IsConfiguration c → (n : NewView) → IsOpenedView c n → opening_fault c n ≡ new_view_fault (setup_of c) n
opening_fault_is c k n h =
    let opened = each_opened c n.changes h.well_formed.changes h.authentic in
    ap (λ (b : Bool). first_fault b (have_full_proofs c n) (each_change (has_full_certificates c) n.changes) (have_given_order c n)) (over_bodies (is_for_view n) n.changes)
    ∙ ap (λ (b : Bool). first_fault (are_for_view n) b (each_change (has_full_certificates c) n.changes) (have_given_order c n)) (proofs_are c k n h)
    ∙ ap (λ (b : Bool). first_fault (are_for_view n) (have_proofs (setup_of c) n) b (have_given_order c n)) (same_tests c (has_full_certificates c) (has_certificates (setup_of c)) (has_certificates_is c k) n.changes opened)
    ∙ ap (λ (b : Bool). first_fault (are_for_view n) (have_proofs (setup_of c) n) (have_certificates (setup_of c) n) (b && are_given (primary c n.view.0) (given (setup_of c) n.view.0 n.changes) n.pre_prepares)) (over_bodies (has_order (setup_of c)) n.changes)

-- ---- of a checked message

opened_body : (c : Configuration) (b : Body) (v : ViewChange) → b ≡ bodies.ViewChange v → BodyWellFormed b → AllByRecursion (IsAuthentic c) (nested_in b) → IsOpened c v
opened_body c b v is w a =
    record { well_formed = subst BodyWellFormed is w; authentic = subst (λ (x : Body). AllByRecursion (IsAuthentic c) (nested_in x)) is a }

pub change_answer : (c : Configuration) (m : CheckedMessage) (found v : ViewChange) → IsConfiguration c → m.config ≡ c → IsChecked m → m.message.body ≡ bodies.ViewChange v → m.message.body ≡ bodies.ViewChange found
    → answer (change_fault c found) ≡ answer (view_change_fault (setup_of c) v)
change_answer c m found v k under checked is at =
    let same : found ≡ v = cc in
    let opened = opened_body m.config m.message.body v is checked.encodes.well_formed.well_formed checked.authentic.1 in
    ap (λ (w : ViewChange). answer (change_fault c w)) same
    ∙ ap answer (change_fault_is c k v (subst (λ (d : Configuration). IsOpened d v) under opened))

opened_view_body : (c : Configuration) (b : Body) (n : NewView) → b ≡ bodies.NewView n → BodyWellFormed b → AllByRecursion (IsAuthentic c) (nested_in b) → IsOpenedView c n
opened_view_body c b n is w a =
    let inside = subst (λ (x : Body). AllByRecursion (IsAuthentic c) (nested_in x)) is a in
    record { well_formed = subst BodyWellFormed is w; authentic = (all_split (IsAuthentic c) (flat_map with_nested n.changes) (map (as_message bodies.PrePrepare) n.pre_prepares) inside).0 }

pub entry_answer : (c : Configuration) (m : CheckedMessage) (found n : NewView) → IsConfiguration c → m.config ≡ c → IsChecked m → m.message.body ≡ bodies.NewView n → m.message.body ≡ bodies.NewView found
    → answer (opening_fault c found) ≡ answer (new_view_fault (setup_of c) n)
entry_answer c m found n k under checked is at =
    let same : found ≡ n = cc in
    let opened = opened_view_body m.config m.message.body n is checked.encodes.well_formed.well_formed checked.authentic.1 in
    ap (λ (w : NewView). answer (opening_fault c w)) same
    ∙ ap answer (opening_fault_is c k n (subst (λ (d : Configuration). IsOpenedView d n) under opened))
