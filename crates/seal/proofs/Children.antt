-- The messages that an authentic message of the grammar holds are such messages themselves.
use Rattle.std.proofs.Common.{◌≡◌, ℕ, ◌+◌, ◌<◌, ◌≤◌, List, [], ◌∷◌, ◌++◌, length, get_or, refl, sym, ap, subst, arith, length-append}
use Rattle.std.specs.Prelude.{map}
use Rattle.std.specs.Int.{w32, to_be_bytes}
use Rattle.std.specs.List.{AllByRecursion, flat_map}
use Rattle.std.proofs.lemmas.List.Elements.{All-from_recursion, All-get_or}
use Rattle.host_types.specs.Configuration.{Configuration}
use Rattle.pbft_codec.specs.declared.body.Body.{Body}
use Rattle.pbft_codec.specs.declared.body.Body.TheVariants as bodies
use Rattle.pbft_codec.specs.declared.body.certificate.Certificate.{Certificate}
use Rattle.pbft_codec.specs.declared.body.new_view.NewView.{NewView}
use Rattle.pbft_codec.specs.declared.body.view_change.ViewChange.{ViewChange}
use Rattle.pbft_codec.specs.declared.kind.Kind.TheVariants as kinds
use Rattle.pbft_codec.specs.declared.signed.Signed.{Signed}
use Rattle.pbft_codec.specs.Limits.{CertificateWellFormed, ViewChangeWellFormed, NewViewWellFormed, IsSequenceNumber}
use Rattle.pbft_codec.specs.Bodies.{BodyWellFormed}
use Rattle.pbft_codec.specs.Layouts.{of_kind, number, view, encoded_list, signed, signed_pre_prepare, signed_prepare, signed_checkpoint, signed_view_change, pre_prepare, prepare, checkpoint, certificate, view_change, new_view}
use Rattle.pbft_codec.specs.Encoding.{max_bytes, body, encoding}
pub use Rattle.seal.specs.Opening.{CanNest}
use Rattle.seal.specs.Opening.{CheckedMessage, IsChecked}
use Rattle.seal.specs.Parts.{as_message, in_certificate, in_view_change, with_nested, children_of, checkpoints_of, pre_prepares_of, nested_in, messages_in}
use Rattle.seal.specs.Signers.{IsAuthentic}
use Rattle.pbft_codec.proofs.Widths.{length_signed}
use Rattle.seal.proofs.Authenticity.{all_split, all_join}

-- a kind of body that others hold
record IsLeaf {B : Type 0} (kind : B → Body) (WellFormed : B → Type 0) (fields : B → List ℕ) : Type 0 where
  well_formed : (b : B) → WellFormed b → BodyWellFormed (kind b)
  text : (b : B) → body (kind b) ≡ fields b
  none : (b : B) → nested_in (kind b) ≡ []

leaf_pre_prepare : IsLeaf bodies.PrePrepare (λ p. IsSequenceNumber p.number) (of_kind kinds.PrePrepare pre_prepare)
unfolding body
leaf_pre_prepare = record { well_formed = λ _ h. h; text = λ _. refl; none = λ _. refl }

leaf_prepare : IsLeaf bodies.Prepare (λ p. IsSequenceNumber p.number) (of_kind kinds.Prepare prepare)
unfolding body
leaf_prepare = record { well_formed = λ _ h. h; text = λ _. refl; none = λ _. refl }

leaf_checkpoint : IsLeaf bodies.Checkpoint (λ p. IsSequenceNumber p.number) (of_kind kinds.Checkpoint checkpoint)
unfolding body
leaf_checkpoint = record { well_formed = λ _ h. h; text = λ _. refl; none = λ _. refl }

length_same : {B : Type 0} (kind : B → Body) (fields : B → List ℕ) (m : Signed B) → body (kind m.body) ≡ fields m.body → length (encoding (as_message kind m)) ≡ length (signed fields m)
length_same kind fields m e = omega (arith, length_signed body (as_message kind m), length_signed fields m, ap length e)

one : {B : Type 0} (c : Configuration) (kind : B → Body) (WellFormed : B → Type 0) (fields : B → List ℕ) (m : Signed B) → IsLeaf kind WellFormed fields → WellFormed m.body → length (signed fields m) ≤ max_bytes → IsAuthentic c (as_message kind m) → CanNest c (as_message kind m)
one c kind WellFormed fields m leaf well_formed le authentic = record {
  well_formed = leaf.well_formed m.body well_formed;
  within = omega (arith, length_same kind fields m (leaf.text m.body));
  authentic = (authentic, rw (leaf.none m.body) tt);
}

many : {B : Type 0} (c : Configuration) (kind : B → Body) (WellFormed : B → Type 0) (fields : B → List ℕ) (ms : List (Signed B)) → IsLeaf kind WellFormed fields → AllByRecursion (λ m. WellFormed m.body) ms → length (flat_map (signed fields) ms) ≤ max_bytes → AllByRecursion (IsAuthentic c) (map (as_message kind) ms) → AllByRecursion (CanNest c) (map (as_message kind) ms)
many c kind WellFormed fields [] leaf well_formed le authentic = tt
many c kind WellFormed fields (m ∷ ms) leaf well_formed le authentic =
    let parts : length (flat_map (signed fields) (m ∷ ms)) ≡ length (signed fields m) + length (flat_map (signed fields) ms) = length-append (signed fields m) (flat_map (signed fields) ms) in
    (one c kind WellFormed fields m leaf well_formed.0 (omega arith) authentic.0, many c kind WellFormed fields ms leaf well_formed.1 (omega arith) authentic.1)

list_le : {A : Type 0} (encoded : A → List ℕ) (xs : List A) → length (flat_map encoded xs) ≤ length (encoded_list encoded xs)
unfolding encoded_list
list_le encoded xs = omega (arith, length-append (to_be_bytes w32 (length xs)) (flat_map encoded xs))

-- ---- certificates

in_one : (c : Configuration) (proof : Certificate) → CertificateWellFormed proof → length (certificate proof) ≤ max_bytes → AllByRecursion (IsAuthentic c) (in_certificate proof) → AllByRecursion (CanNest c) (in_certificate proof)
unfolding certificate
in_one c proof well_formed le authentic =
    let long = length-append (signed_pre_prepare proof.pre_prepare) (encoded_list signed_prepare proof.prepares) in
    let inside = list_le signed_prepare proof.prepares in (
      one c bodies.PrePrepare (λ p. IsSequenceNumber p.number) (of_kind kinds.PrePrepare pre_prepare) proof.pre_prepare leaf_pre_prepare well_formed.number (omega arith) authentic.0,
      many c bodies.Prepare (λ p. IsSequenceNumber p.number) (of_kind kinds.Prepare prepare) proof.prepares leaf_prepare well_formed.numbers (omega arith) authentic.1,
    )

in_all : (c : Configuration) (proofs : List Certificate) → AllByRecursion CertificateWellFormed proofs → length (flat_map certificate proofs) ≤ max_bytes → AllByRecursion (IsAuthentic c) (flat_map in_certificate proofs) → AllByRecursion (CanNest c) (flat_map in_certificate proofs)
in_all c [] well_formed le authentic = tt
in_all c (p ∷ ps) well_formed le authentic =
    let parts : length (flat_map certificate (p ∷ ps)) ≡ length (certificate p) + length (flat_map certificate ps) = length-append (certificate p) (flat_map certificate ps) in
    let pair = all_split (IsAuthentic c) (in_certificate p) (flat_map in_certificate ps) authentic in
    all_join (CanNest c) (in_certificate p) (flat_map in_certificate ps) (in_one c p well_formed.0 (omega arith) pair.0) (in_all c ps well_formed.1 (omega arith) pair.1)

-- ---- ViewChanges and NewViews

in_change : (c : Configuration) (v : ViewChange) → ViewChangeWellFormed v → length (view_change v) ≤ max_bytes → AllByRecursion (IsAuthentic c) (in_view_change v) → AllByRecursion (CanNest c) (in_view_change v)
unfolding view_change
in_change c v well_formed le authentic =
    let front : List ℕ = view v.view ++ number v.low in
    let one_part : List ℕ = encoded_list signed_checkpoint v.checkpoints in
    let long = length-append (front ++ one_part) (encoded_list certificate v.certificates) in
    let long_front = length-append front one_part in
    let checkpoints_le = list_le signed_checkpoint v.checkpoints in
    let certificates_le = list_le certificate v.certificates in
    let pair = all_split (IsAuthentic c) (map (as_message bodies.Checkpoint) v.checkpoints) (flat_map in_certificate v.certificates) authentic in
    all_join (CanNest c) (map (as_message bodies.Checkpoint) v.checkpoints) (flat_map in_certificate v.certificates)
    (many c bodies.Checkpoint (λ p. IsSequenceNumber p.number) (of_kind kinds.Checkpoint checkpoint) v.checkpoints leaf_checkpoint well_formed.numbers (omega arith) pair.0)
    (in_all c v.certificates well_formed.certificates (omega arith) pair.1)

text_view_change : (v : ViewChange) → body (bodies.ViewChange v) ≡ of_kind kinds.ViewChange view_change v
unfolding body
text_view_change v = refl

changes : (c : Configuration) (ms : List (Signed ViewChange)) → AllByRecursion (λ m. ViewChangeWellFormed m.body) ms → length (flat_map signed_view_change ms) ≤ max_bytes → AllByRecursion (IsAuthentic c) (flat_map with_nested ms) → AllByRecursion (CanNest c) (map (as_message bodies.ViewChange) ms)
changes c [] well_formed le authentic = tt
changes c (m ∷ ms) well_formed le authentic =
    let parts : length (flat_map signed_view_change (m ∷ ms)) ≡ length (signed_view_change m) + length (flat_map signed_view_change ms) = length-append (signed_view_change m) (flat_map signed_view_change ms) in
    let pair = all_split (IsAuthentic c) (with_nested m) (flat_map with_nested ms) authentic in
    let same = length_same bodies.ViewChange (of_kind kinds.ViewChange view_change) m (text_view_change m.body) in
    (record { well_formed = well_formed.0; within = omega arith; authentic = pair.0 }, changes c ms well_formed.1 (omega arith) pair.1)

in_entry : (c : Configuration) (n : NewView) → NewViewWellFormed n → length (new_view n) ≤ max_bytes → AllByRecursion (IsAuthentic c) (nested_in (bodies.NewView n)) → AllByRecursion (CanNest c) (children_of (bodies.NewView n))
unfolding new_view
in_entry c n well_formed le authentic =
    let one_part : List ℕ = encoded_list signed_view_change n.changes in
    let long = length-append (view n.view ++ one_part) (encoded_list signed_pre_prepare n.pre_prepares) in
    let long_front = length-append (view n.view) one_part in
    let changes_le = list_le signed_view_change n.changes in
    let pre_prepares_le = list_le signed_pre_prepare n.pre_prepares in
    let pair = all_split (IsAuthentic c) (flat_map with_nested n.changes) (map (as_message bodies.PrePrepare) n.pre_prepares) authentic in
    all_join (CanNest c) (map (as_message bodies.ViewChange) n.changes) (map (as_message bodies.PrePrepare) n.pre_prepares)
    (changes c n.changes well_formed.changes (omega arith) pair.0)
    (many c bodies.PrePrepare (λ p. IsSequenceNumber p.number) (of_kind kinds.PrePrepare pre_prepare) n.pre_prepares leaf_pre_prepare well_formed.numbers (omega arith) pair.1)

-- the bytes behind the kind are fewer than the body's
body_le_view_change : (v : ViewChange) → length (view_change v) ≤ length (body (bodies.ViewChange v))
unfolding body
body_le_view_change v = omega arith

body_le_new_view : (n : NewView) → length (new_view n) ≤ length (body (bodies.NewView n))
unfolding body
body_le_new_view n = omega arith

in_body : (c : Configuration) (b : Body) → BodyWellFormed b → length (body b) ≤ max_bytes → AllByRecursion (IsAuthentic c) (nested_in b) → AllByRecursion (CanNest c) (children_of b)
in_body c (bodies.ViewChange v) well_formed le authentic = in_change c v well_formed (omega (arith, body_le_view_change v)) authentic
in_body c (bodies.NewView n) well_formed le authentic = in_entry c n well_formed (omega (arith, body_le_new_view n)) authentic
in_body c _ well_formed le authentic = tt

pub children_stand : (c : Configuration) (m : Signed Body) → BodyWellFormed m.body → length (encoding m) ≤ max_bytes → AllByRecursion (IsAuthentic c) (messages_in m) → AllByRecursion (CanNest c) (children_of m.body)
children_stand c m well_formed le authentic = in_body c m.body well_formed (omega (arith, length_signed body m)) authentic.1

-- a message among those that a checked one holds
pub child_stands : (c : CheckedMessage) (items : List (Signed Body)) (i : ℕ) (m : Signed Body) → IsChecked c → items ≡ children_of c.message.body → i < length items → m ≡ get_or items i m → CanNest c.config m
child_stands c items i m checked is lt at =
    let P : Signed Body → Type 0 = CanNest c.config in
    let all : AllByRecursion P (children_of c.message.body) = children_stand c.config c.message checked.encodes.well_formed.well_formed checked.encodes.within checked.authentic in
    let here = subst (λ (xs : List (Signed Body)). AllByRecursion P xs) (sym is) all in
    subst P (sym at) (All-get_or P items i m lt (All-from_recursion P items here))

-- ---- some of the messages that a checked one holds

front : (c : Configuration) (v : ViewChange) → AllByRecursion (CanNest c) (in_view_change v) → AllByRecursion (CanNest c) (map (as_message bodies.Checkpoint) v.checkpoints)
front c v h = (all_split (CanNest c) (map (as_message bodies.Checkpoint) v.checkpoints) (flat_map in_certificate v.certificates) h).0

fronts : (c : Configuration) (ms : List (Signed ViewChange)) → AllByRecursion (CanNest c) (map (as_message bodies.ViewChange) ms) → AllByRecursion (CanNest c) (flat_map (λ m. map (as_message bodies.Checkpoint) m.body.checkpoints) ms)
fronts c [] h = tt
fronts c (m ∷ ms) h =
    all_join (CanNest c) (map (as_message bodies.Checkpoint) m.body.checkpoints) (flat_map (λ m. map (as_message bodies.Checkpoint) m.body.checkpoints) ms)
    (front c m.body (children_stand c (as_message bodies.ViewChange m) h.0.well_formed h.0.within h.0.authentic)) (fronts c ms h.1)

checkpoints_stand : (c : Configuration) (b : Body) → AllByRecursion (CanNest c) (children_of b) → AllByRecursion (CanNest c) (checkpoints_of b)
checkpoints_stand c (bodies.ViewChange v) h = front c v h
checkpoints_stand c (bodies.NewView n) h = fronts c n.changes (all_split (CanNest c) (map (as_message bodies.ViewChange) n.changes) (map (as_message bodies.PrePrepare) n.pre_prepares) h).0
checkpoints_stand c _ h = tt

pre_prepares_stand : (c : Configuration) (b : Body) → AllByRecursion (CanNest c) (children_of b) → AllByRecursion (CanNest c) (pre_prepares_of b)
pre_prepares_stand c (bodies.NewView n) h = (all_split (CanNest c) (map (as_message bodies.ViewChange) n.changes) (map (as_message bodies.PrePrepare) n.pre_prepares) h).1
pre_prepares_stand c _ h = tt

checked_children : (c : CheckedMessage) → IsChecked c → AllByRecursion (CanNest c.config) (children_of c.message.body)
checked_children c h = children_stand c.config c.message h.encodes.well_formed.well_formed h.encodes.within h.authentic

pub checked_checkpoints : (c : CheckedMessage) → IsChecked c → AllByRecursion (CanNest c.config) (checkpoints_of c.message.body)
checked_checkpoints c h = checkpoints_stand c.config c.message.body (checked_children c h)

pub checked_pre_prepares : (c : CheckedMessage) → IsChecked c → AllByRecursion (CanNest c.config) (pre_prepares_of c.message.body)
checked_pre_prepares c h = pre_prepares_stand c.config c.message.body (checked_children c h)

-- one of several
pub one_stands : (c : Configuration) (items : List (Signed Body)) (i : ℕ) (m : Signed Body) → AllByRecursion (CanNest c) items → i < length items → m ≡ get_or items i m → CanNest c m
one_stands c items i m all lt at =
    let P : Signed Body → Type 0 = CanNest c in
    subst P (sym at) (All-get_or P items i m lt (All-from_recursion P items all))
