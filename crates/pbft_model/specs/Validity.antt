-- Statement: which ViewChanges and NewViews are valid, and what a quorum of ViewChanges gives (Castro and
-- Liskov, section 4.4).
use Rattle.std.specs.Prelude.{ℕ, ◌+◌, ◌-◌, ◌==◌, Bool, true, false, ◌&&◌, ◌||◌, not, nat_lt, nat_le, List, [], ◌∷◌, map, Option, Some, None, length, max, if◌then◌else◌}
use Rattle.std.specs.List.{list_all, list_any, flat_map}
use Rattle.pbft_model.specs.Words.{Signed, PrePrepare, Checkpoint, Certificate, ViewChange, NewView}
use Rattle.pbft_model.specs.Setup.{Setup, quorum, primary, span, null_digest, numbers_from}
use Rattle.pbft_model.specs.Certificates.{Fields, of_pre_prepare, same_fields, is_by, is_certificate, has_quorum, is_checkpoint_of}

-- The faults of a ViewChange and of a NewView, in the order in which they are looked for.
pub data ViewFault : Type 0 where
  View : ViewFault
  Proof : ViewFault
  Certificates : ViewFault
  Order : ViewFault

-- its view is above 0, and its certificates are of lower views
abbrev pub has_view : ViewChange → Bool
has_view v = nat_lt 0 v.view.0 && list_all (λ x. nat_lt x.pre_prepare.body.view.0 v.view.0) v.certificates

abbrev pub digest_in : List (Signed Checkpoint) → List ℕ
digest_in [] = []
digest_in (m ∷ ms) = m.body.digest.0

-- Checkpoints of a quorum at this number with one digest, and no others
abbrev pub is_proof : Setup → ℕ → List (Signed Checkpoint) → Bool
is_proof c number ms =
    length ms == quorum c.config
    && has_quorum c.config (λ i. list_any (is_by i (is_checkpoint_of number (digest_in ms))) ms)

-- its Checkpoints show that its low mark is stable; 0 needs none
abbrev pub has_proof : Setup → ViewChange → Bool
has_proof c v = is_proof c v.low.0 v.checkpoints || (v.low.0 == 0 && length v.checkpoints == 0)

abbrev pub has_certificates : Setup → ViewChange → Bool
has_certificates c v = list_all (is_certificate c.config) v.certificates

-- the numbers ascend, each at least `first`, up to `last`
abbrev pub ascend_within : ℕ → ℕ → List Certificate → Bool
ascend_within first last [] = true
ascend_within first last (x ∷ xs) =
    let number = x.pre_prepare.body.number.0 in
    nat_le first number && (nat_le number last && ascend_within (number + 1) last xs)

abbrev pub has_order : Setup → ViewChange → Bool
has_order c v = ascend_within (v.low.0 + 1) (v.low.0 + span c.config) v.certificates

-- the first test that fails
abbrev pub first_fault : Bool → Bool → Bool → Bool → Option ViewFault
first_fault view proof certificates order =
    if not view then Some View
    else (if not proof then Some Proof
    else (if not certificates then Some Certificates
    else (if not order then Some Order else None)))

abbrev pub view_change_fault : Setup → ViewChange → Option ViewFault
view_change_fault c v = first_fault (has_view v) (has_proof c v) (has_certificates c v) (has_order c v)

abbrev pub is_valid : Setup → ViewChange → Bool
is_valid c v = has_view v && (has_proof c v && (has_certificates c v && has_order c v))

-- ---- what ViewChanges give

abbrev pub greatest_of : List ℕ → ℕ
greatest_of [] = 0
greatest_of (n ∷ ns) = max n (greatest_of ns)

-- the greatest stable number
abbrev pub floor_of : List (Signed ViewChange) → ℕ
floor_of ms = greatest_of (map (λ m. m.body.low.0) ms)

abbrev pub certificates_in : List (Signed ViewChange) → List Certificate
certificates_in ms = flat_map (λ m. m.body.certificates) ms

-- the greatest number with a certificate, or the floor if none is above it
abbrev pub top_of : List (Signed ViewChange) → ℕ
top_of ms = max (floor_of ms) (greatest_of (map (λ x. x.pre_prepare.body.number.0) (certificates_in ms)))

-- the certificate at this number of the highest view, the first of those of one view
abbrev pub higher : ℕ → Certificate → Option Certificate → Option Certificate
higher number x None = if x.pre_prepare.body.number.0 == number then Some x else None
higher number x (Some y) =
    if x.pre_prepare.body.number.0 == number && nat_le y.pre_prepare.body.view.0 x.pre_prepare.body.view.0 then Some x else Some y

abbrev pub highest : ℕ → List Certificate → Option Certificate
highest number [] = None
highest number (x ∷ xs) = higher number x (highest number xs)

abbrev pub digest_or_null : Setup → Option Certificate → List ℕ
digest_or_null c None = null_digest c
digest_or_null c (Some x) = x.pre_prepare.body.digest.0

-- the digest that the ViewChanges give at a number
abbrev pub given_digest : Setup → List (Signed ViewChange) → ℕ → List ℕ
given_digest c ms number = digest_or_null c (highest number (certificates_in ms))

-- the numbers from above the floor up to the top
abbrev pub given_numbers : List (Signed ViewChange) → List ℕ
given_numbers ms = numbers_from (floor_of ms + 1) (top_of ms - floor_of ms)

-- What the ViewChanges give for a view: one proposal for each number above the floor up to the top.
abbrev pub given : Setup → ℕ → List (Signed ViewChange) → List Fields
given c view ms = map (λ number. record { view = view; number = number; digest = given_digest c ms number }) (given_numbers ms)

-- the PrePrepares are the primary's, and have these fields, one for one
abbrev pub are_given : ℕ → List Fields → List (Signed PrePrepare) → Bool
are_given leader [] [] = true
are_given leader [] (m ∷ ms) = false
are_given leader (x ∷ xs) [] = false
are_given leader (x ∷ xs) (m ∷ ms) = is_by leader (λ b. same_fields (of_pre_prepare b) x) m && are_given leader xs ms

-- ---- NewViews

abbrev pub bodies_in : {B : Type 0} → List (Signed B) → List B
bodies_in ms = map (λ m. m.body) ms

abbrev pub changed_by : List (Signed ViewChange) → ℕ → Bool
changed_by ms i = list_any (is_by i (λ v. true)) ms

abbrev pub are_for_view : NewView → Bool
are_for_view n = list_all (λ v. has_view v && v.view.0 == n.view.0) (bodies_in n.changes)

abbrev pub have_proofs : Setup → NewView → Bool
have_proofs c n =
    list_all (has_proof c) (bodies_in n.changes)
    && (length n.changes == quorum c.config && has_quorum c.config (changed_by n.changes))

abbrev pub have_certificates : Setup → NewView → Bool
have_certificates c n = list_all (has_certificates c) (bodies_in n.changes)

abbrev pub have_order : Setup → NewView → Bool
have_order c n =
    list_all (has_order c) (bodies_in n.changes)
    && are_given (primary c.config n.view.0) (given c n.view.0 n.changes) n.pre_prepares

abbrev pub new_view_fault : Setup → NewView → Option ViewFault
new_view_fault c n = first_fault (are_for_view n) (have_proofs c n) (have_certificates c n) (have_order c n)

abbrev pub is_valid_new_view : Setup → NewView → Bool
is_valid_new_view c n = are_for_view n && (have_proofs c n && (have_certificates c n && have_order c n))
