-- The PrePrepares of a NewView against what its ViewChanges give, one number after another.
use Rattle.std.proofs.Common.{◌≡◌, ℕ, zero, suc, ◌+◌, ◌-◌, ◌<◌, ◌≤◌, ◌==◌, ◌&&◌, List, [], ◌∷◌, ◌++◌, append_assoc, append-nil, length, get_or, drop, refl, sym, ap, ◌∙◌, arith}
use Rattle.std.specs.Prelude.{map}
use Rattle.std.proofs.Math.ListN.{drop_of_length-le}
use Rattle.std.proofs.lemmas.Bool.{eq-eqb, ne_eqb}
use Rattle.quorum_log.specs.Words.{Signed, PrePrepare, ViewChange}
use Rattle.quorum_log.specs.Setup.{Setup, numbers_from}
use Rattle.quorum_log.specs.Certificates.{Fields, of_pre_prepare, same_fields, is_by}
use Rattle.quorum_log.specs.Rules.{pre_prepare_of}
use Rattle.quorum_log.specs.Validity.{are_given, given_digest}
use Rattle.view_change.specs.Proposals.{proposal_at, left_from}
use Rattle.view_change.proofs.Walking.{rest_at}

left_is : (c : Setup) (view : ℕ) (changes : List (Signed ViewChange)) (number top : ℕ) → number < top
    → left_from c view changes number top ≡ proposal_at c view changes (number + 1) ∷ left_from c view changes (number + 1) top
left_is c view changes number top lt =
    let more : top - number ≡ suc (top - (number + 1)) = omega arith in
    ap (λ (many : ℕ). map (proposal_at c view changes) (numbers_from (number + 1) many)) more

-- one more PrePrepare
pub one_more : (c : Setup) (leader view number top : ℕ) (changes : List (Signed ViewChange)) (ms : List (Signed PrePrepare)) (i : ℕ) (m : Signed PrePrepare) (digest : List ℕ)
    → i < length ms → m ≡ get_or ms i m → number < top → digest ≡ given_digest c changes (number + 1)
    → are_given leader (left_from c view changes number top) (drop i ms)
    ≡ (is_by leader (λ b. same_fields (of_pre_prepare b) (record { view = view; number = number + 1; digest = digest })) m
    && are_given leader (left_from c view changes (number + 1) top) (drop (i + 1) ms))
one_more c leader view number top changes ms i m digest lt is below digest_is =
    ap (λ (xs : List Fields). are_given leader xs (drop i ms)) (left_is c view changes number top below)
    ∙ ap (are_given leader (proposal_at c view changes (number + 1) ∷ left_from c view changes (number + 1) top)) (rest_at ms i m lt is)
    ∙ ap (λ (d : List ℕ). is_by leader (λ b. same_fields (of_pre_prepare b) (record { view = view; number = number + 1; digest = d })) m
    && are_given leader (left_from c view changes (number + 1) top) (drop (i + 1) ms)) (sym digest_is)

none_left : (c : Setup) (leader view number : ℕ) (changes : List (Signed ViewChange)) (many top : ℕ) → top ≡ many + number
    → (number == top) ≡ are_given leader (map (proposal_at c view changes) (numbers_from (number + 1) many)) []
none_left c leader view number changes zero top is = eq-eqb number top (omega arith)
none_left c leader view number changes (suc many) top is = ne_eqb number top (λ e. absurd (omega arith))

-- no PrePrepare is left
pub all_passed : (c : Setup) (leader view number top : ℕ) (changes : List (Signed ViewChange)) (ms : List (Signed PrePrepare)) (i : ℕ) → length ms ≤ i → number ≤ top
    → (number == top) ≡ are_given leader (left_from c view changes number top) (drop i ms)
all_passed c leader view number top changes ms i le up =
    none_left c leader view number changes (top - number) top (omega arith)
    ∙ ap (are_given leader (left_from c view changes number top)) (sym (drop_of_length-le ms le))

-- ---- the proposals, one after another

pub proposed : (c : Setup) (view number top : ℕ) (changes : List (Signed ViewChange)) (digest : List ℕ) (entries next whole : List PrePrepare) → number < top → digest ≡ given_digest c changes (number + 1)
    → next ≡ entries ++ record { view = record { 0 = view }; number = record { 0 = number + 1 }; digest = record { 0 = digest } } ∷ []
    → entries ++ map pre_prepare_of (left_from c view changes number top) ≡ whole → next ++ map pre_prepare_of (left_from c view changes (number + 1) top) ≡ whole
proposed c view number top changes digest entries next whole below digest_is next_is so_far =
    let rest = map pre_prepare_of (left_from c view changes (number + 1) top) in
    ap (λ (ps : List PrePrepare). ps ++ rest) next_is
    ∙ append_assoc entries (record { view = record { 0 = view }; number = record { 0 = number + 1 }; digest = record { 0 = digest } } ∷ []) rest
    ∙ ap (λ (d : List ℕ). entries ++ record { view = record { 0 = view }; number = record { 0 = number + 1 }; digest = record { 0 = d } } ∷ rest) digest_is
    ∙ ap (λ (xs : List Fields). entries ++ map pre_prepare_of xs) (sym (left_is c view changes number top below))
    ∙ so_far

pub all_proposed : (c : Setup) (view number top : ℕ) (changes : List (Signed ViewChange)) (entries whole : List PrePrepare) → top ≤ number
    → entries ++ map pre_prepare_of (left_from c view changes number top) ≡ whole → entries ≡ whole
all_proposed c view number top changes entries whole le so_far =
    let none : top - number ≡ 0 = omega arith in
    sym (ap (λ (many : ℕ). entries ++ map pre_prepare_of (map (proposal_at c view changes) (numbers_from (number + 1) many))) none ∙ append-nil entries) ∙ so_far

many_numbers : (first many : ℕ) → length (numbers_from first many) ≡ many
many_numbers first zero = refl
many_numbers first (suc many) = ap suc (many_numbers (first + 1) many)

mapped_length : {X Y : Type 0} (f : X → Y) (xs : List X) → length (map f xs) ≡ length xs
mapped_length f [] = refl
mapped_length f (x ∷ xs) = ap suc (mapped_length f xs)

pub many_left : (c : Setup) (view number top : ℕ) (changes : List (Signed ViewChange)) → length (map pre_prepare_of (left_from c view changes number top)) ≡ top - number
many_left c view number top changes =
    mapped_length pre_prepare_of (left_from c view changes number top)
    ∙ mapped_length (proposal_at c view changes) (numbers_from (number + 1) (top - number))
    ∙ many_numbers (number + 1) (top - number)
