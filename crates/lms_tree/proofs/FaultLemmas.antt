-- The faults of keys of two levels, one after the other.
use Rattle.std.proofs.Common.{◌≡◌, ℕ, ◌+◌, ◌<◌, ◌≤◌, List, length, Option, Some, nat_eq, nat_lt, ◌∙◌, ap, arith}
use Rattle.std.proofs.lemmas.Bool.{cond-false, cond-true, eq-eqb, ne_eqb, lt-ltb, le-ltb}
use Rattle.lms_level.specs.declared.fault.SigFault.TheVariants.{Length, WrongType}
use Rattle.lms_level.specs.declared.height.Height.{Height}
use Rattle.lms_level.specs.Signature.{key_height, word_at}
use Rattle.lms_tree.specs.Signature.{fault_above, fault_below, fault_of_parts, hss_fault, lms_length, signed_key_in, top_key_in}

pub other_levels : (key message sig : List ℕ) → (word_at key 0 ≡ 2 → ⊥) → hss_fault key message sig ≡ Some WrongType
other_levels key message sig other = cond-false (nat_eq (word_at key 0) 2) _ _ (ne_eqb _ _ other)

pub two_levels : (key message sig : List ℕ) → word_at key 0 ≡ 2 → hss_fault key message sig ≡ fault_below (key_height (top_key_in key)) key message sig
two_levels key message sig two = cond-true (nat_eq (word_at key 0) 2) _ _ (eq-eqb _ _ two)

-- the key's types are known or not
pub below : (found : Option Height) (key message sig : List ℕ) → word_at key 0 ≡ 2 → key_height (top_key_in key) ≡ found
    → hss_fault key message sig ≡ fault_below found key message sig
below found key message sig two is = two_levels key message sig two ∙ ap (λ h. fault_below h key message sig) is

pub too_short : (top : Height) (key message sig : List ℕ) → word_at key 0 ≡ 2 → key_height (top_key_in key) ≡ Some top
    → length sig < 60 + lms_length top → hss_fault key message sig ≡ Some Length
too_short top key message sig two is short =
    below (Some top) key message sig two is ∙ cond-true (nat_lt (length sig) (60 + lms_length top)) _ _ (lt-ltb _ _ short)

pub other_count : (top : Height) (key message sig : List ℕ) → word_at key 0 ≡ 2 → key_height (top_key_in key) ≡ Some top
    → 60 + lms_length top ≤ length sig → (word_at sig 0 ≡ 1 → ⊥) → hss_fault key message sig ≡ Some WrongType
other_count top key message sig two is long other =
    below (Some top) key message sig two is
    ∙ (cond-false (nat_lt (length sig) (60 + lms_length top)) _ _ (le-ltb _ _ long) ∙ cond-false (nat_eq (word_at sig 0) 1) _ _ (ne_eqb _ _ other))

-- the types of the bottom tree's key are known or not
pub above : (found : Option Height) (top : Height) (key message sig : List ℕ) → word_at key 0 ≡ 2 → key_height (top_key_in key) ≡ Some top
    → 60 + lms_length top ≤ length sig → word_at sig 0 ≡ 1 → key_height (signed_key_in top sig) ≡ found
    → hss_fault key message sig ≡ fault_above found top key message sig
above found top key message sig two is long one below_is =
    below (Some top) key message sig two is
    ∙ (cond-false (nat_lt (length sig) (60 + lms_length top)) _ _ (le-ltb _ _ long)
    ∙ (cond-true (nat_eq (word_at sig 0) 1) _ _ (eq-eqb _ _ one) ∙ ap (λ h. fault_above h top key message sig) below_is))

pub other_length : (top bottom : Height) (key message sig : List ℕ) → word_at key 0 ≡ 2 → key_height (top_key_in key) ≡ Some top
    → 60 + lms_length top ≤ length sig → word_at sig 0 ≡ 1 → key_height (signed_key_in top sig) ≡ Some bottom
    → (length sig ≡ 60 + lms_length top + lms_length bottom → ⊥) → hss_fault key message sig ≡ Some Length
other_length top bottom key message sig two is long one below_is other =
    above (Some bottom) top key message sig two is long one below_is
    ∙ cond-false (nat_eq (length sig) (60 + lms_length top + lms_length bottom)) _ _ (ne_eqb _ _ other)

pub of_parts : (top bottom : Height) (key message sig : List ℕ) → word_at key 0 ≡ 2 → key_height (top_key_in key) ≡ Some top
    → length sig ≡ 60 + lms_length top + lms_length bottom → word_at sig 0 ≡ 1 → key_height (signed_key_in top sig) ≡ Some bottom
    → hss_fault key message sig ≡ fault_of_parts top key message sig
of_parts top bottom key message sig two is whole one below_is =
    above (Some bottom) top key message sig two is (omega arith) one below_is
    ∙ cond-true (nat_eq (length sig) (60 + lms_length top + lms_length bottom)) _ _ (eq-eqb _ _ whole)
