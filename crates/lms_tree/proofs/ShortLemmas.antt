-- A valid signature is short, whatever the key.
use Rattle.std.proofs.Common.{◌≡◌, ℕ, ◌+◌, ◌≤◌, Bool, true, false, cond, List, length, Option, Some, None, nat_eq, nat_lt, refl, arith}
use Rattle.std.proofs.lemmas.Bool.{eqb-true}
use Rattle.lms_level.specs.declared.height.Height.{Height}
use Rattle.lms_level.specs.declared.fault.SigFault.{SigFault}
use Rattle.lms_level.specs.Signature.{fault_under, key_height, word_at}
use Rattle.host_types.specs.declared.key.PublicKey.{PublicKey}
use Rattle.host_types.specs.declared.key.PublicKey.TheVariants.{Lms, Hss}
use Rattle.lms_tree.specs.Signature.{fault_above, fault_below, hss_fault, lms_length, signature_fault, signed_key_in, top_key_in}
use Rattle.lms_tree.proofs.KeyLemmas.{short-signature}

passed : (t : Bool) (f : Option SigFault) (fault : SigFault) → cond t f (Some fault) ≡ None → (t ≡ true) × (f ≡ None)
passed true f fault e = (refl, e)
passed false f fault e = absurd cc

not_held : (t : Bool) (f : Option SigFault) (fault : SigFault) → cond t (Some fault) f ≡ None → f ≡ None
not_held true f fault e = absurd cc
not_held false f fault e = e

short_lms : (found : Option Height) (key message sig : List ℕ) → fault_under found key message sig ≡ None → length sig ≤ 5076
short_lms None key message sig e = absurd cc
short_lms (Some height) key message sig e =
    let long : length sig ≡ lms_length height = eqb-true _ _ (passed _ _ _ e).0 in
    omega (arith, long, short-signature height None)

short_above : (found : Option Height) (top : Height) (key message sig : List ℕ) → fault_above found top key message sig ≡ None → length sig ≤ 5076
short_above None top key message sig e = absurd cc
short_above (Some bottom) top key message sig e =
    let long : length sig ≡ 60 + lms_length top + lms_length bottom = eqb-true _ _ (passed _ _ _ e).0 in
    omega (arith, long, short-signature top (Some bottom))

short_below : (found : Option Height) (key message sig : List ℕ) → fault_below found key message sig ≡ None → length sig ≤ 5076
short_below None key message sig e = absurd cc
short_below (Some top) key message sig e =
    short_above (key_height (signed_key_in top sig)) top key message sig
    (passed (nat_eq (word_at sig 0) 1) _ _ (not_held (nat_lt (length sig) (60 + lms_length top)) _ _ e)).1

pub valid-short : (key : PublicKey) (message sig : List ℕ) → signature_fault key message sig ≡ None → length sig ≤ 5076
valid-short (Lms key) message sig e = short_lms (key_height key) key message sig e
valid-short (Hss key) message sig e = short_below (key_height (top_key_in key)) key message sig (passed (nat_eq (word_at key 0) 2) _ _ e).1
