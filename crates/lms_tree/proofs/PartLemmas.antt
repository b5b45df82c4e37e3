-- The faults of a key and a signature of two levels, by their parts.
use Rattle.std.proofs.Common.{◌≡◌, ℕ, ◌+◌, ◌-◌, List, length, drop, take, Option, Some, None, ◌∙◌, ap, arith, sym}
use Rattle.std.proofs.lemmas.List.{length-drop, take_all}
use Rattle.lms_level.specs.declared.fault.SigFault.{SigFault}
use Rattle.lms_level.specs.declared.fault.SigFault.TheVariants.{Length, WrongType}
use Rattle.lms_level.specs.declared.height.Height.{Height}
use Rattle.lms_level.specs.Signature.{key_height}
use Rattle.lms_tree.specs.declared.parts.Parts.{Parts}
use Rattle.lms_tree.specs.Parts.{AreCut, AreParts}
use Rattle.lms_tree.specs.Signature.{hss_fault, last_signature_in, lms_length, or_then, top_key_in}
use Rattle.lms_tree.proofs.FaultLemmas.{above, of_parts, other_length}

-- pub[0] is the rest of the key
pub tail-key : (key own : List ℕ) → length key ≡ 60 → own ≡ take 56 (drop 4 key) → own ≡ top_key_in key
tail-key key own long is = is ∙ take_all 56 (drop 4 key) (omega (arith, long, length-drop 4 key))

length-last : (top : Height) (sig : List ℕ) → length (last_signature_in top sig) ≡ length sig - (60 + lms_length top)
length-last top sig = length-drop (60 + lms_length top) sig

pub unknown-bottom : (p : Parts) (key sig body : List ℕ) → AreCut p key sig → key_height p.signed_key.now ≡ None → hss_fault key body sig ≡ Some WrongType
unknown-bottom p key sig body cut unknown =
    above None p.top key body sig cut.levels cut.top cut.long cut.count (ap key_height (sym cut.signed_key) ∙ unknown)

pub other-length : (p : Parts) (key sig body : List ℕ) (bottom : Height) → AreCut p key sig → key_height p.signed_key.now ≡ Some bottom
    → (length p.last_signature.now ≡ lms_length bottom → ⊥) → hss_fault key body sig ≡ Some Length
other-length p key sig body bottom cut known other =
    other_length p.top bottom key body sig cut.levels cut.top cut.long cut.count (ap key_height (sym cut.signed_key) ∙ known)
    (λ whole. other (ap length cut.last_signature ∙ omega (arith, length-last p.top sig, whole, cut.long)))

pub whole-parts : (p : Parts) (key sig : List ℕ) (bottom : Height) → AreCut p key sig → key_height p.signed_key.now ≡ Some bottom
    → length p.last_signature.now ≡ lms_length bottom → AreParts p key sig
whole-parts p key sig bottom cut known long body =
    let rest : length (last_signature_in p.top sig) ≡ lms_length bottom = ap length (sym cut.last_signature) ∙ long in
    of_parts p.top bottom key body sig cut.levels cut.top (omega (arith, length-last p.top sig, rest, cut.long)) cut.count
    (ap key_height (sym cut.signed_key) ∙ known)
    ∙ sym (cc (cut.top_key, cut.key_signature, cut.signed_key, cut.last_signature))

pub fault_of_first : (first last : Option SigFault) (fault : SigFault) → first ≡ Some fault → or_then first last ≡ Some fault
fault_of_first first last fault is = ap (λ f. or_then f last) is

pub fault_of_last : (first last : Option SigFault) (fault : SigFault) → first ≡ None → last ≡ Some fault → or_then first last ≡ Some fault
fault_of_last first last fault none is = ap (λ f. or_then f last) none ∙ is
