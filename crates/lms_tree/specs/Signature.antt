-- Statement: what is wrong with a signature under a key of either kind (RFC 8554, sections 5.4.2 and 6.3).
use Rattle.std.specs.Prelude.{ℕ, ◌+◌, ◌*◌, nat_lt, ◌==◌, List, length, take, drop, Option, Some, None, if◌then◌else◌}
use Rattle.lms_level.specs.Signature.{key_height, levels_of, word_at, signature_fault as lms_fault}
use Rattle.lms_level.specs.declared.height.Height.{Height}
use Rattle.lms_level.specs.declared.fault.SigFault.{SigFault}
use Rattle.lms_level.specs.declared.fault.SigFault.TheVariants.{Length, WrongType}
use Rattle.host_types.specs.declared.key.PublicKey.{PublicKey}
use Rattle.host_types.specs.declared.key.PublicKey.TheVariants.{Lms, Hss}

-- the bytes of a signature by one tree (5.4): 2,348 at height 5, 2,508 at height 10
abbrev pub lms_length : Height → ℕ
lms_length height = 2188 + 32 * levels_of height

-- pub[0] in a key of two levels (6.1)
abbrev pub top_key_in : List ℕ → List ℕ
top_key_in key = drop 4 key

-- sig[0] in a signature, pub[1] and sig[1], where the top tree has this height (6.2)
abbrev pub key_signature_in : Height → List ℕ → List ℕ
key_signature_in top sig = take (lms_length top) (drop 4 sig)

abbrev pub signed_key_in : Height → List ℕ → List ℕ
signed_key_in top sig = take 56 (drop (4 + lms_length top) sig)

abbrev pub last_signature_in : Height → List ℕ → List ℕ
last_signature_in top sig = drop (60 + lms_length top) sig

-- the first fault, or else what comes after
abbrev pub or_then : Option SigFault → Option SigFault → Option SigFault
or_then (Some fault) later = Some fault
or_then None later = later

-- once lengths and the kinds of trees are right: each tree's signature by itself, the top tree's first
abbrev pub fault_of_parts : Height → List ℕ → List ℕ → List ℕ → Option SigFault
fault_of_parts top key message sig = or_then
    (lms_fault (top_key_in key) (signed_key_in top sig) (key_signature_in top sig))
    (lms_fault (signed_key_in top sig) message (last_signature_in top sig))

-- with a bottom tree of this height, if pub[1] names one: the types first, then the whole length
abbrev pub fault_above : Option Height → Height → List ℕ → List ℕ → List ℕ → Option SigFault
fault_above None top key message sig = Some WrongType
fault_above (Some bottom) top key message sig =
    if length sig == 60 + lms_length top + lms_length bottom then fault_of_parts top key message sig else Some Length

-- with a top tree of this height, if the key names one: room for pub[1] first, then Nspk, which is 1
abbrev pub fault_below : Option Height → List ℕ → List ℕ → List ℕ → Option SigFault
fault_below None key message sig = Some WrongType
fault_below (Some top) key message sig =
    if nat_lt (length sig) (60 + lms_length top) then Some Length
    else if word_at sig 0 == 1 then fault_above (key_height (signed_key_in top sig)) top key message sig
    else Some WrongType

-- what is wrong with a signature under a key of two levels, the first of the faults (6.3); L is asked first
abbrev pub hss_fault : List ℕ → List ℕ → List ℕ → Option SigFault
hss_fault key message sig =
    if word_at key 0 == 2 then fault_below (key_height (top_key_in key)) key message sig else Some WrongType

-- what is wrong with a signature of a message under a key: nothing where it is valid
abbrev pub signature_fault : PublicKey → List ℕ → List ℕ → Option SigFault
signature_fault (Lms key) message sig = lms_fault key message sig
signature_fault (Hss key) message sig = hss_fault key message sig
