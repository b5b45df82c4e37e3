-- Statement: what is said of keys of either kind.
use Rattle.std.specs.Prelude.{◌≡◌, ℕ, ◌+◌, ◌*◌, ◌^◌, List, Option, Some, None}
use Rattle.lms_level.specs.Signature.{levels_of, public_key_of, signature_at, word_at}
use Rattle.lms_level.specs.declared.height.Height.{Height}
use Rattle.host_types.specs.declared.key.PublicKey.{PublicKey}
use Rattle.host_types.specs.declared.key.PublicKey.TheVariants.{Lms, Hss}
use Rattle.lms_tree.specs.Levels.{hss_key_of, hss_signature_at}
use Rattle.lms_tree.specs.Signature.{lms_length, signature_fault}
use Rattle.lms_tree.specs.SigningState.{SigningState, total_of}

-- ---- by the heights of the trees

abbrev pub key_by : Height → Option Height → List ℕ → List ℕ → PublicKey
key_by height None id secret = Lms (public_key_of height id secret)
key_by top (Some bottom) id secret = Hss (hss_key_of top id secret)

-- signature number n of a message
abbrev pub signature_by : Height → Option Height → List ℕ → List ℕ → ℕ → List ℕ → List ℕ
signature_by height None id secret n message = signature_at height id secret n message
signature_by top (Some bottom) id secret n message = hss_signature_at top bottom id secret n message

abbrev pub length_by : Height → Option Height → ℕ
length_by height None = lms_length height
length_by top (Some bottom) = 60 + lms_length top + lms_length bottom

-- the number of a signature, by the leaves that it names
abbrev pub number_by : Height → Option Height → List ℕ → ℕ
number_by height None sig = word_at sig 0
number_by top (Some bottom) sig = word_at sig 4 * 2 ^ levels_of bottom + word_at sig (60 + lms_length top)

-- ---- by the signer

abbrev pub public_key_of_signer : SigningState → PublicKey
public_key_of_signer s = key_by s.height s.bottom s.id s.secret

-- The key is this signer's public key.
abbrev pub IsKeyOf : PublicKey → SigningState → Type 0
IsKeyOf key s = key ≡ public_key_of_signer s

-- What the signer's next leaf makes of a message.
abbrev pub signature_of : SigningState → List ℕ → List ℕ
signature_of s message = signature_by s.height s.bottom s.id s.secret s.next_leaf message

-- The number of a signature that this signer made.
abbrev pub signature_number : SigningState → List ℕ → ℕ
signature_number s sig = number_by s.height s.bottom sig

-- The signer after one more leaf.
abbrev pub after_signing : SigningState → SigningState
after_signing s = record s { next_leaf = s.next_leaf + 1 }

-- The signer of a seed that has used the leaves below this one.
abbrev pub signer_at : Height → Option Height → List ℕ → List ℕ → ℕ → SigningState
signer_at height bottom id secret leaf =
    record { height = height; bottom = bottom; id = id; secret = secret; next_leaf = leaf }

-- How many signatures a signer's key gives in all.
abbrev pub leaf_count : SigningState → ℕ
leaf_count s = total_of s.height s.bottom

-- The bytes of each of its signatures: 2,348 or 2,508 with one tree (RFC 8554, 5.4), 4,756 to 5,076 with two
-- levels (6.2).
abbrev pub signature_length : SigningState → ℕ
signature_length s = length_by s.height s.bottom

-- The signature is one of this message under this key.
abbrev pub IsValid : PublicKey → List ℕ → List ℕ → Type 0
IsValid key message sig = signature_fault key message sig ≡ None
