-- Statement: keys of two levels, which are HSS of RFC 8554, section 6, with L = 2, as functions on numbers and lists
-- of bytes. The top tree signs the keys of bottom trees, its leaf t that of bottom tree t; their leaves sign messages.
use Rattle.std.specs.Prelude.{ℕ, ◌/◌, ◌%◌, ◌^◌, List, ◌∷◌, ◌++◌, take}
use Rattle.lms_level.specs.Ots.{tagged_hash, u32str}
use Rattle.lms_level.specs.Signature.{levels_of, public_key_of, signature_at}
use Rattle.lms_level.specs.declared.height.Height.{Height}

-- I of bottom tree t. Section 6 leaves a bottom tree's I and SEED to the signer: here they come from the top tree's
-- as a chain's start does (appendix A), with 0xffff and 0xfffe for the chain's number
abbrev pub bottom_id : List ℕ → List ℕ → ℕ → List ℕ
bottom_id id secret t = take 16 (tagged_hash id t 0xffff (0xff ∷ secret))

-- SEED of bottom tree t
abbrev pub bottom_secret : List ℕ → List ℕ → ℕ → List ℕ
bottom_secret id secret t = tagged_hash id t 0xfffe (0xff ∷ secret)

-- pub[1]: the key of bottom tree t (6.1)
abbrev pub bottom_key : Height → List ℕ → List ℕ → ℕ → List ℕ
bottom_key bottom id secret t = public_key_of bottom (bottom_id id secret t) (bottom_secret id secret t)

-- u32str (L) || pub[0] (6.1)
abbrev pub hss_key_of : Height → List ℕ → List ℕ → List ℕ
hss_key_of top id secret = u32str 2 ++ public_key_of top id secret

-- u32str (Nspk) || sig[0] || pub[1]: bottom tree t's key, signed by leaf t of the top tree (6.2)
abbrev pub signed_key : Height → Height → List ℕ → List ℕ → ℕ → List ℕ
signed_key top bottom id secret t =
    let key = bottom_key bottom id secret t in
    u32str 1 ++ signature_at top id secret t key ++ key

-- sig[1]: the signature of a message by a leaf of bottom tree t (6.2)
abbrev pub bottom_signature : Height → List ℕ → List ℕ → ℕ → ℕ → List ℕ → List ℕ
bottom_signature bottom id secret t leaf message =
    signature_at bottom (bottom_id id secret t) (bottom_secret id secret t) leaf message

-- u32str (Nspk) || signed_pub_key[0] || sig[1]: signature number n, counted from 0, by the bottom trees' leaves in
-- their order (6.2)
abbrev pub hss_signature_at : Height → Height → List ℕ → List ℕ → ℕ → List ℕ → List ℕ
hss_signature_at top bottom id secret n message =
    let count = 2 ^ levels_of bottom in
    signed_key top bottom id secret (n / count)
    ++ bottom_signature bottom id secret (n / count) (n % count) message
