-- Internal: what the verification of a key's and a signature's parts finds.
use Rattle.std.specs.Prelude.{◌≡◌, ℕ, ◌+◌, ◌≤◌, List, [], length, Some}
use Rattle.lms_level.specs.Signature.{key_height, word_at, signature_fault as lms_fault}
use Rattle.lms_level.specs.Verifying.{Holds}
use Rattle.lms_level.specs.declared.validity.Verifier.{Verifier as LmsVerifier}
use Rattle.host_types.specs.declared.key.PublicKey.{PublicKey}
use Rattle.lms_tree.specs.declared.parts.Parts.{Parts}
use Rattle.lms_tree.specs.Signature.{hss_fault, key_signature_in, last_signature_in, lms_length, or_then, signature_fault, signed_key_in, top_key_in}

-- this body was fed to one tree's verification so far
abbrev pub IsFedTo : LmsVerifier → List ℕ → Type 0
IsFedTo v body = Holds v.hasher v.key.now v.sig.now body

-- what is wrong with the signature is what is wrong with the last tree's, whatever the body
abbrev pub IsLast : LmsVerifier → PublicKey → List ℕ → Type 0
IsLast v key sig = (body : List ℕ) → signature_fault key body sig ≡ lms_fault v.key.now body v.sig.now

-- the same under a key of two levels, before the first byte of the body
pub record IsLastOf (v : LmsVerifier) (key sig : List ℕ) : Type 0 where
  pub last : (body : List ℕ) → hss_fault key body sig ≡ lms_fault v.key.now body v.sig.now
  pub begun : IsFedTo v []

-- the parts lie where they are to, behind L and Nspk that are right
pub record AreCut (p : Parts) (key sig : List ℕ) : Type 0 where
  pub levels : word_at key 0 ≡ 2
  pub top_key : p.top_key.now ≡ top_key_in key
  pub top : key_height (top_key_in key) ≡ Some p.top
  pub long : 60 + lms_length p.top ≤ length sig
  pub count : word_at sig 0 ≡ 1
  pub key_signature : p.key_signature.now ≡ key_signature_in p.top sig
  pub signed_key : p.signed_key.now ≡ signed_key_in p.top sig
  pub last_signature : p.last_signature.now ≡ last_signature_in p.top sig

-- what is wrong with the signature is what is wrong with its parts
abbrev pub AreParts : Parts → List ℕ → List ℕ → Type 0
AreParts p key sig = (body : List ℕ) → hss_fault key body sig ≡ or_then
    (lms_fault p.top_key.now p.signed_key.now p.key_signature.now)
    (lms_fault p.signed_key.now body p.last_signature.now)
