-- Statement: which leaf of its signer's key signed a message (RFC 8554, sections 5.4 and 6.2).
use Rattle.std.specs.Prelude.{ℕ, ◌==◌, List, length, Option, Some, None, if◌then◌else◌}
use Rattle.host_types.specs.declared.Digest.{Digest}
use Rattle.host_types.specs.declared.key.PublicKey.{PublicKey}
use Rattle.host_types.specs.declared.key.PublicKey.TheVariants.{Lms, Hss}
use Rattle.lms_level.specs.Signature.{key_height}
use Rattle.lms_level.specs.declared.height.Height.{Height}
use Rattle.seal.specs.Keys.{length_by, number_by}
use Rattle.seal.specs.Opening.{CheckedMessage}
use Rattle.seal.specs.Signature.{signed_key_in, top_key_in}
use Rattle.seal.specs.Signers.{key_of}
use Rattle.conflicts.specs.Views.{digest_of}
use Rattle.conflicts.specs.declared.claim.Claim.{Claim}
use Rattle.conflicts.specs.declared.claim.Topic.TheVariants as topics

-- the number of a signature that trees of these heights made
abbrev pub leaf_by : Height → Option Height → List ℕ → Option ℕ
leaf_by top bottom sig = if length sig == length_by top bottom then Some (number_by top bottom sig) else None

-- with a bottom tree, if the key that the signature carries names one
abbrev pub leaf_above : Height → Option Height → List ℕ → Option ℕ
leaf_above top None sig = None
leaf_above top (Some bottom) sig = leaf_by top (Some bottom) sig

abbrev pub leaf_of_tree : Option Height → List ℕ → Option ℕ
leaf_of_tree None sig = None
leaf_of_tree (Some height) sig = leaf_by height None sig

abbrev pub leaf_of_levels : Option Height → List ℕ → Option ℕ
leaf_of_levels None sig = None
leaf_of_levels (Some top) sig = leaf_above top (key_height (signed_key_in top sig)) sig

-- The leaf that a signature under this key names, by the heights of the trees in the key and in the signature.
abbrev pub leaf_named : PublicKey → List ℕ → Option ℕ
leaf_named (Lms key) sig = leaf_of_tree (key_height key) sig
leaf_named (Hss key) sig = leaf_of_levels (key_height (top_key_in key)) sig

abbrev pub leaf_under : Option PublicKey → List ℕ → Option ℕ
leaf_under None sig = None
leaf_under (Some key) sig = leaf_named key sig

abbrev pub claim_of_leaf : ℕ → Digest → Option ℕ → Option Claim
claim_of_leaf id digest None = None
claim_of_leaf id digest (Some leaf) = Some (record { signer = id; topic = topics.Leaf leaf; digest = digest })

-- What a message claims of the leaf that its signature names: that it signs this.
abbrev pub leaf_claim_of : CheckedMessage → Option Claim
leaf_claim_of c = claim_of_leaf c.message.id (digest_of c.message) (leaf_under (key_of c.config c.message.role c.message.id) c.message.sig)
