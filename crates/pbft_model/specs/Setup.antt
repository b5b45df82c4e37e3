-- Statement: who takes part, and the numbers that follow from it (Castro and Liskov, section 3).
use Rattle.std.proofs.Common.{zero, suc}
use Rattle.std.specs.Prelude.{ℕ, ◌+◌, ◌*◌, ◌%◌, Bool, true, false, ◌&&◌, cond, nat_lt, List, [], ◌∷◌, Option, None}
use Rattle.std.specs.List.{filter_map}
use Rattle.sha2.specs.Sha256.{sha256}
use Rattle.pbft_model.specs.Words.{Configuration, replicas_for, Body, RequestBody, Signed, Role, Replica, Client, Request, SigningState, signed_text, as_message, sealed_message}
use Rattle.seal.specs.Height.TheVariants.{H5}
use Rattle.pbft_codec.specs.declared.body.Body.TheVariants as bodies

-- A configuration and the hash function. Every law holds for every hash; the replicas' is SHA-256.
pub record Setup : Type 0 where
  pub config : Configuration
  pub hash : List ℕ → List ℕ

-- The replicas of a configuration hash with SHA-256 (FIPS 180-4).
abbrev pub setup_of : Configuration → Setup
setup_of c = record { config = c; hash = sha256 }

-- 3f + 1 replicas
abbrev pub replicas : Configuration → ℕ
replicas c = replicas_for c.f

-- 2f + 1 of them are a quorum
abbrev pub quorum : Configuration → ℕ
quorum c = 2 * c.f + 1

-- the primary of a view (section 4.1)
abbrev pub primary : Configuration → ℕ → ℕ
primary c view = view % replicas c

-- how many numbers lie between the low and the high water mark
abbrev pub span : Configuration → ℕ
span c = 2 * c.k

-- views lie below this number, and sequence numbers below the other
abbrev pub view_limit : ℕ
view_limit = 4_294_967_296

abbrev pub number_limit : ℕ
number_limit = 281_474_976_710_656

-- the digest that stands for the null request (section 4.4)
abbrev pub null_digest : Setup → List ℕ
null_digest c = c.hash []

-- the digest of a request: that of its signed bytes
abbrev pub digest_of : Setup → Signed RequestBody → List ℕ
digest_of c m = c.hash (signed_text (as_message bodies.Request m))

-- the request in a client's message
abbrev pub request_in : Signed RequestBody → Request
request_in m = record { client = record { 0 = m.id }; time = m.body.time; op = m.body.op }

abbrev pub is_replica : Role → Bool
is_replica Replica = true
is_replica Client = false

-- how many numbers below n pass the test
abbrev pub count : (ℕ → Bool) → ℕ → ℕ
count test zero = 0
count test (suc n) = cond (test n) 1 0 + count test n

-- the number passes the test, and fewer than `many` below it do
abbrev pub is_least : ℕ → (ℕ → Bool) → ℕ → Bool
is_least many test n = test n && nat_lt (count test n) many

-- `many` numbers from `first` on
abbrev pub numbers_from : ℕ → ℕ → List ℕ
numbers_from first zero = []
numbers_from first (suc many) = first ∷ numbers_from (first + 1) many

-- of those that pass, in ascending order, what they have
abbrev pub gathered : {X : Type 0} → (ℕ → Bool) → (ℕ → Option X) → ℕ → List X
gathered test value n = filter_map (λ i. cond (test i) (value i) None) (numbers_from 0 n)

-- what a replica signs with its next leaf: the signature is that of the signer
unfoldable pub signature_by : SigningState → ℕ → Body → List ℕ
signature_by signer me body = (sealed_message signer Replica me body).sig

-- an own message, signed with the signer's next leaf
abbrev pub signed_by : {B : Type 0} → (B → Body) → SigningState → ℕ → B → Signed B
signed_by kind signer me body = record { role = Replica; id = me; body = body; sig = signature_by signer me (kind body) }

-- the signer after so many signatures
abbrev pub signer_after : SigningState → ℕ → SigningState
signer_after signer leaves = record signer { next_leaf = signer.next_leaf + leaves }

-- a signer that has signed nothing
abbrev pub fresh : List ℕ → List ℕ → SigningState
fresh id secret = record { height = H5; bottom = None; id = id; secret = secret; next_leaf = 0 }
