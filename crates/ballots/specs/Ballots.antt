-- Layer: what is recorded of the votes of replicas on one question, such as which digest has a number.
use Rattle.std.specs.Prelude.{◌≡◌, ℕ, zero, suc, ◌+◌, ◌*◌, ◌^◌, ◌≤◌, Bool, false, not, cond, List, Option, Some, None, is_some, length, slice_index_or, slice_set, bytes_eq, unwrap_or}
use Rattle.std.specs.Option.{option_map}
use Rattle.std.specs.Ordering.{nat_cmp}
use Rattle.std.specs.Cmp.Lexicographic.{slice_cmp}
use Rattle.std.specs.BTreeMap as tree
use Rattle.host_types.specs.Configuration.{Configuration, replicas_for}
use Rattle.host_types.specs.declared.Digest.{Digest}
use Rattle.pbft_model.specs.Body.{Body}
use Rattle.pbft_model.specs.Body.TheVariants as bodies
use Rattle.pbft_model.specs.Signed.{Signed}
use Rattle.pbft_model.specs.Setup.{is_least, gathered}
use Rattle.pbft_model.specs.Opening.{CheckedMessage}

-- The digest that a message names: that of a PrePrepare's, a Prepare's or a Commit's request, or of a
-- Checkpoint's state.
abbrev pub digest_in : Body → Option Digest
digest_in (bodies.PrePrepare p) = Some p.digest
digest_in (bodies.Prepare p) = Some p.digest
digest_in (bodies.Commit p) = Some p.digest
digest_in (bodies.Checkpoint p) = Some p.digest
digest_in _ = None

-- At the index of each replica the message that it voted by, if it has voted.
abbrev pub Ballot : Type 0
Ballot = List (Option CheckedMessage)

abbrev pub vote_at : Ballot → ℕ → Option CheckedMessage
vote_at votes signer = slice_index_or votes signer None

-- the vote of the message's signer is this message
abbrev pub recorded : Ballot → CheckedMessage → Ballot
recorded votes m = slice_set votes m.message.id (Some m)

abbrev pub is_digest : List ℕ → Option Digest → Bool
is_digest digest None = false
is_digest digest (Some other) = bytes_eq other.0 digest

abbrev pub is_for : List ℕ → Option CheckedMessage → Bool
is_for digest None = false
is_for digest (Some m) = is_digest digest (digest_in m.message.body)

-- whether this replica has voted for the digest
abbrev pub voted_for : List ℕ → Ballot → ℕ → Bool
voted_for digest votes signer = is_for digest (vote_at votes signer)

-- all that voted are under this configuration
abbrev pub AreUnder : Configuration → Ballot → Type 0
AreUnder c votes = (signer : ℕ) (m : CheckedMessage) → vote_at votes signer ≡ Some m → m.config ≡ c

-- only replicas of this configuration have voted
abbrev pub AreListed : Configuration → Ballot → Type 0
AreListed c votes = (signer : ℕ) → replicas_for c.f ≤ signer → vote_at votes signer ≡ None

-- the votes for the digest of so many of the replicas below n, those of the least indices
abbrev pub least_below : ℕ → ℕ → List ℕ → Ballot → List (Signed Body)
least_below n many digest votes =
    gathered (is_least many (voted_for digest votes)) (λ signer. option_map (λ m. m.message) (vote_at votes signer)) n

abbrev pub least_votes : ℕ → List ℕ → Ballot → List (Signed Body)
least_votes many digest votes = least_below 10 many digest votes

-- ---- the first counts

-- there is a vote, for another digest
abbrev pub is_for_other : List ℕ → Option CheckedMessage → Bool
is_for_other digest None = false
is_for_other digest (Some m) = not (is_for digest (Some m))

abbrev pub first_of : CheckedMessage → Option CheckedMessage → Option CheckedMessage
first_of m None = Some m
first_of m (Some first) = Some first

abbrev pub with_first : CheckedMessage → Ballot → Ballot
with_first m votes = cond (is_some (vote_at votes m.message.id)) votes (recorded votes m)

-- ---- Internal: masks

-- bit s is 1 exactly where s passes, of the numbers below n
abbrev pub mask_of : (ℕ → Bool) → ℕ → ℕ
mask_of test zero = 0
mask_of test (suc n) = cond (test n) 1 0 * 2 ^ n + mask_of test n

abbrev pub mask_at : tree.BTreeMap (List ℕ) ℕ → List ℕ → ℕ
mask_at masks digest = unwrap_or (tree.get (slice_cmp nat_cmp) masks digest) 0

-- each digest's mask has the bits of those that voted for it
pub record IsTallied (votes : Ballot) (kept : tree.BTreeMap (List ℕ) ℕ) : Type 0 where
  pub ten : length votes ≡ 10
  pub ordered : tree.IsOrdered (slice_cmp nat_cmp) kept
  pub masks : (digest : List ℕ) → mask_at kept digest ≡ mask_of (voted_for digest votes) 10
