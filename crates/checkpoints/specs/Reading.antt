-- Internal: what the tables of ballots and of snapshots stand for.
use Rattle.std.proofs.Common.{zero, suc}
use Rattle.std.specs.Prelude.{◌≡◌, ℕ, ◌==◌, ◌<◌, Bool, true, false, ◌&&◌, cond, nat_lt, nat_le, List, [], ◌∷◌, ◌++◌, length, replicate, find, Option, Some, None, IsSome, IsTrue, unwrap_or}
use Rattle.std.specs.List.{filter_map}
use Rattle.std.specs.Option.{option_map}
use Rattle.std.specs.Ordering.{nat_cmp}
use Rattle.std.specs.Cmp.Lexicographic.{slice_cmp}
use Rattle.std.specs.FinMap.{is_sorted}
use Rattle.std.specs.BTreeMap as tree
use Rattle.sha2.specs.Sha256.{sha256}
use Rattle.host_types.specs.Configuration.{Configuration, IsConfiguration, replicas_for}
use Rattle.host_types.specs.declared.Digest.{Digest}
use Rattle.host_types.specs.declared.SeqNo.{SeqNo}
use Rattle.pbft_codec.specs.declared.body.Body.TheVariants as bodies
use Rattle.ballots.specs.Words.{Signed, Checkpoint, Replica}
use Rattle.ballots.specs.Certificates.{has_quorum, is_checkpoint_of, some_by}
use Rattle.ballots.specs.Core.{if_passes}
use Rattle.ballots.specs.Setup.{gathered, is_least, numbers_from, quorum, replicas}
use Rattle.ballots.specs.Tables.{Key, Table, at, number_key}
use Rattle.seal.specs.Opening.{CheckedMessage}
use Rattle.ballots.specs.Ballots.{Ballot, is_digest, vote_at}
use Rattle.ballots.specs.ByKey.{table_by}
use Rattle.checkpoints.specs.Kept.{KeptCheckpoints, checkpoint_of, stable_at}

-- ---- the ballots by number

abbrev pub no_votes : Ballot
no_votes = replicate 10 None

abbrev pub ballot_in : tree.BTreeMap ℕ Ballot → ℕ → Ballot
ballot_in ballots number = unwrap_or (tree.get nat_cmp ballots number) no_votes

-- The second has the ballots of the first, but for this one at this number.
abbrev pub HasBallot : ℕ → Ballot → tree.BTreeMap ℕ Ballot → tree.BTreeMap ℕ Ballot → Type 0
HasBallot number votes old new = (n : ℕ) → ballot_in new n ≡ cond (n == number) votes (ballot_in old n)

abbrev pub HaveSameBallots : tree.BTreeMap ℕ Ballot → tree.BTreeMap ℕ Ballot → Type 0
HaveSameBallots old new = (n : ℕ) → ballot_in new n ≡ ballot_in old n

-- A message of the configuration that is a Checkpoint at this number, of a replica.
pub record IsCheckpointAt (c : Configuration) (number : ℕ) (m : CheckedMessage) : Type 0 where
  pub config : m.config ≡ c
  pub said : Checkpoint
  pub is : m.message.body ≡ bodies.Checkpoint said
  pub of_number : said.number.0 ≡ number
  pub role : m.message.role ≡ Replica
  pub listed : m.message.id < replicas_for c.f

-- Each recorded vote is a Checkpoint at this number, of the replica at whose index it is.
pub record IsBallotAt (c : Configuration) (number : ℕ) (votes : Ballot) : Type 0 where
  pub each : (signer : ℕ) (m : CheckedMessage) → vote_at votes signer ≡ Some m → IsCheckpointAt c number m × (m.message.id ≡ signer)
  pub ten : length votes ≡ 10

-- ---- a ballot's Checkpoints

abbrev pub as_checkpoint : Option CheckedMessage → Option (Signed Checkpoint)
as_checkpoint None = None
as_checkpoint (Some m) = checkpoint_of m.message

abbrev pub said_by : Ballot → ℕ → Option (Signed Checkpoint)
said_by votes signer = as_checkpoint (vote_at votes signer)

-- whether a replica's Checkpoint is at this number and has this digest
abbrev pub said : (ℕ → Option (Signed Checkpoint)) → ℕ → List ℕ → ℕ → Bool
said by number digest i = some_by i (is_checkpoint_of number digest) (by i)

abbrev pub digest_said : (ℕ → Option (Signed Checkpoint)) → ℕ → Option Digest
digest_said by i = option_map (λ m. m.body.digest) (by i)

-- the digest of this replica's Checkpoint, if a quorum has it
abbrev pub quorum_by : Configuration → (ℕ → Option (Signed Checkpoint)) → ℕ → ℕ → Option Digest
quorum_by c by number i = if_passes (λ d. has_quorum c (said by number d.0)) (digest_said by i)

-- the digest that a quorum has
abbrev pub quorum_digest : Configuration → (ℕ → Option (Signed Checkpoint)) → ℕ → Option Digest
quorum_digest c by number =
    find (λ d. has_quorum c (said by number d.0)) (filter_map (digest_said by) (numbers_from 0 (replicas c)))

-- the Checkpoints of its least signers
abbrev pub quorum_proof : Configuration → (ℕ → Option (Signed Checkpoint)) → ℕ → Option Digest → List (Signed Checkpoint)
quorum_proof c by number None = []
quorum_proof c by number (Some digest) = gathered (is_least (quorum c) (said by number digest.0)) by (replicas c)

-- ---- tables read off

abbrev pub checkpoint_at_key : ℕ → tree.BTreeMap ℕ Ballot → Key → Option (Signed Checkpoint)
checkpoint_at_key low ballots [] = None
checkpoint_at_key low ballots (number ∷ []) = None
checkpoint_at_key low ballots (number ∷ signer ∷ []) =
    cond (nat_lt low number) (cond (nat_lt signer 10) (said_by (ballot_in ballots number) signer) None) None
checkpoint_at_key low ballots (number ∷ signer ∷ more ∷ rest) = None

-- the keys at which there can be a Checkpoint
abbrev pub keys_by_signer : ℕ → ℕ → List Key
keys_by_signer number zero = []
keys_by_signer number (suc n) = (number ∷ n ∷ []) ∷ keys_by_signer number n

abbrev pub keys_by_number : List ℕ → List Key
keys_by_number [] = []
keys_by_number (number ∷ numbers) = keys_by_signer number 10 ++ keys_by_number numbers

abbrev pub checkpoints_in : ℕ → tree.BTreeMap ℕ Ballot → Table (Signed Checkpoint)
checkpoints_in low ballots = table_by (checkpoint_at_key low ballots) (keys_by_number (tree.keys ballots))

abbrev pub bytes_at_key : tree.BTreeMap ℕ (List ℕ) → Key → Option (List ℕ)
bytes_at_key snapshots [] = None
bytes_at_key snapshots (number ∷ []) = tree.get nat_cmp snapshots number
bytes_at_key snapshots (number ∷ more ∷ rest) = None

abbrev pub number_keys : List ℕ → List Key
number_keys [] = []
number_keys (number ∷ numbers) = (number ∷ []) ∷ number_keys numbers

abbrev pub snapshots_in : tree.BTreeMap ℕ (List ℕ) → Table (List ℕ)
snapshots_in snapshots = table_by (bytes_at_key snapshots) (number_keys (tree.keys snapshots))

-- the digest that is stable at a number not below the mark
abbrev pub stable_now : Configuration → ℕ → tree.BTreeMap ℕ Ballot → ℕ → Option Digest
stable_now c low ballots number =
    cond (nat_le low number) (quorum_digest c (said_by (ballot_in ballots number)) number) None

abbrev pub proof_now : Configuration → tree.BTreeMap ℕ Ballot → ℕ → List (Signed Checkpoint)
proof_now c ballots number =
    let by = said_by (ballot_in ballots number) in
    quorum_proof c by number (quorum_digest c by number)

abbrev pub kept_in : Configuration → ℕ → tree.BTreeMap ℕ Ballot → tree.BTreeMap ℕ (List ℕ) → KeptCheckpoints
kept_in c low ballots snapshots = record {
  config = c;
  low = low;
  proof = proof_now c ballots low;
  checkpoints = checkpoints_in low ballots;
  snapshots = snapshots_in snapshots;
}

abbrev pub greater_of : Option SeqNo → SeqNo → SeqNo
greater_of None number = number
greater_of (Some other) number = cond (nat_lt number.0 other.0) other number

-- no greater number than this is stable, and this is; or none is
abbrev pub IsGreatest : Configuration → ℕ → tree.BTreeMap ℕ Ballot → Option SeqNo → Type 0
IsGreatest c low ballots None = (n : ℕ) → stable_now c low ballots n ≡ None
IsGreatest c low ballots (Some number) =
    IsSome (stable_now c low ballots number.0) × ((n : ℕ) → number.0 < n → stable_now c low ballots n ≡ None)

pub record AreKept (c : Configuration) (low : ℕ) (ballots : tree.BTreeMap ℕ Ballot) (greatest : Option SeqNo) : Type 0 where
  pub configuration : IsConfiguration c
  pub each : (number : ℕ) → IsBallotAt c number (ballot_in ballots number)
  pub top : IsGreatest c low ballots greatest

-- ---- a snapshot to which the mark may rise

-- its number is above the low mark and not above e, and the digest of its bytes is stable there
abbrev pub is_raised : KeptCheckpoints → ℕ → ℕ → List ℕ → Bool
is_raised k e number bytes = nat_lt k.low number && (nat_le number e && is_digest (sha256 bytes) (stable_at k number))

abbrev pub NoneRaised : KeptCheckpoints → ℕ → Type 0
NoneRaised k e = (n : ℕ) (bytes : List ℕ) → at k.snapshots (number_key n) ≡ Some bytes → is_raised k e n bytes ≡ false

-- the greatest number of such a snapshot, in a table in order
pub record IsGreatestRaised (k : KeptCheckpoints) (e : ℕ) (number : SeqNo) : Type 0 where
  pub sorted : IsTrue (is_sorted (slice_cmp nat_cmp) k.snapshots)
  pub bytes : List ℕ
  pub kept : at k.snapshots (number_key number.0) ≡ Some bytes
  pub here : is_raised k e number.0 bytes ≡ true
  pub later : (n : ℕ) (bytes : List ℕ) → number.0 < n → at k.snapshots (number_key n) ≡ Some bytes → is_raised k e n bytes ≡ false
