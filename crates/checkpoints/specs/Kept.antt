-- Layer: what a replica keeps of checkpoints, as the protocol's core keeps it, and what is done with it
-- (Castro and Liskov, section 4.3).
use Rattle.std.specs.Prelude.{◌≡◌, ◌↔◌, ℕ, ◌==◌, ◌<◌, ◌≤◌, Bool, true, false, not, map, cond, nat_lt, nat_le, List, [], ◌∷◌, find, Option, Some, None, IsSome, bytes_eq, if◌then◌else◌}
use Rattle.std.specs.List.{filter_map}
use Rattle.std.specs.Option.{option_map}
use Rattle.sha2.specs.Sha256.{sha256}
use Rattle.host_types.specs.Configuration.{Configuration}
use Rattle.host_types.specs.declared.Digest.{Digest}
use Rattle.pbft_codec.specs.declared.body.Body.{Body}
use Rattle.pbft_codec.specs.declared.body.Body.TheVariants as bodies
use Rattle.ballots.specs.Words.{Signed, Checkpoint}
use Rattle.ballots.specs.Acts.{add_checkpoint, with_body}
use Rattle.ballots.specs.Certificates.{checkpointed, is_stable}
use Rattle.ballots.specs.Core.{Core}
use Rattle.ballots.specs.Duties.{Duty, due_rise, greatest_stable}
use Rattle.ballots.specs.Setup.{gathered, is_least, numbers_from, quorum, replicas, setup_of}
use Rattle.ballots.specs.Tables.{Table, at, entries_in, with_entry, keep, checkpoint_key, number_key, first_in, is_above}
use Rattle.seal.specs.Lists.{CheckedMessages}
use Rattle.seal.specs.Parts.{as_message}
use Rattle.checkpoints.specs.declared.fault.CheckpointFault.{CheckpointFault}
use Rattle.checkpoints.specs.declared.fault.CheckpointFault.TheVariants.{Old, DigestDiffers}

-- What a contract sees. A replica's core has the same fields.
pub record KeptCheckpoints : Type 0 where
  pub config : Configuration
  -- the low water mark, and the Checkpoints that prove it
  pub low : ℕ
  pub proof : List (Signed Checkpoint)
  pub checkpoints : Table (Signed Checkpoint)
  pub snapshots : Table (List ℕ)

abbrev pub start : Configuration → KeptCheckpoints
start c = record { config = c; low = 0; proof = []; checkpoints = []; snapshots = [] }

-- ---- a Checkpoint message

-- a message as a Checkpoint, if it is one
abbrev pub checkpoint_in : Signed Body → Body → Option (Signed Checkpoint)
checkpoint_in m (bodies.Checkpoint b) = Some (with_body m b)
checkpoint_in m _ = None

abbrev pub checkpoint_of : Signed Body → Option (Signed Checkpoint)
checkpoint_of m = checkpoint_in m m.body

-- the signer's Checkpoint has another digest
abbrev pub has_other_digest : List ℕ → Option (Signed Checkpoint) → Bool
has_other_digest digest None = false
has_other_digest digest (Some m) = not (bytes_eq m.body.digest.0 digest)

abbrev pub note_fault : KeptCheckpoints → Option (Signed Checkpoint) → Option CheckpointFault
note_fault k None = None
note_fault k (Some m) =
    if nat_le m.body.number.0 k.low then Some Old
    else (if has_other_digest m.body.digest.0 (at k.checkpoints (checkpoint_key m.body.number.0 m.id)) then Some DigestDiffers else None)

-- the first of each signer at a number counts
abbrev pub noted : KeptCheckpoints → Option (Signed Checkpoint) → KeptCheckpoints
noted k None = k
noted k (Some m) = record k { checkpoints = add_checkpoint k.low m k.checkpoints }

-- ---- stable numbers

-- the digest of replica i's Checkpoint at a number
abbrev pub digest_by : Table (Signed Checkpoint) → ℕ → ℕ → Option Digest
digest_by checkpoints number i = option_map (λ m. m.body.digest) (at checkpoints (checkpoint_key number i))

-- the digest that is stable at a number: two never are
abbrev pub stable_digest : Configuration → Table (Signed Checkpoint) → ℕ → Option Digest
stable_digest c checkpoints number =
    find (λ d. is_stable c checkpoints number d.0) (filter_map (digest_by checkpoints number) (numbers_from 0 (replicas c)))

-- the proof that it is: the Checkpoints of a quorum's least signers
abbrev pub proof_for : Configuration → Table (Signed Checkpoint) → ℕ → Option Digest → List (Signed Checkpoint)
proof_for c checkpoints number None = []
proof_for c checkpoints number (Some digest) =
    gathered (is_least (quorum c) (checkpointed checkpoints number digest.0)) (λ i. at checkpoints (checkpoint_key number i)) (replicas c)

-- the digest that a proof's Checkpoints have
abbrev pub digest_of_proof : List (Signed Checkpoint) → Option Digest
digest_of_proof [] = None
digest_of_proof (m ∷ ms) = Some m.body.digest

-- The digest that is stable at a number, if one is: at the low mark that of its proof.
abbrev pub stable_at : KeptCheckpoints → ℕ → Option Digest
stable_at k number =
    cond (number == k.low) (digest_of_proof k.proof) (stable_digest k.config k.checkpoints number)

-- The proof of a number: of the low mark that which is kept.
abbrev pub proof_at : KeptCheckpoints → ℕ → List (Signed Checkpoint)
proof_at k number =
    cond (number == k.low) k.proof (proof_for k.config k.checkpoints number (stable_digest k.config k.checkpoints number))

abbrev pub proof_list : KeptCheckpoints → ℕ → CheckedMessages
proof_list k number = record { config = k.config; messages = map (as_message bodies.Checkpoint) (proof_at k number) }

-- no number above this one is stable
abbrev pub NoneStableAbove : KeptCheckpoints → ℕ → Type 0
NoneStableAbove k number = (n : ℕ) → number < n → stable_at k n ≡ None

-- the greatest stable number above e
pub record IsGreatestStable (k : KeptCheckpoints) (e number : ℕ) : Type 0 where
  pub above : e < number
  pub stable : IsSome (stable_at k number)
  pub greatest : NoneStableAbove k number

-- above the mark a digest is stable exactly where it is this one
abbrev pub IsStableExactly : KeptCheckpoints → ℕ → Option Digest → Type 0
IsStableExactly k number o =
    (d : Digest) → k.low < number → (is_stable k.config k.checkpoints number d.0 ≡ true) ↔ (o ≡ Some d)

-- A core with these Checkpoints, whose last executed number is not below the mark.
pub record HasCheckpointsOf (k : KeptCheckpoints) (s : Core) : Type 0 where
  pub same : k.checkpoints ≡ s.checkpoints
  pub low : k.low ≤ s.executed

-- the number whose snapshot such a core fetches, where e is the last executed one; 0 for none
abbrev pub IsFetched : KeptCheckpoints → ℕ → ℕ → Type 0
IsFetched k e number =
    (s : Core) → HasCheckpointsOf k s → s.executed ≡ e → greatest_stable (setup_of k.config) s (entries_in s.checkpoints) ≡ number

-- ---- snapshots

abbrev pub with_snapshot : KeptCheckpoints → ℕ → List ℕ → KeptCheckpoints
with_snapshot k number bytes = record k { snapshots = with_entry k.snapshots (number_key number) bytes }

-- Of another replica's snapshot the digest has to be stable at its number.
abbrev pub offer_fault : KeptCheckpoints → ℕ → List ℕ → Option CheckpointFault
offer_fault k number bytes =
    if nat_le number k.low then Some Old
    else (if is_stable k.config k.checkpoints number (sha256 bytes) then None else Some DigestDiffers)

-- ---- the low mark

-- A core with these Checkpoints, this mark and these snapshots.
pub record HasTablesOf (k : KeptCheckpoints) (s : Core) : Type 0 where
  pub low : s.low ≡ k.low
  pub checkpoints : s.checkpoints ≡ k.checkpoints
  pub snapshots : s.snapshots ≡ k.snapshots

-- what is due in such a core for its mark to rise, where e is the last executed number
abbrev pub IsRaised : KeptCheckpoints → ℕ → Option Duty → Type 0
IsRaised k e duty = (s : Core) → HasTablesOf k s → s.executed ≡ e → due_rise (setup_of k.config) s ≡ duty

-- All at or below a number above the mark is discarded, but the snapshot there and its proof.
abbrev pub discarded : ℕ → KeptCheckpoints → KeptCheckpoints
discarded number k = cond (nat_lt k.low number) (record k {
  low = number;
  proof = proof_at k number;
  checkpoints = keep (is_above number) k.checkpoints;
  snapshots = keep (λ key. nat_le number (first_in key)) k.snapshots;
}) k
