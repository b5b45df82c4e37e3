-- Statement: what a host was given and what it leaves: the journals of its replicas, and where each stands.
use Rattle.std.specs.Prelude.{◌≡◌, ℕ, ◌+◌, ◌<◌, List, [], ◌∷◌, length, slice_get, Option, Some, IsSomeAnd}
use Rattle.host_types.specs.Configuration.{Configuration, replicas_for}
use Rattle.host_types.specs.declared.ReplicaId.{ReplicaId}
use Rattle.host_types.specs.declared.key.PublicKey.{PublicKey}
use Rattle.lms_tree.specs.SigningState.{SigningState}
use Rattle.lms_tree.specs.Keys.{IsKeyOf}
use Rattle.byz_world.specs.Facts.{RowFacts}
use Rattle.byz_world.specs.Halt.{Halt}
use Rattle.byz_world.specs.Records.{AgreeUnlessForged}
use Rattle.byz_world.specs.Status.{Status}
use Rattle.replica_threads.specs.Stations.{IsJournalOf, IsReported}

-- What a contract sees of a host: who takes part, and by replica the leaf that the signer which it was given would use next.
pub record HostFacts : Type 0 where
  pub config : Configuration
  pub leaves : List ℕ

-- What a contract sees of a closed station's journal.
pub record RecordFacts : Type 0 where
  pub config : Configuration
  pub id : ℕ
  -- the leaf that the replica's signer would have used next as it began
  pub leaf : ℕ
  pub rows : List RowFacts
  -- why the station has halted, if it has
  pub halted : Option Halt

-- The rows are a lawful journal of the replica, from a signer with this next leaf on.
pub record IsRecord (c : Configuration) (id leaf : ℕ) (rows : List RowFacts) : Type 0 where
  pub signer : SigningState
  pub leaf_is : signer.next_leaf ≡ leaf
  pub journal : IsJournalOf c id signer rows

-- What a contract sees of where a replica stands.
pub record StandingFacts : Type 0 where
  pub config : Configuration
  pub id : ℕ
  pub leaf : ℕ
  pub status : Status

-- So stands the replica after a lawful journal, from a signer with this next leaf on.
pub record Stands (c : Configuration) (id leaf : ℕ) (status : Status) : Type 0 where
  pub signer : SigningState
  pub leaf_is : signer.next_leaf ≡ leaf
  pub limit : ℕ
  pub reported : IsReported c id signer limit 0 status

-- So stands a replica of a host.
abbrev pub StandsAt : HostFacts → ℕ → Status → Type 0
StandsAt h id status = (leaf : ℕ) × (slice_get h.leaves id ≡ Some leaf) × Stands h.config id leaf status

-- Each of these is a lawful journal, from the signer on that the host was given: of this replica, the next one, and so on.
abbrev pub AreRecords : HostFacts → ℕ → List (List RowFacts) → Type 0
AreRecords h id [] = Unit {0}
AreRecords h id (rows ∷ records) = ((leaf : ℕ) × (slice_get h.leaves id ≡ Some leaf) × IsRecord h.config id leaf rows) × AreRecords h (id + 1) records

-- The journals that a host leaves: they are lawful, from the signers on that it was given, and agree unless somebody
-- forged.
pub record AgreeAtClose (h : HostFacts) (records : List (List RowFacts)) : Type 0 where
  pub signer : ℕ → SigningState
  pub given : (id : ℕ) → id < replicas_for h.config.f → slice_get h.leaves id ≡ Some (signer id).next_leaf
  pub agree : AgreeUnlessForged h.config signer records

-- The ids ascend by one, from this number on.
abbrev pub AreIdsFrom : ℕ → List ReplicaId → Type 0
AreIdsFrom id [] = Unit {0}
AreIdsFrom id (x ∷ xs) = (x.0 ≡ id) × AreIdsFrom (id + 1) xs

-- The key that is listed for a replica is that of its signer.
abbrev pub HasKeyAt : List PublicKey → List SigningState → ℕ → Type 0
HasKeyAt keys signers id = IsSomeAnd (slice_get keys id) (λ key. IsSomeAnd (slice_get signers id) (λ signer. IsKeyOf key signer))

-- There is one signer for each listed key, which is its own.
pub record HaveKeys (keys : List PublicKey) (signers : List SigningState) : Type 0 where
  pub many : length signers ≡ length keys
  pub each : (id : ℕ) → id < length keys → HasKeyAt keys signers id
