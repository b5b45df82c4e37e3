-- Internal: what a message or a timeout makes a replica do, until nothing is due, and when it halts in place of it.
use Rattle.std.specs.Prelude.{◌≡◌, ℕ, ◌+◌, ◌<◌, ◌++◌, List, [], ◌∷◌, None}
use Rattle.pbft_model.specs.Words.{SigningState}
use Rattle.pbft_model.specs.Acts.{Act}
use Rattle.pbft_model.specs.Core.{Core}
use Rattle.pbft_model.specs.Duties.{due}
use Rattle.pbft_model.specs.Ending.{left_to_do}
use Rattle.pbft_model.specs.Histories.{IsHistory, core_after}
use Rattle.pbft_model.specs.Rows as model
use Rattle.pbft_model.specs.Rows.{Follows, Fulfils, HasLeaves, Lacks, all_done, all_leaves, all_outputs, done_of, leaves_for, outputs_of}
use Rattle.pbft_model.specs.Setup.{Setup, setup_of}
use Rattle.replica_core.specs.declared.halt.Halt.{Halt}
use Rattle.replica_core.specs.declared.halt.Halt.TheVariants as halts
use Rattle.replica_core.specs.Replicas.{KeptReplica}

-- A core that a history of the replica comes to.
pub record IsReached (c : Setup) (me : ℕ) (s : Core) : Type 0 where
  pub signer : SigningState
  pub acts : List Act
  pub history : IsHistory c me signer acts
  pub here : core_after c signer acts ≡ s

-- The replica after acts that did what was due, one after another.
pub record IsAfter (k : KeptReplica) (acts : List Act) (t : KeptReplica) : Type 0 where
  pub config : t.config ≡ k.config
  pub me : t.me ≡ k.me
  pub follows : Follows (setup_of k.config) k.me k.core acts t.core
  pub outputs : t.outputs ≡ k.outputs ++ all_outputs acts
  pub done : t.done ≡ k.done ++ all_done (setup_of k.config) acts
  pub leaves : t.leaves ≡ k.leaves + all_leaves acts

-- One act does what is due.
abbrev pub Advances : KeptReplica → KeptReplica → Type 0
Advances k t = (a : Act) × IsAfter k (a ∷ []) t

-- Acts did what was due, one after another, and less is left to do.
pub record Comes (k t : KeptReplica) : Type 0 where
  pub acts : List Act
  pub after : IsAfter k acts t
  pub less : left_to_do t.core < left_to_do k.core

-- Acts did all that was due.
abbrev pub Settles : KeptReplica → KeptReplica → Type 0
Settles k t = (acts : List Act) × IsAfter k acts t × (due (setup_of k.config) k.me t.core ≡ None)

-- What is due next wants what is not there; or memory ran out.
abbrev pub IsHaltedAt : Setup → ℕ → Core → Halt → Type 0
IsHaltedAt c me s halts.Exhausted = Lacks s (due c me s) model.Exhausted
IsHaltedAt c me s halts.Worn = Lacks s (due c me s) model.Worn
IsHaltedAt c me s halts.Memory = Unit {0}
IsHaltedAt c me s halts.JournalFull = ⊥
IsHaltedAt c me s halts.AlreadyHalted = ⊥

-- Acts did what was due, up to where it halted.
pub record HaltsAfter (k : KeptReplica) (halt : Halt) : Type 0 where
  pub acts : List Act
  pub last : Core
  pub follows : Follows (setup_of k.config) k.me k.core acts last
  pub halted : IsHaltedAt (setup_of k.config) k.me last halt
