-- Internal: committed numbers whose requests are executed together, and what a replica is while they are reported one
-- after another.
use Rattle.std.specs.Prelude.{◌≡◌, ◌⊎◌, ℕ, ◌+◌, ◌%◌, ◌==◌, ◌<◌, ◌≤◌, true, false, List, [], ◌∷◌, map, length, slice_index_or, Option, Some, None, IsSome}
use Rattle.host_types.specs.Configuration.{IsConfiguration}
use Rattle.host_types.specs.declared.Digest.{Digest}
use Rattle.pbft_model.specs.Acts.{Act}
use Rattle.pbft_model.specs.Core.{Core, is_committed}
use Rattle.pbft_model.specs.Duties.{Executing, due, due_execute}
use Rattle.pbft_model.specs.Ending.{left_to_do}
use Rattle.pbft_model.specs.Rows.{RepliesAlone}
use Rattle.pbft_model.specs.Sequential.{Outcome, Service}
use Rattle.pbft_model.specs.Setup.{Setup, view_limit, setup_of}
use Rattle.pbft_model.specs.Together.{AreExecutions, Execution}
use Rattle.pbft_model.specs.Words.{Reply}
use Rattle.replica_core.specs.Replicas.{KeptReplica}
use Rattle.replica_core.specs.Settling.{IsAfter, IsReached}

-- Digests that are committed at the numbers behind this one, of which only the last may be at a multiple of the
-- checkpoint interval.
pub record IsBatch (c : Setup) (s : Core) (executed : ℕ) (digests : List Digest) : Type 0 where
  pub committed : (i : ℕ) (d : Digest) → i < length digests
      → is_committed c s (record { view = s.view; number = executed + 1 + i; digest = (slice_index_or digests i d).0 }) ≡ true
  pub between : (i : ℕ) → i + 1 < length digests → ((executed + 1 + i) % c.config.k == 0) ≡ false

-- They end at a multiple of the interval, or before a number at which nothing is committed.
abbrev pub Ends : Setup → Core → ℕ → List Digest → Type 0
Ends c s executed digests =
    ((0 < length digests) × (((executed + length digests) % c.config.k == 0) ≡ true))
    ⊎ ((digest : List ℕ) → is_committed c s (record { view = s.view; number = executed + length digests + 1; digest = digest }) ≡ true → ⊥)

-- To execute is due.
abbrev pub IsExecuting : Setup → ℕ → Core → Type 0
IsExecuting c me s = (number : ℕ) × (digest : List ℕ) × (due c me s ≡ Some (Executing number digest)) × IsSome (due_execute c s)

-- ---- while executions are reported

-- the state after executions
abbrev pub state_after : Service → List Execution → Service
state_after state [] = state
state_after state (x ∷ xs) = state_after x.service xs

-- the replica with this state in place of its own
abbrev pub ahead : Service → KeptReplica → KeptReplica
ahead state k = record k { core = record k.core { executed = state.number; service = state } }

-- The execution is due; or the reply that is owed is, and then the execution.
abbrev pub IsNext : Setup → ℕ → Core → Option Reply → Execution → Type 0
IsNext c me s None x = due c me s ≡ Some (Executing x.number x.digest)
IsNext c me s (Some reply) x = RepliesAlone c me s reply

abbrev pub IsReady : Setup → ℕ → Core → List Execution → Type 0
IsReady c me s [] = Unit {0}
IsReady c me s (x ∷ xs) = (s.active ≡ true) × AreExecutions c s s.service s.executed x xs × IsNext c me s s.reply_due x

-- Acts that did what was due have come to this, at least so many, and each left less to do.
pub record ComesTo (k : KeptReplica) (many : ℕ) (at : KeptReplica) : Type 0 where
  pub legal : IsConfiguration k.config
  pub reached : IsReached (setup_of k.config) k.me k.core
  pub viewed : k.core.view < view_limit
  pub acts : List Act
  pub reported : many ≤ length acts
  pub after : IsAfter k acts at
  pub view : at.core.view ≡ k.core.view
  pub fewer : left_to_do at.core + length acts ≤ left_to_do k.core

-- Of the executions behind a replica's core so many are reported, and these digests and outcomes are still to be: the
-- replica is what the acts so far come to, but has the state after all of them.
pub record IsReporting (k t : KeptReplica) (many : ℕ) (digests : List Digest) (outcomes : List Outcome) : Type 0 where
  pub at : KeptReplica
  pub upto : ComesTo k many at
  pub number_is : at.core.executed ≡ at.core.service.number
  pub rest : List Execution
  pub digests_are : map (λ x. x.digest) rest ≡ map (λ d. d.0) digests
  pub outcomes_are : map (λ x. x.outcome) rest ≡ outcomes
  pub ready : IsReady (setup_of at.config) at.me at.core rest
  pub here : t ≡ ahead (state_after at.core.service rest) at
