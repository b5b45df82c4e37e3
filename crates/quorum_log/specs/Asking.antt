-- Internal: the slot of a number in a view, as the log has it.
use Rattle.std.specs.Prelude.{◌≡◌, ℕ, ◌<◌}
use Rattle.host_types.specs.Configuration.{Configuration}
use Rattle.ballots.specs.Tables.{at, vote_key}
use Rattle.seal.specs.declared.vote.VoteKind.TheVariants as kinds
use Rattle.quorum_log.specs.declared.slot.Slot.{Slot}
use Rattle.quorum_log.specs.Log.{Log}
use Rattle.quorum_log.specs.Reading.{as_pre_prepare, as_prepare, as_commit, read_by}
use Rattle.quorum_log.specs.Slots.{IsSlotAt}
use Rattle.quorum_log.specs.Windows.{vote_by}

-- What the slot has is what the log has at this number of this view.
pub record Represents (c : Configuration) (l : Log) (view number : ℕ) (s : Slot) : Type 0 where
  pub is : IsSlotAt c view number s
  pub pre_prepares : (i : ℕ) → i < 10 → at l.pre_prepares (vote_key number view i) ≡ read_by as_pre_prepare (vote_by kinds.PrePrepare i s)
  pub prepares : (i : ℕ) → i < 10 → at l.prepares (vote_key number view i) ≡ read_by as_prepare (vote_by kinds.Prepare i s)
  pub commits : (i : ℕ) → i < 10 → at l.commits (vote_key number view i) ≡ read_by as_commit (vote_by kinds.Commit i s)
