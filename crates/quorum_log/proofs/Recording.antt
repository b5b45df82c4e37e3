-- What is recorded of one slot after one more vote, by kind and signer.
use Rattle.std.proofs.Common.{◌≡◌, ◌≢◌, ℕ, ◌<◌, ◌==◌, cond, not, ◌&&◌, length, Option, Some, refl}
use Rattle.std.specs.Prelude.{is_some}
use Rattle.seal.specs.Opening.{CheckedMessage}
use Rattle.seal.specs.declared.vote.VoteKind.{VoteKind}
use Rattle.seal.specs.declared.vote.VoteKind.TheVariants.{PrePrepare, Prepare, Commit}
use Rattle.quorum_log.specs.declared.slot.Slot.{Slot}
use Rattle.ballots.specs.Ballots.{vote_at}
use Rattle.ballots.proofs.First.{first_at}
use Rattle.quorum_log.specs.Slots.{with_vote}
use Rattle.quorum_log.specs.Windows.{vote_by}

-- the value at a signer, after the first of another or the same is put
abbrev pub AfterFirst : ℕ → CheckedMessage → Option CheckedMessage → Option CheckedMessage → Option CheckedMessage → Type 0
AfterFirst s m own old new = new ≡ cond ((s == m.message.id) && not (is_some own)) (Some m) old

-- of the kind of the vote
pub prepare_with : (s : ℕ) (m : CheckedMessage) (slot : Slot) → m.message.id < length slot.prepares
    → AfterFirst s m (vote_by Prepare m.message.id slot) (vote_by Prepare s slot) (vote_by Prepare s (with_vote Prepare m slot))
prepare_with s m slot lt = first_at slot.prepares m s (is_some (vote_at slot.prepares m.message.id)) lt

pub commit_with : (s : ℕ) (m : CheckedMessage) (slot : Slot) → m.message.id < length slot.commits
    → AfterFirst s m (vote_by Commit m.message.id slot) (vote_by Commit s slot) (vote_by Commit s (with_vote Commit m slot))
commit_with s m slot lt = first_at slot.commits m s (is_some (vote_at slot.commits m.message.id)) lt

-- of another kind nothing changes
pub other_kind : (kind other : VoteKind) (s : ℕ) (m : CheckedMessage) (slot : Slot) → other ≢ kind → vote_by other s (with_vote kind m slot) ≡ vote_by other s slot
other_kind PrePrepare PrePrepare s m slot ne = absurd (ne refl)
other_kind PrePrepare Prepare s m slot ne = refl
other_kind PrePrepare Commit s m slot ne = refl
other_kind Prepare PrePrepare s m slot ne = refl
other_kind Prepare Prepare s m slot ne = absurd (ne refl)
other_kind Prepare Commit s m slot ne = refl
other_kind Commit PrePrepare s m slot ne = refl
other_kind Commit Prepare s m slot ne = refl
other_kind Commit Commit s m slot ne = absurd (ne refl)
