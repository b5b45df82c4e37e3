-- Statement: what a replica says at most once, and where it says two things.
use Rattle.std.specs.Prelude.{◌≡◌, ◌≢◌, ◌<◌, ℕ, List, Option, Some, None, slice_get}
use Rattle.pbft_codec.specs.declared.body.Body.{Body}
use Rattle.pbft_codec.specs.declared.body.Body.TheVariants as bodies
use Rattle.pbft_codec.specs.declared.signed.Signed.{Signed}
use Rattle.seal.specs.Opening.{CheckedMessage}
use Rattle.seal.specs.declared.vote.VoteKind.TheVariants as votes
use Rattle.conflicts.specs.declared.claim.Claim.{Claim}
use Rattle.conflicts.specs.declared.claim.Topic.TheVariants.{Vote, Checkpoint}

-- What a body claims of this replica, or nothing.
abbrev pub claim_in : ℕ → Body → Option Claim
claim_in id (bodies.PrePrepare p) = Some (record { signer = id; topic = Vote votes.PrePrepare p.view p.number; digest = p.digest })
claim_in id (bodies.Prepare p) = Some (record { signer = id; topic = Vote votes.Prepare p.view p.number; digest = p.digest })
claim_in id (bodies.Commit p) = Some (record { signer = id; topic = Vote votes.Commit p.view p.number; digest = p.digest })
claim_in id (bodies.Checkpoint c) = Some (record { signer = id; topic = Checkpoint c.number; digest = c.digest })
claim_in id _ = None

abbrev pub claim_of : Signed Body → Option Claim
claim_of m = claim_in m.id m.body

-- One replica says two things of one topic.
abbrev pub Contradict : Claim → Claim → Type 0
Contradict a b = (a.signer ≡ b.signer) × (a.topic ≡ b.topic) × (a.digest ≢ b.digest)

-- The messages at two places contradict each other, the earlier place first.
pub record IsConflict (ms : List CheckedMessage) (i j : ℕ) : Type 0 where
  pub earlier : i < j
  pub first : CheckedMessage
  pub second : CheckedMessage
  pub first_is : slice_get ms i ≡ Some first
  pub second_is : slice_get ms j ≡ Some second
  pub one : Claim
  pub other : Claim
  pub one_is : claim_of first.message ≡ Some one
  pub other_is : claim_of second.message ≡ Some other
  pub contradict : Contradict one other
