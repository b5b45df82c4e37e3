-- Statement: the votes of replicas: PrePrepares, Prepares and Commits (Castro and Liskov, section 4.2).
use Rattle.std.specs.Prelude.{◌≡◌, ◌≢◌, ℕ, ◌<◌, Option, Some, None}
use Rattle.host_types.specs.Configuration.{replicas_for}
use Rattle.pbft_codec.specs.declared.body.Body.{Body}
use Rattle.pbft_codec.specs.declared.body.Body.TheVariants as bodies
use Rattle.pbft_codec.specs.declared.signed.Role.TheVariants.{Replica}
use Rattle.pbft_codec.specs.declared.signed.Signed.{Signed}
use Rattle.pbft_codec.specs.Limits.{IsSequenceNumber}
use Rattle.seal.specs.declared.vote.Vote.{Vote}
use Rattle.seal.specs.declared.vote.VoteKind.TheVariants.{PrePrepare, Prepare, Commit}
use Rattle.seal.specs.Opening.{CheckedMessage}
use Rattle.seal.specs.Signers.{primary_of}

-- What a body says as a vote of this replica, or nothing.
abbrev pub vote_in : ℕ → Body → Option Vote
vote_in id (bodies.PrePrepare p) = Some (record { kind = PrePrepare; view = p.view; number = p.number; digest = p.digest; signer = record { 0 = id } })
vote_in id (bodies.Prepare p) = Some (record { kind = Prepare; view = p.view; number = p.number; digest = p.digest; signer = record { 0 = id } })
vote_in id (bodies.Commit p) = Some (record { kind = Commit; view = p.view; number = p.number; digest = p.digest; signer = record { 0 = id } })
vote_in id _ = None

abbrev pub vote_of : Signed Body → Option Vote
vote_of m = vote_in m.id m.body

-- What holds of the vote of a checked message: a listed replica signed it, the view's primary a PrePrepare
-- and another replica a Prepare.
pub record IsVoteOf (c : CheckedMessage) (v : Vote) : Type 0 where
  pub role : c.message.role ≡ Replica
  pub listed : v.signer.0 < replicas_for c.config.f
  pub number : IsSequenceNumber v.number
  pub primary_proposes : v.kind ≡ PrePrepare → v.signer.0 ≡ primary_of c.config v.view
  pub backups_prepare : v.kind ≡ Prepare → v.signer.0 ≢ primary_of c.config v.view
