-- Internal: what is recorded for one number in one view.
use Rattle.std.specs.Prelude.{◌≡◌, ℕ, ◌*◌, ◌&&◌, ◌==◌, Bool, true, false, cond, List, Option, Some, None, length, replicate, unwrap_or}
use Rattle.std.specs.Option.{option_map}
use Rattle.std.specs.Ordering.{nat_cmp}
use Rattle.std.specs.BTreeMap as tree
use Rattle.host_types.specs.Configuration.{Configuration}
use Rattle.seal.specs.Opening.{CheckedMessage}
use Rattle.seal.specs.Votes.{IsVoteOf, vote_of}
use Rattle.seal.specs.declared.vote.Vote.{Vote}
use Rattle.seal.specs.declared.vote.VoteKind.{VoteKind}
use Rattle.seal.specs.declared.vote.VoteKind.TheVariants.{PrePrepare, Prepare, Commit}
use Rattle.quorum_log.specs.declared.fault.LogFault.{LogFault}
use Rattle.quorum_log.specs.declared.fault.LogFault.TheVariants.{OutsideMarks, OtherDigest, WrongView, Memory}
use Rattle.quorum_log.specs.declared.slot.Slot.{Slot}
use Rattle.host_types.specs.declared.Digest.{Digest}
use Rattle.host_types.specs.declared.SeqNo.{SeqNo}
use Rattle.ballots.specs.Certificates.{certified, has_quorum}
use Rattle.quorum_log.specs.declared.certificate.CheckedCertificate.{CheckedCertificate}
use Rattle.ballots.specs.Ballots.{Ballot, vote_at, is_digest, digest_in, first_of, voted_for, least_votes, with_first}

-- A message of the configuration that is a vote of this kind at this number of this view.
pub record IsVoteAt (c : Configuration) (kind : VoteKind) (view number : ℕ) (m : CheckedMessage) : Type 0 where
  pub config : m.config ≡ c
  pub vote : Vote
  pub is : vote_of m.message ≡ Some vote
  pub proper : IsVoteOf m vote
  pub of_kind : vote.kind ≡ kind
  pub of_view : vote.view.0 ≡ view
  pub of_number : vote.number.0 ≡ number

-- Each recorded vote is of this kind, at this number of this view, and of the replica at whose index it is.
abbrev pub AreVotesAt : Configuration → VoteKind → ℕ → ℕ → Ballot → Type 0
AreVotesAt c kind view number votes =
    (signer : ℕ) (m : CheckedMessage) → vote_at votes signer ≡ Some m → IsVoteAt c kind view number m × (m.message.id ≡ signer)

pub record IsSlotAt (c : Configuration) (view number : ℕ) (s : Slot) : Type 0 where
  pub pre_prepare : (m : CheckedMessage) → s.pre_prepare ≡ Some m → IsVoteAt c PrePrepare view number m
  pub prepares : AreVotesAt c Prepare view number s.prepares
  pub commits : AreVotesAt c Commit view number s.commits
  pub ten : (length s.prepares ≡ 10) × (length s.commits ≡ 10)

-- the recorded vote that a vote of this kind and signer meets: there is room for one PrePrepare
abbrev pub met_by : VoteKind → ℕ → Slot → Option CheckedMessage
met_by PrePrepare signer s = s.pre_prepare
met_by Prepare signer s = vote_at s.prepares signer
met_by Commit signer s = vote_at s.commits signer

abbrev pub with_vote : VoteKind → CheckedMessage → Slot → Slot
with_vote PrePrepare m s = record s { pre_prepare = first_of m s.pre_prepare }
with_vote Prepare m s = record s { prepares = with_first m s.prepares }
with_vote Commit m s = record s { commits = with_first m s.commits }

-- a vote for another digest is refused so, and any other only where memory ran out
abbrev pub IsRefusal : Bool → LogFault → Type 0
IsRefusal other OtherDigest = other ≡ true
IsRefusal other Memory = other ≡ false
IsRefusal other OutsideMarks = ⊥
IsRefusal other WrongView = ⊥

-- ---- what is read off a slot

-- the digest that a message names
abbrev pub digest_of_some : Option CheckedMessage → Option Digest
digest_of_some None = None
digest_of_some (Some m) = digest_in m.message.body

abbrev pub digest_here : Slot → Option Digest
digest_here s = digest_of_some s.pre_prepare

-- the PrePrepare names the digest
abbrev pub is_named : List ℕ → Slot → Bool
is_named digest s = is_digest digest (digest_here s)

-- the number that a message names
abbrev pub number_of_some : Option CheckedMessage → Option SeqNo
number_of_some None = None
number_of_some (Some m) = option_map (λ v. v.number) (vote_of m.message)

abbrev pub number_here : Slot → Option SeqNo
number_here s = number_of_some s.pre_prepare

abbrev pub is_certified_for : Configuration → ℕ → Slot → Option Digest → Bool
is_certified_for c view s None = false
is_certified_for c view s (Some digest) = certified c (λ i. true) (voted_for digest.0 s.prepares) view

abbrev pub is_certified_here : Configuration → ℕ → Slot → Bool
is_certified_here c view s = is_certified_for c view s (digest_here s)

abbrev pub is_committed_for : Configuration → ℕ → Slot → Option Digest → Bool
is_committed_for c view s None = false
is_committed_for c view s (Some digest) = is_certified_for c view s (Some digest) && has_quorum c (voted_for digest.0 s.commits)

abbrev pub is_committed_here : Configuration → ℕ → Slot → Bool
is_committed_here c view s = is_committed_for c view s (digest_here s)

abbrev pub certificate_with : Configuration → Slot → CheckedMessage → Digest → CheckedCertificate
certificate_with c s m digest = record {
  pre_prepare = m;
  prepares = record { config = c; messages = least_votes (2 * c.f) digest.0 s.prepares };
}

abbrev pub certificate_for : Configuration → Slot → Option CheckedMessage → Option Digest → Option CheckedCertificate
certificate_for c s (Some m) (Some digest) = Some (certificate_with c s m digest)
certificate_for c s (Some m) None = None
certificate_for c s None o = None

abbrev pub certificate_here : Configuration → ℕ → Slot → Option CheckedCertificate
certificate_here c view s = cond (is_certified_here c view s) (certificate_for c s s.pre_prepare (digest_here s)) None

-- ---- the slots of a number, by view

abbrev pub empty_slot : Slot
empty_slot = record { pre_prepare = None; prepares = replicate 10 None; commits = replicate 10 None }

abbrev pub slot_in : tree.BTreeMap ℕ Slot → ℕ → Slot
slot_in slots view = unwrap_or (tree.get nat_cmp slots view) empty_slot

-- The second has the slots of the first, but for this one at this view.
abbrev pub HasSlot : ℕ → Slot → tree.BTreeMap ℕ Slot → tree.BTreeMap ℕ Slot → Type 0
HasSlot view s old new = (v : ℕ) → slot_in new v ≡ cond (v == view) s (slot_in old v)

abbrev pub HaveSameSlots : tree.BTreeMap ℕ Slot → tree.BTreeMap ℕ Slot → Type 0
HaveSameSlots old new = (v : ℕ) → slot_in new v ≡ slot_in old v
