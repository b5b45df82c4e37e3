-- What is recorded for one number in one view, after one more vote.
use Rattle.std.proofs.Common.{◌≡◌, ◌≢◌, ℕ, Bool, true, false, cond, List, Option, Some, None, refl, sym, ap, subst, ◌∙◌, ◌⊎◌, inl, inr}
use Rattle.std.specs.Prelude.{is_some, length, replicate, Result, Ok, Err, IfErr}
use Rattle.std.proofs.lemmas.Bool.{cases_eq, cases_lt}
use Rattle.std.proofs.lemmas.List.{get_or-set_other, length-set}
use Rattle.std.specs.Option.{unwrap_or}
use Rattle.std.specs.Result.{IsErrAnd}
use Rattle.quorum_log.specs.declared.fault.LogFault.{LogFault}
use Rattle.quorum_log.specs.declared.fault.LogFault.TheVariants.{Memory}
use Rattle.host_types.specs.Configuration.{Configuration}
use Rattle.seal.specs.Opening.{CheckedMessage}
use Rattle.seal.specs.declared.vote.VoteKind.{VoteKind}
use Rattle.seal.specs.declared.vote.VoteKind.TheVariants.{PrePrepare, Prepare, Commit}
use Rattle.quorum_log.specs.declared.slot.Slot.{Slot}
use Rattle.ballots.specs.Ballots.{Ballot, vote_at, recorded, is_for_other, first_of}
use Rattle.quorum_log.specs.Slots.{IsVoteAt, AreVotesAt, IsSlotAt, IsRefusal, met_by, with_vote, empty_slot}
use Rattle.ballots.proofs.Ballots.{nobody, own_vote}

pub no_other : (digest : List ℕ) (kind : VoteKind) (signer : ℕ) → is_for_other digest (met_by kind signer empty_slot) ≡ false
no_other digest PrePrepare signer = refl
no_other digest Prepare signer = ap (is_for_other digest) (nobody 10 signer)
no_other digest Commit signer = ap (is_for_other digest) (nobody 10 signer)

-- no other where no slot is
pub no_other_in : (digest : List ℕ) (kind : VoteKind) (signer : ℕ) (o : Option Slot) → o ≡ None → is_for_other digest (met_by kind signer (unwrap_or o empty_slot)) ≡ false
no_other_in digest kind signer None e = no_other digest kind signer
no_other_in digest kind signer (Some s) e = absurd cc

memory_is : (fault : LogFault) (other : Bool) → fault ≡ Memory → other ≡ false → IsRefusal other fault
memory_is fault other e none = subst (IsRefusal other) (sym e) none

pub refused : {A : Type 0} (r : Result A LogFault) (other : Bool) → IsErrAnd r (λ fault. fault ≡ Memory) → other ≡ false → IfErr r (IsRefusal other)
refused (Ok x) other e none = tt
refused (Err fault) other e none = memory_is fault other e none

-- ---- each vote stays at its view and number

votes_none : (c : Configuration) (kind : VoteKind) (view number : ℕ) → AreVotesAt c kind view number (replicate 10 None)
votes_none c kind view number signer m e = absurd (none_is (nobody 10 signer) e) where
  none_is : {o : Option CheckedMessage} → o ≡ None → o ≡ Some m → ⊥
  none_is f e = absurd cc

pub slot_none : (c : Configuration) (view number : ℕ) → IsSlotAt c view number empty_slot
slot_none c view number = record {
  pre_prepare = λ m e. absurd cc;
  prepares = votes_none c Prepare view number;
  commits = votes_none c Commit view number;
  ten = (refl, refl);
}

votes_recorded : (c : Configuration) (kind : VoteKind) (view number : ℕ) (votes : Ballot) (m : CheckedMessage) → AreVotesAt c kind view number votes → IsVoteAt c kind view number m → AreVotesAt c kind view number (recorded votes m)
votes_recorded c kind view number votes m h is signer other e = step (cases_eq signer m.message.id) where
  step : (signer ≡ m.message.id) ⊎ (signer ≢ m.message.id) → IsVoteAt c kind view number other × (other.message.id ≡ signer)
  step (inl at) =
      let same = own_vote votes m other (ap (vote_at (recorded votes m)) (sym at) ∙ e) (cases_lt m.message.id (length votes)) in
      (subst (IsVoteAt c kind view number) same is, ap (λ k. k.message.id) (sym same) ∙ sym at)
  step (inr ne) = h signer other (sym (get_or-set_other votes m.message.id signer (Some m) None ne) ∙ e)

votes_first : (c : Configuration) (kind : VoteKind) (view number : ℕ) (votes : Ballot) (m : CheckedMessage) (voted : Bool) → AreVotesAt c kind view number votes → IsVoteAt c kind view number m → AreVotesAt c kind view number (cond voted votes (recorded votes m))
votes_first c kind view number votes m true h is = h
votes_first c kind view number votes m false h is = votes_recorded c kind view number votes m h is

as_long : (votes : Ballot) (m : CheckedMessage) (voted : Bool) → length (cond voted votes (recorded votes m)) ≡ length votes
as_long votes m true = refl
as_long votes m false = length-set votes m.message.id (Some m)

first_is : (c : Configuration) (view number : ℕ) (o : Option CheckedMessage) (m : CheckedMessage) → ((x : CheckedMessage) → o ≡ Some x → IsVoteAt c PrePrepare view number x) → IsVoteAt c PrePrepare view number m
    → (x : CheckedMessage) → first_of m o ≡ Some x → IsVoteAt c PrePrepare view number x
first_is c view number None m h is x e = subst (IsVoteAt c PrePrepare view number) (the_same e) is where
  the_same : Some m ≡ Some x → m ≡ x
  the_same e = cc
first_is c view number (Some first) m h is x e = h x e

pub slot_after : (c : Configuration) (view number : ℕ) (kind : VoteKind) (s : Slot) (m : CheckedMessage) → IsSlotAt c view number s → IsVoteAt c kind view number m → IsSlotAt c view number (with_vote kind m s)
slot_after c view number PrePrepare s m h is = record { pre_prepare = first_is c view number s.pre_prepare m h.pre_prepare is; prepares = h.prepares; commits = h.commits; ten = h.ten }
slot_after c view number Prepare s m h is = record { pre_prepare = h.pre_prepare; prepares = votes_first c Prepare view number s.prepares m (is_some (vote_at s.prepares m.message.id)) h.prepares is; commits = h.commits; ten = (as_long s.prepares m (is_some (vote_at s.prepares m.message.id)) ∙ h.ten.0, h.ten.1) }
slot_after c view number Commit s m h is = record { pre_prepare = h.pre_prepare; prepares = h.prepares; commits = votes_first c Commit view number s.commits m (is_some (vote_at s.commits m.message.id)) h.commits is; ten = (h.ten.0, as_long s.commits m (is_some (vote_at s.commits m.message.id)) ∙ h.ten.1) }
