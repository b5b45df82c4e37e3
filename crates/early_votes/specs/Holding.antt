-- Statement: votes that come early, for a number above a replica's high water mark (Castro and Liskov 1999, sections 4.2
-- and 4.3): which are kept, and which is handed in next.
use Rattle.std.specs.Prelude.{◌≡◌, ℕ, ◌+◌, ◌-◌, ◌*◌, ◌==◌, ◌++◌, Bool, true, false, ◌&&◌, not, nat_lt, nat_le, List, [], ◌∷◌, length, Option, Some, None, if◌then◌else◌}
use Rattle.std.specs.List.{AllByRecursion, filter, list_any}
use Rattle.host_types.specs.Configuration.{Configuration, replicas_for}
use Rattle.seal.specs.Opening.{CheckedMessage}
use Rattle.seal.specs.Votes.{vote_of}
use Rattle.seal.specs.declared.vote.Vote.{Vote}
use Rattle.seal.specs.declared.vote.VoteKind.{VoteKind}
use Rattle.seal.specs.declared.vote.VoteKind.TheVariants.{PrePrepare, Prepare, Commit}

-- What a contract sees of the votes that are kept for a replica.
pub record HeldFacts : Type 0 where
  pub config : Configuration
  -- the replica's low mark and its view
  pub low : ℕ
  pub view : ℕ
  -- in the order in which they came
  pub votes : List CheckedMessage

abbrev pub none_held : Configuration → HeldFacts
none_held c = record { config = c; low = 0; view = 0; votes = [] }

-- how many numbers lie between the low and the high water mark
abbrev pub between_marks : Configuration → ℕ
between_marks c = 2 * c.k

-- what passes is a vote, and its vote passes
abbrev pub vote_passes : (Vote → Bool) → Option Vote → Bool
vote_passes test None = false
vote_passes test (Some v) = test v

abbrev pub is_vote : (Vote → Bool) → CheckedMessage → Bool
is_vote test m = vote_passes test (vote_of m.message)

-- ---- when a vote is early

-- The number lies above the high mark: the replica would not record the vote.
abbrev pub is_above : HeldFacts → Vote → Bool
is_above h v = nat_lt (between_marks h.config) (v.number.0 - h.low)

abbrev pub is_early : HeldFacts → CheckedMessage → Bool
is_early h = is_vote (is_above h)

-- ---- which votes are kept

-- It is of the replica's view or the next one.
abbrev pub is_near_view : HeldFacts → Vote → Bool
is_near_view h v = nat_le h.view v.view.0 && nat_le v.view.0 (h.view + 1)

-- Its number is at most as far above the high mark as that is above the low one.
abbrev pub is_near_number : HeldFacts → Vote → Bool
is_near_number h v = nat_le (v.number.0 - h.low) (2 * between_marks h.config)

abbrev pub is_kind : VoteKind → VoteKind → Bool
is_kind PrePrepare PrePrepare = true
is_kind Prepare Prepare = true
is_kind Commit Commit = true
is_kind _ _ = false

-- The votes are of one kind, view, number and signer: for a replica the first one counts.
abbrev pub is_at : Vote → Vote → Bool
is_at u v = is_kind u.kind v.kind && ((u.view.0 == v.view.0) && ((u.number.0 == v.number.0) && (u.signer.0 == v.signer.0)))

-- how many are kept at most: of two views, three kinds and each signer, for as many numbers as lie between the marks
abbrev pub most_held : Configuration → ℕ
most_held c = 6 * between_marks c * replicas_for c.f

abbrev pub is_to_keep : HeldFacts → Vote → Bool
is_to_keep h v =
    is_above h v && ((is_near_number h v && is_near_view h v) && not (list_any (is_vote (is_at v)) h.votes))

-- what is kept once a message has come
abbrev pub kept : HeldFacts → CheckedMessage → HeldFacts
kept h m = if is_vote (is_to_keep h) m && nat_lt (length h.votes) (most_held h.config) then record h { votes = h.votes ++ m ∷ [] } else h

-- ---- the replica goes on

-- The replica, at this mark and view, may still record the vote.
abbrev pub is_awaited : ℕ → ℕ → Vote → Bool
is_awaited low view v = nat_lt low v.number.0 && nat_le view v.view.0

-- what is kept once the replica has this low mark and this view
abbrev pub moved : HeldFacts → ℕ → ℕ → HeldFacts
moved h low view = record h { low = low; view = view; votes = filter (is_vote (is_awaited low view)) h.votes }

-- ---- what is handed in

-- It is on time, the first that is; the others stay, in their order.
pub record TakesOut (h : HeldFacts) (m : CheckedMessage) (t : HeldFacts) : Type 0 where
  pub earlier : List CheckedMessage
  pub later : List CheckedMessage
  pub votes_are : h.votes ≡ earlier ++ m ∷ later
  pub all_early : AllByRecursion (λ e. is_early h e ≡ true) earlier
  pub on_time : is_early h m ≡ false
  pub rest : t ≡ record h { votes = earlier ++ later }

-- what is handed in next: nothing, where all are early
abbrev pub HandsIn : HeldFacts → Option CheckedMessage → HeldFacts → Type 0
HandsIn h None t = AllByRecursion (λ e. is_early h e ≡ true) h.votes × (t ≡ h)
HandsIn h (Some m) t = TakesOut h m t
