-- Statement: what a replica sends again where messages are lost: its own votes and Checkpoints above its low water mark (Castro and
-- Liskov 1999, section 4.3), what it said of its view or a later one, and each last answer and question that no later one stands for.
use Rattle.std.specs.Prelude.{ℕ, ◌==◌, ◌++◌, Bool, true, false, ◌&&◌, not, nat_lt, nat_le, List, [], ◌∷◌, Option, Some, None, if◌then◌else◌, position, slice_set, bytes_eq}
use Rattle.std.specs.List.{filter}
use Rattle.sha2.specs.Sha256.{sha256}
use Rattle.pbft_codec.specs.Encoding.{signed_text}
use Rattle.pbft_codec.specs.declared.body.Body.{Body}
use Rattle.pbft_codec.specs.declared.body.Body.TheVariants.{Request, PrePrepare, Prepare, Commit, Reply, Checkpoint, ViewChange, NewView, Fetch, Snapshot}
use Rattle.pbft_codec.specs.declared.body.fetch.Fetch.TheVariants as fetches
use Rattle.seal.specs.Opening.{CheckedMessage}
use Rattle.driver_notes.specs.declared.repeats.Subject.{Subject}
use Rattle.driver_notes.specs.declared.repeats.Subject.TheVariants as subjects

-- What a contract sees of what is sent again.
pub record RepeatsFacts : Type 0 where
  -- where the replica stands: its low mark, the last number that it executed, its view
  pub low : ℕ
  pub executed : ℕ
  pub view : ℕ
  pub kept : List CheckedMessage

abbrev pub none_kept : RepeatsFacts
none_kept = record { low = 0; executed = 0; view = 0; kept = [] }

-- ---- what is sent again by a replica that stands so

abbrev pub is_wanted : ℕ → ℕ → ℕ → Body → Bool
is_wanted low executed view (PrePrepare p) = nat_lt low p.number.0 && nat_le view p.view.0
is_wanted low executed view (Prepare p) = nat_lt low p.number.0 && nat_le view p.view.0
is_wanted low executed view (Commit p) = nat_lt low p.number.0 && nat_le view p.view.0
is_wanted low executed view (Checkpoint c) = nat_lt low c.number.0
is_wanted low executed view (ViewChange v) = nat_le view v.view.0
is_wanted low executed view (NewView v) = nat_le view v.view.0
is_wanted low executed view (Fetch (fetches.State number)) = nat_lt executed number.0
is_wanted low executed view (Fetch (fetches.Request digest)) = true
is_wanted low executed view (Reply r) = true
is_wanted low executed view (Request r) = false
is_wanted low executed view (Snapshot s) = false

abbrev pub is_wanted_in : ℕ → ℕ → ℕ → CheckedMessage → Bool
is_wanted_in low executed view m = is_wanted low executed view m.message.body

-- ---- which message stands for another

-- a vote is about its view and its number, a Reply about its client; of all else the last one counts
abbrev pub about : Body → Subject
about (Request r) = subjects.Request
about (PrePrepare p) = subjects.PrePrepare p.view p.number
about (Prepare p) = subjects.Prepare p.view p.number
about (Commit p) = subjects.Commit p.view p.number
about (Reply r) = subjects.Reply r.client
about (Checkpoint c) = subjects.Checkpoint c.number
about (ViewChange v) = subjects.ViewChange
about (NewView v) = subjects.NewView
about (Fetch (fetches.Request digest)) = subjects.FetchedRequest
about (Fetch (fetches.State number)) = subjects.FetchedState
about (Snapshot s) = subjects.Snapshot

abbrev pub is_same : Subject → Subject → Bool
is_same subjects.Request subjects.Request = true
is_same (subjects.PrePrepare v n) (subjects.PrePrepare w m) = (v.0 == w.0) && (n.0 == m.0)
is_same (subjects.Prepare v n) (subjects.Prepare w m) = (v.0 == w.0) && (n.0 == m.0)
is_same (subjects.Commit v n) (subjects.Commit w m) = (v.0 == w.0) && (n.0 == m.0)
is_same (subjects.Reply c) (subjects.Reply d) = c.0 == d.0
is_same (subjects.Checkpoint n) (subjects.Checkpoint m) = n.0 == m.0
is_same subjects.ViewChange subjects.ViewChange = true
is_same subjects.NewView subjects.NewView = true
is_same subjects.FetchedRequest subjects.FetchedRequest = true
is_same subjects.FetchedState subjects.FetchedState = true
is_same subjects.Snapshot subjects.Snapshot = true
is_same _ _ = false

abbrev pub is_about : Subject → CheckedMessage → Bool
is_about other m = is_same (about m.message.body) other

-- in the place of the first that is about the same, or behind all
abbrev placed : Option ℕ → List CheckedMessage → CheckedMessage → List CheckedMessage
placed None kept m = kept ++ m ∷ []
placed (Some place) kept m = slice_set kept place m

-- what is kept once the replica has said this
abbrev pub noted : RepeatsFacts → CheckedMessage → RepeatsFacts
noted r m =
    if is_wanted_in r.low r.executed r.view m
    then record r { kept = placed (position (is_about (about m.message.body)) r.kept) r.kept m }
    else r

-- ---- the replica goes on

-- It asks for the request with this digest.
abbrev asks : List ℕ → Body → Bool
asks digest (Fetch (fetches.Request wanted)) = bytes_eq wanted.0 digest
asks digest _ = false

abbrev pub asks_for : List ℕ → CheckedMessage → Bool
asks_for digest m = asks digest m.message.body

-- what is kept once the replica has taken the request with this digest
abbrev pub answered : RepeatsFacts → List ℕ → RepeatsFacts
answered r digest = record r { kept = filter (λ m. not (asks_for digest m)) r.kept }

-- It is the NewView by which a replica has entered the view in which it stands.
abbrev pub is_entered : ℕ → Bool → Body → Bool
is_entered view active (NewView v) = active && (v.view.0 == view)
is_entered view active _ = false

abbrev entered : RepeatsFacts → CheckedMessage → ℕ → Bool → RepeatsFacts
entered r m view active = if is_entered view active m.message.body then noted r m else r

-- what is kept once the replica has taken this message and stands in this view
abbrev pub taken : RepeatsFacts → CheckedMessage → ℕ → Bool → RepeatsFacts
taken r m view active = answered (entered r m view active) (sha256 (signed_text m.message))

-- what is kept once the replica has this low mark, has executed up to this number, and has this view
abbrev pub moved : RepeatsFacts → ℕ → ℕ → ℕ → RepeatsFacts
moved r low executed view =
    record { low = low; executed = executed; view = view; kept = filter (is_wanted_in low executed view) r.kept }
