-- Statement: what a replica does, and what it keeps after it.
use Rattle.std.specs.Prelude.{ℕ, ◌+◌, ◌%◌, ◌==◌, Bool, true, false, ◌&&◌, ◌||◌, not, cond, nat_lt, nat_le, List, [], ◌∷◌, ◌++◌, map, filter, length, Option, Some, None, is_some}
use Rattle.std.specs.List.{flat_map}
use Rattle.pbft_model.specs.Words.{Signed, Body, RequestBody, PrePrepare, Prepare, Commit, Checkpoint, ViewChange, NewView}
use Rattle.pbft_codec.specs.declared.body.Body.TheVariants as bodies
use Rattle.pbft_codec.specs.declared.body.fetch.Fetch.{Fetch}
use Rattle.pbft_codec.specs.declared.body.fetch.Fetch.TheVariants as fetches
use Rattle.pbft_model.specs.Sequential.{Service, Outcome, encoded}
use Rattle.pbft_model.specs.Setup.{Setup, digest_of, signer_after}
use Rattle.pbft_model.specs.Tables.{Table, Key, with_entry, add_if, keep, entries_in, vote_key, checkpoint_key, change_key, number_key, first_in, view_in, is_above}
use Rattle.pbft_model.specs.Certificates.{of_pre_prepare}
use Rattle.pbft_model.specs.Validity.{is_valid, is_valid_new_view, floor_of, top_of}
use Rattle.pbft_model.specs.Core.{Core, is_admitted, held_with, is_new, names, kept_on_leaving, proof_of}

pub data Destination : Type 0 where
  All : Destination
  ToReplica : ℕ → Destination
  ToClient : ℕ → Destination

pub data Act : Type 0 where
  -- a message is taken, with its reading as a state
  Take : Signed Body → Option Service → Act
  Timeout : Act
  -- an own message is sent; a ViewChange leaves the view, a NewView enters its own
  Send : Destination → Signed Body → Act
  -- another's message is passed on
  Relay : Destination → Signed Body → Act
  -- another's NewView is entered
  Enter : Signed NewView → Act
  -- the low mark rises to a stable number
  Rise : ℕ → List ℕ → Act
  -- a request is executed: number, digest, the state after it and its outcome
  Execute : ℕ → List ℕ → Service → Outcome → Act
  -- a snapshot is installed: number, bytes, and the state that they encode
  Install : ℕ → List ℕ → Service → Act

-- a message of one kind
abbrev pub with_body : {B : Type 0} → Signed Body → B → Signed B
with_body m body = record { role = m.role; id = m.id; body = body; sig = m.sig }

-- ---- recording

abbrev pub add_pre_prepare : Setup → Core → Signed PrePrepare → Table (Signed PrePrepare) → Table (Signed PrePrepare)
add_pre_prepare c s m table =
    add_if (is_admitted c s m.body.view.0 m.body.number.0) (vote_key m.body.number.0 m.body.view.0 m.id) m table

abbrev pub add_prepare : Setup → Core → Signed Prepare → Table (Signed Prepare) → Table (Signed Prepare)
add_prepare c s m table =
    add_if (is_admitted c s m.body.view.0 m.body.number.0) (vote_key m.body.number.0 m.body.view.0 m.id) m table

abbrev pub add_commit : Setup → Core → Signed Commit → Table (Signed Commit) → Table (Signed Commit)
add_commit c s m table =
    add_if (is_admitted c s m.body.view.0 m.body.number.0) (vote_key m.body.number.0 m.body.view.0 m.id) m table

abbrev pub add_checkpoint : ℕ → Signed Checkpoint → Table (Signed Checkpoint) → Table (Signed Checkpoint)
add_checkpoint low m table = add_if (nat_lt low m.body.number.0) (checkpoint_key m.body.number.0 m.id) m table

abbrev pub add_checkpoints : ℕ → List (Signed Checkpoint) → Table (Signed Checkpoint) → Table (Signed Checkpoint)
add_checkpoints low [] table = table
add_checkpoints low (m ∷ ms) table = add_checkpoints low ms (add_checkpoint low m table)

abbrev pub add_pre_prepares : Setup → Core → List (Signed PrePrepare) → Table (Signed PrePrepare) → Table (Signed PrePrepare)
add_pre_prepares c s [] table = table
add_pre_prepares c s (m ∷ ms) table = add_pre_prepares c s ms (add_pre_prepare c s m table)

-- A ViewChange is recorded for a view above the replica's, and for its view while it changes to it.
abbrev pub is_awaited : Core → ℕ → Bool
is_awaited s view = nat_lt s.view view || (view == s.view && not s.active)

abbrev pub add_change : Core → Bool → Signed ViewChange → Table (Signed ViewChange) → Table (Signed ViewChange)
add_change s valid m table = add_if (valid && is_awaited s m.body.view.0) (change_key m.body.view.0 m.id) m table

-- a request is kept by its digest, in the order of receipt
abbrev pub add_request : Setup → Signed RequestBody → List (Signed RequestBody) → List (Signed RequestBody)
add_request c m held = cond (is_some (held_with c held (digest_of c m))) held (held ++ m ∷ [])

-- What is recorded of a message.
abbrev pub recorded : Setup → Core → Signed Body → Body → Core
recorded c s m (bodies.Request b) = record s { held = add_request c (with_body m b) s.held }
recorded c s m (bodies.PrePrepare b) = record s { pre_prepares = add_pre_prepare c s (with_body m b) s.pre_prepares }
recorded c s m (bodies.Prepare b) = record s { prepares = add_prepare c s (with_body m b) s.prepares }
recorded c s m (bodies.Commit b) = record s { commits = add_commit c s (with_body m b) s.commits }
recorded c s m (bodies.Reply b) = s
recorded c s m (bodies.Checkpoint b) = record s { checkpoints = add_checkpoint s.low (with_body m b) s.checkpoints }
recorded c s m (bodies.ViewChange b) = record s {
  checkpoints = add_checkpoints s.low (cond (is_valid c b) b.checkpoints []) s.checkpoints;
  changes = add_change s (is_valid c b) (with_body m b) s.changes;
}
recorded c s m (bodies.NewView b) = record s {
  checkpoints = add_checkpoints s.low (cond (is_valid_new_view c b) (flat_map (λ v. v.body.checkpoints) b.changes) []) s.checkpoints;
}
recorded c s m (bodies.Fetch b) = s
recorded c s m (bodies.Snapshot b) = s

-- ---- views

-- The replica leaves its view for a higher one.
abbrev pub left_for : Setup → Core → ℕ → Core
left_for c s view = record s {
  view = view;
  active = false;
  basis = [];
  changes = keep (λ key. nat_le view (first_in key)) s.changes;
  kept = kept_on_leaving c s;
  proposed = [];
  prepared_numbers = [];
  committed_numbers = [];
  asked_requests = [];
}

-- if it is above the replica's own
abbrev pub left_if_above : Setup → Core → ℕ → Core
left_if_above c s view = cond (nat_lt s.view view) (left_for c s view) s

-- of the votes, those of this view above the floor and those of higher views
abbrev pub is_of_entered : ℕ → ℕ → Key → Bool
is_of_entered view floor key = nat_lt view (view_in key) || (view == view_in key && nat_lt floor (first_in key))

-- The replica is active in the view, with the floor that the NewView's ViewChanges give.
abbrev pub opened_by : Core → NewView → Core
opened_by s n = record s {
  view = n.view.0;
  active = true;
  basis = n.changes;
  pre_prepares = keep (is_of_entered n.view.0 (top_of n.changes)) s.pre_prepares;
  prepares = keep (is_of_entered n.view.0 (floor_of n.changes)) s.prepares;
  commits = keep (is_of_entered n.view.0 (floor_of n.changes)) s.commits;
  proposed = [];
  prepared_numbers = [];
  committed_numbers = [];
  asked_requests = [];
}

-- and the NewView's PrePrepares between the marks are recorded
abbrev pub with_list : Setup → Core → NewView → Core
with_list c s n = record s { pre_prepares = add_pre_prepares c s n.pre_prepares s.pre_prepares }

-- A view is entered (section 4.4): votes of lower views, and of this one at or below the floor, are dropped, and
-- its PrePrepares up to the top are the NewView's that lie between the marks.
abbrev pub entered : Setup → Core → NewView → Core
entered c s n = with_list c (opened_by (left_if_above c s n.view.0) n) n

-- ---- the low mark

abbrev pub still_held : Setup → Service → List (Signed PrePrepare) → List (Signed RequestBody) → List (Signed RequestBody)
still_held c service ms held = filter (λ m. is_new service m || names ms (digest_of c m)) held

-- All at or below a number is discarded, but the snapshot there. A request is forgotten whose time is not above its
-- client's last, unless a PrePrepare that stays names it.
abbrev pub discarded_to : Setup → Core → ℕ → List (Signed Checkpoint) → Core
discarded_to c s number proof = record s {
  low = number;
  proof = proof;
  pre_prepares = keep (is_above number) s.pre_prepares;
  prepares = keep (is_above number) s.prepares;
  commits = keep (is_above number) s.commits;
  checkpoints = keep (is_above number) s.checkpoints;
  kept = keep (is_above number) s.kept;
  held = still_held c s.service (entries_in (keep (is_above number) s.pre_prepares)) s.held;
  proposed = filter (λ x. nat_lt number x.number) s.proposed;
  prepared_numbers = filter (nat_lt number) s.prepared_numbers;
  committed_numbers = filter (nat_lt number) s.committed_numbers;
  snapshots = keep (λ key. nat_le number (first_in key)) s.snapshots;
  asked_states = filter (nat_lt number) s.asked_states;
}

-- ---- own messages

-- how many leaves an own message takes
abbrev pub leaves_of : Body → ℕ
leaves_of (bodies.NewView b) = 1 + length b.pre_prepares
leaves_of _ = 1

-- what was asked for
abbrev pub asked : Core → Fetch → Core
asked s (fetches.Request digest) = record s { asked_requests = digest.0 ∷ s.asked_requests }
asked s (fetches.State number) = record s { asked_states = number.0 ∷ s.asked_states }

-- What follows from an own message: it is recorded as it is sent, and what was done is noted.
abbrev pub said : Setup → Core → Signed Body → Body → Core
said c s m (bodies.Request b) = s
said c s m (bodies.PrePrepare b) = record s {
  pre_prepares = add_pre_prepare c s (with_body m b) s.pre_prepares;
  proposed = of_pre_prepare b ∷ s.proposed;
}
said c s m (bodies.Prepare b) = record s {
  prepares = add_prepare c s (with_body m b) s.prepares;
  prepared_numbers = b.number.0 ∷ s.prepared_numbers;
}
said c s m (bodies.Commit b) = record s {
  commits = add_commit c s (with_body m b) s.commits;
  committed_numbers = b.number.0 ∷ s.committed_numbers;
}
said c s m (bodies.Reply b) = record s { reply_due = None }
said c s m (bodies.Checkpoint b) = record s { checkpoints = add_checkpoint s.low (with_body m b) s.checkpoints; checkpoint_due = false }
said c s m (bodies.ViewChange b) =
    let t = left_for c s b.view.0 in
    record t { changes = add_change t true (with_body m b) t.changes }
said c s m (bodies.NewView b) =
    let t = entered c s b in
    record t { proposed = map (λ p. of_pre_prepare p.body) b.pre_prepares }
said c s m (bodies.Fetch b) = asked s b
said c s m (bodies.Snapshot b) = s

-- an act was done: what is asked as a message comes is asked no more
abbrev pub acted : Core → Core
acted s = record s { is_fresh = false; timed_out = false }

abbrev pub signed_once_more : Core → Body → Core
signed_once_more s body = record s { signer = signer_after s.signer (leaves_of body) }

-- The core after an act.
abbrev pub after : Setup → Core → Act → Core
after c s (Take m reading) =
    let t = recorded c s m m.body in
    record t { taken = Some m; reading = reading; is_fresh = true; timed_out = false }
after c s Timeout = record s { taken = None; reading = None; is_fresh = false; timed_out = true }
after c s (Send to m) = acted (signed_once_more (said c s m m.body) m.body)
after c s (Relay to m) = acted s
after c s (Enter m) = acted (entered c s m.body)
after c s (Rise number digest) = acted (discarded_to c s number (proof_of c s number digest))
after c s (Execute number digest service outcome) =
    let is_multiple = number % c.config.k == 0 in
    acted (record s {
      executed = number;
      service = service;
      reply_due = outcome.reply;
      checkpoint_due = is_multiple;
      snapshots = cond is_multiple (with_entry s.snapshots (number_key number) (encoded service)) s.snapshots;
    })
after c s (Install number bytes service) =
    let t = record s {
      executed = number;
      service = service;
      reading = None;
      reply_due = None;
      checkpoint_due = false;
      snapshots = with_entry s.snapshots (number_key number) bytes;
    } in
    acted (discarded_to c t number (proof_of c s number (c.hash bytes)))
