-- Statement: what a replica may do: one guard for each kind of act (Castro and Liskov, sections 4.2 to 4.4).
use Rattle.std.specs.Prelude.{◌≡◌, ◌⊎◌, ℕ, ◌+◌, ◌*◌, ◌<◌, ◌≤◌, ◌==◌, Bool, true, false, ◌||◌, ◌&&◌, not, List, [], ◌∷◌, Option, Some, None, MatchOption, length}
use Rattle.std.specs.List.{list_any}
use Rattle.pbft_model.specs.Words.{Reply, SigningState, Signed, Body, RequestBody, PrePrepare, Prepare, Commit, Checkpoint, ReplyBody, Snapshot, ViewChange, NewView, IsChecked, as_message}
use Rattle.pbft_codec.specs.declared.body.Body.TheVariants as bodies
use Rattle.pbft_model.specs.Sequential.{Service, Outcome, IsStep, IsSound, encoded, last_reply_of}
use Rattle.pbft_model.specs.Setup.{Setup, primary, replicas, span, signed_by, signer_after, is_least, gathered}
use Rattle.pbft_model.specs.Tables.{at, change_key, number_key, entries_in}
use Rattle.pbft_model.specs.Certificates.{Fields, of_pre_prepare, of_prepare, of_commit, voted, some_by, is_stable}
use Rattle.pbft_model.specs.Validity.{is_valid_new_view, given}
use Rattle.pbft_model.specs.Core.{Core, floor_in, is_prepared, is_committed, request_of, held_with, kept_on_leaving, next_number}
use Rattle.pbft_model.specs.Acts.{Act, Take, Timeout, Send, Relay, Enter, Rise, Execute, Install, is_awaited}

-- ---- the messages that a replica makes of what it keeps

-- The ViewChange for a view: the low mark with its proof, and every kept certificate, numbers ascending.
abbrev pub view_change_of : Setup → Core → ℕ → ViewChange
view_change_of c s view = record {
  view = record { 0 = view };
  low = record { 0 = s.low };
  checkpoints = s.proof;
  certificates = entries_in (kept_on_leaving c s);
}

abbrev pub change_of : Core → ℕ → Option (Signed ViewChange)
change_of s i = at s.changes (change_key s.view i)

-- whether replica i's ViewChange for this view is recorded
abbrev pub wants_view : Core → ℕ → Bool
wants_view s i = some_by i (λ v. v.view.0 == s.view) (change_of s i)

-- another's ViewChange for this view is recorded
abbrev pub other_wants : ℕ → Core → ℕ → Bool
other_wants me s i = not (i == me) && wants_view s i

abbrev pub is_chosen : Setup → ℕ → Core → ℕ → Bool
is_chosen c me s i = i == me || is_least (2 * c.config.f) (other_wants me s) i

-- The ViewChanges of an own NewView: its own and the 2f of least signers among the others, signers ascending.
abbrev pub chosen_changes : Setup → ℕ → Core → List (Signed ViewChange)
chosen_changes c me s = gathered (is_chosen c me s) (change_of s) (replicas c.config)

abbrev pub pre_prepare_of : Fields → PrePrepare
pre_prepare_of x = record { view = record { 0 = x.view }; number = record { 0 = x.number }; digest = record { 0 = x.digest } }

-- PrePrepares of these fields, each signed with the next leaf
abbrev pub signed_list : SigningState → ℕ → List Fields → List (Signed PrePrepare)
signed_list signer me [] = []
signed_list signer me (x ∷ xs) = signed_by bodies.PrePrepare signer me (pre_prepare_of x) ∷ signed_list (signer_after signer 1) me xs

-- The NewView for the replica's view: the ViewChanges chosen, and a PrePrepare for each number that they give.
abbrev pub new_view_of : Setup → ℕ → Core → NewView
new_view_of c me s = record {
  view = record { 0 = s.view };
  changes = chosen_changes c me s;
  pre_prepares = signed_list s.signer me (given c s.view (chosen_changes c me s));
}

-- how many leaves are taken before an own message's own
abbrev pub leaves_before : Body → ℕ
leaves_before (bodies.NewView b) = length b.pre_prepares
leaves_before _ = 0

abbrev pub own_message : Core → ℕ → Body → Signed Body
own_message s me body = signed_by (λ b. b) (signer_after s.signer (leaves_before body)) me body

-- ---- what an own message may say

-- the service's reply in a Reply
abbrev pub reply_in : ReplyBody → Reply
reply_in b = record { client = b.client; time = b.time; number = b.number; result = b.result }

-- Inside the active view, above its floor and between the marks.
pub record IsInside (c : Setup) (s : Core) (view number : ℕ) : Type 0 where
  pub active : s.active ≡ true
  pub view_is : view ≡ s.view
  pub above_floor : floor_in s < number
  pub above_low : s.low < number
  pub up_to_high : number ≤ s.low + span c.config

-- The view's primary proposes at the next number.
pub record MayPropose (c : Setup) (me : ℕ) (s : Core) (b : PrePrepare) : Type 0 where
  pub inside : IsInside c s b.view.0 b.number.0
  pub leads : (primary c.config s.view == me) ≡ true
  pub next : b.number.0 ≡ next_number s

-- A backup agrees with the recorded proposal, once for each number.
pub record MayPrepare (c : Setup) (me : ℕ) (s : Core) (b : Prepare) : Type 0 where
  pub inside : IsInside c s b.view.0 b.number.0
  pub follows : (primary c.config s.view == me) ≡ false
  pub proposed : voted of_pre_prepare s.pre_prepares (of_prepare b) (primary c.config b.view.0) ≡ true
  pub once : list_any (λ n. n == b.number.0) s.prepared_numbers ≡ false

-- A Commit is for what is prepared, once for each number.
pub record MayCommit (c : Setup) (s : Core) (b : Commit) : Type 0 where
  pub inside : IsInside c s b.view.0 b.number.0
  pub prepared : is_prepared c s (of_commit b) ≡ true
  pub once : list_any (λ n. n == b.number.0) s.committed_numbers ≡ false

-- A Reply names the present view, and is that of the number just executed or a client's last one.
pub record MayReply (s : Core) (b : ReplyBody) : Type 0 where
  pub view_is : b.view.0 ≡ s.view
  pub answers : (s.reply_due ≡ Some (reply_in b)) ⊎ ((client : ℕ) × (last_reply_of s.service client ≡ Some (reply_in b)))

-- A Checkpoint is of the state after the number just executed.
pub record MayCheckpoint (c : Setup) (s : Core) (b : Checkpoint) : Type 0 where
  pub due : s.checkpoint_due ≡ true
  pub number_is : b.number.0 ≡ s.executed
  pub digest_is : b.digest.0 ≡ c.hash (encoded s.service)

-- A ViewChange leaves the view for a higher one, and reports all.
pub record MayChange (c : Setup) (s : Core) (b : ViewChange) : Type 0 where
  pub higher : s.view < b.view.0
  pub reports_all : b ≡ view_change_of c s b.view.0

-- The primary of the view that it changes to opens it, by a valid NewView.
pub record MayOpen (c : Setup) (me : ℕ) (s : Core) (b : NewView) : Type 0 where
  pub changing : s.active ≡ false
  pub leads : (primary c.config s.view == me) ≡ true
  pub is : b ≡ new_view_of c me s
  pub valid : is_valid_new_view c b ≡ true

-- A Snapshot is one that is kept.
pub record MaySupply (s : Core) (b : Snapshot) : Type 0 where
  pub kept : at s.snapshots (number_key b.number.0) ≡ Some b.state

abbrev pub MaySay : Setup → ℕ → Core → Body → Type 0
MaySay c me s (bodies.Request b) = ⊥
MaySay c me s (bodies.PrePrepare b) = MayPropose c me s b
MaySay c me s (bodies.Prepare b) = MayPrepare c me s b
MaySay c me s (bodies.Commit b) = MayCommit c s b
MaySay c me s (bodies.Reply b) = MayReply s b
MaySay c me s (bodies.Checkpoint b) = MayCheckpoint c s b
MaySay c me s (bodies.ViewChange b) = MayChange c s b
MaySay c me s (bodies.NewView b) = MayOpen c me s b
MaySay c me s (bodies.Fetch b) = Unit {0}
MaySay c me s (bodies.Snapshot b) = MaySupply s b

-- ---- reading a state

-- The bytes are the canonical encoding of this state, at this number, under the configuration.
pub record IsStateAt (c : Setup) (number : ℕ) (bytes : List ℕ) (state : Service) : Type 0 where
  pub config_is : state.config ≡ c.config
  pub number_is : state.number ≡ number
  pub encodes : encoded state ≡ bytes
  pub sound : IsSound state

-- What a Snapshot reads as: the state that its bytes encode at its number, if there is one.
abbrev pub IsReadingOf : Setup → Snapshot → Option Service → Type 0
IsReadingOf c b reading =
    MatchOption reading ((state : Service) → IsStateAt c b.number.0 b.state state → ⊥) (λ state. IsStateAt c b.number.0 b.state state)

abbrev pub IsReading : Setup → Body → Option Service → Type 0
IsReading c (bodies.Snapshot b) reading = IsReadingOf c b reading
IsReading c _ reading = reading ≡ None

-- ---- the guards

-- Messages are taken that were opened: all parts have listed signers, the right roles and valid signatures.
pub record MayTake (c : Setup) (m : Signed Body) (reading : Option Service) : Type 0 where
  pub opened : IsChecked (record { config = c.config; message = m })
  pub reads : IsReading c m.body reading

pub record MaySend (c : Setup) (me : ℕ) (s : Core) (m : Signed Body) : Type 0 where
  pub signed : m ≡ own_message s me m.body
  pub says : MaySay c me s m.body

-- A held request is passed on.
pub record MayRelay (c : Setup) (s : Core) (m : Signed Body) : Type 0 where
  pub digest : List ℕ
  pub request : Signed RequestBody
  pub held : held_with c s.held digest ≡ Some request
  pub is : m ≡ as_message bodies.Request request

-- A view is entered by a valid NewView just taken, for a higher view or the one that the replica changes to.
pub record MayEnter (c : Setup) (s : Core) (m : Signed NewView) : Type 0 where
  pub taken : s.taken ≡ Some (as_message bodies.NewView m)
  pub awaited : is_awaited s m.body.view.0 ≡ true
  pub valid : is_valid_new_view c m.body ≡ true

-- The low mark rises to a stable number that was executed with that digest.
pub record MayRise (c : Setup) (s : Core) (number : ℕ) (digest : List ℕ) : Type 0 where
  pub above : s.low < number
  pub reached : number ≤ s.executed
  pub stable : is_stable c.config s.checkpoints number digest ≡ true
  pub bytes : List ℕ
  pub kept : at s.snapshots (number_key number) ≡ Some bytes
  pub digest_is : digest ≡ c.hash bytes

-- The next number is executed where it is committed-local in the active view.
pub record MayExecute (c : Setup) (s : Core) (number : ℕ) (digest : List ℕ) (service : Service) (outcome : Outcome) : Type 0 where
  pub active : s.active ≡ true
  pub next : number ≡ s.executed + 1
  pub committed : is_committed c s (record { view = s.view; number = number; digest = digest }) ≡ true
  pub step : IsStep s.service (request_of c s digest) service outcome

-- A Snapshot just taken is installed whose bytes have a stable digest and read as a state at its number.
pub record MayInstall (c : Setup) (s : Core) (number : ℕ) (bytes : List ℕ) (service : Service) : Type 0 where
  pub above : s.executed < number
  pub stable : is_stable c.config s.checkpoints number (c.hash bytes) ≡ true
  pub message : Signed Snapshot
  pub taken : s.taken ≡ Some (as_message bodies.Snapshot message)
  pub bytes_are : message.body.state ≡ bytes
  pub reads : IsStateAt c number bytes service

-- What a replica may do.
abbrev pub Allowed : Setup → ℕ → Core → Act → Type 0
Allowed c me s (Take m reading) = MayTake c m reading
Allowed c me s Timeout = Unit {0}
Allowed c me s (Send to m) = MaySend c me s m
Allowed c me s (Relay to m) = MayRelay c s m
Allowed c me s (Enter m) = MayEnter c s m
Allowed c me s (Rise number digest) = MayRise c s number digest
Allowed c me s (Execute number digest service outcome) = MayExecute c s number digest service outcome
Allowed c me s (Install number bytes service) = MayInstall c s number bytes service
