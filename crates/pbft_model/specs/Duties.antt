-- Statement: what a replica must do next. The first item that is due is done, and the list begins anew.
use Rattle.std.specs.Prelude.{◌≡◌, ℕ, ◌+◌, ◌==◌, Bool, true, ◌&&◌, not, nat_lt, nat_le, List, [], ◌∷◌, filter, find, min, Option, Some, None, bytes_eq, if◌then◌else◌}
use Rattle.std.specs.List.{list_any}
use Rattle.pbft_model.specs.Words.{Signed, Body, RequestBody, PrePrepare, Checkpoint, Snapshot, ViewChange, Reply, Fetch, as_message}
use Rattle.pbft_codec.specs.declared.body.Body.TheVariants as bodies
use Rattle.pbft_codec.specs.declared.body.fetch.Fetch.TheVariants as fetches
use Rattle.pbft_model.specs.Sequential.{Service, encoded, last_reply_of}
use Rattle.pbft_model.specs.Setup.{Setup, primary, replicas, span, count, digest_of, view_limit, number_limit}
use Rattle.pbft_model.specs.Tables.{Table, at, number_key, entries_in, first_in}
use Rattle.pbft_model.specs.Certificates.{of_pre_prepare, is_by, is_stable, has_quorum}
use Rattle.pbft_model.specs.Validity.{is_valid_new_view}
use Rattle.pbft_model.specs.Core.{Core, inside, is_known, is_new, held_with, is_committed, pre_prepare_at, prepared_at, next_number, is_proposed, if_passes}
use Rattle.pbft_model.specs.Acts.{Act, Send, Relay, Enter, Rise, Install, Destination, All, ToReplica, ToClient, with_body, is_awaited}
use Rattle.pbft_model.specs.Rules.{view_change_of, wants_view, new_view_of, own_message, pre_prepare_of}

-- A duty: an act, or to execute a number with a digest; or it wants a view or a number that is not there.
pub data Duty : Type 0 where
  Do : Act → Duty
  Executing : ℕ → List ℕ → Duty
  WornOut : Duty

-- this one, or else the next
abbrev pub or_else : Option Duty → Option Duty → Option Duty
or_else None next = next
or_else (Some duty) next = Some duty

abbrev pub when : Bool → Duty → Option Duty
when test duty = if test then Some duty else None

abbrev pub say : ℕ → Core → Destination → Body → Duty
say me s to body = Do (Send to (own_message s me body))

-- the first of the numbers for which there is a duty
abbrev pub first_for : (ℕ → Option Duty) → List ℕ → Option Duty
first_for duty [] = None
first_for duty (n ∷ ns) = or_else (duty n) (first_for duty ns)

-- ---- what an act or a timeout leaves to do at once

-- To change to a view: a ViewChange to all.
abbrev pub change_to : Setup → ℕ → Core → ℕ → Duty
change_to c me s view = say me s All (bodies.ViewChange (view_change_of c s view))

-- Timeout: change to the next view.
abbrev pub due_on_timeout : Setup → ℕ → Core → Option Duty
due_on_timeout c me s =
    if s.timed_out then Some (if s.view + 1 == view_limit then WornOut else change_to c me s (s.view + 1)) else None

abbrev pub reply_body : ℕ → Reply → Body
reply_body view reply =
    bodies.Reply (record { view = record { 0 = view }; client = reply.client; time = reply.time; number = reply.number; result = reply.result })

-- the reply of the number just executed
abbrev pub due_reply : ℕ → Core → Option Reply → Option Duty
due_reply me s None = None
due_reply me s (Some reply) = Some (say me s (ToClient reply.client.0) (reply_body s.view reply))

-- the Checkpoint of the number just executed
abbrev pub due_checkpoint : Setup → ℕ → Core → Option Duty
due_checkpoint c me s =
    when s.checkpoint_due
    (say me s All (bodies.Checkpoint (record { number = record { 0 = s.executed }; digest = record { 0 = c.hash (encoded s.service) } })))

-- ---- 1: the Request just taken has its client's last time

abbrev pub answer_again : ℕ → Core → Signed Body → RequestBody → Option Reply → Option Duty
answer_again me s m b None = None
answer_again me s m b (Some last) = when (last.time == b.time) (say me s (ToClient m.id) (reply_body s.view last))

abbrev pub answer_to_request : ℕ → Core → Signed Body → Body → Option Duty
answer_to_request me s m (bodies.Request b) = answer_again me s m b (last_reply_of s.service m.id)
answer_to_request me s m _ = None

-- ---- 2: the Fetch just taken names a request that is held, or a snapshot that is kept

abbrev pub pass_on : Signed Body → Option (Signed RequestBody) → Option Duty
pass_on m None = None
pass_on m (Some request) = Some (Do (Relay (ToReplica m.id) (as_message bodies.Request request)))

abbrev pub supply : ℕ → Core → Signed Body → ℕ → Option (List ℕ) → Option Duty
supply me s m number None = None
supply me s m number (Some bytes) =
    Some (say me s (ToReplica m.id) (bodies.Snapshot (record { number = record { 0 = number }; state = bytes })))

abbrev pub answer_fetched : Setup → ℕ → Core → Signed Body → Fetch → Option Duty
answer_fetched c me s m (fetches.Request digest) = pass_on m (held_with c s.held digest.0)
answer_fetched c me s m (fetches.State number) = supply me s m number.0 (at s.snapshots (number_key number.0))

abbrev pub answer_to_fetch : Setup → ℕ → Core → Signed Body → Body → Option Duty
answer_to_fetch c me s m (bodies.Fetch b) = answer_fetched c me s m b
answer_to_fetch c me s m _ = None

-- ---- 3: the NewView just taken is valid and for a view that the replica awaits: enter it

abbrev pub enter_by : Setup → Core → Signed Body → Body → Option Duty
enter_by c s m (bodies.NewView b) = when (is_awaited s b.view.0 && is_valid_new_view c b) (Do (Enter (with_body m b)))
enter_by c s m _ = None

-- ---- 4: the Snapshot just taken is above what was executed, has a stable digest and reads as a state: install it

abbrev pub install_read : Setup → Core → Snapshot → Option Service → Option Duty
install_read c s b None = None
install_read c s b (Some state) =
    when (nat_lt s.executed b.number.0 && is_stable c.config s.checkpoints b.number.0 (c.hash b.state)) (Do (Install b.number.0 b.state state))

abbrev pub install_from : Setup → Core → Signed Body → Body → Option Duty
install_from c s m (bodies.Snapshot b) = install_read c s b s.reading
install_from c s m _ = None

-- a duty that the message just taken gives
abbrev pub on_taken : (Signed Body → Body → Option Duty) → Option (Signed Body) → Option Duty
on_taken duty None = None
on_taken duty (Some m) = duty m m.body

abbrev pub due_answer : ℕ → Core → Option Duty
due_answer me s = if s.is_fresh then on_taken (answer_to_request me s) s.taken else None

abbrev pub due_supply : Setup → ℕ → Core → Option Duty
due_supply c me s = if s.is_fresh then on_taken (answer_to_fetch c me s) s.taken else None

abbrev pub due_enter : Setup → Core → Option Duty
due_enter c s = on_taken (enter_by c s) s.taken

abbrev pub due_install : Setup → Core → Option Duty
due_install c s = on_taken (install_from c s) s.taken

-- ---- 5: a number above the low mark, not above what was executed, is stable with the digest of the snapshot kept there

abbrev pub may_rise : Setup → Core → ℕ → List ℕ → Bool
may_rise c s number digest =
    nat_lt s.low number && (nat_le number s.executed && is_stable c.config s.checkpoints number digest)

abbrev pub rise_with : Setup → Core → ℕ → Option (List ℕ) → Option Duty
rise_with c s number None = None
rise_with c s number (Some bytes) = when (may_rise c s number (c.hash bytes)) (Do (Rise number (c.hash bytes)))

-- the greatest such number: the snapshots' numbers ascend
abbrev pub rise_among : Setup → Core → Table (List ℕ) → Option Duty
rise_among c s [] = None
rise_among c s (e ∷ es) = or_else (rise_among c s es) (rise_with c s (first_in e.0) (at s.snapshots (number_key (first_in e.0))))

abbrev pub due_rise : Setup → Core → Option Duty
due_rise c s = rise_among c s s.snapshots

-- ---- 6: active primary: the first request that is new and not proposed gets the next number, if it is inside the marks

abbrev pub leads : Setup → ℕ → Core → Bool
leads c me s = primary c.config s.view == me

abbrev pub propose : Setup → ℕ → Core → Option (Signed RequestBody) → Option Duty
propose c me s None = None
propose c me s (Some m) =
    let number = next_number s in
    if nat_le number (s.low + span c.config)
    then Some (if number == number_limit then WornOut
    else say me s All (bodies.PrePrepare (pre_prepare_of (record { view = s.view; number = number; digest = digest_of c m }))))
    else None

abbrev pub due_propose : Setup → ℕ → Core → Option Duty
due_propose c me s =
    if s.active && leads c me s
    then propose c me s (find (λ m. is_new s.service m && not (is_proposed s (digest_of c m))) s.held)
    else None

-- ---- 7: active backup: Prepare at the lowest number whose recorded PrePrepare names a request that is held or null

abbrev pub among : List ℕ → ℕ → Bool
among ns number = list_any (λ n. n == number) ns

abbrev pub agree : ℕ → Core → Option (Signed PrePrepare) → Option Duty
agree me s None = None
agree me s (Some m) =
    Some (say me s All (bodies.Prepare (record { view = m.body.view; number = m.body.number; digest = m.body.digest })))

abbrev pub prepare_for : Setup → ℕ → Core → ℕ → Option Duty
prepare_for c me s number =
    if among s.prepared_numbers number then None
    else agree me s (if_passes (λ m. is_known c s m.body.digest.0) (pre_prepare_at c s s.view number))

abbrev pub due_prepare : Setup → ℕ → Core → Option Duty
due_prepare c me s = if s.active && not (leads c me s) then first_for (prepare_for c me s) (inside c s) else None

-- ---- 8: active: Commit at the lowest number that is prepared

abbrev pub commit_to : ℕ → Core → Option (Signed PrePrepare) → Option Duty
commit_to me s None = None
commit_to me s (Some m) =
    Some (say me s All (bodies.Commit (record { view = m.body.view; number = m.body.number; digest = m.body.digest })))

abbrev pub commit_for : Setup → ℕ → Core → ℕ → Option Duty
commit_for c me s number = if among s.committed_numbers number then None else commit_to me s (prepared_at c s number)

abbrev pub due_commit : Setup → ℕ → Core → Option Duty
due_commit c me s = if s.active then first_for (commit_for c me s) (inside c s) else None

-- ---- 9: active, and the number after the last executed is committed-local: execute it

abbrev pub execute_at : ℕ → Option (Signed PrePrepare) → Option Duty
execute_at number None = None
execute_at number (Some m) = Some (Executing number m.body.digest.0)

abbrev pub due_execute : Setup → Core → Option Duty
due_execute c s =
    if s.active
    then execute_at (s.executed + 1) (if_passes (λ m. is_committed c s (of_pre_prepare m.body)) (pre_prepare_at c s s.view (s.executed + 1)))
    else None

-- ---- 10: ViewChanges of f + 1 different others for higher views: change to the smallest of those views

abbrev pub higher_changes : ℕ → Core → List (Signed ViewChange)
higher_changes me s = filter (λ m. nat_lt s.view m.body.view.0 && not (m.id == me)) (entries_in s.changes)

abbrev pub least_view : List (Signed ViewChange) → ℕ → ℕ
least_view [] least = least
least_view (m ∷ ms) least = least_view ms (min m.body.view.0 least)

abbrev pub join : Setup → ℕ → Core → List (Signed ViewChange) → Option Duty
join c me s [] = None
join c me s (m ∷ ms) =
    when (nat_le (c.config.f + 1) (count (λ i. list_any (is_by i (λ v. true)) (m ∷ ms)) (replicas c.config))) (change_to c me s (least_view ms m.body.view.0))

abbrev pub due_join : Setup → ℕ → Core → Option Duty
due_join c me s = join c me s (higher_changes me s)

-- ---- 11: changing to a view as its primary, with ViewChanges of a quorum, its own among them: send NewView and enter it

abbrev pub due_open : Setup → ℕ → Core → Option Duty
due_open c me s =
    when (not s.active && (leads c me s && (wants_view s me && has_quorum c.config (wants_view s)))) (say me s All (bodies.NewView (new_view_of c me s)))

-- ---- 12: fetch the snapshot of the greatest stable number above what was executed, once; and the request of a recorded
-- PrePrepare of the active view that is not held, once

abbrev pub is_stable_entry : Setup → Core → Signed Checkpoint → Bool
is_stable_entry c s m = nat_lt s.executed m.body.number.0 && is_stable c.config s.checkpoints m.body.number.0 m.body.digest.0

abbrev pub greatest_stable : Setup → Core → List (Signed Checkpoint) → ℕ
greatest_stable c s [] = 0
greatest_stable c s (m ∷ ms) =
    let rest = greatest_stable c s ms in if is_stable_entry c s m && nat_lt rest m.body.number.0 then m.body.number.0 else rest

abbrev pub due_fetch_state : Setup → ℕ → Core → Option Duty
due_fetch_state c me s =
    let number = greatest_stable c s (entries_in s.checkpoints) in
    when (nat_lt 0 number && not (among s.asked_states number)) (say me s All (bodies.Fetch (fetches.State (record { 0 = number }))))

abbrev pub is_lacking : Setup → Core → Signed PrePrepare → Bool
is_lacking c s m =
    not (is_known c s m.body.digest.0) && not (list_any (λ d. bytes_eq d m.body.digest.0) s.asked_requests)

abbrev pub ask_for : ℕ → Core → Option (Signed PrePrepare) → Option Duty
ask_for me s None = None
ask_for me s (Some m) = Some (say me s All (bodies.Fetch (fetches.Request m.body.digest)))

abbrev pub due_fetch_request : Setup → ℕ → Core → Option Duty
due_fetch_request c me s =
    if s.active
    then first_for (λ number. ask_for me s (if_passes (is_lacking c s) (pre_prepare_at c s s.view number))) (inside c s)
    else None

-- ---- the first that is due

abbrev pub due : Setup → ℕ → Core → Option Duty
due c me s =
    or_else (due_on_timeout c me s)
    (or_else (due_reply me s s.reply_due)
    (or_else (due_checkpoint c me s)
    (or_else (due_answer me s)
    (or_else (due_supply c me s)
    (or_else (due_enter c s)
    (or_else (due_install c s)
    (or_else (due_rise c s)
    (or_else (due_propose c me s)
    (or_else (due_prepare c me s)
    (or_else (due_commit c me s)
    (or_else (due_execute c s)
    (or_else (due_join c me s)
    (or_else (due_open c me s)
    (or_else (due_fetch_state c me s)
    (due_fetch_request c me s)))))))))))))))

-- None of the duties that come before to execute is due.
pub record NothingBefore (c : Setup) (me : ℕ) (s : Core) : Type 0 where
  pub timeout : due_on_timeout c me s ≡ None
  pub reply : due_reply me s s.reply_due ≡ None
  pub checkpoint : due_checkpoint c me s ≡ None
  pub answer : due_answer me s ≡ None
  pub supply : due_supply c me s ≡ None
  pub enter : due_enter c s ≡ None
  pub install : due_install c s ≡ None
  pub rise : due_rise c s ≡ None
  pub propose : due_propose c me s ≡ None
  pub prepare : due_prepare c me s ≡ None
  pub commit : due_commit c me s ≡ None
