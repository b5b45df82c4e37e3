-- Internal: what each duty of the code means: the duty of the protocol's core.
use Rattle.std.specs.Prelude.{◌≡◌, ℕ, ◌+◌, ◌==◌, ◌&&◌, Option, Some, None, IsSome, is_some, nat_lt}
use Rattle.std.specs.Option.{option_map}
use Rattle.pbft_codec.specs.declared.body.Body.TheVariants as bodies
use Rattle.pbft_codec.specs.declared.body.fetch.Fetch.TheVariants as fetches
use Rattle.pbft_model.specs.Acts.{All, ToClient, ToReplica, Relay, Rise}
use Rattle.pbft_model.specs.Core.{Core, held_with, if_passes, pre_prepare_at}
use Rattle.pbft_model.specs.Duties as model
use Rattle.pbft_model.specs.Duties.{Do, Executing, WornOut, ask_for, change_to, due, due_answer, due_checkpoint, due_commit, due_enter, due_execute, due_install, due_on_timeout, due_open, due_prepare, due_propose, due_reply, due_supply, greatest_stable, is_lacking, or_else, reply_body, say, when}
use Rattle.pbft_model.specs.Rules.{pre_prepare_of}
use Rattle.pbft_model.specs.Sequential.{encoded, last_reply_of}
use Rattle.pbft_model.specs.Setup.{Setup, number_limit, setup_of}
use Rattle.pbft_model.specs.Tables.{at, entries_in, number_key}
use Rattle.seal.specs.Parts.{as_message}
use Rattle.replica_core.specs.Replicas.{KeptReplica}
use Rattle.replica_core.specs.declared.duties.Duty.{Duty}
use Rattle.replica_core.specs.declared.duties.Duty.TheVariants as duties

abbrev pub meaning : Setup → ℕ → Core → Duty → Option model.Duty
meaning c me s (duties.ChangeTo view) = Some (change_to c me s view.0)
meaning c me s duties.Reply = due_reply me s s.reply_due
meaning c me s duties.Checkpoint =
    Some (say me s All (bodies.Checkpoint (record { number = record { 0 = s.executed }; digest = record { 0 = c.hash (encoded s.service) } })))
meaning c me s (duties.AnswerAgain client) =
    option_map (λ last. say me s (ToClient client.0) (reply_body s.view last)) (last_reply_of s.service client.0)
meaning c me s (duties.Relay digest asker) =
    option_map (λ request. Do (Relay (ToReplica asker.0) (as_message bodies.Request request))) (held_with c s.held digest.0)
meaning c me s (duties.Supply number asker) =
    option_map (λ bytes. say me s (ToReplica asker.0) (bodies.Snapshot (record { number = number; state = bytes }))) (at s.snapshots (number_key number.0))
meaning c me s duties.Enter = due_enter c s
meaning c me s duties.Install = due_install c s
meaning c me s (duties.Rise number digest) = Some (Do (Rise number.0 digest.0))
meaning c me s (duties.Propose number digest) =
    when (nat_lt number.0 number_limit) (say me s All (bodies.PrePrepare (pre_prepare_of (record { view = s.view; number = number.0; digest = digest.0 }))))
meaning c me s (duties.Prepare number digest) =
    Some (say me s All (bodies.Prepare (record { view = record { 0 = s.view }; number = number; digest = digest })))
meaning c me s (duties.Commit number digest) =
    Some (say me s All (bodies.Commit (record { view = record { 0 = s.view }; number = number; digest = digest })))
meaning c me s (duties.Execute number digest) =
    when (number.0 == s.executed + 1 && is_some (due_execute c s)) (Executing number.0 digest.0)
meaning c me s duties.Open = due_open c me s
meaning c me s (duties.FetchState number) =
    when (number.0 == greatest_stable c s (entries_in s.checkpoints)) (say me s All (bodies.Fetch (fetches.State number)))
meaning c me s (duties.FetchRequest digest) = Some (say me s All (bodies.Fetch (fetches.Request digest)))
meaning c me s duties.WornOut = Some WornOut

-- What was found is what the core's is: nothing where it has nothing.
abbrev pub Means : Setup → ℕ → Core → Option model.Duty → Option Duty → Type 0
Means c me s is None = is ≡ None
Means c me s is (Some duty) = (is ≡ meaning c me s duty) × IsSome is

-- The first duty that is due is this.
abbrev pub IsDue : Setup → ℕ → Core → Option Duty → Type 0
IsDue c me s found = Means c me s (due c me s) found

-- ---- the list in parts

abbrev pub Cause : Type 0
Cause = Setup → ℕ → Core → Option model.Duty

-- what a timeout or an execution leaves to do
abbrev pub at_once : Cause
at_once c me s = or_else (due_on_timeout c me s) (or_else (due_reply me s s.reply_due) (due_checkpoint c me s))

-- what the message just taken gives
abbrev pub by_taken : Cause
by_taken c me s = or_else (due_answer me s) (or_else (due_supply c me s) (or_else (due_enter c s) (due_install c s)))

-- what is due only in a view that the replica is active in
abbrev pub in_view : Cause
in_view c me s = or_else (due_propose c me s) (or_else (due_prepare c me s) (or_else (due_commit c me s) (due_execute c s)))

-- the request that lacks at a number
abbrev pub fetch_for : Setup → ℕ → Core → ℕ → Option model.Duty
fetch_for c me s number = ask_for me s (if_passes (is_lacking c s) (pre_prepare_at c s s.view number))

-- What a replica found is what is due for this cause.
abbrev pub Finds : KeptReplica → Cause → Option Duty → Type 0
Finds k cause found = Means (setup_of k.config) k.me k.core (cause (setup_of k.config) k.me k.core) found
