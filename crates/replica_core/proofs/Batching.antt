-- Executions that are reported one after another when all of them are done: each is the act that is due.
use Rattle.std.proofs.Common.{◌≡◌, ℕ, suc, ◌+◌, ◌%◌, ◌<◌, ◌≤◌, ◌^◌, Bool, true, false, ◌&&◌, cond, List, [], ◌∷◌, ◌++◌, length, map, drop, get_or, drop-cons, Option, Some, None, refl, sym, ap, subst, ◌∙◌, arith}
use Rattle.std.specs.Prelude.{◌==◌, IfSome, IsSome, is_some}
use Rattle.std.proofs.lemmas.Bool.{and_parts, false≢true}
use Rattle.std.specs.List.{All}
use Rattle.std.proofs.Math.Seq.{drop-length}
use Rattle.std.proofs.lemmas.List.{length-map, length_push}
use Rattle.std.proofs.lemmas.List.Elements.{All-cons, All-nil}
use Rattle.service_model.proofs.Bounds.{step_bounded}
use Rattle.service_model.specs.Bounded.{IsBounded}
use Rattle.host_types.specs.Configuration.{Configuration, IsConfiguration}
use Rattle.host_types.specs.declared.Digest.{Digest}
use Rattle.host_types.specs.declared.SeqNo.{SeqNo}
use Rattle.lms_tree.specs.Keys.{leaf_count}
use Rattle.lms_tree.specs.SigningState.{SigningState}
use Rattle.host_types.specs.declared.request.Request.{Request}
use Rattle.service_model.specs.Steps.{Follows, IsStep}
use Rattle.pbft_model.specs.Acts.{Act, acted, after}
use Rattle.pbft_model.specs.Core.{Core, request_of}
use Rattle.pbft_model.specs.Duties.{Duty, Executing, NothingBefore, due, due_execute}
use Rattle.pbft_model.specs.Ending.{left_to_do}
use Rattle.pbft_model.specs.Rows as model
use Rattle.pbft_model.specs.Rows.{Executed, Follows as Reacts, FollowsWithout, Fulfils, HasLeaves, Lacks, RepliesAlone, done_of, leaves_for, outputs_of, result_of}
use Rattle.pbft_model.specs.Sequential.{IsSound, Outcome, Service, encoded}
use Rattle.pbft_model.specs.Setup.{Setup, signer_after, view_limit, setup_of}
use Rattle.pbft_model.specs.Tables.{Table, number_key, with_entry}
use Rattle.pbft_model.specs.Together.{AreExecutions, Execution, IsExecution, act_of}
use Rattle.pbft_model.specs.Words.{Reply}
use Rattle.pbft_model.proofs.Ending.{less_to_do}
use Rattle.pbft_model.proofs.Events.{low_reached}
use Rattle.pbft_model.proofs.Following.{alone, replied}
use Rattle.replica_core.specs.Batching.{ComesTo, Ends, IsBatch, IsExecuting, IsNext, IsReady, IsReporting, ahead, state_after}
use Rattle.replica_core.specs.Doing.{IsShortOf, SendsOwed, act_done, reply_act, reported}
use Rattle.replica_core.specs.Meanings.{IsDue}
use Rattle.replica_core.specs.Replicas.{KeptReplica}
use Rattle.replica_core.specs.Settling.{Comes, HaltsAfter, IsAfter, IsHaltedAt, IsReached}
use Rattle.replica_core.specs.declared.duties.Duty.TheVariants as duties
use Rattle.replica_core.specs.declared.halt.Halt.{Halt}
use Rattle.replica_core.specs.declared.halt.Halt.TheVariants as halts
use Rattle.replica_core.proofs.Asking.{allowed, low_number, passed, sound}
use Rattle.replica_core.proofs.Ceasing.{halts_here, still_reached}
use Rattle.replica_core.proofs.Committing.{AreAll, executes_alone, execute_due, executions, next_due, some_there}
use Rattle.replica_core.proofs.Fulfilling.{no_more}
use Rattle.replica_core.proofs.Growing.{after_more, no_acts}
use Rattle.replica_core.proofs.Performing.{step_keeps, step_owed_of}

-- ---- an execution leaves the next one due, or its reply and then that

-- the core after an execution or its reply
abbrev left : Core → ℕ → Service → Option Reply → Bool → Table (List ℕ) → SigningState → Core
left s number service reply b snapshots signer =
    record s {
      executed = number;
      service = service;
      reply_due = reply;
      checkpoint_due = b;
      snapshots = snapshots;
      is_fresh = false;
      timed_out = false;
      signer = signer;
    }

-- what may be executed behind it is what could be before
moved : (c : Setup) (s : Core) (number : ℕ) (service : Service) (reply : Option Reply) (b : Bool) (snapshots : Table (List ℕ)) (signer : SigningState)
    → (before : Service) (executed : ℕ) (x : Execution) (xs : List Execution)
    → AreExecutions c s before executed x xs → AreExecutions c (left s number service reply b snapshots signer) before executed x xs
moved c s number service reply b snapshots signer before executed x [] h = record { next = h.next; committed = h.committed; step = h.step }
moved c s number service reply b snapshots signer before executed x (y ∷ ys) h =
    (record { next = h.0.next; committed = h.0.committed; step = h.0.step }, h.1, moved c s number service reply b snapshots signer x.service x.number y ys h.2)

first_of : (c : Setup) (s : Core) (before : Service) (executed : ℕ) (x : Execution) (xs : List Execution) → AreExecutions c s before executed x xs → IsExecution c s before executed x
first_of c s before executed x [] h = h
first_of c s before executed x (y ∷ ys) h = h.0

module _ (c : Setup) (me : ℕ) (s : Core) (reached : IsReached c me s) where
  behind_alone : (x : Execution) → FollowsWithout c me s x.number x.digest x.service x.outcome → x.outcome.reply ≡ None → NothingBefore c me (after c s (act_of x))
  behind_alone x h e =
      subst (λ (t : Core). FollowsWithout c me t x.number x.digest x.service x.outcome → NothingBefore c me (after c t (act_of x))) reached.here
      (λ f. alone c me reached.signer reached.acts reached.history x.number x.digest x.service x.outcome f e) h

  behind_replied : (x : Execution) (reply : Reply) → FollowsWithout c me s x.number x.digest x.service x.outcome → x.outcome.reply ≡ Some reply → RepliesAlone c me (after c s (act_of x)) reply
  behind_replied x reply h e =
      subst (λ (t : Core). FollowsWithout c me t x.number x.digest x.service x.outcome → RepliesAlone c me (after c t (act_of x)) reply) reached.here
      (λ f. replied c me reached.signer reached.acts reached.history x.number x.digest x.service x.outcome f reply e) h

  ready_after : (x : Execution) (xs : List Execution) → s.active ≡ true → AreExecutions c s s.service s.executed x xs → due c me s ≡ Some (Executing x.number x.digest) → IsReady c me (after c s (act_of x)) xs
  ready_after x [] active h e = tt
  ready_after x (y ∷ ys) active h e = (active, later, next x.outcome.reply refl) where
    one : Core
    one = after c s (act_of x)

    later : AreExecutions c (after c s (act_of x)) x.service x.number y ys
    later = moved c s x.number x.service x.outcome.reply (x.number % c.config.k == 0) (cond (x.number % c.config.k == 0) (with_entry s.snapshots (number_key x.number) (encoded x.service)) s.snapshots) s.signer x.service x.number y ys h.2

    without : FollowsWithout c me s x.number x.digest x.service x.outcome
    without = record { is_due = e; step = h.0.step; between = h.1 }

    next : (o : Option Reply) → x.outcome.reply ≡ o → IsNext c me (after c s (act_of x)) o y
    next None f =
        let first = first_of c (after c s (act_of x)) x.service x.number y ys later in
        next_due c me (after c s (act_of x)) y.number y.digest (behind_alone x without f) active first.next first.committed
    next (Some reply) f = behind_replied x reply without f

-- ---- one act more

one_act : (k : KeptReplica) (a : Act) → Fulfils (setup_of k.config) k.core (due (setup_of k.config) k.me k.core) a → HasLeaves k.core a → IsAfter k (a ∷ []) (act_done k a)
one_act k a does leaves = record {
  config = refl;
  me = refl;
  follows = (does, leaves, refl);
  outputs = ap (λ xs. k.outputs ++ xs) (no_more (outputs_of a));
  done = ap (λ xs. k.done ++ xs) (no_more (done_of (setup_of k.config) a));
  leaves = omega arith;
}

module _ (k : KeptReplica) (many : ℕ) (at : KeptReplica) (upto : ComesTo k many at) where
  reached_at : IsReached (setup_of at.config) at.me at.core
  reached_at = still_reached k at upto.acts upto.reached upto.after

  legal_at : IsConfiguration at.config
  legal_at = subst IsConfiguration (sym upto.after.config) upto.legal

  viewed_at : at.core.view < view_limit
  viewed_at = subst (λ (n : ℕ). n < view_limit) (sym upto.view) upto.viewed

  low_at : at.core.low ≤ at.core.executed
  low_at = subst (λ (x : Core). x.low ≤ x.executed) reached_at.here (low_reached (setup_of at.config) at.me reached_at.signer reached_at.acts reached_at.history)

  further : (a : Act) (more : ℕ) → Fulfils (setup_of at.config) at.core (due (setup_of at.config) at.me at.core) a → HasLeaves at.core a → (after (setup_of at.config) at.core a).view ≡ at.core.view
      → more ≤ many + 1 → ComesTo k more (act_done at a)
  further a more does leaves view few =
      let ok = allowed (setup_of at.config) at.me at.core legal_at reached_at a does in
      let less = less_to_do (setup_of at.config) at.me at.core a low_at (low_number (setup_of at.config) at.me at.core legal_at reached_at) viewed_at ok does leaves in
      let long = length_push upto.acts a in
      let enough = upto.reported in
      let fewer = upto.fewer in
      record {
        legal = upto.legal;
        reached = upto.reached;
        viewed = upto.viewed;
        acts = upto.acts ++ a ∷ [];
        reported = omega (arith, long, enough, few);
        after = after_more k at (act_done at a) upto.acts (a ∷ []) upto.after (one_act at a does leaves);
        view = view ∙ upto.view;
        fewer = omega (arith, long, less, fewer);
      }

-- ---- the reply that is owed is sent

-- The execution is due, and the replica has the state after it and those behind it.
pub record IsDueNow (k u : KeptReplica) (many : ℕ) (x : Execution) (xs : List Execution) : Type 0 where
  pub at : KeptReplica
  pub upto : ComesTo k many at
  pub number_is : at.core.executed ≡ at.core.service.number
  pub active : at.core.active ≡ true
  pub are : AreExecutions (setup_of at.config) at.core at.core.service at.core.executed x xs
  pub due_is : due (setup_of at.config) at.me at.core ≡ Some (Executing x.number x.digest)
  pub here : u ≡ ahead (state_after x.service xs) at

module _ (k : KeptReplica) (many : ℕ) (at : KeptReplica) (upto : ComesTo k many at) (number_is : at.core.executed ≡ at.core.service.number) (x : Execution) (xs : List Execution)
    (active : at.core.active ≡ true) (are : AreExecutions (setup_of at.config) at.core at.core.service at.core.executed x xs) where
  abbrev c : Setup
  c = setup_of at.config

  abbrev state : Service
  state = state_after x.service xs

  with_none : (u : KeptReplica) → IsNext c at.me at.core None x → u ≡ ahead state at → IsDueNow k u many x xs
  with_none u next same = record { at = at; upto = upto; number_is = number_is; active = active; are = are; due_is = next; here = same }

  with_reply : (u : KeptReplica) (reply : Reply) → IsNext c at.me at.core (Some reply) x → HasLeaves (ahead state at).core (reply_act (ahead state at) reply) → u ≡ act_done (ahead state at) (reply_act (ahead state at) reply)
      → IsDueNow k u many x xs
  with_reply u reply next leaves same =
      let act : Act = reply_act at reply in
      let does : Fulfils c at.core (due c at.me at.core) act = subst (λ (o : Option Duty). Fulfils c at.core o act) (sym next.first) refl in
      let later : AreExecutions c (after c at.core act) at.core.service at.core.executed x xs = moved c at.core at.core.executed at.core.service None at.core.checkpoint_due at.core.snapshots (signer_after at.core.signer 1) at.core.service at.core.executed x xs are in
      let first = first_of c (after c at.core act) at.core.service at.core.executed x xs later in
      record {
        at = act_done at act;
        upto = further k many at upto act many does leaves refl (omega arith);
        number_is = number_is;
        active = active;
        are = later;
        due_is = next_due c at.me (after c at.core act) x.number x.digest next.then active first.next first.committed;
        here = same;
      }

  due_by : (t u : KeptReplica) (o : Option Reply) → t ≡ ahead state at → IsNext c at.me at.core o x → SendsOwed t o u → IsDueNow k u many x xs
  due_by t u None here next sent = with_none u next (sent ∙ here)
  due_by t u (Some reply) here next sent =
      let sends : SendsOwed (ahead state at) (Some reply) u = subst (λ (y : KeptReplica). SendsOwed y (Some reply) u) here sent in
      with_reply u reply next sends.0 sends.1

-- ---- the execution is reported

-- a state's bytes are kept at a multiple of the interval alone
snapshots_are : (c : Setup) (s : Core) (x : Execution) (xs : List Execution) → AreExecutions c s s.service s.executed x xs
    → cond (x.number % c.config.k == 0) (with_entry s.snapshots (number_key x.number) (encoded (state_after x.service xs))) s.snapshots
    ≡ cond (x.number % c.config.k == 0) (with_entry s.snapshots (number_key x.number) (encoded x.service)) s.snapshots
snapshots_are c s x [] are = refl
snapshots_are c s x (y ∷ ys) are = none (x.number % c.config.k == 0) are.1 where
  none : (b : Bool) → b ≡ false → cond b (with_entry s.snapshots (number_key x.number) (encoded (state_after y.service ys))) s.snapshots ≡ cond b (with_entry s.snapshots (number_key x.number) (encoded x.service)) s.snapshots
  none true e = absurd (false≢true (sym e))
  none false e = refl

abbrev noted : KeptReplica → KeptReplica
noted k = record k { core = acted k.core }

module _ (k u : KeptReplica) (many : ℕ) (x : Execution) (xs : List Execution) (now : IsDueNow k u many x xs) where
  abbrev it : KeptReplica
  it = now.at

  abbrev setup : Setup
  setup = setup_of now.at.config

  does_it : Fulfils setup it.core (due setup it.me it.core) (act_of x)
  does_it =
      let first = first_of setup it.core it.core.service it.core.executed x xs now.are in
      subst (λ (o : Option Duty). Fulfils setup it.core o (act_of x)) (sym now.due_is) (x.service, x.outcome, first.step, refl)

  same_there : noted (reported (ahead (state_after x.service xs) it) x.number x.digest x.outcome.reply) ≡ ahead (state_after x.service xs) (act_done it (act_of x))
  same_there =
      let e = snapshots_are setup it.core x xs now.are in
      let many' : it.leaves ≡ it.leaves + 0 = omega arith in
      λ i. record (ahead (state_after x.service xs) (act_done it (act_of x))) {
        core = record (ahead (state_after x.service xs) (act_done it (act_of x))).core { snapshots = e i };
        outputs = no_more it.outputs i;
        leaves = many' i;
      }

  pub one_reported : (w : KeptReplica) (left : ℕ) → w ≡ noted (reported u x.number x.digest x.outcome.reply) → w.core.signer.next_leaf + left ≡ leaf_count w.core.signer
      → (ds : List Digest) (os : List Outcome) → map (λ x. x.digest) xs ≡ map (λ d. d.0) ds → map (λ x. x.outcome) xs ≡ os → IsReporting k w (many + 1) ds os
  one_reported w left is leaves ds os digests outcomes =
      let here : w ≡ ahead (state_after x.service xs) (act_done it (act_of x)) = is ∙ ap (λ (y : KeptReplica). noted (reported y x.number x.digest x.outcome.reply)) now.here ∙ same_there in
      let signer : w.core.signer ≡ it.core.signer = ap (λ (y : KeptReplica). y.core.signer) here in
      let next : w.core.signer.next_leaf ≡ it.core.signer.next_leaf = ap (λ (y : SigningState). y.next_leaf) signer in
      let total : leaf_count w.core.signer ≡ leaf_count it.core.signer = ap leaf_count signer in
      let first = first_of setup it.core it.core.service it.core.executed x xs now.are in
      let raised = (step_keeps it.core.service (request_of setup it.core x.digest) x.service x.outcome first.step).1 in
      let behind = first.next in
      let before = now.number_is in
      record {
        at = act_done it (act_of x);
        upto = further k many it now.upto (act_of x) (many + 1) does_it (omega (arith, next, total, leaves)) refl (omega arith);
        number_is = omega (arith, raised, behind, before);
        rest = xs;
        digests_are = digests;
        outcomes_are = outcomes;
        ready = ready_after setup it.me it.core (reached_at k many it now.upto) x xs now.active now.are now.due_is;
        here = here;
      }

-- ---- a turn of the loop

-- an outcome has the number of its step
step_numbered : (s : Service) (request : Option Request) (t : Service) (o : Outcome) → IsStep s request t o → o.number.0 ≡ s.number + 1
step_numbered s None t o h = ap (λ (y : Outcome). y.number.0) h.1
step_numbered s (Some request) t o h = h.number_is

abbrev tail_of : {X : Type 0} → List X → List X
tail_of [] = []
tail_of (x ∷ xs) = xs

abbrev head_or : {X : Type 0} → X → List X → X
head_or y [] = y
head_or y (x ∷ xs) = x

-- There is an execution to report, with this digest and this outcome.
pub record Splits (rest : List Execution) (d : Digest) (ds : List Digest) (o : Outcome) (os : List Outcome) : Type 0 where
  pub x : Execution
  pub xs : List Execution
  pub is : rest ≡ x ∷ xs
  pub digest : x.digest ≡ d.0
  pub outcome : x.outcome ≡ o
  pub digests : map (λ x. x.digest) xs ≡ map (λ d. d.0) ds
  pub outcomes : map (λ x. x.outcome) xs ≡ os

splits : (rest : List Execution) (d : Digest) (ds : List Digest) (o : Outcome) (os : List Outcome) → map (λ x. x.digest) rest ≡ map (λ d. d.0) (d ∷ ds) → map (λ x. x.outcome) rest ≡ o ∷ os → Splits rest d ds o os
splits [] d ds o os e f = absurd cc
splits (x ∷ xs) d ds o os e f = record {
  x = x;
  xs = xs;
  is = refl;
  digest = ap (head_or []) e;
  outcome = ap (head_or o) f;
  digests = ap tail_of e;
  outcomes = ap tail_of f;
}

module _ (k t : KeptReplica) (many : ℕ) (d : Digest) (ds : List Digest) (o : Outcome) (os : List Outcome) (r : IsReporting k t many (d ∷ ds) (o ∷ os)) where
  split : Splits r.rest d ds o os
  split = splits r.rest d ds o os r.digests_are r.outcomes_are

  ready : IsReady (setup_of r.at.config) r.at.me r.at.core (split.x ∷ split.xs)
  ready = subst (IsReady (setup_of r.at.config) r.at.me r.at.core) split.is r.ready

  here : t ≡ ahead (state_after split.x.service split.xs) r.at
  here = r.here ∙ ap (λ (xs : List Execution). ahead (state_after r.at.core.service xs) r.at) split.is

  owed : t.core.reply_due ≡ r.at.core.reply_due
  owed = ap (λ (y : KeptReplica). y.core.reply_due) here

  due_now : (u : KeptReplica) → SendsOwed t t.core.reply_due u → IsDueNow k u many split.x split.xs
  due_now u sent =
      due_by k many r.at r.upto r.number_is split.x split.xs ready.0 ready.1 t u r.at.core.reply_due here ready.2
      (subst (λ (x : Option Reply). SendsOwed t x u) owed sent)

  -- The number that the outcome has is the execution's.
  number_of : (u : KeptReplica) (now : IsDueNow k u many split.x split.xs) → o.number.0 ≡ split.x.number
  number_of u now =
      let first = first_of (setup_of now.at.config) now.at.core now.at.core.service now.at.core.executed split.x split.xs now.are in
      let named = step_numbered now.at.core.service (request_of (setup_of now.at.config) now.at.core split.x.digest) split.x.service split.x.outcome first.step in
      let behind = first.next in
      let before = now.number_is in
      sym (ap (λ (y : Outcome). y.number.0) split.outcome) ∙ omega (arith, named, behind, before)

  pub turn : (u v w : KeptReplica) (left : ℕ) → SendsOwed t t.core.reply_due u → v ≡ reported u o.number.0 d.0 o.reply → w ≡ record v { core = acted v.core } → w.core.signer.next_leaf + left ≡ leaf_count w.core.signer
      → IsReporting k w (many + 1) ds os
  turn u v w left sent was is leaves =
      let now = due_now u sent in
      let named : reported u o.number.0 d.0 o.reply ≡ reported u split.x.number split.x.digest split.x.outcome.reply = λ i. reported u (number_of u now i) (sym split.digest i) (sym split.outcome i).reply in
      one_reported k u many split.x split.xs now w left (is ∙ ap noted (was ∙ named)) leaves ds os split.digests split.outcomes

  -- ---- a halt

  halts_there : (halt : Halt) → IsHaltedAt (setup_of r.at.config) r.at.me r.at.core halt → HaltsAfter k halt
  halts_there halt h =
      let after = r.upto.after in
      record {
        acts = r.upto.acts;
        last = r.at.core;
        follows = after.follows;
        halted = subst (λ (y : Configuration). IsHaltedAt (setup_of y) k.me r.at.core halt) after.config (subst (λ (y : ℕ). IsHaltedAt (setup_of r.at.config) y r.at.core halt) after.me h);
      }

  lacking : (reply : Reply) → RepliesAlone (setup_of r.at.config) r.at.me r.at.core reply → (halt : Halt) → IsShortOf (ahead (state_after split.x.service split.xs) r.at) 1 halt → IsHaltedAt (setup_of r.at.config) r.at.me r.at.core halt
  lacking reply alone halts.Exhausted short = subst (λ (o : Option Duty). Lacks r.at.core o model.Exhausted) (sym alone.first) short
  lacking reply alone halts.Memory short = tt
  lacking reply alone _ short = absurd short

  pub stopped : (halt : Halt) → IsSome t.core.reply_due × IsShortOf t 1 halt → HaltsAfter k halt
  stopped halt (some, short) = halts_there halt (cases r.at.core.reply_due refl) where
    short_at : IsShortOf (ahead (state_after split.x.service split.xs) r.at) 1 halt
    short_at = subst (λ (y : KeptReplica). IsShortOf y 1 halt) here short

    cases : (x : Option Reply) → r.at.core.reply_due ≡ x → IsHaltedAt (setup_of r.at.config) r.at.me r.at.core halt
    cases None e = absurd (false≢true (sym (ap is_some (owed ∙ e)) ∙ some))
    cases (Some reply) e = lacking reply (subst (λ (x : Option Reply). IsNext (setup_of r.at.config) r.at.me r.at.core x split.x) e ready.2) halt short_at

  pub stopped_for_memory : (halt : Halt) → halt ≡ halts.Memory → HaltsAfter k halt
  stopped_for_memory halt is = halts_there halt (subst (IsHaltedAt (setup_of r.at.config) r.at.me r.at.core) (sym is) tt)

-- the turn at an index
module _ (k t : KeptReplica) (ds : List Digest) (os : List Outcome) (n : ℕ) (d : Digest) (o : Outcome) (within : n < length ds) (even : length os ≡ length ds) (d_is : d ≡ get_or ds n d) (o_is : o ≡ get_or os n o)
    (r : IsReporting k t n (drop n ds) (drop n os)) where
  pub next_at : IsReporting k t n (d ∷ drop (n + 1) ds) (o ∷ drop (n + 1) os)
  next_at =
      let in_os : n < length os = omega (arith, within, even) in
      let next : suc n ≡ n + 1 = omega arith in
      let first : drop n ds ≡ d ∷ drop (n + 1) ds = drop-cons ds n d within ∙ (λ i. sym d_is i ∷ drop (next i) ds) in
      let second : drop n os ≡ o ∷ drop (n + 1) os = drop-cons os n o in_os ∙ (λ i. sym o_is i ∷ drop (next i) os) in
      subst (λ (xs : List Digest). IsReporting k t n xs (o ∷ drop (n + 1) os)) first (subst (λ (xs : List Outcome). IsReporting k t n (drop n ds) xs) second r)

  pub turn_at : (u v w : KeptReplica) (left m : ℕ) → m ≡ n + 1 → SendsOwed t t.core.reply_due u → v ≡ reported u o.number.0 d.0 o.reply → w ≡ record v { core = acted v.core } → w.core.signer.next_leaf + left ≡ leaf_count w.core.signer
      → IsReporting k w m (drop m ds) (drop m os)
  turn_at u v w left m next sent was is leaves =
      subst (λ (j : ℕ). IsReporting k w j (drop j ds) (drop j os)) (sym next) (turn k t n d (drop (n + 1) ds) o (drop (n + 1) os) next_at u v w left sent was is leaves)

  pub stopped_at : (halt : Halt) → IsSome t.core.reply_due × IsShortOf t 1 halt → HaltsAfter k halt
  stopped_at = stopped k t n d (drop (n + 1) ds) o (drop (n + 1) os) next_at

  pub out_of_memory_at : (halt : Halt) → halt ≡ halts.Memory → HaltsAfter k halt
  out_of_memory_at = stopped_for_memory k t n d (drop (n + 1) ds) o (drop (n + 1) os) next_at

pub at_first : (k t : KeptReplica) (ds : List Digest) (os : List Outcome) → IsReporting k t 0 ds os → IsReporting k t 0 (drop 0 ds) (drop 0 os)
at_first k t ds os r = r

pub at_last : (k t : KeptReplica) (ds : List Digest) (os : List Outcome) (n : ℕ) → n ≡ length ds → length os ≡ length ds → IsReporting k t n (drop n ds) (drop n os) → IsReporting k t (length ds) [] []
at_last k t ds os n all even r =
    let first : drop n ds ≡ [] = ap (λ (j : ℕ). drop j ds) all ∙ drop-length ds in
    let second : drop n os ≡ [] = ap (λ (j : ℕ). drop j os) (all ∙ sym even) ∙ drop-length os in
    subst (λ (j : ℕ). IsReporting k t j [] []) all (subst (λ (xs : List Digest). IsReporting k t n xs []) first (subst (λ (xs : List Outcome). IsReporting k t n (drop n ds) xs) second r))

-- ---- the end

pub all_reported : (k t : KeptReplica) (many : ℕ) → 0 < many → IsReporting k t many [] [] → Comes k t
all_reported k t many some r =
    let nothing : r.rest ≡ [] = none_left r.rest r.outcomes_are in
    let ahead_of_none : t ≡ ahead r.at.core.service r.at = r.here ∙ ap (λ (xs : List Execution). ahead (state_after r.at.core.service xs) r.at) nothing in
    let same : t ≡ r.at = ahead_of_none ∙ (λ i. record r.at { core = record r.at.core { executed = sym r.number_is i } }) in
    let enough = r.upto.reported in
    let fewer = r.upto.fewer in
    record {
      acts = r.upto.acts;
      after = subst (λ (y : KeptReplica). IsAfter k r.upto.acts y) (sym same) r.upto.after;
      less = subst (λ (y : KeptReplica). left_to_do y.core < left_to_do k.core) (sym same) (omega (arith, enough, fewer, some));
    } where
      none_left : (xs : List Execution) → map (λ x. x.outcome) xs ≡ [] → xs ≡ []
      none_left [] e = refl
      none_left (x ∷ xs) e = absurd cc

-- ---- the beginning

-- to execute is what the code found due
pub executing : (c : Setup) (me : ℕ) (s : Core) (number : SeqNo) (digest : Digest) → IsDue c me s (Some (duties.Execute number digest)) → IsExecuting c me s
executing c me s number digest d =
    let p = passed (number.0 == s.executed + 1 && is_some (due_execute c s)) (Executing number.0 digest.0) (due c me s) d.0 d.1 in
    (number.0, digest.0, p.1, (and_parts (number.0 == s.executed + 1) (is_some (due_execute c s)) p.0).1)

pub begins : (k : KeptReplica) → IsConfiguration k.config → IsReached (setup_of k.config) k.me k.core → k.core.view < view_limit → k.core.executed ≡ k.core.service.number
    → (t : KeptReplica) (ds : List Digest) (os : List Outcome) → IsExecuting (setup_of k.config) k.me k.core → IsBatch (setup_of k.config) k.core k.core.executed ds
    → Follows k.core.service (map (λ d. request_of (setup_of k.config) k.core d.0) ds) t.core.service os → t ≡ ahead t.core.service k → IsReporting k t 0 ds os
begins k legal reached viewed number_is t ds os (number, digest, due_is, some) batch follows here =
    let all = executions (setup_of k.config) k.core ds k.core.service k.core.executed os t.core.service batch follows in
    let alone = executes_alone (setup_of k.config) k.me k.core number digest due_is some in
    record {
      at = k;
      upto = record {
        legal = legal;
        reached = reached;
        viewed = viewed;
        acts = [];
        reported = omega arith;
        after = no_acts k;
        view = refl;
        fewer = omega arith;
      };
      number_is = number_is;
      rest = all.all;
      digests_are = all.digests_are;
      outcomes_are = all.outcomes_are;
      ready = first all.all all.are alone.0 alone.1 alone.2;
      here = here ∙ ap (λ (state : Service). ahead state k) (sym all.last_is);
    } where
      first : (xs : List Execution) → AreAll (setup_of k.config) k.core k.core.service k.core.executed xs → k.core.reply_due ≡ None → k.core.active ≡ true → due_execute (setup_of k.config) k.core ≡ Some (Executing number digest)
          → IsReady (setup_of k.config) k.me k.core xs
      first [] are none active same = tt
      first (x ∷ xs) are none active same =
          let one = first_of (setup_of k.config) k.core k.core.service k.core.executed x xs are in
          let due_here = due_is ∙ sym same ∙ execute_due (setup_of k.config) k.core x.number x.digest active one.next one.committed in
          (active, are, subst (λ (o : Option Reply). IsNext (setup_of k.config) k.me k.core o x) (sym none) due_here)

-- ---- requests that were taken together

-- they keep the configuration, raise the number by how many they are, and have as many outcomes
pub all_keep : (requests : List (Option Request)) (s t : Service) (os : List Outcome) → Follows s requests t os → (t.config ≡ s.config) × (t.number ≡ s.number + length requests) × (length os ≡ length requests)
all_keep [] s t os (same, none) = (ap (λ (x : Service). x.config) same, ap (λ (x : Service). x.number) same ∙ omega arith, ap length none)
all_keep (request ∷ requests) s t os (mid, o, others, step, rest, is) =
    let later = all_keep requests mid t others rest in
    let one = step_keeps s request mid o step in
    let raised = one.1 in
    let more = later.1 in
    (later.0 ∙ one.0, omega (arith, raised, more), ap length is ∙ ap suc later.2)

-- their replies have room in messages
abbrev IsRoomy : Reply → Type 0
IsRoomy r = (length r.result ≤ 265) × (r.number.0 < 2 ^ 48)

abbrev IsInRange : Request → Type 0
IsInRange r = (r.client.0 < 2 ^ 32) × (r.time < 2 ^ 64)

all_roomy : (requests : List (Option Request)) (s t : Service) (os : List Outcome) → IsBounded s → s.number + length requests < 2 ^ 48 → All (λ (r : Option Request). IfSome r IsInRange) requests → Follows s requests t os
    → All (λ (o : Outcome). IfSome o.reply IsRoomy) os
all_roomy [] s t os bounded low range (same, none) = subst (λ (xs : List Outcome). All (λ (o : Outcome). IfSome o.reply IsRoomy) xs) (sym none) (All-nil (λ (o : Outcome). IfSome o.reply IsRoomy))
all_roomy (request ∷ requests) s t os bounded low range (mid, o, others, step, rest, is) =
    let first : IfSome request IsInRange = range 0 request (omega arith) in
    let here : s.number + 1 < 2 ^ 48 = omega (arith, low) in
    let raised = (step_keeps s request mid o step).1 in
    let next = step_bounded s request mid o bounded here first step in
    let later = all_roomy requests mid t others next (omega (arith, low, raised)) (λ i d below. range (suc i) d (omega (arith, below))) rest in
    subst (λ (xs : List Outcome). All (λ (y : Outcome). IfSome y.reply IsRoomy) xs) (sym is) (All-cons (λ (y : Outcome). IfSome y.reply IsRoomy) o others (step_owed_of s request mid o bounded here first step) later)

pub replies_short : (requests : List (Option Request)) (s t : Service) (os : List Outcome) → IsSound s → s.number + length requests < 2 ^ 48
    → All (λ (r : Option Request). IfSome r (λ r. (r.client.0 < 2 ^ 32) × (r.time < 2 ^ 64))) requests → Follows s requests t os → All (λ (o : Outcome). IfSome o.reply (λ r. (length r.result ≤ 265) × (r.number.0 < 2 ^ 48))) os
replies_short requests s t os sound low range follows = all_roomy requests s t os sound.bounded low range follows

-- ---- a whole batch

module _ (k t : KeptReplica) (ds : List Digest) (requests : List (Option Request)) (os : List Outcome) (legal : IsConfiguration k.config) (reached : IsReached (setup_of k.config) k.me k.core) (viewed : k.core.view < view_limit)
    (number_is : k.core.executed ≡ k.core.service.number) (due_is : IsExecuting (setup_of k.config) k.me k.core) (batch : IsBatch (setup_of k.config) k.core k.core.executed ds) (ends : Ends (setup_of k.config) k.core k.core.executed ds)
    (low : k.core.executed + length ds < 2 ^ 48) (are : requests ≡ map (λ d. request_of (setup_of k.config) k.core d.0) ds) where
  as_many : length requests ≡ length ds
  as_many = ap length are ∙ length-map ds (λ d. request_of (setup_of k.config) k.core d.0)

  pub low_requests : k.core.executed + length requests < 2 ^ 48
  low_requests = let many = as_many in omega (arith, many, low)

  module _ (range : All (λ o. IfSome o (λ taken. (taken.client.0 < 2 ^ 32) × (taken.time < 2 ^ 64))) requests) (follows : Follows k.core.service requests t.core.service os) (here : t ≡ ahead t.core.service k) where
    pub even : length os ≡ length ds
    even = (all_keep requests k.core.service t.core.service os follows).2 ∙ as_many

    pub short : All (λ (o : Outcome). IfSome o.reply (λ r. (length r.result ≤ 265) × (r.number.0 < 2 ^ 48))) os
    short =
        let fits : k.core.service.number + length requests < 2 ^ 48 = subst (λ (n : ℕ). n + length requests < 2 ^ 48) number_is low_requests in
        replies_short requests k.core.service t.core.service os (sound (setup_of k.config) k.me k.core legal reached) fits range follows

    begun : IsReporting k t 0 ds os
    begun = begins k legal reached viewed number_is t ds os due_is batch (subst (λ (rs : List (Option Request)). Follows k.core.service rs t.core.service os) are follows) here

    pub batch_done : (u : KeptReplica) → ((j : KeptReplica) → IsReporting j t 0 ds os → IsReporting j u (length ds) [] []) → Comes k u
    batch_done u later = all_reported k u (length ds) (some_there (setup_of k.config) k.core ds due_is.3 ends) (later k begun)

    pub batch_halts : (halt : Halt) → ((j : KeptReplica) → IsReporting j t 0 ds os → HaltsAfter j halt) → HaltsAfter k halt
    batch_halts halt stops = stops k begun

pub memory_halts : (k : KeptReplica) (halt : Halt) → halt ≡ halts.Memory → HaltsAfter k halt
memory_halts k halt is = halts_here k halt (subst (IsHaltedAt (setup_of k.config) k.me k.core) (sym is) tt)
