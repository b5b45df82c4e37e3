-- What is due is never to take a message or a timeout.
use Rattle.std.proofs.Common.{◌≡◌, ℕ, ◌+◌, Bool, true, false, cond, List, [], ◌∷◌, Option, Some, None, refl, subst, sym}
use Rattle.std.specs.Prelude.{nat_le, not, ◌&&◌, ◌==◌, find}
use Rattle.pbft_model.specs.Words.{Signed, Body, RequestBody, PrePrepare, Snapshot, ViewChange, Reply}
use Rattle.pbft_codec.specs.declared.body.Body.TheVariants as bodies
use Rattle.pbft_codec.specs.declared.body.fetch.Fetch.TheVariants as fetches
use Rattle.pbft_model.specs.Sequential.{Service, last_reply_of}
use Rattle.pbft_model.specs.Setup.{Setup, span, view_limit, number_limit, digest_of}
use Rattle.pbft_model.specs.Tables.{Table, at, number_key, first_in}
use Rattle.pbft_model.specs.Certificates.{of_pre_prepare}
use Rattle.pbft_model.specs.Core.{Core, inside, is_known, is_committed, held_with, next_number, pre_prepare_at, prepared_at, if_passes, is_new, is_proposed}
use Rattle.pbft_model.specs.Acts.{Act, Destination, All, Take, Timeout, Send, Relay, Enter, Rise, Execute, Install}
use Rattle.pbft_model.specs.Rules.{pre_prepare_of}
use Rattle.pbft_model.specs.Duties.{Duty, Do, Executing, WornOut, or_else, when, first_for, say, change_to, due_on_timeout, due_reply, due_checkpoint, answer_again, answer_to_request, pass_on, supply, answer_to_fetch, enter_by, install_read, install_from, on_taken, due_answer, due_supply, due_enter, due_install, rise_with, rise_among, due_rise, leads, propose, due_propose, among, agree, prepare_for, due_prepare, commit_to, commit_for, due_commit, execute_at, due_execute, higher_changes, join, due_join, due_open, due_fetch_state, is_lacking, ask_for, due_fetch_request, due}
use Rattle.pbft_model.specs.Rows.{Fulfils}

-- not the taking of an input
abbrev pub IsReaction : Act → Type 0
IsReaction (Take m r) = ⊥
IsReaction Timeout = ⊥
IsReaction _ = Unit {0}

-- nor another's message that is passed on
abbrev pub IsOwn : Act → Type 0
IsOwn (Take m r) = ⊥
IsOwn Timeout = ⊥
IsOwn (Relay to m) = ⊥
IsOwn _ = Unit {0}

own_reaction : (a : Act) → IsOwn a → IsReaction a
own_reaction (Relay to m) h = absurd h
own_reaction _ h = h

-- What holds of every act that is an own reaction, and of wearing out, holds of each duty but those to pass on
-- and to execute.
module _ (P : Duty → Type 0) (acts : (a : Act) → IsOwn a → P (Do a)) (worn_out : P WornOut) where
  abbrev pub Reacting : Option Duty → Type 0
  Reacting None = Unit {0}
  Reacting (Some d) = P d

  pub or_reacting : (o p : Option Duty) → Reacting o → Reacting p → Reacting (or_else o p)
  or_reacting None p h k = k
  or_reacting (Some d) p h k = h

  pub when_reacting : (b : Bool) (d : Duty) → Reacting (Some d) → Reacting (when b d)
  when_reacting true d h = h
  when_reacting false d h = tt

  pub if_reacting : (b : Bool) (o : Option Duty) → Reacting o → Reacting (cond b o None)
  if_reacting true o h = h
  if_reacting false o h = tt

  where_reacting : (b : Bool) (o : Option Duty) → (b ≡ true → Reacting o) → Reacting (cond b o None)
  where_reacting true o h = h refl
  where_reacting false o h = tt

  unless_reacting : (b : Bool) (o : Option Duty) → Reacting o → Reacting (cond b None o)
  unless_reacting true o h = tt
  unless_reacting false o h = h

  pub first_reacting : (duty : ℕ → Option Duty) (ns : List ℕ) → ((n : ℕ) → Reacting (duty n)) → Reacting (first_for duty ns)
  first_reacting duty [] h = tt
  first_reacting duty (n ∷ ns) h = or_reacting (duty n) (first_for duty ns) (h n) (first_reacting duty ns h)

  module _ (c : Setup) (me : ℕ) (s : Core) where
    pub timeout_reacting : Reacting (due_on_timeout c me s)
    timeout_reacting = if_reacting s.timed_out (Some (cond (s.view + 1 == view_limit) WornOut (change_to c me s (s.view + 1)))) (worn (s.view + 1 == view_limit)) where
      worn : (b : Bool) → Reacting (Some (cond b WornOut (change_to c me s (s.view + 1))))
      worn true = worn_out
      worn false = acts _ tt

    pub reply_reacting : (o : Option Reply) → Reacting (due_reply me s o)
    reply_reacting None = tt
    reply_reacting (Some r) = acts _ tt

    again_reacting : (m : Signed Body) (b : RequestBody) (o : Option Reply) → Reacting (answer_again me s m b o)
    again_reacting m b None = tt
    again_reacting m b (Some last) = when_reacting (last.time == b.time) _ (acts _ tt)

    pub answer_reacting : (m : Signed Body) (b : Body) → Reacting (answer_to_request me s m b)
    answer_reacting m (bodies.Request b) = again_reacting m b (last_reply_of s.service m.id)
    answer_reacting m _ = tt

    -- what holds of all that is passed on
    abbrev pub ForRelays : Type 0
    ForRelays = (to : Destination) (m : Signed Body) → P (Do (Relay to m))

    pass_reacting : ForRelays → (m : Signed Body) (o : Option (Signed RequestBody)) → Reacting (pass_on m o)
    pass_reacting relays m None = tt
    pass_reacting relays m (Some request) = relays _ _

    supply_reacting : (m : Signed Body) (n : ℕ) (o : Option (List ℕ)) → Reacting (supply me s m n o)
    supply_reacting m n None = tt
    supply_reacting m n (Some bytes) = acts _ tt

    pub fetch_reacting : ForRelays → (m : Signed Body) (b : Body) → Reacting (answer_to_fetch c me s m b)
    fetch_reacting relays m (bodies.Request b) = tt
    fetch_reacting relays m (bodies.PrePrepare b) = tt
    fetch_reacting relays m (bodies.Prepare b) = tt
    fetch_reacting relays m (bodies.Commit b) = tt
    fetch_reacting relays m (bodies.Reply b) = tt
    fetch_reacting relays m (bodies.Checkpoint b) = tt
    fetch_reacting relays m (bodies.ViewChange b) = tt
    fetch_reacting relays m (bodies.NewView b) = tt
    fetch_reacting relays m (bodies.Fetch (fetches.Request d)) = pass_reacting relays m (held_with c s.held d.0)
    fetch_reacting relays m (bodies.Fetch (fetches.State n)) = supply_reacting m n.0 (at s.snapshots (number_key n.0))
    fetch_reacting relays m (bodies.Snapshot b) = tt

    pub enter_reacting : (m : Signed Body) (b : Body) → Reacting (enter_by c s m b)
    enter_reacting m (bodies.NewView b) = when_reacting _ _ (acts _ tt)
    enter_reacting m _ = tt

    read_reacting : (b : Snapshot) (o : Option Service) → Reacting (install_read c s b o)
    read_reacting b None = tt
    read_reacting b (Some state) = when_reacting _ _ (acts _ tt)

    pub install_reacting : (m : Signed Body) (b : Body) → Reacting (install_from c s m b)
    install_reacting m (bodies.Snapshot b) = read_reacting b s.reading
    install_reacting m _ = tt

    pub taken_reacting : (duty : Signed Body → Body → Option Duty) (o : Option (Signed Body)) → ((m : Signed Body) (b : Body) → Reacting (duty m b)) → Reacting (on_taken duty o)
    taken_reacting duty None h = tt
    taken_reacting duty (Some m) h = h m m.body

    rise_with_reacting : (n : ℕ) (o : Option (List ℕ)) → Reacting (rise_with c s n o)
    rise_with_reacting n None = tt
    rise_with_reacting n (Some bytes) = when_reacting _ _ (acts _ tt)

    pub rise_reacting : (t : Table (List ℕ)) → Reacting (rise_among c s t)
    rise_reacting [] = tt
    rise_reacting (e ∷ t) = or_reacting (rise_among c s t) _ (rise_reacting t) (rise_with_reacting (first_in e.0) (at s.snapshots (number_key (first_in e.0))))

    pub propose_reacting : (o : Option (Signed RequestBody)) → Reacting (propose c me s o)
    propose_reacting None = tt
    propose_reacting (Some m) = if_reacting (nat_le (next_number s) (s.low + span c.config)) _ (worn (next_number s == number_limit)) where
      worn : (b : Bool) → Reacting (Some (cond b WornOut (say me s All (bodies.PrePrepare (pre_prepare_of (record { view = s.view; number = next_number s; digest = digest_of c m }))))))
      worn true = worn_out
      worn false = acts _ tt

    agree_reacting : (o : Option (Signed PrePrepare)) → Reacting (agree me s o)
    agree_reacting None = tt
    agree_reacting (Some m) = acts _ tt

    pub prepare_reacting : (n : ℕ) → Reacting (prepare_for c me s n)
    prepare_reacting n =
        unless_reacting (among s.prepared_numbers n) (agree me s (if_passes (λ m. is_known c s m.body.digest.0) (pre_prepare_at c s s.view n)))
        (agree_reacting (if_passes (λ m. is_known c s m.body.digest.0) (pre_prepare_at c s s.view n)))

    commit_to_reacting : (o : Option (Signed PrePrepare)) → Reacting (commit_to me s o)
    commit_to_reacting None = tt
    commit_to_reacting (Some m) = acts _ tt

    pub commit_reacting : (n : ℕ) → Reacting (commit_for c me s n)
    commit_reacting n = unless_reacting (among s.committed_numbers n) (commit_to me s (prepared_at c s n)) (commit_to_reacting (prepared_at c s n))

    execute_reacting : ((n : ℕ) (d : List ℕ) → P (Executing n d)) → (n : ℕ) (o : Option (Signed PrePrepare)) → Reacting (execute_at n o)
    execute_reacting executing n None = tt
    execute_reacting executing n (Some m) = executing n m.body.digest.0

    join_reacting : (ms : List (Signed ViewChange)) → Reacting (join c me s ms)
    join_reacting [] = tt
    join_reacting (m ∷ ms) = when_reacting _ _ (acts _ tt)

    ask_reacting : (o : Option (Signed PrePrepare)) → Reacting (ask_for me s o)
    ask_reacting None = tt
    ask_reacting (Some m) = acts _ tt

    pub due_reacting : (s.is_fresh ≡ true → ForRelays) → ((n : ℕ) (d : List ℕ) → P (Executing n d)) → Reacting (due c me s)
    due_reacting relays executing =
        or_reacting (due_on_timeout c me s) _ timeout_reacting
        (or_reacting (due_reply me s s.reply_due) _ (reply_reacting s.reply_due)
        (or_reacting (due_checkpoint c me s) _ (when_reacting s.checkpoint_due _ (acts _ tt))
        (or_reacting (due_answer me s) _ (if_reacting s.is_fresh _ (taken_reacting (answer_to_request me s) s.taken answer_reacting))
        (or_reacting (due_supply c me s) _ (where_reacting s.is_fresh _ (λ fresh. taken_reacting (answer_to_fetch c me s) s.taken (fetch_reacting (relays fresh))))
        (or_reacting (due_enter c s) _ (taken_reacting (enter_by c s) s.taken enter_reacting)
        (or_reacting (due_install c s) _ (taken_reacting (install_from c s) s.taken install_reacting)
        (or_reacting (due_rise c s) _ (rise_reacting s.snapshots)
        (or_reacting (due_propose c me s) _ (if_reacting (s.active && leads c me s) _ (propose_reacting (find (λ m. is_new s.service m && not (is_proposed s (digest_of c m))) s.held)))
        (or_reacting (due_prepare c me s) _ (if_reacting (s.active && not (leads c me s)) _ (first_reacting (prepare_for c me s) (inside c s) prepare_reacting))
        (or_reacting (due_commit c me s) _ (if_reacting s.active _ (first_reacting (commit_for c me s) (inside c s) commit_reacting))
        (or_reacting (due_execute c s) _ (if_reacting s.active _ (execute_reacting executing (s.executed + 1) (if_passes (λ m. is_committed c s (of_pre_prepare m.body)) (pre_prepare_at c s s.view (s.executed + 1)))))
        (or_reacting (due_join c me s) _ (join_reacting (higher_changes me s))
        (or_reacting (due_open c me s) _ (when_reacting _ _ (acts _ tt))
        (or_reacting (due_fetch_state c me s) (due_fetch_request c me s) (when_reacting _ _ (acts _ tt))
        (if_reacting s.active _ (first_reacting (λ number. ask_for me s (if_passes (is_lacking c s) (pre_prepare_at c s s.view number))) (inside c s) (λ n. ask_reacting (if_passes (is_lacking c s) (pre_prepare_at c s s.view n)))))))))))))))))))

abbrev IsFulfilled : Duty → Type 0
IsFulfilled (Do a) = IsReaction a
IsFulfilled (Executing n d) = Unit {0}
IsFulfilled WornOut = Unit {0}

fulfilled : (c : Setup) (s : Core) (o : Option Duty) (a : Act) → Reacting IsFulfilled own_reaction tt o → Fulfils c s o a → IsReaction a
fulfilled c s None a h k = absurd k
fulfilled c s (Some (Do b)) a h k = subst IsReaction (sym k) h
fulfilled c s (Some (Executing n d)) a h (t, o, step, is) = subst IsReaction (sym is) tt
fulfilled c s (Some WornOut) a h k = absurd k

-- what does what is due is no input
pub is_reaction : (c : Setup) (me : ℕ) (s : Core) (a : Act) → Fulfils c s (due c me s) a → IsReaction a
is_reaction c me s a h = fulfilled c s (due c me s) a (due_reacting IsFulfilled own_reaction tt c me s (λ fresh to m. tt) (λ n d. tt)) h
