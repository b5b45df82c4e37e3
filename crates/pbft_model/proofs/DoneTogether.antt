-- Executions that are done together: what is due after one is the next.
use Rattle.std.proofs.Common.{◌≡◌, ℕ, ◌+◌, ◌%◌, ◌≤◌, Bool, true, false, ◌&&◌, cond, List, [], ◌∷◌, ◌++◌, Option, Some, None, refl, sym, ap, subst, ◌∙◌, arith}
use Rattle.std.specs.Prelude.{◌==◌}
use Rattle.std.proofs.lemmas.Bool.{and_parts}
use Rattle.pbft_model.specs.Words.{SigningState, leaf_count, Signed, PrePrepare, Reply}
use Rattle.pbft_model.specs.Sequential.{Service, encoded}
use Rattle.pbft_model.specs.Setup.{Setup, signer_after}
use Rattle.pbft_model.specs.Tables.{Table, with_entry, number_key}
use Rattle.pbft_model.specs.Certificates.{Fields, of_pre_prepare, of_commit, voted, has_quorum}
use Rattle.pbft_model.specs.Core.{Core, is_certified, is_known, is_prepared, is_committed, pre_prepare_at, if_passes}
use Rattle.pbft_model.specs.Acts.{Act, Send, Execute, ToClient, after}
use Rattle.pbft_model.specs.Rules.{own_message}
use Rattle.pbft_model.specs.Duties.{Duty, Do, Executing, or_else, execute_at, due_execute, due, say, reply_body, NothingBefore}
use Rattle.pbft_model.specs.Rows.{Fulfils, HasLeaves, Follows, FollowsWithout, RepliesAlone}
use Rattle.pbft_model.specs.Histories.{core_after, IsHistory}
use Rattle.pbft_model.specs.Together.{Execution, act_of, IsExecution, AreExecutions, last_of, reply_act, reply_leaves, signer_with_reply, acts_together, leaves_together, signer_together}
use Rattle.pbft_model.proofs.Found.{passed, passes}
use Rattle.pbft_model.proofs.Stages.{prepared_from, prepared_is}
use Rattle.pbft_model.proofs.Rowed.{due_allowed}
use Rattle.pbft_model.proofs.Following.{alone, replied}

-- a committed number has its PrePrepare
committed_at : (c : Setup) (s : Core) (x : Fields) → x.view ≡ s.view → is_committed c s x ≡ true
    → (m : Signed PrePrepare) × (if_passes (λ p. is_committed c s (of_pre_prepare p.body)) (pre_prepare_at c s s.view x.number) ≡ Some m) × (of_pre_prepare m.body ≡ x)
committed_at c s x view e =
    let a = and_parts (is_prepared c s x) (has_quorum c.config (voted of_commit s.commits x)) e in
    let b = and_parts (is_certified c s x) (is_known c s x.digest) a.0 in
    let w = prepared_from c s x view b.0 b.1 in
    let found = passed (λ p. is_prepared c s (of_pre_prepare p.body)) (pre_prepare_at c s s.view x.number) w.0 w.1 in
    let committed : is_committed c s (of_pre_prepare w.0.body) ≡ true = subst (λ (y : Fields). is_committed c s y ≡ true) (sym w.2) e in
    (w.0, passes (λ p. is_committed c s (of_pre_prepare p.body)) (pre_prepare_at c s s.view x.number) w.0 found.0 committed, w.2)

-- to execute the next number is due, if nothing comes before
execute_due : (c : Setup) (s : Core) (number : ℕ) (digest : List ℕ) → s.active ≡ true → number ≡ s.executed + 1 → is_committed c s (record { view = s.view; number = number; digest = digest }) ≡ true
    → due_execute c s ≡ Some (Executing number digest)
execute_due c s number digest active next e =
    let x : Fields = record { view = s.view; number = number; digest = digest } in
    let w = committed_at c s x refl e in
    let here : execute_at number (if_passes (λ p. is_committed c s (of_pre_prepare p.body)) (pre_prepare_at c s s.view number)) ≡ Some (Executing number w.0.body.digest.0) = ap (execute_at number) w.1 in
    let named : Some (Executing number w.0.body.digest.0) ≡ Some (Executing number digest) = ap (λ (y : Fields). Some (Executing number y.digest)) w.2 in
    ap (λ (b : Bool). cond b (execute_at (s.executed + 1) (if_passes (λ p. is_committed c s (of_pre_prepare p.body)) (pre_prepare_at c s s.view (s.executed + 1)))) None) active
    ∙ ap (λ (n : ℕ). execute_at n (if_passes (λ p. is_committed c s (of_pre_prepare p.body)) (pre_prepare_at c s s.view n))) (sym next) ∙ here ∙ named

skip : (o p : Option Duty) (d : Duty) → o ≡ None → p ≡ Some d → or_else o p ≡ Some d
skip o p d e f = ap (λ (x : Option Duty). or_else x p) e ∙ f

take : (o p : Option Duty) (d : Duty) → o ≡ Some d → or_else o p ≡ Some d
take o p d e = ap (λ (x : Option Duty). or_else x p) e

first_due : (c : Setup) (me : ℕ) (s : Core) (d : Duty) → NothingBefore c me s → due_execute c s ≡ Some d → due c me s ≡ Some d
first_due c me s d h e =
    skip _ _ d h.timeout (skip _ _ d h.reply (skip _ _ d h.checkpoint (skip _ _ d h.answer (skip _ _ d h.supply (skip _ _ d h.enter (skip _ _ d h.install (skip _ _ d h.rise (skip _ _ d h.propose (skip _ _ d h.prepare (skip _ _ d h.commit (take _ _ d e)))))))))))

-- the core after an execution, whatever is still to be sent
abbrev left : Core → ℕ → Service → Option Reply → Bool → Table (List ℕ) → SigningState → Core
left s number service reply b snapshots signer =
    record s {
      executed = number;
      service = service;
      reply_due = reply;
      checkpoint_due = b;
      snapshots = snapshots;
      is_fresh = false;
      timed_out = false;
      signer = signer;
    }

-- what may be executed behind it is what could be before
moved_on : (c : Setup) (s : Core) (number : ℕ) (service : Service) (reply : Option Reply) (b : Bool) (snapshots : Table (List ℕ)) (signer : SigningState)
    → (before : Service) (executed : ℕ) (x : Execution) (xs : List Execution)
    → AreExecutions c s before executed x xs → AreExecutions c (left s number service reply b snapshots signer) before executed x xs
moved_on c s number service reply b snapshots signer before executed x [] h = record { next = h.next; committed = h.committed; step = h.step }
moved_on c s number service reply b snapshots signer before executed x (y ∷ ys) h =
    (record { next = h.0.next; committed = h.0.committed; step = h.0.step }, h.1, moved_on c s number service reply b snapshots signer x.service x.number y ys h.2)

first_of_all : (c : Setup) (s : Core) (before : Service) (executed : ℕ) (x : Execution) (xs : List Execution) → AreExecutions c s before executed x xs → IsExecution c s before executed x
first_of_all c s before executed x [] h = h
first_of_all c s before executed x (y ∷ ys) h = h.0

-- another execution overwrites what the first one left, but for the signer
overwritten : (c : Setup) (s : Core) (x z : Execution) (reply : Option Reply) (signer : SigningState) → (x.number % c.config.k == 0) ≡ false
    → after c (left s x.number x.service reply (x.number % c.config.k == 0) (cond (x.number % c.config.k == 0) (with_entry s.snapshots (number_key x.number) (encoded x.service)) s.snapshots) signer) (act_of z)
    ≡ after c (record s { signer = signer }) (act_of z)
overwritten c s x z reply signer between =
    ap (λ (b : Bool). after c (left s x.number x.service reply b (cond b (with_entry s.snapshots (number_key x.number) (encoded x.service)) s.snapshots) signer) (act_of z)) between

-- what the executions do behind these acts
abbrev Done : Setup → ℕ → SigningState → List Act → Execution → List Execution → Type 0
Done c me signer acts x xs =
    IsHistory c me signer acts → due c me (core_after c signer acts) ≡ Some (Executing x.number x.digest)
    → AreExecutions c (core_after c signer acts) (core_after c signer acts).service (core_after c signer acts).executed x xs
    → (core_after c signer acts).signer.next_leaf + leaves_together x xs ≤ leaf_count (core_after c signer acts).signer
    → Follows c me (core_after c signer acts) (acts_together me (core_after c signer acts).view (core_after c signer acts).signer x xs)
    (after c (record (core_after c signer acts) { signer = signer_together (core_after c signer acts).signer x xs }) (act_of (last_of x xs)))

module _ (c : Setup) (me : ℕ) (signer : SigningState) (acts : List Act) (x y : Execution) (ys : List Execution) (later : (more : List Act) → Done c me signer more y ys) (is : IsHistory c me signer acts)
    (e : due c me (core_after c signer acts) ≡ Some (Executing x.number x.digest)) (h : AreExecutions c (core_after c signer acts) (core_after c signer acts).service (core_after c signer acts).executed x (y ∷ ys)) where
  abbrev s : Core
  s = core_after c signer acts

  abbrev one : Core
  one = after c s (act_of x)

  fulfils : Fulfils c s (due c me s) (act_of x)
  fulfils = subst (λ (o : Option Duty). Fulfils c s o (act_of x)) (sym e) (x.service, x.outcome, h.0.step, refl)

  active : s.active ≡ true
  active = (due_allowed c me signer acts is (act_of x) fulfils).active

  history : IsHistory c me signer (act_of x ∷ acts)
  history = (is, due_allowed c me signer acts is (act_of x) fulfils)

  without : FollowsWithout c me s x.number x.digest x.service x.outcome
  without = record { is_due = e; step = h.0.step; between = h.1 }

  next : IsExecution c s x.service x.number y
  next = first_of_all c s x.service x.number y ys h.2

  silent : x.outcome.reply ≡ None → s.signer.next_leaf + (0 + leaves_together y ys) ≤ leaf_count s.signer
      → Follows c me s (act_of x ∷ acts_together me s.view s.signer y ys) (after c (record s { signer = signer_together s.signer y ys }) (act_of (last_of y ys)))
  silent f room =
      let nothing = alone c me signer acts is x.number x.digest x.service x.outcome without f in
      let due_now : due c me one ≡ Some (Executing y.number y.digest) = first_due c me one (Executing y.number y.digest) nothing (execute_due c one y.number y.digest active next.next next.committed) in
      let still = moved_on c s x.number x.service x.outcome.reply (x.number % c.config.k == 0) (cond (x.number % c.config.k == 0) (with_entry s.snapshots (number_key x.number) (encoded x.service)) s.snapshots) s.signer x.service x.number y ys h.2 in
      let rest = later (act_of x ∷ acts) history due_now still (omega arith) in (
        fulfils,
        omega arith,
        subst (λ (t : Core). Follows c me one (acts_together me s.view s.signer y ys) t) (overwritten c s x (last_of y ys) x.outcome.reply (signer_together s.signer y ys) h.1) rest,
      )

  answered : (reply : Reply) → x.outcome.reply ≡ Some reply → s.signer.next_leaf + (1 + leaves_together y ys) ≤ leaf_count s.signer
      → Follows c me s (act_of x ∷ (reply_act me s.view s.signer (Some reply) ++ acts_together me s.view (signer_after s.signer 1) y ys))
      (after c (record s { signer = signer_together (signer_after s.signer 1) y ys }) (act_of (last_of y ys)))
  answered reply f room =
      let alone = replied c me signer acts is x.number x.digest x.service x.outcome without reply f in
      let act : Act = Send (ToClient reply.client.0) (own_message one me (reply_body s.view reply)) in
      let two : Core = after c one act in
      let does : Fulfils c one (due c me one) act = subst (λ (o : Option Duty). Fulfils c one o act) (sym alone.first) refl in
      let then : IsHistory c me signer (act ∷ act_of x ∷ acts) = (history, due_allowed c me signer (act_of x ∷ acts) history act does) in
      let due_now : due c me two ≡ Some (Executing y.number y.digest) = first_due c me two (Executing y.number y.digest) alone.then (execute_due c two y.number y.digest active next.next next.committed) in
      let still = moved_on c s x.number x.service None (x.number % c.config.k == 0) (cond (x.number % c.config.k == 0) (with_entry s.snapshots (number_key x.number) (encoded x.service)) s.snapshots) (signer_after s.signer 1) x.service x.number y ys h.2 in
      let rest = later (act ∷ act_of x ∷ acts) then due_now still (omega arith) in (
        fulfils,
        omega arith,
        (
          does,
          omega arith,
          subst (λ (t : Core). Follows c me two (acts_together me s.view (signer_after s.signer 1) y ys) t) (overwritten c s x (last_of y ys) None (signer_together (signer_after s.signer 1) y ys) h.1) rest,
        ),
      )

  one_more : s.signer.next_leaf + leaves_together x (y ∷ ys) ≤ leaf_count s.signer
      → Follows c me s (acts_together me s.view s.signer x (y ∷ ys)) (after c (record s { signer = signer_together s.signer x (y ∷ ys) }) (act_of (last_of y ys)))
  one_more room = cases x.outcome.reply refl room where
    cases : (o : Option Reply) → x.outcome.reply ≡ o → s.signer.next_leaf + (reply_leaves o + leaves_together y ys) ≤ leaf_count s.signer
        → Follows c me s (act_of x ∷ (reply_act me s.view s.signer o ++ acts_together me s.view (signer_with_reply s.signer o) y ys))
        (after c (record s { signer = signer_together (signer_with_reply s.signer o) y ys }) (act_of (last_of y ys)))
    cases None f room = silent f room
    cases (Some reply) f room = answered reply f room

together : (c : Setup) (me : ℕ) (signer : SigningState) (x : Execution) (xs : List Execution) (acts : List Act) → Done c me signer acts x xs
together c me signer x [] acts is e h room =
    let s = core_after c signer acts in
    (subst (λ (o : Option Duty). Fulfils c s o (act_of x)) (sym e) (x.service, x.outcome, h.step, refl), room, refl)
together c me signer x (y ∷ ys) acts is e h room = one_more c me signer acts x y ys (together c me signer y ys) is e h room

pub done_together : (c : Setup) (me : ℕ) (signer : SigningState) (acts : List Act) → IsHistory c me signer acts → (x : Execution) (xs : List Execution)
    → due c me (core_after c signer acts) ≡ Some (Executing x.number x.digest)
    → AreExecutions c (core_after c signer acts) (core_after c signer acts).service (core_after c signer acts).executed x xs
    → (core_after c signer acts).signer.next_leaf + leaves_together x xs ≤ leaf_count (core_after c signer acts).signer
    → Follows c me (core_after c signer acts) (acts_together me (core_after c signer acts).view (core_after c signer acts).signer x xs)
    (after c (record (core_after c signer acts) { signer = signer_together (core_after c signer acts).signer x xs }) (act_of (last_of x xs)))
done_together c me signer acts is x xs e h room = together c me signer x xs acts is e h room
