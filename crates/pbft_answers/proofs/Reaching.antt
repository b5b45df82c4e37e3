-- How a replica reaches a number: it executes it, where nothing is due before, or installs a snapshot past it.
use Rattle.std.proofs.Common.{◌≡◌, ◌⊎◌, ℕ, ◌+◌, ◌<◌, ◌≤◌, List, [], ◌∷◌, Option, Some, None, refl, sym, ap, subst, ◌∙◌, arith, inl, inr}
use Rattle.std.specs.Prelude.{not, ◌&&◌, find}
use Rattle.std.proofs.lemmas.Bool.{cases_lt}
use Rattle.pbft_model.specs.Words.{SigningState, Signed, Body}
use Rattle.pbft_model.specs.Sequential.{Service, Outcome}
use Rattle.pbft_model.specs.Setup.{Setup, digest_of}
use Rattle.pbft_model.specs.Core.{Core, inside, is_new, is_proposed}
use Rattle.pbft_model.specs.Acts.{Act, Take, Timeout, Send, Relay, Enter, Rise, Execute, Install, after}
use Rattle.pbft_model.specs.Rules.{Allowed}
use Rattle.pbft_model.specs.Duties.{Duty, Do, Executing, WornOut, or_else, due_on_timeout, due_reply, due_checkpoint, answer_to_request, answer_to_fetch, enter_by, install_from, due_answer, due_supply, due_enter, due_install, due_rise, leads, due_propose, prepare_for, due_prepare, commit_for, due_commit, due}
use Rattle.pbft_model.specs.Rows.{Fulfils}
use Rattle.pbft_model.specs.Histories.{core_after, IsHistory, IsEarlier}
use Rattle.pbft_model.proofs.Events.{holds_on}
use Rattle.pbft_model.proofs.Calm.{low_up}
use Rattle.pbft_model.proofs.Origins.{recorded_keeps, said_keeps, left_keeps, executed_up}
use Rattle.pbft_model.proofs.Reactions.{Reacting, IsOwn, timeout_reacting, reply_reacting, when_reacting, if_reacting, first_reacting, taken_reacting, answer_reacting, fetch_reacting, enter_reacting, install_reacting, rise_reacting, propose_reacting, prepare_reacting, commit_reacting}
use Rattle.pbft_progress.proofs.Telling.{IsDuteous, Telling, due_telling}

-- ---- before an execution nothing is due

abbrev IsOther : Duty → Type 0
IsOther (Do a) = Unit {0}
IsOther (Executing n d) = ⊥
IsOther WornOut = Unit {0}

abbrev Other : Option Duty → Type 0
Other o = Reacting IsOther (λ a h. tt) tt o

passed_over : (o p : Option Duty) (n : ℕ) (d : List ℕ) → Other o → or_else o p ≡ Some (Executing n d) → (o ≡ None) × (p ≡ Some (Executing n d))
passed_over None p n d h e = (refl, e)
passed_over (Some x) p n d h e = absurd (subst IsOther (same x (Executing n d) e) h) where
  same : (x y : Duty) → Some x ≡ Some y → x ≡ y
  same x y e = cc

none_due : (c : Setup) (me : ℕ) (s : Core) (n : ℕ) (d : List ℕ) → due c me s ≡ Some (Executing n d) → (due_prepare c me s ≡ None) × (due_commit c me s ≡ None)
none_due c me s n d e =
    let acts : (a : Act) → IsOwn a → IsOther (Do a) = λ a h. tt in
    let w0 = passed_over (due_on_timeout c me s) _ n d (timeout_reacting IsOther acts tt c me s) e in
    let w1 = passed_over (due_reply me s s.reply_due) _ n d (reply_reacting IsOther acts tt c me s s.reply_due) w0.1 in
    let w2 = passed_over (due_checkpoint c me s) _ n d (when_reacting IsOther acts tt s.checkpoint_due _ tt) w1.1 in
    let w3 = passed_over (due_answer me s) _ n d (if_reacting IsOther acts tt s.is_fresh _ (taken_reacting IsOther acts tt c me s (answer_to_request me s) s.taken (answer_reacting IsOther acts tt c me s))) w2.1 in
    let w4 = passed_over (due_supply c me s) _ n d (if_reacting IsOther acts tt s.is_fresh _ (taken_reacting IsOther acts tt c me s (answer_to_fetch c me s) s.taken (fetch_reacting IsOther acts tt c me s (λ to m. tt)))) w3.1 in
    let w5 = passed_over (due_enter c s) _ n d (taken_reacting IsOther acts tt c me s (enter_by c s) s.taken (enter_reacting IsOther acts tt c me s)) w4.1 in
    let w6 = passed_over (due_install c s) _ n d (taken_reacting IsOther acts tt c me s (install_from c s) s.taken (install_reacting IsOther acts tt c me s)) w5.1 in
    let w7 = passed_over (due_rise c s) _ n d (rise_reacting IsOther acts tt c me s s.snapshots) w6.1 in
    let w8 = passed_over (due_propose c me s) _ n d
    (if_reacting IsOther acts tt (s.active && leads c me s) _ (propose_reacting IsOther acts tt c me s (find (λ m. is_new s.service m && not (is_proposed s (digest_of c m))) s.held))) w7.1 in
    let w9 = passed_over (due_prepare c me s) _ n d (if_reacting IsOther acts tt (s.active && not (leads c me s)) _ (first_reacting IsOther acts tt (prepare_for c me s) (inside c s) (prepare_reacting IsOther acts tt c me s))) w8.1 in
    let w10 = passed_over (due_commit c me s) _ n d (if_reacting IsOther acts tt s.active _ (first_reacting IsOther acts tt (commit_for c me s) (inside c s) (commit_reacting IsOther acts tt c me s))) w9.1 in
    (w9.0, w10.0)

-- An execution was due as one.
execution_due : (c : Setup) (me : ℕ) (s : Core) (o : Option Duty) (n : ℕ) (d : List ℕ) (t : Service) (out : Outcome) → Telling c me s o → Fulfils c s o (Execute n d t out) → o ≡ Some (Executing n d)
execution_due c me s None n d t out h k = absurd k
execution_due c me s (Some (Do b)) n d t out h k = absurd (subst (IsDuteous c me s) (sym k) h)
execution_due c me s (Some (Executing m e)) n d t out h (t', out', step, is) = let same = parts n m d e t t' out out' is in λ i. Some (Executing (sym same.0 i) (sym same.1 i)) where
  parts : (n m : ℕ) (d e : List ℕ) (t t' : Service) (out out' : Outcome) → Execute n d t out ≡ Execute m e t' out' → (n ≡ m) × (d ≡ e)
  parts n m d e t t' out out' is = (cc, cc)
execution_due c me s (Some WornOut) n d t out h k = absurd k

-- where a number is executed no Prepare and no Commit is due
pub votes_first : (c : Setup) (me : ℕ) (s : Core) (n : ℕ) (d : List ℕ) (t : Service) (out : Outcome) → Fulfils c s (due c me s) (Execute n d t out) → (due_prepare c me s ≡ None) × (due_commit c me s ≡ None)
votes_first c me s n d t out h = none_due c me s n d (execution_due c me s (due c me s) n d t out (due_telling c me s) h)

-- ---- numbers that were reached

-- The number was executed, at this point.
abbrev pub Done : ℕ → List Act → Type 0
Done n acts = (d : List ℕ) × (t : Service) × (o : Outcome) × (early : List Act) × IsEarlier (Execute n d t o ∷ early) acts

-- A snapshot of the number or a later one was installed, at this point.
abbrev pub Jumped : ℕ → List Act → Type 0
Jumped n acts = (k : ℕ) × (b : List ℕ) × (t : Service) × (early : List Act) × IsEarlier (Install k b t ∷ early) acts × (n ≤ k)

module _ (c : Setup) (me : ℕ) (signer : SigningState) where
  later_reached : (n : ℕ) (a : Act) (acts : List Act) → Done n acts ⊎ Jumped n acts → Done n (a ∷ acts) ⊎ Jumped n (a ∷ acts)
  later_reached n a acts (inl (d, t, o, early, at)) = inl (d, t, o, early, inr at)
  later_reached n a acts (inr (k, b, t, early, at, le)) = inr (k, b, t, early, inr at, le)

  reached_by : (n : ℕ) (acts : List Act) (a : Act) → Allowed c me (core_after c signer acts) a → n ≤ (after c (core_after c signer acts) a).executed
      → (n ≤ (core_after c signer acts).executed → Done n acts ⊎ Jumped n acts) → Done n (a ∷ acts) ⊎ Jumped n (a ∷ acts)
  reached_by n acts (Take m r) ok le rest =
      let same : (after c (core_after c signer acts) (Take m r)).executed ≡ (core_after c signer acts).executed = (recorded_keeps c (core_after c signer acts) m m.body).number in
      later_reached n (Take m r) acts (rest (omega (arith, le, same)))
  reached_by n acts (Send to m) ok le rest =
      let same : (after c (core_after c signer acts) (Send to m)).executed ≡ (core_after c signer acts).executed = (said_keeps c (core_after c signer acts) m m.body).number in
      later_reached n (Send to m) acts (rest (omega (arith, le, same)))
  reached_by n acts (Enter m) ok le rest =
      let same : (after c (core_after c signer acts) (Enter m)).executed ≡ (core_after c signer acts).executed = (left_keeps c (core_after c signer acts) m.body.view.0).number in
      later_reached n (Enter m) acts (rest (omega (arith, le, same)))
  reached_by n acts (Execute k d t o) ok le rest = elim (cases_lt (core_after c signer acts).executed n) [
    | inl above ↦
        let next : k ≡ (core_after c signer acts).executed + 1 = ok.next in
        let below : n ≤ k = le in
        let same : k ≡ n = omega (arith, above, next, below) in
        inl (d, t, o, acts, inl (λ i. Execute (sym same i) d t o ∷ acts))
    | inr below ↦ later_reached n (Execute k d t o) acts (rest below)
  ]
  reached_by n acts (Install k b t) ok le rest = inr (k, b, t, acts, inl refl, le)
  reached_by n acts a ok le rest = later_reached n a acts (rest le)

  -- Each number up to what was executed was executed, or jumped over.
  pub reaches : (n : ℕ) (acts : List Act) → IsHistory c me signer acts → 1 ≤ n → n ≤ (core_after c signer acts).executed → Done n acts ⊎ Jumped n acts
  reaches n [] is one le = absurd (omega (arith, one, le))
  reaches n (a ∷ acts) is one le = reached_by n acts a is.1 le (reaches n acts is.0 one)

  pub low_rises : (x acts : List Act) → IsEarlier x acts → IsHistory c me signer acts → (core_after c signer x).low ≤ (core_after c signer acts).low
  low_rises x acts at is =
      holds_on c me signer (λ s. (core_after c signer x).low ≤ s.low) (λ s a low ok le. let up = low_up c me s a low ok in omega (arith, le, up)) x acts at is (omega arith)

  pub number_rises : (x acts : List Act) → IsEarlier x acts → IsHistory c me signer acts → (core_after c signer x).executed ≤ (core_after c signer acts).executed
  number_rises x acts at is =
      holds_on c me signer (λ s. (core_after c signer x).executed ≤ s.executed) (λ s a low ok le. let up = executed_up c me s a ok in omega (arith, le, up)) x acts at is (omega arith)
