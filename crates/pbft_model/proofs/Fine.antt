-- What is due is allowed.
use Rattle.std.proofs.Common.{◌≡◌, ℕ, ◌+◌, ◌<◌, ◌≤◌, Bool, true, false, ◌&&◌, cond, min, List, [], ◌∷◌, filter, Option, Some, None, refl, sym, ap, subst, ◌∙◌, arith, inl, inr}
use Rattle.std.specs.Prelude.{nat_lt, nat_le, not, ◌==◌, find}
use Rattle.std.proofs.lemmas.Bool.{and_parts, eqb-true, leb-true, ltb-true, not-true}
use Rattle.pbft_model.specs.Words.{Signed, Body, RequestBody, PrePrepare, Snapshot, ViewChange, Reply, Fetch}
use Rattle.pbft_codec.specs.declared.body.Body.TheVariants as bodies
use Rattle.pbft_codec.specs.declared.body.fetch.Fetch.TheVariants as fetches
use Rattle.pbft_model.specs.Sequential.{Service, last_reply_of}
use Rattle.pbft_model.specs.Setup.{Setup, primary, span, view_limit, number_limit, digest_of}
use Rattle.pbft_model.specs.Tables.{Table, at, vote_key, number_key, first_in, entries_in}
use Rattle.pbft_model.specs.Certificates.{Fields, of_pre_prepare, same_fields, is_by, voted, some_by, is_stable, has_quorum}
use Rattle.pbft_model.specs.Validity.{is_valid_new_view}
use Rattle.pbft_model.specs.Core.{Core, floor_in, inside, has_position, is_known, is_committed, is_prepared, held_with, next_number, pre_prepare_at, prepared_at, if_passes, is_new, is_proposed}
use Rattle.pbft_model.specs.Acts.{Act, Destination, All, with_body, is_awaited}
use Rattle.pbft_model.specs.Rules.{Allowed, MaySay, IsInside, view_change_of, new_view_of, wants_view}
use Rattle.pbft_model.specs.Duties.{Duty, Executing, WornOut, or_else, when, say, first_for, change_to, due_on_timeout, due_reply, due_checkpoint, reply_body, answer_again, answer_to_request, pass_on, supply, answer_fetched, answer_to_fetch, enter_by, install_read, install_from, on_taken, due_answer, due_supply, due_enter, due_install, may_rise, rise_with, rise_among, due_rise, leads, propose, due_propose, among, agree, prepare_for, due_prepare, commit_to, commit_for, due_commit, execute_at, due_execute, higher_changes, least_view, join, due_join, due_open, due_fetch_state, is_lacking, ask_for, due_fetch_request, due}
use Rattle.pbft_model.specs.Rows.{Fulfils}
use Rattle.pbft_model.specs.Histories.{IsIn}
use Rattle.pbft_model.proofs.Found.{passed}
use Rattle.pbft_model.proofs.Stages.{by_is, is_by_from}
use Rattle.pbft_model.proofs.Made.{same_self, numbers_within}
use Rattle.pbft_model.proofs.Opening.{new_view_made}
use Rattle.pbft_model.proofs.Sound.{IsSoundCore}

module _ (c : Setup) (me : ℕ) (s : Core) where
  -- whatever act does the duty, it is allowed
  abbrev Fine : Option Duty → Type 0
  Fine o = (a : Act) → Fulfils c s o a → Allowed c me s a

  or_fine : (o p : Option Duty) → Fine o → Fine p → Fine (or_else o p)
  or_fine None p h k = k
  or_fine (Some d) p h k = h

  none_fine : Fine None
  none_fine a none = absurd none

  when_fine : (b : Bool) (d : Duty) → (b ≡ true → Fine (Some d)) → Fine (when b d)
  when_fine true d h = h refl
  when_fine false d h = none_fine

  if_fine : (b : Bool) (o : Option Duty) → (b ≡ true → Fine o) → Fine (cond b o None)
  if_fine true o h = h refl
  if_fine false o h = none_fine

  say_fine : (to : Destination) (body : Body) → MaySay c me s body → Fine (Some (say me s to body))
  say_fine to body says a is = subst (λ (x : Act). Allowed c me s x) (sym is) (record { signed = refl; says = says })

  first_fine : (duty : ℕ → Option Duty) (ns : List ℕ) → ((n : ℕ) → IsIn n ns → Fine (duty n)) → Fine (first_for duty ns)
  first_fine duty [] h = none_fine
  first_fine duty (n ∷ ns) h = or_fine (duty n) (first_for duty ns) (h n (inl refl)) (first_fine duty ns (λ k is. h k (inr is)))

  change_fine : (view : ℕ) → s.view < view → Fine (Some (change_to c me s view))
  change_fine view higher = say_fine _ (bodies.ViewChange (view_change_of c s view)) (record { higher = higher; reports_all = refl })

  timeout_fine : Fine (due_on_timeout c me s)
  timeout_fine = if_fine s.timed_out (Some (cond (s.view + 1 == view_limit) WornOut (change_to c me s (s.view + 1)))) (λ _. worn (s.view + 1 == view_limit)) where
    worn : (b : Bool) → Fine (Some (cond b WornOut (change_to c me s (s.view + 1))))
    worn true = λ a none. absurd none
    worn false = change_fine (s.view + 1) (omega arith)

  reply_fine : (o : Option Reply) → s.reply_due ≡ o → Fine (due_reply me s o)
  reply_fine None e = none_fine
  reply_fine (Some r) e = say_fine _ (reply_body s.view r) (record { view_is = refl; answers = inl e })

  checkpoint_fine : Fine (due_checkpoint c me s)
  checkpoint_fine = when_fine s.checkpoint_due _ (λ e. say_fine _ _ (record { due = e; number_is = refl; digest_is = refl }))

  again_fine : (m : Signed Body) (b : RequestBody) (o : Option Reply) → last_reply_of s.service m.id ≡ o → Fine (answer_again me s m b o)
  again_fine m b None e = none_fine
  again_fine m b (Some last) e = when_fine (last.time == b.time) _ (λ _. say_fine _ (reply_body s.view last) (record { view_is = refl; answers = inr (m.id, e) }))

  answer_fine : (m : Signed Body) (b : Body) → Fine (answer_to_request me s m b)
  answer_fine m (bodies.Request b) = again_fine m b (last_reply_of s.service m.id) refl
  answer_fine m _ = none_fine

  pass_fine : (m : Signed Body) (digest : List ℕ) (o : Option (Signed RequestBody)) → held_with c s.held digest ≡ o → Fine (pass_on m o)
  pass_fine m digest None e = none_fine
  pass_fine m digest (Some request) e = λ a is. subst (λ (x : Act). Allowed c me s x) (sym is) (record { digest = digest; request = request; held = e; is = refl })

  supply_fine : (m : Signed Body) (number : ℕ) (o : Option (List ℕ)) → at s.snapshots (number_key number) ≡ o → Fine (supply me s m number o)
  supply_fine m number None e = none_fine
  supply_fine m number (Some bytes) e = say_fine _ (bodies.Snapshot (record { number = record { 0 = number }; state = bytes })) (record { kept = e })

  fetched_fine : (m : Signed Body) (b : Fetch) → Fine (answer_fetched c me s m b)
  fetched_fine m (fetches.Request d) = pass_fine m d.0 (held_with c s.held d.0) refl
  fetched_fine m (fetches.State n) = supply_fine m n.0 (at s.snapshots (number_key n.0)) refl

  fetch_fine : (m : Signed Body) (b : Body) → Fine (answer_to_fetch c me s m b)
  fetch_fine m (bodies.Fetch b) = fetched_fine m b
  fetch_fine m _ = none_fine

  taken_fine : (duty : Signed Body → Body → Option Duty) (o : Option (Signed Body)) → ((m : Signed Body) → o ≡ Some m → Fine (duty m m.body)) → Fine (on_taken duty o)
  taken_fine duty None h = none_fine
  taken_fine duty (Some m) h = h m refl

  same_message : (m : Signed Body) (b : Body) → m.body ≡ b → m ≡ record { role = m.role; id = m.id; body = b; sig = m.sig }
  same_message m b e = λ i. record { role = m.role; id = m.id; body = e i; sig = m.sig }

  enter_fine : (m : Signed Body) (b : Body) → m.body ≡ b → s.taken ≡ Some m → Fine (enter_by c s m b)
  enter_fine m (bodies.NewView b) e taken = when_fine (is_awaited s b.view.0 && is_valid_new_view c b) _ (λ t a is.
      let parts = and_parts (is_awaited s b.view.0) (is_valid_new_view c b) t in
      subst (λ (x : Act). Allowed c me s x) (sym is) (record { taken = taken ∙ ap Some (same_message m (bodies.NewView b) e); awaited = parts.0; valid = parts.1 }))
  enter_fine m _ e taken = none_fine

  module _ (sound : IsSoundCore c s) where
    read_fine : (m : Signed Body) (b : Snapshot) (o : Option Service) → m.body ≡ bodies.Snapshot b → s.taken ≡ Some m → s.reading ≡ o → Fine (install_read c s b o)
    read_fine m b None e taken reading = none_fine
    read_fine m b (Some state) e taken reading = when_fine (nat_lt s.executed b.number.0 && is_stable c.config s.checkpoints b.number.0 (c.hash b.state)) _ (λ t a is.
        let parts = and_parts (nat_lt s.executed b.number.0) (is_stable c.config s.checkpoints b.number.0 (c.hash b.state)) t in
        subst (λ (x : Act). Allowed c me s x) (sym is)
        (record {
          above = ltb-true s.executed b.number.0 parts.0;
          stable = parts.1;
          message = with_body m b;
          taken = taken ∙ ap Some (same_message m (bodies.Snapshot b) e);
          bytes_are = refl;
          reads = sound.1 m b state taken e reading;
        }))

    install_fine : (m : Signed Body) (b : Body) → m.body ≡ b → s.taken ≡ Some m → Fine (install_from c s m b)
    install_fine m (bodies.Snapshot b) e taken = read_fine m b s.reading e taken refl
    install_fine m _ e taken = none_fine

    rise_with_fine : (number : ℕ) (o : Option (List ℕ)) → at s.snapshots (number_key number) ≡ o → Fine (rise_with c s number o)
    rise_with_fine number None e = none_fine
    rise_with_fine number (Some bytes) e = when_fine (may_rise c s number (c.hash bytes)) _ (λ t a is.
        let p = and_parts (nat_lt s.low number) (nat_le number s.executed && is_stable c.config s.checkpoints number (c.hash bytes)) t in
        let q = and_parts (nat_le number s.executed) (is_stable c.config s.checkpoints number (c.hash bytes)) p.1 in
        subst (λ (x : Act). Allowed c me s x) (sym is)
        (record { above = ltb-true s.low number p.0; reached = leb-true number s.executed q.0; stable = q.1; bytes = bytes; kept = e; digest_is = refl }))

    rise_fine : (t : Table (List ℕ)) → Fine (rise_among c s t)
    rise_fine [] = none_fine
    rise_fine (e ∷ t) = or_fine (rise_among c s t) (rise_with c s (first_in e.0) (at s.snapshots (number_key (first_in e.0)))) (rise_fine t) (rise_with_fine (first_in e.0) (at s.snapshots (number_key (first_in e.0))) refl)

    propose_fine : s.active ≡ true → leads c me s ≡ true → (o : Option (Signed RequestBody)) → Fine (propose c me s o)
    propose_fine active lead None = none_fine
    propose_fine active lead (Some m) = if_fine (nat_le (next_number s) (s.low + span c.config)) _ (λ t. worn (next_number s == number_limit) (leb-true (next_number s) (s.low + span c.config) t)) where
      worn : (b : Bool) → next_number s ≤ s.low + span c.config → Fine (Some (cond b WornOut (say me s All (bodies.PrePrepare (record { view = record { 0 = s.view }; number = record { 0 = next_number s }; digest = record { 0 = digest_of c m } })))))
      worn true high = λ a none. absurd none
      worn false high = say_fine _ _ (record { inside = record { active = active; view_is = refl; above_floor = omega arith; above_low = omega arith; up_to_high = high }; leads = lead; next = refl })

    within : (n : ℕ) → IsIn n (inside c s) → (s.low < n) × (n ≤ s.low + span c.config)
    within n is = let w = numbers_within (span c.config) (s.low + 1) n is in let low = w.0 in let high = w.1 in (omega arith, omega arith)

    -- a PrePrepare recorded for a number of the active view
    recorded_inside : s.active ≡ true → (n : ℕ) (m : Signed PrePrepare) → IsIn n (inside c s) → pre_prepare_at c s s.view n ≡ Some m → IsInside c s m.body.view.0 m.body.number.0 × (voted of_pre_prepare s.pre_prepares (of_pre_prepare m.body) (primary c.config m.body.view.0) ≡ true) × (m.body.number.0 ≡ n)
    recorded_inside active n m is e =
        let v = passed (is_by (primary c.config s.view) (has_position s.view n)) (at s.pre_prepares (vote_key n s.view (primary c.config s.view))) m e in
        let by = by_is (primary c.config s.view) (has_position s.view n) m v.1 in
        let position = and_parts (m.body.view.0 == s.view) (m.body.number.0 == n) by.2 in
        let view = eqb-true m.body.view.0 s.view position.0 in
        let number = eqb-true m.body.number.0 n position.1 in
        let w = within n is in
        let low = w.0 in
        let high = w.1 in
        let floor : floor_in s < n = sound.0 (vote_key n s.view (primary c.config s.view)) m v.0 active refl in
        let own : is_by (primary c.config s.view) (λ b. same_fields (of_pre_prepare b) (of_pre_prepare m.body)) m ≡ true = is_by_from (primary c.config s.view) (has_position s.view n) (λ b. same_fields (of_pre_prepare b) (of_pre_prepare m.body)) m (λ _. same_self (of_pre_prepare m.body)) v.1 in
        let here : voted of_pre_prepare s.pre_prepares (record { view = s.view; number = n; digest = m.body.digest.0 }) (primary c.config s.view) ≡ true =
        subst (λ (o : Option (Signed PrePrepare)). some_by (primary c.config s.view) (λ b. same_fields (of_pre_prepare b) (record { view = s.view; number = n; digest = m.body.digest.0 })) o ≡ true) (sym v.0)
        (subst (λ (x : Fields). is_by (primary c.config s.view) (λ b. same_fields (of_pre_prepare b) x) m ≡ true) (λ i. record { view = view i; number = number i; digest = m.body.digest.0 }) own) in (
          record { active = active; view_is = view; above_floor = omega arith; above_low = omega arith; up_to_high = omega arith },
          subst (λ (x : Fields). voted of_pre_prepare s.pre_prepares x (primary c.config x.view) ≡ true) (λ i. record { view = sym view i; number = sym number i; digest = m.body.digest.0 }) here,
          number,
        )

    agree_fine : s.active ≡ true → leads c me s ≡ false → (n : ℕ) → IsIn n (inside c s) → among s.prepared_numbers n ≡ false → (o : Option (Signed PrePrepare)) → if_passes (λ m. is_known c s m.body.digest.0) (pre_prepare_at c s s.view n) ≡ o → Fine (agree me s o)
    agree_fine active follows n is once None e = none_fine
    agree_fine active follows n is once (Some m) e =
        let r = recorded_inside active n m is ((passed (λ p. is_known c s p.body.digest.0) (pre_prepare_at c s s.view n) m e).0) in
        say_fine _ _ (record { inside = r.0; follows = follows; proposed = r.1; once = subst (λ (k : ℕ). among s.prepared_numbers k ≡ false) (sym r.2) once })

    prepare_fine : s.active ≡ true → leads c me s ≡ false → (n : ℕ) → IsIn n (inside c s) → Fine (prepare_for c me s n)
    prepare_fine active follows n is = split (among s.prepared_numbers n) refl where
      split : (b : Bool) → among s.prepared_numbers n ≡ b → Fine (cond b None (agree me s (if_passes (λ m. is_known c s m.body.digest.0) (pre_prepare_at c s s.view n))))
      split true e = none_fine
      split false e = agree_fine active follows n is e (if_passes (λ m. is_known c s m.body.digest.0) (pre_prepare_at c s s.view n)) refl

    commit_to_fine : s.active ≡ true → (n : ℕ) → IsIn n (inside c s) → among s.committed_numbers n ≡ false → (o : Option (Signed PrePrepare)) → prepared_at c s n ≡ o → Fine (commit_to me s o)
    commit_to_fine active n is once None e = none_fine
    commit_to_fine active n is once (Some m) e =
        let p = passed (λ p. is_prepared c s (of_pre_prepare p.body)) (pre_prepare_at c s s.view n) m e in
        let r = recorded_inside active n m is p.0 in
        say_fine _ _ (record { inside = r.0; prepared = p.1; once = subst (λ (k : ℕ). among s.committed_numbers k ≡ false) (sym r.2) once })

    commit_fine : s.active ≡ true → (n : ℕ) → IsIn n (inside c s) → Fine (commit_for c me s n)
    commit_fine active n is = split (among s.committed_numbers n) refl where
      split : (b : Bool) → among s.committed_numbers n ≡ b → Fine (cond b None (commit_to me s (prepared_at c s n)))
      split true e = none_fine
      split false e = commit_to_fine active n is e (prepared_at c s n) refl

    execute_fine : s.active ≡ true → (n : ℕ) → n ≡ s.executed + 1 → (o : Option (Signed PrePrepare)) → if_passes (λ m. is_committed c s (of_pre_prepare m.body)) (pre_prepare_at c s s.view n) ≡ o → Fine (execute_at n o)
    execute_fine active n next None e = none_fine
    execute_fine active n next (Some m) e = λ a w. executed a w where
      executed : (a : Act) → Fulfils c s (Some (Executing n m.body.digest.0)) a → Allowed c me s a
      executed a (t, o, step, is) =
          let w = passed (λ p. is_committed c s (of_pre_prepare p.body)) (pre_prepare_at c s s.view n) m e in
          let v = passed (is_by (primary c.config s.view) (has_position s.view n)) (at s.pre_prepares (vote_key n s.view (primary c.config s.view))) m w.0 in
          let by = by_is (primary c.config s.view) (has_position s.view n) m v.1 in
          let position = and_parts (m.body.view.0 == s.view) (m.body.number.0 == n) by.2 in
          let view = eqb-true m.body.view.0 s.view position.0 in
          let number = eqb-true m.body.number.0 n position.1 in
          subst (λ (x : Act). Allowed c me s x) (sym is)
          (record { active = active; next = next; step = step; committed = subst (λ (x : Fields). is_committed c s x ≡ true) (λ i. record { view = view i; number = number i; digest = m.body.digest.0 }) w.1 })

    higher_all : (ms : List (Signed ViewChange)) (m : Signed ViewChange) → IsIn m (filter (λ m. nat_lt s.view m.body.view.0 && not (m.id == me)) ms) → s.view < m.body.view.0
    higher_all [] m h = absurd h
    higher_all (x ∷ ms) m h = split (nat_lt s.view x.body.view.0 && not (x.id == me)) refl h (higher_all ms m) where
      split : (b : Bool) → (nat_lt s.view x.body.view.0 && not (x.id == me)) ≡ b → IsIn m (cond b (x ∷ filter (λ m. nat_lt s.view m.body.view.0 && not (m.id == me)) ms) (filter (λ m. nat_lt s.view m.body.view.0 && not (m.id == me)) ms))
          → (IsIn m (filter (λ m. nat_lt s.view m.body.view.0 && not (m.id == me)) ms) → s.view < m.body.view.0) → s.view < m.body.view.0
      split true e (inl same) rest = subst (λ (y : Signed ViewChange). s.view < y.body.view.0) (sym same) (ltb-true s.view x.body.view.0 ((and_parts (nat_lt s.view x.body.view.0) (not (x.id == me)) e).0))
      split true e (inr later) rest = rest later
      split false e later rest = rest later

    least_above : (ms : List (Signed ViewChange)) (least : ℕ) → s.view < least → ((m : Signed ViewChange) → IsIn m ms → s.view < m.body.view.0) → s.view < least_view ms least
    least_above [] least h k = h
    least_above (m ∷ ms) least h k = let above = k m (inl refl) in least_above ms (min m.body.view.0 least) (omega arith) (λ x is. k x (inr is))

    join_fine : (ms : List (Signed ViewChange)) → ((m : Signed ViewChange) → IsIn m ms → s.view < m.body.view.0) → Fine (join c me s ms)
    join_fine [] h = none_fine
    join_fine (m ∷ ms) h = when_fine _ _ (λ _. change_fine (least_view ms m.body.view.0) (least_above ms m.body.view.0 (h m (inl refl)) (λ x is. h x (inr is))))

    open_fine : Fine (due_open c me s)
    open_fine = when_fine (not s.active && (leads c me s && (wants_view s me && has_quorum c.config (wants_view s)))) _ (λ t.
        let p = and_parts (not s.active) (leads c me s && (wants_view s me && has_quorum c.config (wants_view s))) t in
        let q = and_parts (leads c me s) (wants_view s me && has_quorum c.config (wants_view s)) p.1 in
        let r = and_parts (wants_view s me) (has_quorum c.config (wants_view s)) q.1 in
        say_fine _ (bodies.NewView (new_view_of c me s)) (record { changing = not-true s.active p.0; leads = q.0; is = refl; valid = new_view_made c me s q.0 r.0 r.1 sound.2 }))

    ask_fine : (o : Option (Signed PrePrepare)) → Fine (ask_for me s o)
    ask_fine None = none_fine
    ask_fine (Some m) = say_fine _ _ tt

    -- what is due is allowed
    pub due_fine : Fine (due c me s)
    due_fine =
        or_fine (due_on_timeout c me s) _ timeout_fine
        (or_fine (due_reply me s s.reply_due) _ (reply_fine s.reply_due refl)
        (or_fine (due_checkpoint c me s) _ checkpoint_fine
        (or_fine (due_answer me s) _ (if_fine s.is_fresh _ (λ _. taken_fine (answer_to_request me s) s.taken (λ m e. answer_fine m m.body)))
        (or_fine (due_supply c me s) _ (if_fine s.is_fresh _ (λ _. taken_fine (answer_to_fetch c me s) s.taken (λ m e. fetch_fine m m.body)))
        (or_fine (due_enter c s) _ (taken_fine (enter_by c s) s.taken (λ m e. enter_fine m m.body refl e))
        (or_fine (due_install c s) _ (taken_fine (install_from c s) s.taken (λ m e. install_fine m m.body refl e))
        (or_fine (due_rise c s) _ (rise_fine s.snapshots)
        (or_fine (due_propose c me s) _ (if_fine (s.active && leads c me s) _ (λ t. let p = and_parts s.active (leads c me s) t in propose_fine p.0 p.1 (find (λ m. is_new s.service m && not (is_proposed s (digest_of c m))) s.held)))
        (or_fine (due_prepare c me s) _ (if_fine (s.active && not (leads c me s)) _ (λ t. let p = and_parts s.active (not (leads c me s)) t in first_fine (prepare_for c me s) (inside c s) (λ n is. prepare_fine p.0 (not-true (leads c me s) p.1) n is)))
        (or_fine (due_commit c me s) _ (if_fine s.active _ (λ t. first_fine (commit_for c me s) (inside c s) (λ n is. commit_fine t n is)))
        (or_fine (due_execute c s) _ (if_fine s.active _ (λ t. execute_fine t (s.executed + 1) refl (if_passes (λ m. is_committed c s (of_pre_prepare m.body)) (pre_prepare_at c s s.view (s.executed + 1))) refl))
        (or_fine (due_join c me s) _ (join_fine (higher_changes me s) (λ m is. higher_all (entries_in s.changes) m is))
        (or_fine (due_open c me s) _ open_fine
        (or_fine (due_fetch_state c me s) (due_fetch_request c me s) (when_fine _ _ (λ _. say_fine _ _ tt))
        (if_fine s.active _ (λ _. first_fine (λ number. ask_for me s (if_passes (is_lacking c s) (pre_prepare_at c s s.view number))) (inside c s) (λ n is. ask_fine (if_passes (is_lacking c s) (pre_prepare_at c s s.view n)))))))))))))))))))
