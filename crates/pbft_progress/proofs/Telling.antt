-- Own messages go to all, but for Replies and Snapshots.
use Rattle.std.proofs.Common.{◌≡◌, ℕ, ◌+◌, Bool, true, false, cond, List, [], ◌∷◌, Option, Some, None, refl, sym, subst, inl, inr}
use Rattle.std.specs.Prelude.{nat_le, not, ◌&&◌, ◌==◌, find}
use Rattle.pbft_model.specs.Words.{SigningState, Signed, Body, RequestBody, PrePrepare, Snapshot, ViewChange, Reply}
use Rattle.pbft_codec.specs.declared.body.Body.TheVariants as bodies
use Rattle.pbft_codec.specs.declared.body.fetch.Fetch.TheVariants as fetches
use Rattle.pbft_model.specs.Sequential.{Service, last_reply_of}
use Rattle.pbft_model.specs.Setup.{Setup, span, view_limit, number_limit, digest_of}
use Rattle.pbft_model.specs.Tables.{Table, at, number_key, first_in}
use Rattle.pbft_model.specs.Certificates.{of_pre_prepare}
use Rattle.pbft_model.specs.Core.{Core, inside, is_known, is_committed, held_with, next_number, pre_prepare_at, prepared_at, if_passes, is_new, is_proposed}
use Rattle.pbft_model.specs.Acts.{Act, Destination, All, Send, Execute, after}
use Rattle.pbft_model.specs.Rules.{pre_prepare_of}
use Rattle.pbft_model.specs.Duties.{Duty, Do, Executing, WornOut, or_else, when, first_for, say, change_to, due_on_timeout, due_reply, due_checkpoint, answer_again, answer_to_request, pass_on, supply, answer_to_fetch, enter_by, install_read, install_from, on_taken, due_answer, due_supply, due_enter, due_install, rise_with, rise_among, due_rise, leads, propose, due_propose, among, agree, prepare_for, due_prepare, commit_to, commit_for, due_commit, execute_at, due_execute, higher_changes, join, due_join, due_open, due_fetch_state, is_lacking, ask_for, due_fetch_request, due}
use Rattle.pbft_model.specs.Rows.{Row, Output, Fulfils, Follows, IsLawfulFrom, outputs_of, all_outputs}
use Rattle.pbft_model.specs.Histories.{IsIn}
use Rattle.pbft_model.proofs.Entries.{from_append}
use Rattle.pbft_agreement.proofs.Reporting.{sends}

-- a Reply goes to its client and a Snapshot to who fetched it, all else to all
abbrev pub GoesRight : Destination → Body → Type 0
GoesRight to (bodies.Reply b) = Unit {0}
GoesRight to (bodies.Snapshot b) = Unit {0}
GoesRight to _ = to ≡ All

abbrev pub Tells : Act → Type 0
Tells (Send to m) = GoesRight to m.body
Tells _ = Unit {0}

-- A PrePrepare that is due is for the first request that is held, new and not proposed, at the next number.
abbrev pub Proposes : Setup → Core → Body → Type 0
Proposes c s (bodies.PrePrepare b) =
    (m : Signed RequestBody) × (find (λ r. is_new s.service r && not (is_proposed s (digest_of c r))) s.held ≡ Some m)
    × (b ≡ pre_prepare_of (record { view = s.view; number = next_number s; digest = digest_of c m }))
Proposes c s _ = Unit {0}

module _ (c : Setup) (me : ℕ) (s : Core) where
  -- an act that a duty names is no execution
  abbrev pub IsDuteous : Act → Type 0
  IsDuteous (Send to m) = GoesRight to m.body × Proposes c s m.body
  IsDuteous (Execute n d t o) = ⊥
  IsDuteous _ = Unit {0}

  tells_duteous : (a : Act) → IsDuteous a → Tells a
  tells_duteous (Send to m) h = h.0
  tells_duteous (Execute n d t o) h = absurd h
  tells_duteous _ h = tt

  abbrev pub Telling : Option Duty → Type 0
  Telling None = Unit {0}
  Telling (Some (Do a)) = IsDuteous a
  Telling (Some (Executing n d)) = Unit {0}
  Telling (Some WornOut) = Unit {0}

  or_telling : (o p : Option Duty) → Telling o → Telling p → Telling (or_else o p)
  or_telling None p h k = k
  or_telling (Some d) p h k = h

  when_telling : (b : Bool) (d : Duty) → Telling (Some d) → Telling (when b d)
  when_telling true d h = h
  when_telling false d h = tt

  if_telling : (b : Bool) (o : Option Duty) → Telling o → Telling (cond b o None)
  if_telling true o h = h
  if_telling false o h = tt

  unless_telling : (b : Bool) (o : Option Duty) → Telling o → Telling (cond b None o)
  unless_telling true o h = tt
  unless_telling false o h = h

  first_telling : (duty : ℕ → Option Duty) (ns : List ℕ) → ((n : ℕ) → Telling (duty n)) → Telling (first_for duty ns)
  first_telling duty [] h = tt
  first_telling duty (n ∷ ns) h = or_telling (duty n) (first_for duty ns) (h n) (first_telling duty ns h)

  taken_telling : (duty : Signed Body → Body → Option Duty) (o : Option (Signed Body)) → ((m : Signed Body) (b : Body) → Telling (duty m b)) → Telling (on_taken duty o)
  taken_telling duty None h = tt
  taken_telling duty (Some m) h = h m m.body

  worn_or : (b : Bool) (d : Duty) → Telling (Some d) → Telling (Some (cond b WornOut d))
  worn_or true d h = tt
  worn_or false d h = h

  reply_telling : (o : Option Reply) → Telling (due_reply me s o)
  reply_telling None = tt
  reply_telling (Some r) = (tt, tt)

  again_telling : (m : Signed Body) (b : RequestBody) (o : Option Reply) → Telling (answer_again me s m b o)
  again_telling m b None = tt
  again_telling m b (Some last) = when_telling (last.time == b.time) _ (tt, tt)

  answer_telling : (m : Signed Body) (b : Body) → Telling (answer_to_request me s m b)
  answer_telling m (bodies.Request b) = again_telling m b (last_reply_of s.service m.id)
  answer_telling m _ = tt

  pass_telling : (m : Signed Body) (o : Option (Signed RequestBody)) → Telling (pass_on m o)
  pass_telling m None = tt
  pass_telling m (Some request) = tt

  supply_telling : (m : Signed Body) (n : ℕ) (o : Option (List ℕ)) → Telling (supply me s m n o)
  supply_telling m n None = tt
  supply_telling m n (Some bytes) = (tt, tt)

  fetch_telling : (m : Signed Body) (b : Body) → Telling (answer_to_fetch c me s m b)
  fetch_telling m (bodies.Fetch (fetches.Request d)) = pass_telling m (held_with c s.held d.0)
  fetch_telling m (bodies.Fetch (fetches.State n)) = supply_telling m n.0 (at s.snapshots (number_key n.0))
  fetch_telling m _ = tt

  enter_telling : (m : Signed Body) (b : Body) → Telling (enter_by c s m b)
  enter_telling m (bodies.NewView b) = when_telling _ _ tt
  enter_telling m _ = tt

  read_telling : (b : Snapshot) (o : Option Service) → Telling (install_read c s b o)
  read_telling b None = tt
  read_telling b (Some state) = when_telling _ _ tt

  install_telling : (m : Signed Body) (b : Body) → Telling (install_from c s m b)
  install_telling m (bodies.Snapshot b) = read_telling b s.reading
  install_telling m _ = tt

  rise_with_telling : (n : ℕ) (o : Option (List ℕ)) → Telling (rise_with c s n o)
  rise_with_telling n None = tt
  rise_with_telling n (Some bytes) = when_telling _ _ tt

  rise_telling : (t : Table (List ℕ)) → Telling (rise_among c s t)
  rise_telling [] = tt
  rise_telling (e ∷ t) = or_telling (rise_among c s t) _ (rise_telling t) (rise_with_telling (first_in e.0) (at s.snapshots (number_key (first_in e.0))))

  propose_telling : (o : Option (Signed RequestBody)) → find (λ r. is_new s.service r && not (is_proposed s (digest_of c r))) s.held ≡ o → Telling (propose c me s o)
  propose_telling None e = tt
  propose_telling (Some m) e =
      if_telling (nat_le (next_number s) (s.low + span c.config)) _
      (worn_or (next_number s == number_limit) (say me s All (bodies.PrePrepare (pre_prepare_of (record { view = s.view; number = next_number s; digest = digest_of c m })))) (refl, (m, e, refl)))

  agree_telling : (o : Option (Signed PrePrepare)) → Telling (agree me s o)
  agree_telling None = tt
  agree_telling (Some m) = (refl, tt)

  prepare_telling : (n : ℕ) → Telling (prepare_for c me s n)
  prepare_telling n = unless_telling (among s.prepared_numbers n) _ (agree_telling (if_passes (λ m. is_known c s m.body.digest.0) (pre_prepare_at c s s.view n)))

  commit_to_telling : (o : Option (Signed PrePrepare)) → Telling (commit_to me s o)
  commit_to_telling None = tt
  commit_to_telling (Some m) = (refl, tt)

  commit_telling : (n : ℕ) → Telling (commit_for c me s n)
  commit_telling n = unless_telling (among s.committed_numbers n) _ (commit_to_telling (prepared_at c s n))

  execute_telling : (n : ℕ) (o : Option (Signed PrePrepare)) → Telling (execute_at n o)
  execute_telling n None = tt
  execute_telling n (Some m) = tt

  join_telling : (ms : List (Signed ViewChange)) → Telling (join c me s ms)
  join_telling [] = tt
  join_telling (m ∷ ms) = when_telling _ _ (refl, tt)

  ask_telling : (o : Option (Signed PrePrepare)) → Telling (ask_for me s o)
  ask_telling None = tt
  ask_telling (Some m) = (refl, tt)

  pub due_telling : Telling (due c me s)
  due_telling =
      or_telling (due_on_timeout c me s) _ (if_telling s.timed_out _ (worn_or (s.view + 1 == view_limit) (change_to c me s (s.view + 1)) (refl, tt)))
      (or_telling (due_reply me s s.reply_due) _ (reply_telling s.reply_due)
      (or_telling (due_checkpoint c me s) _ (when_telling s.checkpoint_due _ (refl, tt))
      (or_telling (due_answer me s) _ (if_telling s.is_fresh _ (taken_telling (answer_to_request me s) s.taken answer_telling))
      (or_telling (due_supply c me s) _ (if_telling s.is_fresh _ (taken_telling (answer_to_fetch c me s) s.taken fetch_telling))
      (or_telling (due_enter c s) _ (taken_telling (enter_by c s) s.taken enter_telling)
      (or_telling (due_install c s) _ (taken_telling (install_from c s) s.taken install_telling)
      (or_telling (due_rise c s) _ (rise_telling s.snapshots)
      (or_telling (due_propose c me s) _ (if_telling (s.active && leads c me s) _ (propose_telling (find (λ m. is_new s.service m && not (is_proposed s (digest_of c m))) s.held) refl))
      (or_telling (due_prepare c me s) _ (if_telling (s.active && not (leads c me s)) _ (first_telling (prepare_for c me s) (inside c s) prepare_telling))
      (or_telling (due_commit c me s) _ (if_telling s.active _ (first_telling (commit_for c me s) (inside c s) commit_telling))
      (or_telling (due_execute c s) _ (if_telling s.active _ (execute_telling (s.executed + 1) (if_passes (λ m. is_committed c s (of_pre_prepare m.body)) (pre_prepare_at c s s.view (s.executed + 1)))))
      (or_telling (due_join c me s) _ (join_telling (higher_changes me s))
      (or_telling (due_open c me s) _ (when_telling _ _ (refl, tt))
      (or_telling (due_fetch_state c me s) (due_fetch_request c me s) (when_telling _ _ (refl, tt))
      (if_telling s.active _ (first_telling (λ number. ask_for me s (if_passes (is_lacking c s) (pre_prepare_at c s s.view number))) (inside c s) (λ n. ask_telling (if_passes (is_lacking c s) (pre_prepare_at c s s.view n)))))))))))))))))))

told_by : (c : Setup) (me : ℕ) (s : Core) (o : Option Duty) (a : Act) → Telling c me s o → Fulfils c s o a → Tells a
told_by c me s None a h k = absurd k
told_by c me s (Some (Do b)) a h k = subst Tells (sym k) (tells_duteous c me s b h)
told_by c me s (Some (Executing n d)) a h (t, o, step, is) = subst Tells (sym is) tt
told_by c me s (Some WornOut) a h k = absurd k

-- what is sent as it is due
sent_duteous : (c : Setup) (me : ℕ) (s : Core) (o : Option Duty) (to : Destination) (m : Signed Body) → Telling c me s o → Fulfils c s o (Send to m) → Proposes c s m.body
sent_duteous c me s None to m h k = absurd k
sent_duteous c me s (Some (Do b)) to m h k = (subst (IsDuteous c me s) (sym k) h).1
sent_duteous c me s (Some (Executing n d)) to m h (t, o, step, is) = absurd (never is) where
  never : Send to m ≡ Execute n d t o → ⊥
  never e = cc
sent_duteous c me s (Some WornOut) to m h k = absurd k

pub proposes_due : (c : Setup) (me : ℕ) (s : Core) (to : Destination) (m : Signed Body) → Fulfils c s (due c me s) (Send to m) → Proposes c s m.body
proposes_due c me s to m h = sent_duteous c me s (due c me s) to m (due_telling c me s) h

module _ (c : Setup) (me : ℕ) (signer : SigningState) where
  acts_tell : (acts : List Act) (s t : Core) → Follows c me s acts t → (output : Output) → IsIn output (all_outputs acts) → output.own ≡ true → GoesRight output.to output.message.body
  acts_tell [] s t same output h own = absurd h
  acts_tell (a ∷ acts) s t (does, leaves, rest) output h own = elim (from_append output (outputs_of a) (all_outputs acts) h) [
    | inl here ↦ subst Tells (sends c me signer output a here own) (told_by c me s (due c me s) a (due_telling c me s) does)
    | inr later ↦ acts_tell acts (after c s a) t rest output later own
  ]

  -- each own output of a journal goes right
  pub rows_tell : (rows : List Row) (s t : Core) → IsLawfulFrom c me s rows t → (row : Row) (output : Output) → IsIn row rows → IsIn output row.outputs → output.own ≡ true
      → GoesRight output.to output.message.body
  rows_tell [] s t w row output none within own = absurd none
  rows_tell (r ∷ rows) s t (u, next, rest) row output (inl same) within own =
      acts_tell next.acts (after c s next.first) u next.reacts.follows output
      (subst (λ (os : List Output). IsIn output os) next.outputs (subst (λ (x : Row). IsIn output x.outputs) same within)) own
  rows_tell (r ∷ rows) s t (u, next, rest) row output (inr later) within own = rows_tell rows u t rest row output later within own
