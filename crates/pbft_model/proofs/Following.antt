-- Executions one after another: what executing a number makes due.
use Rattle.std.proofs.Common.{◌≡◌, ◌⊎◌, ℕ, ◌+◌, ◌%◌, ◌≤◌, Bool, true, false, ◌&&◌, cond, List, [], ◌∷◌, Option, Some, None, refl, sym, ap, subst, ◌∙◌, arith, inl, inr}
use Rattle.std.specs.Prelude.{nat_lt, nat_le, not, ◌==◌, find}
use Rattle.std.proofs.lemmas.Bool.{true≢false, false≢true, and_parts, and_from, lt-ltb, ltb-true, le-leb}
use Rattle.pbft_model.specs.Words.{SigningState, Signed, Body, RequestBody, PrePrepare, Snapshot, Reply}
use Rattle.pbft_codec.specs.declared.body.Body.TheVariants as bodies
use Rattle.pbft_codec.specs.declared.body.fetch.Fetch.TheVariants as fetches
use Rattle.pbft_model.specs.Sequential.{Service, Outcome, encoded}
use Rattle.pbft_model.specs.Setup.{Setup, span, digest_of, signer_after}
use Rattle.pbft_model.specs.Tables.{Key, Table, at, keep, with_entry, number_key, first_in}
use Rattle.pbft_model.specs.Certificates.{is_stable}
use Rattle.pbft_model.specs.Core.{Core, inside, is_known, pre_prepare_at, prepared_at, if_passes, is_new, is_proposed, next_number, request_of}
use Rattle.pbft_model.specs.Acts.{Act, Take, Timeout, Send, Relay, Enter, Rise, Execute, Install, after, said, recorded, left_for, left_if_above}
use Rattle.pbft_model.specs.Rules.{Allowed}
use Rattle.pbft_model.specs.Duties.{Duty, Do, Executing, WornOut, or_else, when, first_for, due_on_timeout, due_reply, due_checkpoint, answer_to_request, answer_to_fetch, enter_by, install_read, install_from, on_taken, due_answer, due_supply, due_enter, due_install, may_rise, rise_with, rise_among, due_rise, leads, propose, due_propose, among, agree, prepare_for, due_prepare, commit_to, commit_for, due_commit, due, NothingBefore}
use Rattle.pbft_model.specs.Rows.{Fulfils, FollowsWithout, RepliesAlone}
use Rattle.pbft_model.specs.Histories.{core_after, IsHistory}
use Rattle.pbft_model.proofs.Found.{no_some, found_entry, found_keep}
use Rattle.pbft_model.proofs.Origins.{executed_up}
use Rattle.pbft_model.proofs.Rowed.{due_allowed}
use Rattle.pbft_model.proofs.Later.{new_before}
use Rattle.pbft_model.proofs.Reactions.{Reacting, IsOwn, timeout_reacting, reply_reacting, when_reacting, if_reacting, first_reacting, taken_reacting, answer_reacting, fetch_reacting, enter_reacting, install_reacting, rise_reacting, propose_reacting, prepare_reacting, commit_reacting}

-- ---- before an execution nothing is due

abbrev IsOther : Duty → Type 0
IsOther (Do a) = Unit {0}
IsOther (Executing n d) = ⊥
IsOther WornOut = Unit {0}

abbrev Other : Option Duty → Type 0
Other o = Reacting IsOther (λ a h. tt) tt o

passed_over : (o p : Option Duty) (n : ℕ) (d : List ℕ) → Other o → or_else o p ≡ Some (Executing n d) → (o ≡ None) × (p ≡ Some (Executing n d))
passed_over None p n d h e = (refl, e)
passed_over (Some x) p n d h e = absurd (subst IsOther (same x (Executing n d) e) h) where
  same : (x y : Duty) → Some x ≡ Some y → x ≡ y
  same x y e = cc

nothing_before : (c : Setup) (me : ℕ) (s : Core) (n : ℕ) (d : List ℕ) → due c me s ≡ Some (Executing n d) → NothingBefore c me s
nothing_before c me s n d e =
    let acts : (a : Act) → IsOwn a → IsOther (Do a) = λ a h. tt in
    let w0 = passed_over (due_on_timeout c me s) _ n d (timeout_reacting IsOther acts tt c me s) e in
    let w1 = passed_over (due_reply me s s.reply_due) _ n d (reply_reacting IsOther acts tt c me s s.reply_due) w0.1 in
    let w2 = passed_over (due_checkpoint c me s) _ n d (when_reacting IsOther acts tt s.checkpoint_due _ tt) w1.1 in
    let w3 = passed_over (due_answer me s) _ n d (if_reacting IsOther acts tt s.is_fresh _ (taken_reacting IsOther acts tt c me s (answer_to_request me s) s.taken (answer_reacting IsOther acts tt c me s))) w2.1 in
    let w4 = passed_over (due_supply c me s) _ n d (if_reacting IsOther acts tt s.is_fresh _ (taken_reacting IsOther acts tt c me s (answer_to_fetch c me s) s.taken (fetch_reacting IsOther acts tt c me s (λ to m. tt)))) w3.1 in
    let w5 = passed_over (due_enter c s) _ n d (taken_reacting IsOther acts tt c me s (enter_by c s) s.taken (enter_reacting IsOther acts tt c me s)) w4.1 in
    let w6 = passed_over (due_install c s) _ n d (taken_reacting IsOther acts tt c me s (install_from c s) s.taken (install_reacting IsOther acts tt c me s)) w5.1 in
    let w7 = passed_over (due_rise c s) _ n d (rise_reacting IsOther acts tt c me s s.snapshots) w6.1 in
    let w8 = passed_over (due_propose c me s) _ n d
    (if_reacting IsOther acts tt (s.active && leads c me s) _ (propose_reacting IsOther acts tt c me s (find (λ m. is_new s.service m && not (is_proposed s (digest_of c m))) s.held))) w7.1 in
    let w9 = passed_over (due_prepare c me s) _ n d (if_reacting IsOther acts tt (s.active && not (leads c me s)) _ (first_reacting IsOther acts tt (prepare_for c me s) (inside c s) (prepare_reacting IsOther acts tt c me s))) w8.1 in
    let w10 = passed_over (due_commit c me s) _ n d (if_reacting IsOther acts tt s.active _ (first_reacting IsOther acts tt (commit_for c me s) (inside c s) (commit_reacting IsOther acts tt c me s))) w9.1 in
    record {
      timeout = w0.0;
      reply = w1.0;
      checkpoint = w2.0;
      answer = w3.0;
      supply = w4.0;
      enter = w5.0;
      install = w6.0;
      rise = w7.0;
      propose = w8.0;
      prepare = w9.0;
      commit = w10.0;
    }

-- ---- snapshots are of numbers that were reached

abbrev SnapshotsReached : ℕ → Table (List ℕ) → Type 0
SnapshotsReached executed t = (q : Key) (x : List ℕ) → at t q ≡ Some x → first_in q ≤ executed

reached_more : (n k : ℕ) (t : Table (List ℕ)) → n ≤ k → SnapshotsReached n t → SnapshotsReached k t
reached_more n k t le h q x e = let below = h q x e in omega (arith, le, below)

reached_keep : (n : ℕ) (test : Key → Bool) (t : Table (List ℕ)) → SnapshotsReached n t → SnapshotsReached n (keep test t)
reached_keep n test t h q x e = h q x ((found_keep test t q x e).1)

reached_entry : (n k : ℕ) (t : Table (List ℕ)) (bytes : List ℕ) → n ≤ k → SnapshotsReached n t → SnapshotsReached k (with_entry t (number_key k) bytes)
reached_entry n k t bytes le h q x e = elim (found_entry t (number_key k) q bytes x e) [
  | inl w ↦ let first : first_in q ≡ k = ap first_in w.0 in omega (arith, first)
  | inr old ↦ let below = h q x old in omega (arith, le, below)
]

left_snapshots : (c : Setup) (s : Core) (view : ℕ) → ((left_if_above c s view).snapshots ≡ s.snapshots)
left_snapshots c s view = cases (nat_lt s.view view) where
  cases : (b : Bool) → (cond b (left_for c s view) s).snapshots ≡ s.snapshots
  cases true = refl
  cases false = refl

said_snapshots : (c : Setup) (s : Core) (m : Signed Body) (b : Body) → (said c s m b).snapshots ≡ s.snapshots
said_snapshots c s m (bodies.NewView b) = left_snapshots c s b.view.0
said_snapshots c s m (bodies.Fetch (fetches.Request d)) = refl
said_snapshots c s m (bodies.Fetch (fetches.State n)) = refl
said_snapshots c s m _ = refl

recorded_snapshots : (c : Setup) (s : Core) (m : Signed Body) (b : Body) → (recorded c s m b).snapshots ≡ s.snapshots
recorded_snapshots c s m (bodies.Request b) = refl
recorded_snapshots c s m _ = refl

snapshots_after : (c : Setup) (me : ℕ) (s : Core) (a : Act) → Allowed c me s a → SnapshotsReached s.executed s.snapshots → SnapshotsReached s.executed (after c s a).snapshots ⊎ SnapshotsReached (after c s a).executed (after c s a).snapshots
snapshots_after c me s (Take m r) ok h = inl (subst (SnapshotsReached s.executed) (sym (recorded_snapshots c s m m.body)) h)
snapshots_after c me s Timeout ok h = inl h
snapshots_after c me s (Send to m) ok h = inl (subst (SnapshotsReached s.executed) (sym (said_snapshots c s m m.body)) h)
snapshots_after c me s (Relay to m) ok h = inl h
snapshots_after c me s (Enter m) ok h = inl (subst (SnapshotsReached s.executed) (sym (left_snapshots c s m.body.view.0)) h)
snapshots_after c me s (Rise n d) ok h = inl (reached_keep s.executed _ s.snapshots h)
snapshots_after c me s (Execute n d t o) ok h = inr (chosen (n % c.config.k == 0)) where
  up : s.executed ≤ n
  up = let next = ok.next in omega arith

  chosen : (b : Bool) → SnapshotsReached n (cond b (with_entry s.snapshots (number_key n) (encoded t)) s.snapshots)
  chosen true = reached_entry s.executed n s.snapshots (encoded t) up h
  chosen false = reached_more s.executed n s.snapshots up h
snapshots_after c me s (Install n b t) ok h =
    let above = ok.above in inr (reached_keep n _ (with_entry s.snapshots (number_key n) b) (reached_entry s.executed n s.snapshots b (omega arith) h))

snapshots_reached : (c : Setup) (me : ℕ) (signer : SigningState) (acts : List Act) → IsHistory c me signer acts → SnapshotsReached (core_after c signer acts).executed (core_after c signer acts).snapshots
snapshots_reached c me signer [] is = λ q x e. no_some x e
snapshots_reached c me signer (a ∷ acts) is =
    let s = core_after c signer acts in
    elim (snapshots_after c me s a is.1 (snapshots_reached c me signer acts is.0)) [
      | inl h ↦ reached_more s.executed (after c s a).executed (after c s a).snapshots (executed_up c me s a is.1) h
      | inr h ↦ h
    ]

-- ---- what is not due stays so

when_none : (b : Bool) (d : Duty) → when b d ≡ None → b ≡ false
when_none true d e = no_some d (sym e)
when_none false d e = refl

none_when : (b : Bool) (d : Duty) → b ≡ false → when b d ≡ None
none_when b d e = ap (λ (x : Bool). when x d) e

pub or_none : (o p : Option Duty) → or_else o p ≡ None → (o ≡ None) × (p ≡ None)
or_none None p e = (refl, e)
or_none (Some d) p e = no_some d (sym e)

none_or : (o p : Option Duty) → o ≡ None → p ≡ None → or_else o p ≡ None
none_or o p e f = ap (λ (x : Option Duty). or_else x p) e ∙ f

false_if : (b : Bool) → (b ≡ true → ⊥) → b ≡ false
false_if true h = absurd (h refl)
false_if false h = refl

find_none : {X : Type 0} (p q : X → Bool) (xs : List X) → ((x : X) → q x ≡ true → p x ≡ true) → find p xs ≡ None → find q xs ≡ None
find_none p q [] h e = refl
find_none {X} p q (x ∷ xs) h e = cases (p x) (q x) refl refl e (find_none p q xs h) where
  cases : (a b : Bool) → p x ≡ a → q x ≡ b → cond a (Some x) (find p xs) ≡ None → (find p xs ≡ None → find q xs ≡ None) → cond b (Some x) (find q xs) ≡ None
  cases true b f g e rest = no_some x (sym e)
  cases false true f g e rest = absurd (false≢true (sym f ∙ h x g))
  cases false false f g e rest = rest e

first_none : (duty other : ℕ → Option Duty) (ns : List ℕ) → ((n : ℕ) → duty n ≡ None → other n ≡ None) → first_for duty ns ≡ None → first_for other ns ≡ None
first_none duty other [] h e = refl
first_none duty other (n ∷ ns) h e =
    let both = or_none (duty n) (first_for duty ns) e in
    none_or (other n) (first_for other ns) (h n both.0) (first_none duty other ns h both.1)

if_none : (b : Bool) (o p : Option Duty) → (b ≡ true → o ≡ None → p ≡ None) → cond b o None ≡ None → cond b p None ≡ None
if_none true o p h e = h refl e
if_none false o p h e = refl

cut : (b : Bool) (o : Option Duty) → b ≡ false → cond b o None ≡ None
cut b o e = ap (λ (x : Bool). cond x o None) e

-- what an execution leaves, with its reply sent
abbrev moved : Core → ℕ → Service → SigningState → Core
moved s number service signer =
    record s { executed = number; service = service; reply_due = None; checkpoint_due = false; is_fresh = false; timed_out = false; signer = signer }

module _ (c : Setup) (me : ℕ) (s : Core) (number : ℕ) (service : Service) (signer : SigningState) (up : s.executed ≤ number)
    (older : (m : Signed RequestBody) → is_new service m ≡ true → is_new s.service m ≡ true) (reached : SnapshotsReached s.executed s.snapshots) where
  abbrev t : Core
  t = moved s number service signer

  enter_none : (m : Signed Body) (b : Body) → enter_by c s m b ≡ None → enter_by c t m b ≡ None
  enter_none m (bodies.NewView b) e = e
  enter_none m _ e = refl

  read_none : (b : Snapshot) (o : Option Service) → install_read c s b o ≡ None → install_read c t b o ≡ None
  read_none b None e = refl
  read_none b (Some state) e =
      let was = when_none (nat_lt s.executed b.number.0 && is_stable c.config s.checkpoints b.number.0 (c.hash b.state)) _ e in
      none_when (nat_lt number b.number.0 && is_stable c.config s.checkpoints b.number.0 (c.hash b.state)) _ (false_if _ (λ now.
      let parts = and_parts (nat_lt number b.number.0) (is_stable c.config s.checkpoints b.number.0 (c.hash b.state)) now in
      let above = ltb-true number b.number.0 parts.0 in
      true≢false (sym (and_from _ _ (lt-ltb s.executed b.number.0 (omega (arith, up, above))) parts.1) ∙ was)))

  install_none : (m : Signed Body) (b : Body) → install_from c s m b ≡ None → install_from c t m b ≡ None
  install_none m (bodies.Snapshot b) e = read_none b s.reading e
  install_none m _ e = refl

  taken_none : (duty other : Signed Body → Body → Option Duty) (o : Option (Signed Body)) → ((m : Signed Body) (b : Body) → duty m b ≡ None → other m b ≡ None) → on_taken duty o ≡ None → on_taken other o ≡ None
  taken_none duty other None h e = refl
  taken_none duty other (Some m) h e = h m m.body e

  rise_with_none : (n : ℕ) (o : Option (List ℕ)) → ((x : List ℕ) → o ≡ Some x → n ≤ s.executed) → rise_with c s n o ≡ None → rise_with c t n o ≡ None
  rise_with_none n None below e = refl
  rise_with_none n (Some bytes) below e =
      let was = when_none (may_rise c s n (c.hash bytes)) _ e in
      let le = below bytes refl in
      none_when (may_rise c t n (c.hash bytes)) _ (false_if _ (λ now.
      let p = and_parts (nat_lt s.low n) (nat_le n number && is_stable c.config s.checkpoints n (c.hash bytes)) now in
      let q = and_parts (nat_le n number) (is_stable c.config s.checkpoints n (c.hash bytes)) p.1 in
      true≢false (sym (and_from _ _ p.0 (and_from _ _ (le-leb n s.executed le) q.1)) ∙ was)))

  rise_none : (es : Table (List ℕ)) → rise_among c s es ≡ None → rise_among c t es ≡ None
  rise_none [] e = refl
  rise_none (x ∷ es) e =
      let both = or_none (rise_among c s es) (rise_with c s (first_in x.0) (at s.snapshots (number_key (first_in x.0)))) e in
      none_or (rise_among c t es) (rise_with c t (first_in x.0) (at s.snapshots (number_key (first_in x.0)))) (rise_none es both.0)
      (rise_with_none (first_in x.0) (at s.snapshots (number_key (first_in x.0))) (λ y f. reached (number_key (first_in x.0)) y f) both.1)

  too_high : (o : Option (Signed RequestBody)) → nat_le (next_number s) (s.low + span c.config) ≡ false → propose c me t o ≡ None
  too_high None e = refl
  too_high (Some m) e = cut (nat_le (next_number s) (s.low + span c.config)) _ e

  propose_none : (o p : Option (Signed RequestBody)) → (o ≡ None → p ≡ None) → propose c me s o ≡ None → propose c me t p ≡ None
  propose_none None p h e = ap (propose c me t) (h refl)
  propose_none (Some m) p h e = too_high p (left_none (nat_le (next_number s) (s.low + span c.config)) _ e) where
    left_none : (b : Bool) (d : Duty) → cond b (Some d) None ≡ None → b ≡ false
    left_none true d e = no_some d (sym e)
    left_none false d e = refl

  agree_none : (o : Option (Signed PrePrepare)) → agree me s o ≡ None → agree me t o ≡ None
  agree_none None e = refl
  agree_none (Some m) e = no_some _ (sym e)

  unless_none : (b : Bool) (o p : Option Duty) → (o ≡ None → p ≡ None) → cond b None o ≡ None → cond b None p ≡ None
  unless_none true o p h e = refl
  unless_none false o p h e = h e

  prepare_none : (n : ℕ) → prepare_for c me s n ≡ None → prepare_for c me t n ≡ None
  prepare_none n e = unless_none (among s.prepared_numbers n) (agree me s (if_passes (λ m. is_known c s m.body.digest.0) (pre_prepare_at c s s.view n)))
      (agree me t (if_passes (λ m. is_known c s m.body.digest.0) (pre_prepare_at c s s.view n))) (agree_none (if_passes (λ m. is_known c s m.body.digest.0) (pre_prepare_at c s s.view n))) e

  commit_to_none : (o : Option (Signed PrePrepare)) → commit_to me s o ≡ None → commit_to me t o ≡ None
  commit_to_none None e = refl
  commit_to_none (Some m) e = no_some _ (sym e)

  commit_none : (n : ℕ) → commit_for c me s n ≡ None → commit_for c me t n ≡ None
  commit_none n e = unless_none (among s.committed_numbers n) (commit_to me s (prepared_at c s n)) (commit_to me t (prepared_at c s n)) (commit_to_none (prepared_at c s n)) e

  nothing_moved : NothingBefore c me s → NothingBefore c me t
  nothing_moved h = record {
    timeout = refl;
    reply = refl;
    checkpoint = refl;
    answer = refl;
    supply = refl;
    enter = taken_none (enter_by c s) (enter_by c t) s.taken enter_none h.enter;
    install = taken_none (install_from c s) (install_from c t) s.taken install_none h.install;
    rise = rise_none s.snapshots h.rise;
    propose = if_none (s.active && leads c me s) (propose c me s (find (λ m. is_new s.service m && not (is_proposed s (digest_of c m))) s.held))
        (propose c me t (find (λ m. is_new service m && not (is_proposed s (digest_of c m))) s.held))
        (λ _ e. propose_none (find (λ m. is_new s.service m && not (is_proposed s (digest_of c m))) s.held) (find (λ m. is_new service m && not (is_proposed s (digest_of c m))) s.held)
        (find_none (λ m. is_new s.service m && not (is_proposed s (digest_of c m))) (λ m. is_new service m && not (is_proposed s (digest_of c m))) s.held
        (λ m now. let p = and_parts (is_new service m) (not (is_proposed s (digest_of c m))) now in and_from _ _ (older m p.0) p.1)) e) h.propose;
    prepare = if_none (s.active && not (leads c me s)) (first_for (prepare_for c me s) (inside c s)) (first_for (prepare_for c me t) (inside c s))
        (λ _ e. first_none (prepare_for c me s) (prepare_for c me t) (inside c s) prepare_none e) h.prepare;
    commit = if_none s.active (first_for (commit_for c me s) (inside c s)) (first_for (commit_for c me t) (inside c s))
        (λ _ e. first_none (commit_for c me s) (commit_for c me t) (inside c s) commit_none e) h.commit;
  }

-- ---- an execution, and its reply

module _ (c : Setup) (me : ℕ) (signer : SigningState) (acts : List Act) (is : IsHistory c me signer acts) (number : ℕ) (digest : List ℕ) (service : Service) (outcome : Outcome)
    (h : FollowsWithout c me (core_after c signer acts) number digest service outcome) where
  abbrev s : Core
  s = core_after c signer acts

  abbrev executed : Core
  executed = after c s (Execute number digest service outcome)

  fulfils : Fulfils c s (due c me s) (Execute number digest service outcome)
  fulfils = subst (λ (o : Option Duty). Fulfils c s o (Execute number digest service outcome)) (sym h.is_due) (service, outcome, h.step, refl)

  next_is : number ≡ s.executed + 1
  next_is = (due_allowed c me signer acts is (Execute number digest service outcome) fulfils).next

  before_it : NothingBefore c me s
  before_it = nothing_before c me s number digest h.is_due

  nothing : (g : SigningState) → NothingBefore c me (moved s number service g)
  nothing g = nothing_moved c me s number service g (let next = next_is in omega arith) (new_before s.service (request_of c s digest) service outcome h.step) (snapshots_reached c me signer acts is) before_it

  -- the core after it, whatever is still to be sent
  abbrev shaped : Option Reply → Bool → SigningState → Core
  shaped reply b g =
      record s {
        executed = number;
        service = service;
        reply_due = reply;
        checkpoint_due = b;
        snapshots = cond b (with_entry s.snapshots (number_key number) (encoded service)) s.snapshots;
        is_fresh = false;
        timed_out = false;
        signer = g;
      }

  then_nothing : (g : SigningState) → NothingBefore c me (shaped None (number % c.config.k == 0) g)
  then_nothing g = subst (λ (b : Bool). NothingBefore c me (shaped None b g)) (sym h.between) (nothing g)

  alone_here : outcome.reply ≡ None → NothingBefore c me executed
  alone_here e = subst (λ (o : Option Reply). NothingBefore c me (shaped o (number % c.config.k == 0) s.signer)) (sym e) (then_nothing s.signer)

  replied_here : (reply : Reply) → outcome.reply ≡ Some reply → RepliesAlone c me executed reply
  replied_here reply e = subst (λ (o : Option Reply). RepliesAlone c me (shaped o (number % c.config.k == 0) s.signer) reply) (sym e)
      (record { first = refl; then = then_nothing (signer_after s.signer 1) })

pub alone : (c : Setup) (me : ℕ) (signer : SigningState) (acts : List Act) → IsHistory c me signer acts → (number : ℕ) (digest : List ℕ) (service : Service) (outcome : Outcome)
    → FollowsWithout c me (core_after c signer acts) number digest service outcome → outcome.reply ≡ None → NothingBefore c me (after c (core_after c signer acts) (Execute number digest service outcome))
alone c me signer acts is number digest service outcome h e = alone_here c me signer acts is number digest service outcome h e

pub replied : (c : Setup) (me : ℕ) (signer : SigningState) (acts : List Act) → IsHistory c me signer acts → (number : ℕ) (digest : List ℕ) (service : Service) (outcome : Outcome)
    → FollowsWithout c me (core_after c signer acts) number digest service outcome → (reply : Reply) → outcome.reply ≡ Some reply
    → RepliesAlone c me (after c (core_after c signer acts) (Execute number digest service outcome)) reply
replied c me signer acts is number digest service outcome h reply e = replied_here c me signer acts is number digest service outcome h reply e
