-- What is known, after a history, where a duty is due.
use Rattle.std.proofs.Common.{◌≡◌, ℕ, ◌+◌, ◌<◌, ◌≤◌, Bool, true, false, ◌&&◌, List, [], ◌∷◌, length, Option, Some, None, refl, sym, ap, subst, ◌∙◌, inl, inr, arith}
use Rattle.std.specs.Prelude.{IfSome, IsSome, is_some, nat_lt, ◌==◌, if◌then◌else◌}
use Rattle.std.specs.Option.{option_map}
use Rattle.std.proofs.lemmas.Bool.{and_parts, eqb-true, false≢true, ltb-true}
use Rattle.host_types.specs.Configuration.{IsConfiguration}
use Rattle.host_types.specs.declared.ClientId.{ClientId}
use Rattle.host_types.specs.declared.Digest.{Digest}
use Rattle.host_types.specs.declared.ReplicaId.{ReplicaId}
use Rattle.host_types.specs.declared.SeqNo.{SeqNo}
use Rattle.host_types.specs.declared.View.{View}
use Rattle.pbft_codec.specs.declared.body.Body.TheVariants as bodies
use Rattle.pbft_codec.specs.declared.body.fetch.Fetch.TheVariants as fetches
use Rattle.pbft_model.specs.Words.{Body, Checkpoint, Reply, Signed, Snapshot}
use Rattle.pbft_model.specs.Acts.{Act, All, Install, Rise, Send}
use Rattle.pbft_model.specs.Certificates.{Fields, of_pre_prepare, of_prepare, of_commit, is_by, is_stable, voted}
use Rattle.pbft_model.specs.Core.{Core, held_with, if_passes, is_certified, is_committed, is_known, has_position}
use Rattle.pbft_model.specs.Duties.{Do, Duty, Executing, due, due_enter, due_execute, due_install, due_open, due_reply, execute_at, greatest_stable, is_stable_entry, leads, say, when}
use Rattle.pbft_model.specs.Histories.{IsIn}
use Rattle.pbft_model.specs.Rows.{Fulfils}
use Rattle.pbft_model.specs.Rules.{Allowed, IsStateAt, own_message, pre_prepare_of, view_change_of}
use Rattle.pbft_model.specs.Sequential.{IsSound, Service, encoded, last_reply_of}
use Rattle.pbft_model.specs.Setup.{Setup, number_limit, primary}
use Rattle.pbft_model.specs.Tables.{at, entries_in, number_key, vote_key}
use Rattle.pbft_model.proofs.Fitting.{in_step_at}
use Rattle.pbft_model.proofs.Rowed.{due_allowed}
use Rattle.pbft_model.proofs.Stages.{voted_is}
use Rattle.replica_core.specs.Meanings.{IsDue}
use Rattle.replica_core.specs.Replicas.{AreNumbered}
use Rattle.replica_core.specs.Settling.{IsReached}
use Rattle.replica_core.specs.declared.duties.Duty as our
use Rattle.replica_core.specs.declared.duties.Duty.TheVariants as duties
use Rattle.replica_core.proofs.Installing.{to_install}
use Rattle.replica_core.proofs.Keeping.{IsKeptWhereDue, kept_at}
use Rattle.replica_core.proofs.Ranging.{IsInRange, executed_low, in_range_at, snapshot_fits}

pub as_duty : (c : Setup) (me : ℕ) (s : Core) (duty d : our.Duty) → IsDue c me s (Some duty) → duty ≡ d → IsDue c me s (Some d)
as_duty c me s duty d is e = subst (λ (x : our.Duty). IsDue c me s (Some x)) e is

some_of : {X Y : Type 0} (g : X → Y) (o : Option X) → IsSome (option_map g o) → IsSome o
some_of g None h = absurd (false≢true h)
some_of g (Some x) h = refl

-- a duty that is due where a test passes
pub passed : (test : Bool) (d : Duty) (o : Option Duty) → o ≡ when test d → IsSome o → (test ≡ true) × (o ≡ Some d)
passed false d o e some = absurd (false≢true (subst (λ (x : Option Duty). IsSome x) e some))
passed true d o e some = (refl, e)

some_reply : (me : ℕ) (s : Core) (o : Option Reply) → IsSome (due_reply me s o) → IsSome o
some_reply me s None h = absurd (false≢true h)
some_reply me s (Some r) h = refl

some_here : (active : Bool) (n : ℕ) (test test' : _) (o : Option (Signed _)) → IsSome (if active then execute_at n (if_passes test (if_passes test' o)) else None) → IsSome o
some_here false n test test' o h = absurd (false≢true h)
some_here true n test test' None h = absurd (false≢true h)
some_here true n test test' (Some m) h = refl

greatest_low : (c : Setup) (s : Core) (ms : List (Signed Checkpoint)) → ((m : Signed Checkpoint) → IsIn m ms → m.body.number.0 < number_limit) → greatest_stable c s ms < number_limit
greatest_low c s [] low = omega arith
greatest_low c s (m ∷ ms) low = cases (is_stable_entry c s m && nat_lt (greatest_stable c s ms) m.body.number.0) (low m (inl refl)) (greatest_low c s ms (λ x is. low x (inr is))) where
  cases : (b : Bool) → m.body.number.0 < number_limit → greatest_stable c s ms < number_limit → (if b then m.body.number.0 else greatest_stable c s ms) < number_limit
  cases true here rest = here
  cases false here rest = rest

module _ (c : Setup) (me : ℕ) (s : Core) (configuration : IsConfiguration c.config) (reached : IsReached c me s) where
  pub allowed : (a : Act) → Fulfils c s (due c me s) a → Allowed c me s a
  allowed a does =
      subst (λ (x : Core). Allowed c me x a) reached.here (due_allowed c me reached.signer reached.acts reached.history a (subst (λ (x : Core). Fulfils c x (due c me x) a) (sym reached.here) does))

  allowed_act : (a : Act) → due c me s ≡ Some (Do a) → Allowed c me s a
  allowed_act a e = allowed a (subst (λ (o : Option Duty). Fulfils c s o a) (sym e) refl)

  pub sound : IsSound s.service
  sound = subst (λ (x : Core). IsSound x.service) reached.here (in_step_at c me reached.signer configuration reached.acts reached.history).sound

  pub low_number : s.executed < number_limit
  low_number = subst (λ (x : Core). x.executed < number_limit) reached.here (executed_low c me reached.signer configuration reached.acts reached.history)

  range : IsInRange s
  range = subst IsInRange reached.here (in_range_at c me reached.signer configuration reached.acts reached.history)

  pub higher : (view : View) → IsDue c me s (Some (duties.ChangeTo view)) → s.view < view.0
  higher view d = (allowed_act (Send All (own_message s me (bodies.ViewChange (view_change_of c s view.0)))) d.0).says.higher

  pub owed : IsDue c me s (Some duties.Reply) → IsSome s.reply_due
  owed d = some_reply me s s.reply_due (subst (λ (o : Option Duty). IsSome o) d.0 d.1)

  pub checkpoint_kept : IsDue c me s (Some duties.Checkpoint) → at s.snapshots (number_key s.executed) ≡ Some (encoded s.service)
  checkpoint_kept d =
      let due = (allowed_act (Send All (own_message s me (bodies.Checkpoint (record { number = record { 0 = s.executed }; digest = record { 0 = c.hash (encoded s.service) } })))) d.0).says.due in
      subst IsKeptWhereDue reached.here (kept_at c me reached.signer reached.acts reached.history) due

  pub has_last_reply : (client : ClientId) → IsDue c me s (Some (duties.AnswerAgain client)) → IsSome (last_reply_of s.service client.0)
  has_last_reply client d = some_of _ (last_reply_of s.service client.0) (subst (λ (o : Option Duty). IsSome o) d.0 d.1)

  pub request_held : (digest : Digest) (asker : ReplicaId) → IsDue c me s (Some (duties.Relay digest asker)) → IsSome (held_with c s.held digest.0)
  request_held digest asker d = some_of _ (held_with c s.held digest.0) (subst (λ (o : Option Duty). IsSome o) d.0 d.1)

  pub snapshot_kept : (number : SeqNo) (asker : ReplicaId) → IsDue c me s (Some (duties.Supply number asker)) → IsSome (at s.snapshots (number_key number.0))
  snapshot_kept number asker d = some_of _ (at s.snapshots (number_key number.0)) (subst (λ (o : Option Duty). IsSome o) d.0 d.1)

  -- a snapshot that is kept has a sequence number, and is short
  kept_fits : (number : ℕ) (o : Option (List ℕ)) → at s.snapshots (number_key number) ≡ o → IsSome o → (number < number_limit) × IfSome o (λ bytes. length bytes ≤ 5_788_337)
  kept_fits number None e some = absurd (false≢true some)
  kept_fits number (Some bytes) e some = snapshot_fits s number bytes range e

  pub snapshot_low : (number : SeqNo) (asker : ReplicaId) → IsDue c me s (Some (duties.Supply number asker)) → number.0 < number_limit
  snapshot_low number asker d = (kept_fits number.0 (at s.snapshots (number_key number.0)) refl (snapshot_kept number asker d)).0

  pub snapshot_short : (number : SeqNo) (asker : ReplicaId) → IsDue c me s (Some (duties.Supply number asker)) → IfSome (at s.snapshots (number_key number.0)) (λ bytes. length bytes ≤ 5_788_337)
  snapshot_short number asker d = (kept_fits number.0 (at s.snapshots (number_key number.0)) refl (snapshot_kept number asker d)).1

  pub to_enter : IsDue c me s (Some duties.Enter) → IsSome (due_enter c s)
  to_enter d = subst (λ (o : Option Duty). IsSome o) d.0 d.1

  pub is_to_install : IsDue c me s (Some duties.Install) → IsSome (due_install c s)
  is_to_install d = subst (λ (o : Option Duty). IsSome o) d.0 d.1

  pub reads : IsDue c me s (Some duties.Install) → (m : Signed Body) (b : Snapshot) (state : Service) → s.taken ≡ Some m → m.body ≡ bodies.Snapshot b → s.reading ≡ Some state → IsStateAt c b.number.0 b.state state
  reads d m b state taken is reading =
      let to = to_install c s m b taken is (is_to_install d) in
      let here : IsStateAt c b.number.0 b.state to.state = (allowed_act (Install b.number.0 b.state to.state) (d.0 ∙ to.due)).reads in
      subst (λ (x : Service). IsStateAt c b.number.0 b.state x) (one to.state state (sym to.reading ∙ reading)) here where
        one : (x y : Service) → Some x ≡ Some y → x ≡ y
        one x y e = cc

  pub rises_above : (number : SeqNo) (digest : Digest) → IsDue c me s (Some (duties.Rise number digest)) → s.low < number.0
  rises_above number digest d = (allowed_act (Rise number.0 digest.0) d.0).above

  pub rises_to_reached : (number : SeqNo) (digest : Digest) → IsDue c me s (Some (duties.Rise number digest)) → number.0 ≤ s.executed
  rises_to_reached number digest d = (allowed_act (Rise number.0 digest.0) d.0).reached

  pub rises_to_stable : (number : SeqNo) (digest : Digest) → IsDue c me s (Some (duties.Rise number digest)) → is_stable c.config s.checkpoints number.0 digest.0 ≡ true
  rises_to_stable number digest d = (allowed_act (Rise number.0 digest.0) d.0).stable

  pub proposes : (number : SeqNo) (digest : Digest) → IsDue c me s (Some (duties.Propose number digest))
      → (number.0 < number_limit) × (due c me s ≡ Some (say me s All (bodies.PrePrepare (pre_prepare_of (record { view = s.view; number = number.0; digest = digest.0 })))))
  proposes number digest d =
      let p = passed (nat_lt number.0 number_limit) (say me s All (bodies.PrePrepare (pre_prepare_of (record { view = s.view; number = number.0; digest = digest.0 })))) (due c me s) d.0 d.1 in
      (ltb-true number.0 number_limit p.0, p.1)

  pub proposes_low : (number : SeqNo) (digest : Digest) → IsDue c me s (Some (duties.Propose number digest)) → number.0 < number_limit
  proposes_low number digest d = (proposes number digest d).0

  pub leading : (number : SeqNo) (digest : Digest) → IsDue c me s (Some (duties.Propose number digest)) → leads c me s ≡ true
  leading number digest d =
      (allowed_act (Send All (own_message s me (bodies.PrePrepare (pre_prepare_of (record { view = s.view; number = number.0; digest = digest.0 }))))) ((proposes number digest d).1)).says.leads

  pub following : (number : SeqNo) (digest : Digest) → IsDue c me s (Some (duties.Prepare number digest)) → leads c me s ≡ false
  following number digest d =
      (allowed_act (Send All (own_message s me (bodies.Prepare (record { view = record { 0 = s.view }; number = number; digest = digest })))) d.0).says.follows

  -- a number with a recorded PrePrepare is a sequence number
  voted_low : AreNumbered s → (x : Fields) (i : ℕ) → voted of_pre_prepare s.pre_prepares x i ≡ true → x.number < number_limit
  voted_low numbered x i e =
      let w = voted_is of_pre_prepare s.pre_prepares x i e in
      numbered (vote_key x.number x.view i) (ap is_some w.1)

  pub prepares_low : AreNumbered s → (number : SeqNo) (digest : Digest) → IsDue c me s (Some (duties.Prepare number digest)) → number.0 < number_limit
  prepares_low numbered number digest d =
      let says = (allowed_act (Send All (own_message s me (bodies.Prepare (record { view = record { 0 = s.view }; number = number; digest = digest })))) d.0).says in
      voted_low numbered (of_prepare (record { view = record { 0 = s.view }; number = number; digest = digest })) (primary c.config s.view) says.proposed

  pub commits_low : AreNumbered s → (number : SeqNo) (digest : Digest) → IsDue c me s (Some (duties.Commit number digest)) → number.0 < number_limit
  commits_low numbered number digest d =
      let says = (allowed_act (Send All (own_message s me (bodies.Commit (record { view = record { 0 = s.view }; number = number; digest = digest })))) d.0).says in
      let x = of_commit (record { view = record { 0 = s.view }; number = number; digest = digest }) in
      let certified = (and_parts (is_certified c s x) (is_known c s x.digest) says.prepared).0 in
      voted_low numbered x (primary c.config x.view) ((and_parts (voted of_pre_prepare s.pre_prepares x (primary c.config x.view)) _ certified).0)

  pub executes_due : (number : SeqNo) (digest : Digest) → IsDue c me s (Some (duties.Execute number digest))
      → (number.0 ≡ s.executed + 1) × IsSome (due_execute c s) × (due c me s ≡ Some (Executing number.0 digest.0))
  executes_due number digest d =
      let p = passed (number.0 == s.executed + 1 && is_some (due_execute c s)) (Executing number.0 digest.0) (due c me s) d.0 d.1 in
      let parts = and_parts (number.0 == s.executed + 1) (is_some (due_execute c s)) p.0 in
      (eqb-true number.0 (s.executed + 1) parts.0, parts.1, p.1)

  pub executes_next : (number : SeqNo) (digest : Digest) → IsDue c me s (Some (duties.Execute number digest)) → number.0 ≡ s.executed + 1
  executes_next number digest d = (executes_due number digest d).0

  pub executes_low : AreNumbered s → (number : SeqNo) (digest : Digest) → IsDue c me s (Some (duties.Execute number digest)) → number.0 < number_limit
  executes_low numbered number digest d =
      let is = executes_due number digest d in
      let key = vote_key (s.executed + 1) s.view (primary c.config s.view) in
      let there = some_here s.active (s.executed + 1) (λ m. is_committed c s (of_pre_prepare m.body)) (is_by (primary c.config s.view) (has_position s.view (s.executed + 1))) (at s.pre_prepares key) is.1 in
      let low : s.executed + 1 < number_limit = numbered key there in
      let same = is.0 in
      omega (arith, low, same)

  pub is_to_open : IsDue c me s (Some duties.Open) → IsSome (due_open c me s)
  is_to_open d = subst (λ (o : Option Duty). IsSome o) d.0 d.1

  pub fetches_due : (number : SeqNo) → IsDue c me s (Some (duties.FetchState number))
      → (number.0 ≡ greatest_stable c s (entries_in s.checkpoints)) × (due c me s ≡ Some (say me s All (bodies.Fetch (fetches.State number))))
  fetches_due number d =
      let p = passed (number.0 == greatest_stable c s (entries_in s.checkpoints)) (say me s All (bodies.Fetch (fetches.State number))) (due c me s) d.0 d.1 in
      (eqb-true number.0 (greatest_stable c s (entries_in s.checkpoints)) p.0, p.1)

  pub fetches_low : (number : SeqNo) → IsDue c me s (Some (duties.FetchState number)) → number.0 < number_limit
  fetches_low number d =
      let low = greatest_low c s (entries_in s.checkpoints) range.checkpoints in
      let same = (fetches_due number d).0 in
      omega (arith, low, same)
