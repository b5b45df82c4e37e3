-- Where nothing is due, what is recorded and known within the marks has an own Prepare, and what is prepared an own Commit.
use Rattle.std.proofs.Common.{◌≡◌, ◌⊎◌, ℕ, ◌+◌, ◌<◌, ◌≤◌, Bool, true, false, ◌&&◌, cond, List, [], ◌∷◌, Option, Some, None, refl, sym, ap, subst, ◌∙◌, arith, inl, inr}
use Rattle.std.specs.Prelude.{not, ◌==◌}
use Rattle.std.proofs.lemmas.Bool.{true≢false, false≢true, and_parts, and_from, not_from_false, cond-true, false_from_ne_true, eqb-true}
use Rattle.std.proofs.lemmas.Option.{same_Some}
use Rattle.pbft_model.specs.Words.{SigningState, Signed, Body, PrePrepare, Prepare, Commit, part_of}
use Rattle.pbft_codec.specs.declared.body.Body.TheVariants as bodies
use Rattle.pbft_model.specs.Setup.{Setup, primary, span}
use Rattle.pbft_model.specs.Tables.{at, vote_key}
use Rattle.pbft_model.specs.Certificates.{Fields, of_pre_prepare, of_prepare, of_commit, same_fields, is_by, voted, has_quorum}
use Rattle.pbft_model.specs.Core.{Core, start_of, inside, has_position, is_certified, is_known, is_prepared, is_committed, pre_prepare_at, prepared_at, if_passes}
use Rattle.pbft_model.specs.Acts.{Act, Send}
use Rattle.pbft_model.specs.Rules.{MaySay}
use Rattle.pbft_model.specs.Duties.{Duty, Executing, or_else, first_for, leads, among, agree, prepare_for, due_prepare, commit_to, commit_for, due_commit, execute_at, due_execute}
use Rattle.pbft_model.specs.Rows.{Row, IsLawfulFrom}
use Rattle.pbft_model.specs.Histories.{core_after, IsHistory, IsEarlier, IsIn}
use Rattle.pbft_model.proofs.Found.{no_some, passed, passes}
use Rattle.pbft_model.proofs.Following.{or_none}
use Rattle.pbft_model.proofs.Events.{before, history_at, holds_on, signed_at}
use Rattle.pbft_model.proofs.Made.{numbers_within}
use Rattle.pbft_model.proofs.Stages.{Stage, stage_after, Holds, holds_keeps, by_is, fields_are, voted_is}
use Rattle.pbft_agreement.specs.RowRules.{HasSaid}
use Rattle.pbft_progress.specs.Votes.{HasPrepared, HasCommitted}
use Rattle.pbft_progress.proofs.Resting.{journal_rests}
use Rattle.pbft_progress.proofs.Lives.{life}
use Rattle.pbft_progress.proofs.Noting.{Sending, notes}

-- ---- what is not due

pub first_none_at : (duty : ℕ → Option Duty) (ns : List ℕ) (n : ℕ) → IsIn n ns → first_for duty ns ≡ None → duty n ≡ None
first_none_at duty [] n none e = absurd none
first_none_at duty (k ∷ ns) n (inl same) e = ap duty same ∙ (or_none (duty k) (first_for duty ns) e).0
first_none_at duty (k ∷ ns) n (inr later) e = first_none_at duty ns n later (or_none (duty k) (first_for duty ns) e).1

when_so : (b : Bool) (o : Option Duty) → b ≡ true → cond b o None ≡ None → o ≡ None
when_so true o t e = e
when_so false o t e = absurd (false≢true t)

module _ (c : Setup) (me : ℕ) (s : Core) where
  agreed : (o : Option (Signed PrePrepare)) (m : Signed PrePrepare) → o ≡ Some m → agree me s o ≡ None → ⊥
  agreed None m is e = no_some m is
  agreed (Some p) m is e = no_some _ (sym e)

  committing : (o : Option (Signed PrePrepare)) (m : Signed PrePrepare) → o ≡ Some m → commit_to me s o ≡ None → ⊥
  committing None m is e = no_some m is
  committing (Some p) m is e = no_some _ (sym e)

  unless : (b : Bool) (o : Option Duty) → (o ≡ None → ⊥) → cond b None o ≡ None → b ≡ true
  unless true o h e = refl
  unless false o h e = absurd (h e)

  -- the Prepare is noted
  pub prepare_noted : (n : ℕ) (m : Signed PrePrepare) → s.active ≡ true → leads c me s ≡ false → IsIn n (inside c s) → pre_prepare_at c s s.view n ≡ Some m → is_known c s m.body.digest.0 ≡ true
      → due_prepare c me s ≡ None → among s.prepared_numbers n ≡ true
  prepare_noted n m on follows within found known e =
      let all = when_so (s.active && not (leads c me s)) (first_for (prepare_for c me s) (inside c s)) (and_from s.active (not (leads c me s)) on (not_from_false (leads c me s) follows)) e in
      let here = first_none_at (prepare_for c me s) (inside c s) n within all in
      let passing = passes (λ (p : Signed PrePrepare). is_known c s p.body.digest.0) (pre_prepare_at c s s.view n) m found known in
      unless (among s.prepared_numbers n) (agree me s (if_passes (λ p. is_known c s p.body.digest.0) (pre_prepare_at c s s.view n)))
      (agreed (if_passes (λ p. is_known c s p.body.digest.0) (pre_prepare_at c s s.view n)) m passing) here

  -- the Commit is noted
  pub commit_noted : (n : ℕ) (m : Signed PrePrepare) → s.active ≡ true → IsIn n (inside c s) → pre_prepare_at c s s.view n ≡ Some m → is_prepared c s (of_pre_prepare m.body) ≡ true
      → due_commit c me s ≡ None → among s.committed_numbers n ≡ true
  commit_noted n m on within found prepared e =
      let all = when_so s.active (first_for (commit_for c me s) (inside c s)) on e in
      let here = first_none_at (commit_for c me s) (inside c s) n within all in
      let passing = passes (λ (p : Signed PrePrepare). is_prepared c s (of_pre_prepare p.body)) (pre_prepare_at c s s.view n) m found prepared in
      unless (among s.committed_numbers n) (commit_to me s (prepared_at c s n)) (committing (prepared_at c s n) m passing) here

  executing : (n : ℕ) (o : Option (Signed PrePrepare)) (m : Signed PrePrepare) → o ≡ Some m → execute_at n o ≡ None → ⊥
  executing n None m is e = no_some m is
  executing n (Some p) m is e = no_some _ (sym e)

  -- what is due to be executed next is not committed
  pub not_committed : (m : Signed PrePrepare) → s.active ≡ true → pre_prepare_at c s s.view (s.executed + 1) ≡ Some m → due_execute c s ≡ None → is_committed c s (of_pre_prepare m.body) ≡ false
  not_committed m on found e =
      let none = when_so s.active (execute_at (s.executed + 1) (if_passes (λ p. is_committed c s (of_pre_prepare p.body)) (pre_prepare_at c s s.view (s.executed + 1)))) on e in
      false_from_ne_true (is_committed c s (of_pre_prepare m.body)) (λ t. executing (s.executed + 1) (if_passes (λ p. is_committed c s (of_pre_prepare p.body)) (pre_prepare_at c s s.view (s.executed + 1))) m
      (passes (λ (p : Signed PrePrepare). is_committed c s (of_pre_prepare p.body)) (pre_prepare_at c s s.view (s.executed + 1)) m found t) none)

-- ---- the vote that was noted has the fields of what is recorded

module _ (c : Setup) (me : ℕ) (signer : SigningState) (acts : List Act) (is : IsHistory c me signer acts) where
  now : Core
  now = core_after c signer acts

  abbrev Here : Fields → Core → Type 0
  Here x s = Stage x.view (Holds x.number x.view (primary c.config x.view) x.digest) s

  -- a PrePrepare that a vote rests on is recorded still
  still_here : (early : List Act) (x : Fields) → IsEarlier early acts → voted of_pre_prepare (core_after c signer early).pre_prepares x (primary c.config x.view) ≡ true → x.view ≡ (core_after c signer early).view
      → (core_after c signer early).active ≡ true → Here x (core_after c signer acts)
  still_here early x point e view on =
      let s = core_after c signer early in
      let w = voted_is of_pre_prepare s.pre_prepares x (primary c.config x.view) e in
      let by = by_is (primary c.config x.view) (λ b. same_fields (of_pre_prepare b) x) w.0 w.2 in
      let same = fields_are (of_pre_prepare w.0.body) x by.2 in
      holds_on c me signer (Here x) (stage_after c me x.view (Holds x.number x.view (primary c.config x.view) x.digest) (holds_keeps c x.number x.view (primary c.config x.view) x.digest)) early acts point is
      (inl (sym view, on, inr (w.0, w.1, ap (λ (y : Fields). y.digest) same)))

  -- what is recorded at the place of a proposal
  pub recorded_as : (s : Core) (n : ℕ) (m : Signed PrePrepare) → pre_prepare_at c s s.view n ≡ Some m
      → (at s.pre_prepares (vote_key n s.view (primary c.config s.view)) ≡ Some m) × ((of_pre_prepare m.body).view ≡ s.view) × ((of_pre_prepare m.body).number ≡ n)
  recorded_as s n m e =
      let v = passed (is_by (primary c.config s.view) (has_position s.view n)) (at s.pre_prepares (vote_key n s.view (primary c.config s.view))) m e in
      let by = by_is (primary c.config s.view) (has_position s.view n) m v.1 in
      let position = and_parts (m.body.view.0 == s.view) (m.body.number.0 == n) by.2 in
      (v.0, eqb-true m.body.view.0 s.view position.0, eqb-true m.body.number.0 n position.1)

  as_recorded : (n : ℕ) (m : Signed PrePrepare) (x : Fields) → x.view ≡ (core_after c signer acts).view → x.number ≡ n → (core_after c signer acts).low < n
      → pre_prepare_at c (core_after c signer acts) (core_after c signer acts).view n ≡ Some m → Here x (core_after c signer acts) → x ≡ of_pre_prepare m.body
  as_recorded n m x view number above found (inr higher) = absurd (omega (arith, view, higher))
  as_recorded n m x view number above found (inl v) =
      let s = core_after c signer acts in
      let r = recorded_as s n m found in
      elim v.2 [
        | inl below ↦ absurd (omega (arith, number, above, below))
        | inr w ↦
            let place : at s.pre_prepares (vote_key n s.view (primary c.config s.view)) ≡ Some w.0 =
            subst (λ (k : ℕ). at s.pre_prepares (vote_key k s.view (primary c.config s.view)) ≡ Some w.0) number
            (subst (λ (u : ℕ). at s.pre_prepares (vote_key x.number u (primary c.config u)) ≡ Some w.0) view w.1) in
            let same : w.0 ≡ m = same_Some w.0 m (sym place ∙ r.0) in
            let digest : x.digest ≡ m.body.digest.0 = sym w.2 ∙ ap (λ (p : Signed PrePrepare). p.body.digest.0) same in
            let view_is : x.view ≡ m.body.view.0 = view ∙ sym r.1 in
            let number_is : x.number ≡ m.body.number.0 = number ∙ sym r.2 in
            λ k. record { view = view_is k; number = number_is k; digest = digest k }
      ]

  above_low : (n : ℕ) → IsIn n (inside c (core_after c signer acts)) → (core_after c signer acts).low < n
  above_low n within = let w = numbers_within (span c.config) ((core_after c signer acts).low + 1) n within in let first = w.0 in omega (arith, first)

  says_at : {B : Type 0} (kind : B → Body) (of : B → Fields) (view n : ℕ) (w : Sending kind of view n acts) → MaySay c me (core_after c signer w.early) (kind w.vote)
  says_at kind of view n w =
      subst (λ (x : Body). MaySay c me (core_after c signer w.early) x) w.body_is ((history_at c me signer (Send w.to w.message ∷ w.early) acts w.point is).1.says)

  -- An own Prepare was sent for what is recorded and known within the marks, by a backup at which none is due.
  pub prepare_answered : (n : ℕ) (m : Signed PrePrepare) → (core_after c signer acts).active ≡ true → leads c me (core_after c signer acts) ≡ false → IsIn n (inside c (core_after c signer acts))
      → pre_prepare_at c (core_after c signer acts) (core_after c signer acts).view n ≡ Some m → is_known c (core_after c signer acts) m.body.digest.0 ≡ true → due_prepare c me (core_after c signer acts) ≡ None
      → (w : Sending bodies.Prepare of_prepare (core_after c signer acts).view n acts) × (of_prepare w.vote ≡ of_pre_prepare m.body)
  prepare_answered n m on follows within found known e =
      let s = core_after c signer acts in
      let w = (notes c me signer acts is).0 n (prepare_noted c me s n m on follows within found known e) in
      let says = says_at bodies.Prepare of_prepare s.view n w in
      let here = still_here w.early (of_prepare w.vote) (before (Send w.to w.message) w.early acts w.point) says.proposed says.inside.view_is says.inside.active in
      (w, as_recorded n m (of_prepare w.vote) w.view_is w.number_is (above_low n within) found here)

  -- An own Commit was sent for what is prepared.
  pub commit_answered : (n : ℕ) (m : Signed PrePrepare) → (core_after c signer acts).active ≡ true → IsIn n (inside c (core_after c signer acts))
      → pre_prepare_at c (core_after c signer acts) (core_after c signer acts).view n ≡ Some m → is_prepared c (core_after c signer acts) (of_pre_prepare m.body) ≡ true → due_commit c me (core_after c signer acts) ≡ None
      → (w : Sending bodies.Commit of_commit (core_after c signer acts).view n acts) × (of_commit w.vote ≡ of_pre_prepare m.body)
  commit_answered n m on within found prepared e =
      let s = core_after c signer acts in
      let w = (notes c me signer acts is).1 n (commit_noted c me s n m on within found prepared e) in
      let says = says_at bodies.Commit of_commit s.view n w in
      let t = core_after c signer w.early in
      let x = of_commit w.vote in
      let certified = (and_parts (is_certified c t x) (is_known c t x.digest) says.prepared).0 in
      let proposed = (and_parts (voted of_pre_prepare t.pre_prepares x (primary c.config x.view)) _ certified).0 in
      let here = still_here w.early x (before (Send w.to w.message) w.early acts w.point) proposed says.inside.view_is says.inside.active in
      (w, as_recorded n m x w.view_is w.number_is (above_low n within) found here)

-- ---- behind the rows of a journal

module _ (c : Setup) (me : ℕ) (signer : SigningState) (rows : List Row) (s : Core) (lawful : IsLawfulFrom c me (start_of c signer) rows s) where
  abbrev acts_of : List Act
  acts_of = (life c me signer rows s lawful).acts

  said_by : {B : Type 0} (kind : B → Body) (of : B → Fields) (view n : ℕ) (x : Fields) → (w : Sending kind of view n acts_of) × (of w.vote ≡ x) → (b : B) × HasSaid (kind b) rows × (of b ≡ x)
  said_by kind of view n x (w, same) =
      let l = life c me signer rows s lawful in
      (w.vote, (part_of w.message, l.gives (part_of w.message) (signed_at (part_of w.message) (Send w.to w.message) w.early l.acts w.point (inl refl)), w.body_is), same)

  pub backs_proposal : (n : ℕ) (m : Signed PrePrepare) → s.active ≡ true → leads c me s ≡ false → IsIn n (inside c s) → pre_prepare_at c s s.view n ≡ Some m → is_known c s m.body.digest.0 ≡ true
      → HasPrepared (of_pre_prepare m.body) rows
  backs_proposal n m on follows within found known =
      let l = life c me signer rows s lawful in
      let rests = (journal_rests c me signer rows s lawful).before_executing.prepare in
      let P : Core → Type 0 = λ t. t.active ≡ true → leads c me t ≡ false → IsIn n (inside c t) → pre_prepare_at c t t.view n ≡ Some m → is_known c t m.body.digest.0 ≡ true → due_prepare c me t ≡ None
      → (w : Sending bodies.Prepare of_prepare t.view n l.acts) × (of_prepare w.vote ≡ of_pre_prepare m.body) in
      said_by bodies.Prepare of_prepare s.view n (of_pre_prepare m.body) (subst P l.core_is (prepare_answered c me signer l.acts l.is n m) on follows within found known rests)

  pub commits_prepared : (n : ℕ) (m : Signed PrePrepare) → s.active ≡ true → IsIn n (inside c s) → pre_prepare_at c s s.view n ≡ Some m → is_prepared c s (of_pre_prepare m.body) ≡ true
      → HasCommitted (of_pre_prepare m.body) rows
  commits_prepared n m on within found prepared =
      let l = life c me signer rows s lawful in
      let rests = (journal_rests c me signer rows s lawful).before_executing.commit in
      let P : Core → Type 0 = λ t. t.active ≡ true → IsIn n (inside c t) → pre_prepare_at c t t.view n ≡ Some m → is_prepared c t (of_pre_prepare m.body) ≡ true → due_commit c me t ≡ None
      → (w : Sending bodies.Commit of_commit t.view n l.acts) × (of_commit w.vote ≡ of_pre_prepare m.body) in
      said_by bodies.Commit of_commit s.view n (of_pre_prepare m.body) (subst P l.core_is (commit_answered c me signer l.acts l.is n m) on within found prepared rests)

  pub executes_committed : (m : Signed PrePrepare) → s.active ≡ true → pre_prepare_at c s s.view (s.executed + 1) ≡ Some m → is_committed c s (of_pre_prepare m.body) ≡ false
  executes_committed m on found = not_committed c me s m on found (journal_rests c me signer rows s lawful).execute
