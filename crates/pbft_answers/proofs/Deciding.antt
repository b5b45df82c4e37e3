-- One proposal of a correct primary in view 0: each correct replica prepares it and commits to it, or has jumped over its number;
-- and where all have, nobody rests before it.
use Rattle.std.proofs.Common.{◌≡◌, ◌⊎◌, ℕ, ◌+◌, ◌*◌, ◌<◌, ◌≤◌, true, false, ◌&&◌, List, ◌∷◌, Option, Some, None, refl, sym, ap, subst, ◌∙◌, arith, inl, inr}
use Rattle.std.specs.Prelude.{nat_le, not, ◌==◌}
use Rattle.std.proofs.lemmas.Bool.{true≢false, cases_lt, cases_eq, and_parts, and_from, ne_eqb, le-leb, leb-true}
use Rattle.pbft_model.specs.Words.{Signed, Body, PrePrepare, Prepare, Commit, Replica, Part, part_of}
use Rattle.pbft_codec.specs.declared.body.Body.TheVariants as bodies
use Rattle.pbft_model.specs.Sequential.{Service}
use Rattle.pbft_model.specs.Setup.{Setup, primary, replicas, quorum, span, count}
use Rattle.pbft_model.specs.Tables.{Table, at, vote_key}
use Rattle.pbft_model.specs.Certificates.{Fields, of_pre_prepare, of_prepare, of_commit, same_fields, voted, has_quorum}
use Rattle.pbft_model.specs.Validity.{floor_of}
use Rattle.pbft_model.specs.Core.{Core, inside, floor_in, is_certified, is_known, is_prepared, is_committed, pre_prepare_at}
use Rattle.pbft_model.specs.Acts.{Act, Take, Send, Execute}
use Rattle.pbft_model.specs.Rules.{IsInside, MaySay, MayExecute}
use Rattle.pbft_model.specs.Duties.{due_prepare, due_commit, leads}
use Rattle.pbft_model.specs.Histories.{core_after, IsHistory, IsEarlier, IsIn, HasSigned}
use Rattle.pbft_model.specs.Families.{IsCorrect}
use Rattle.pbft_agreement.specs.Journals.{Journals, HasGiven, IsHonestFamily}
use Rattle.pbft_progress.specs.Progress.{IsDrained, EachEnds, IsAtRest}
use Rattle.pbft_model.proofs.Events.{now, before, earlier_trans, history_at, low_reached, signed_at}
use Rattle.pbft_model.proofs.Stages.{Stage, in_numbers, by_is, fields_are, voted_is}
use Rattle.pbft_model.proofs.Real.{real_core}
use Rattle.pbft_model.proofs.ByView.{signed_real}
use Rattle.pbft_progress.proofs.Duties.{count_below}
use Rattle.pbft_model.proofs.Voices.{led_part}
use Rattle.pbft_progress.proofs.Resting.{journal_rests}
use Rattle.pbft_progress.proofs.Lives.{TakenAt}
use Rattle.pbft_progress.proofs.Recording.{Stands, pre_prepare_taken, prepare_taken, commit_taken, pre_prepare_sent, prepare_sent, commit_sent}
use Rattle.pbft_progress.proofs.Voting.{prepare_answered, commit_answered, not_committed}
use Rattle.pbft_answers.specs.Early.{voted_number}
use Rattle.pbft_answers.proofs.FirstView.{marked}
use Rattle.pbft_answers.proofs.Kin.{family, told, unforged}
use Rattle.pbft_answers.proofs.Reaching.{Done, Jumped, reaches, low_rises, votes_first}
use Rattle.pbft_answers.proofs.Speaking.{Spoken, spoken, IsToAll, comes, first_then, ends_first}
use Rattle.pbft_answers.proofs.Certifying.{the_leader, Proposed, one_proposal, proposal_at, certified_proposed, pre_prepare_counts, prepare_counts, commit_counts, all_certify, all_commit}

module _ (c : Setup) (j : Journals) (h : IsHonestFamily c j) (first : EachEnds c j (λ i s. s.view ≡ 0)) (leader : IsCorrect c j.faulty (primary c.config 0)) where
  abbrev acts_of : ℕ → List Act
  acts_of i = (family c j h).acts i

  -- the core at the end
  abbrev pub last : ℕ → Core
  last i = core_after c (j.signer i) ((family c j h).acts i)

  history : (i : ℕ) → IsCorrect c j.faulty i → (acts : List Act) → IsEarlier acts (acts_of i) → IsHistory c i (j.signer i) acts
  history i correct acts at = history_at c i (j.signer i) acts (acts_of i) at (told c j h i correct).is

  pub rests : (i : ℕ) (correct : IsCorrect c j.faulty i) → IsAtRest c i (last i)
  rests i correct = let e = told c j h i correct in subst (IsAtRest c i) (sym e.core_is) (journal_rests c i (j.signer i) (j.rows i) e.core e.comes)

  -- ---- votes that come in time

  -- No vote for the number that a correct replica gave came early to one.
  abbrev pub InTime : ℕ → Type 0
  InTime n =
      (i : ℕ) → IsCorrect c j.faulty i → (m : Signed Body) (r : Option Service) (early : List Act) → IsEarlier (Take m r ∷ early) ((family c j h).acts i)
      → IsCorrect c j.faulty m.id → voted_number m.body ≡ Some n → n ≤ (core_after c (j.signer i) early).low + span c.config

  inside_or_below : (i : ℕ) → IsCorrect c j.faulty i → (acts : List Act) → IsEarlier acts (acts_of i) → (view n : ℕ) → view ≡ 0 → n ≤ (core_after c (j.signer i) acts).low + span c.config
      → (n ≤ (core_after c (j.signer i) acts).low) ⊎ IsInside c (core_after c (j.signer i) acts) view n
  inside_or_below i correct acts at view n zero_is within = elim (cases_lt (core_after c (j.signer i) acts).low n) [
    | inr below ↦ inl below
    | inl above ↦
        let s = core_after c (j.signer i) acts in
        let here = first_then c j h first i correct acts at in
        let floor : floor_in s ≡ 0 = ap floor_of here.2 in
        inr (record {
          active = here.1;
          view_is = zero_is ∙ sym here.0;
          above_floor = omega (arith, above, floor);
          above_low = above;
          up_to_high = within;
        })
  ]

  stands_now : {X : Type 0} (table : Core → Table X) (n view k i : ℕ) → IsCorrect c j.faulty i → Stage view (Stands table n view k) (last i) → Stands table n view k (last i)
  stands_now table n view k i correct (inl w) = w.2
  stands_now table n view k i correct (inr higher) = let zero_is = ends_first c j h first i correct in absurd (omega (arith, higher, zero_is))

  passed_on : {X : Type 0} (table : Core → Table X) (n view k i : ℕ) → IsCorrect c j.faulty i → (acts : List Act) → IsEarlier acts (acts_of i) → n ≤ (core_after c (j.signer i) acts).low → Stands table n view k (last i)
  passed_on table n view k i correct acts at below = let up = low_rises c i (j.signer i) acts (acts_of i) at (told c j h i correct).is in inl (omega (arith, below, up))

  pre_prepare_arrives : (i : ℕ) → IsCorrect c j.faulty i → (m : Signed Body) (b : PrePrepare) → TakenAt m (acts_of i) → m.body ≡ bodies.PrePrepare b → b.view.0 ≡ 0
      → IsCorrect c j.faulty m.id → InTime b.number.0 → Stands (λ s. s.pre_prepares) b.number.0 b.view.0 m.id (last i)
  pre_prepare_arrives i correct m b w body view right in_time =
      let at = before _ w.early (acts_of i) w.point in
      elim (inside_or_below i correct w.early at b.view.0 b.number.0 view (in_time i correct m w.reading w.early w.point right (ap voted_number body))) [
        | inl below ↦ passed_on (λ s. s.pre_prepares) b.number.0 b.view.0 m.id i correct w.early at below
        | inr here ↦ stands_now (λ s. s.pre_prepares) b.number.0 b.view.0 m.id i correct (pre_prepare_taken c i (j.signer i) (acts_of i) (told c j h i correct).is m w.reading w.early b w.point body here)
      ]

  prepare_arrives : (i : ℕ) → IsCorrect c j.faulty i → (m : Signed Body) (b : Prepare) → TakenAt m (acts_of i) → m.body ≡ bodies.Prepare b → b.view.0 ≡ 0
      → IsCorrect c j.faulty m.id → InTime b.number.0 → Stands (λ s. s.prepares) b.number.0 b.view.0 m.id (last i)
  prepare_arrives i correct m b w body view right in_time =
      let at = before _ w.early (acts_of i) w.point in
      elim (inside_or_below i correct w.early at b.view.0 b.number.0 view (in_time i correct m w.reading w.early w.point right (ap voted_number body))) [
        | inl below ↦ passed_on (λ s. s.prepares) b.number.0 b.view.0 m.id i correct w.early at below
        | inr here ↦ stands_now (λ s. s.prepares) b.number.0 b.view.0 m.id i correct (prepare_taken c i (j.signer i) (acts_of i) (told c j h i correct).is m w.reading w.early b w.point body here)
      ]

  commit_arrives : (i : ℕ) → IsCorrect c j.faulty i → (m : Signed Body) (b : Commit) → TakenAt m (acts_of i) → m.body ≡ bodies.Commit b → b.view.0 ≡ 0
      → IsCorrect c j.faulty m.id → InTime b.number.0 → Stands (λ s. s.commits) b.number.0 b.view.0 m.id (last i)
  commit_arrives i correct m b w body view right in_time =
      let at = before _ w.early (acts_of i) w.point in
      elim (inside_or_below i correct w.early at b.view.0 b.number.0 view (in_time i correct m w.reading w.early w.point right (ap voted_number body))) [
        | inl below ↦ passed_on (λ s. s.commits) b.number.0 b.view.0 m.id i correct w.early at below
        | inr here ↦ stands_now (λ s. s.commits) b.number.0 b.view.0 m.id i correct (commit_taken c i (j.signer i) (acts_of i) (told c j h i correct).is m w.reading w.early b w.point body here)
      ]

  -- ---- one proposal

  -- The leader proposed it in view 0, and no vote for it or a lower number came early.
  pub record Asked (x : Fields) : Type 0 where
    pub view : x.view ≡ 0
    pub body : PrePrepare
    pub part : Part
    pub given : HasGiven part (j.rows (primary c.config 0))
    pub body_is : part.body ≡ bodies.PrePrepare body
    pub fields : of_pre_prepare body ≡ x
    pub in_time : (n : ℕ) → n ≤ x.number → InTime n

  module _ (drained : IsDrained c j) (x : Fields) (asked : Asked x) where
    spoken_there : Spoken c j h first (the_leader c j h first leader) asked.part
    spoken_there = spoken c j h first (primary c.config 0) leader asked.part ((told c j h (primary c.config 0) leader).signs asked.part asked.given)

    pub proposed : Proposed c j h first leader x
    proposed = subst (Proposed c j h first leader) asked.fields
        (led_part c (family c j h) (IsCorrect c j.faulty) (unforged c j h).histories (primary c.config 0) asked.part asked.body asked.body_is leader ((told c j h (primary c.config 0) leader).signs asked.part asked.given))

    proposed_inside : IsInside c (core_after c (j.signer (primary c.config 0)) spoken_there.early) asked.body.view.0 asked.body.number.0
    proposed_inside = (subst (λ (b : Body). MaySay c (primary c.config 0) (core_after c (j.signer (primary c.config 0)) spoken_there.early) b) asked.body_is spoken_there.says).inside

    pub above_zero : 1 ≤ x.number
    above_zero =
        let above = proposed_inside.above_low in
        let number : asked.body.number.0 ≡ x.number = ap (λ (y : Fields). y.number) asked.fields in
        omega (arith, above, number)

    body_view : asked.body.view.0 ≡ 0
    body_view = ap (λ (y : Fields). y.view) asked.fields ∙ asked.view

    own_in_time : (y : Fields) → y ≡ x → InTime y.number
    own_in_time y same = let number : y.number ≡ x.number = ap (λ (z : Fields). z.number) same in asked.in_time y.number (omega (arith, number))

    -- it stands at each correct replica
    pub pre_prepare_here : (i : ℕ) → IsCorrect c j.faulty i → Stands (λ s. s.pre_prepares) x.number x.view (primary c.config 0) (last i)
    pre_prepare_here i correct = subst (λ (y : Fields). Stands (λ s. s.pre_prepares) y.number y.view (primary c.config 0) (last i)) asked.fields (elim (cases_eq (primary c.config 0) i) [
      | inl same ↦
          let w = spoken_there in
          let body : w.message.body ≡ bodies.PrePrepare asked.body = ap (λ (p : Part). p.body) (sym w.part_is) ∙ asked.body_is in
          let me = primary c.config 0 in
          let own = stands_now (λ s. s.pre_prepares) asked.body.number.0 asked.body.view.0 w.message.id me leader
          (pre_prepare_sent c me (j.signer me) (acts_of me) (told c j h me leader).is w.to w.message w.early asked.body w.point body proposed_inside) in
          subst (λ (k : ℕ). Stands (λ s. s.pre_prepares) asked.body.number.0 asked.body.view.0 me (last k)) same
          (subst (λ (k : ℕ). Stands (λ s. s.pre_prepares) asked.body.number.0 asked.body.view.0 k (last me)) w.by own)
      | inr other ↦
          let to_all : IsToAll c j h first asked.part.body = subst (IsToAll c j h first) (sym asked.body_is) (λ to goes. goes) in
          let m = comes c j h first drained (primary c.config 0) i leader correct other asked.part asked.given to_all in
          let body : m.0.body ≡ bodies.PrePrepare asked.body = ap (λ (p : Part). p.body) (sym m.2) ∙ asked.body_is in
          let id : m.0.id ≡ primary c.config 0 = ap (λ (p : Part). p.id) (sym m.2 ∙ spoken_there.part_is) ∙ spoken_there.by in
          subst (λ (k : ℕ). Stands (λ s. s.pre_prepares) asked.body.number.0 asked.body.view.0 k (last i)) id
          (pre_prepare_arrives i correct m.0 asked.body ((told c j h i correct).takes m.0 m.1) body body_view (subst (IsCorrect c j.faulty) (sym id) leader) (own_in_time (of_pre_prepare asked.body) asked.fields))
    ])

    -- own votes for it
    abbrev pub GavePrepare : ℕ → Type 0
    GavePrepare k = (b : Prepare) × (p : Part) × HasSigned p ((family c j h).acts k) × (p.body ≡ bodies.Prepare b) × (of_prepare b ≡ x)

    abbrev pub GaveCommit : ℕ → Type 0
    GaveCommit k = (b : Commit) × (p : Part) × HasSigned p ((family c j h).acts k) × (p.body ≡ bodies.Commit b) × (of_commit b ≡ x)

    -- they stand at each correct replica
    prepare_here : (k i : ℕ) → IsCorrect c j.faulty k → IsCorrect c j.faulty i → GavePrepare k → Stands (λ s. s.prepares) x.number x.view k (last i)
    prepare_here k i right correct (b, p, signed, body_is, fields) = subst (λ (y : Fields). Stands (λ s. s.prepares) y.number y.view k (last i)) fields (elim (cases_eq k i) [
      | inl same ↦
          let w = spoken c j h first k right p signed in
          let body : w.message.body ≡ bodies.Prepare b = ap (λ (q : Part). q.body) (sym w.part_is) ∙ body_is in
          let says = subst (λ (y : Body). MaySay c k (core_after c (j.signer k) w.early) y) body_is w.says in
          let own = stands_now (λ s. s.prepares) b.number.0 b.view.0 w.message.id k right (prepare_sent c k (j.signer k) (acts_of k) (told c j h k right).is w.to w.message w.early b w.point body says.inside) in
          subst (λ (q : ℕ). Stands (λ s. s.prepares) b.number.0 b.view.0 k (last q)) same (subst (λ (q : ℕ). Stands (λ s. s.prepares) b.number.0 b.view.0 q (last k)) w.by own)
      | inr other ↦
          let w = spoken c j h first k right p signed in
          let to_all : IsToAll c j h first p.body = subst (IsToAll c j h first) (sym body_is) (λ to goes. goes) in
          let m = comes c j h first drained k i right correct other p ((told c j h k right).gives p signed) to_all in
          let body : m.0.body ≡ bodies.Prepare b = ap (λ (q : Part). q.body) (sym m.2) ∙ body_is in
          let id : m.0.id ≡ k = ap (λ (q : Part). q.id) (sym m.2 ∙ w.part_is) ∙ w.by in
          let view : b.view.0 ≡ 0 = ap (λ (y : Fields). y.view) fields ∙ asked.view in
          subst (λ (q : ℕ). Stands (λ s. s.prepares) b.number.0 b.view.0 q (last i)) id
          (prepare_arrives i correct m.0 b ((told c j h i correct).takes m.0 m.1) body view (subst (IsCorrect c j.faulty) (sym id) right) (own_in_time (of_prepare b) fields))
    ])

    commit_here : (k i : ℕ) → IsCorrect c j.faulty k → IsCorrect c j.faulty i → GaveCommit k → Stands (λ s. s.commits) x.number x.view k (last i)
    commit_here k i right correct (b, p, signed, body_is, fields) = subst (λ (y : Fields). Stands (λ s. s.commits) y.number y.view k (last i)) fields (elim (cases_eq k i) [
      | inl same ↦
          let w = spoken c j h first k right p signed in
          let body : w.message.body ≡ bodies.Commit b = ap (λ (q : Part). q.body) (sym w.part_is) ∙ body_is in
          let says = subst (λ (y : Body). MaySay c k (core_after c (j.signer k) w.early) y) body_is w.says in
          let own = stands_now (λ s. s.commits) b.number.0 b.view.0 w.message.id k right (commit_sent c k (j.signer k) (acts_of k) (told c j h k right).is w.to w.message w.early b w.point body says.inside) in
          subst (λ (q : ℕ). Stands (λ s. s.commits) b.number.0 b.view.0 k (last q)) same (subst (λ (q : ℕ). Stands (λ s. s.commits) b.number.0 b.view.0 q (last k)) w.by own)
      | inr other ↦
          let w = spoken c j h first k right p signed in
          let to_all : IsToAll c j h first p.body = subst (IsToAll c j h first) (sym body_is) (λ to goes. goes) in
          let m = comes c j h first drained k i right correct other p ((told c j h k right).gives p signed) to_all in
          let body : m.0.body ≡ bodies.Commit b = ap (λ (q : Part). q.body) (sym m.2) ∙ body_is in
          let id : m.0.id ≡ k = ap (λ (q : Part). q.id) (sym m.2 ∙ w.part_is) ∙ w.by in
          let view : b.view.0 ≡ 0 = ap (λ (y : Fields). y.view) fields ∙ asked.view in
          subst (λ (q : ℕ). Stands (λ s. s.commits) b.number.0 b.view.0 q (last i)) id
          (commit_arrives i correct m.0 b ((told c j h i correct).takes m.0 m.1) body view (subst (IsCorrect c j.faulty) (sym id) right) (own_in_time (of_commit b) fields))
    ])

    -- ---- what an end below the number has

    abbrev pub AllPrepare : Type 0
    AllPrepare = (k : ℕ) → IsCorrect c j.faulty k → (k ≡ primary c.config 0 → ⊥) → GavePrepare k

    abbrev pub AllCommit : Type 0
    AllCommit = (k : ℕ) → IsCorrect c j.faulty k → GaveCommit k

    module _ (i : ℕ) (correct : IsCorrect c j.faulty i) (above : (last i).low < x.number) where
      here : IsEarlier (acts_of i) (acts_of i)
      here = now (acts_of i)

      there : {X : Type 0} (table : Core → Table X) (k : ℕ) → Stands table x.number x.view k (last i) → (y : X) × (at (table (last i)) (vote_key x.number x.view k) ≡ Some y)
      there table k w = elim w [ inl below ↦ absurd (omega (arith, above, below)) | inr y ↦ y ]

      end_proposed : voted of_pre_prepare (last i).pre_prepares x (primary c.config 0) ≡ true
      end_proposed = let y = there (λ s. s.pre_prepares) (primary c.config 0) (pre_prepare_here i correct) in pre_prepare_counts c j h first leader x asked.view proposed i correct (acts_of i) here y.0 y.1

      end_certified : AllPrepare → is_certified c (last i) x ≡ true
      end_certified all = all_certify c j h first leader x asked.view proposed i correct (acts_of i) here end_proposed
          (λ k right other. let y = there (λ s. s.prepares) k (prepare_here k i right correct (all k right other)) in prepare_counts c j h first leader x asked.view proposed i correct (acts_of i) here k right y.0 y.1)

      end_committed : AllCommit → has_quorum c.config (voted of_commit (last i).commits x) ≡ true
      end_committed all = all_commit c j h first leader x asked.view proposed i correct (acts_of i) here
          (λ k right. let y = there (λ s. s.commits) k (commit_here k i right correct (all k right)) in commit_counts c j h first leader x asked.view proposed i correct (acts_of i) here k right y.0 y.1)

    -- ---- who has not jumped over it has voted

    -- A point at which no vote is due, with the proposal and its request there.
    record Ready (k : ℕ) (acts : List Act) : Type 0 where
      point : IsEarlier acts ((family c j h).acts k)
      above : (core_after c (j.signer k) acts).low < x.number
      known : is_known c (core_after c (j.signer k) acts) x.digest ≡ true
      voted_for : voted of_pre_prepare (core_after c (j.signer k) acts).pre_prepares x (primary c.config 0) ≡ true
      certified : AllPrepare → is_certified c (core_after c (j.signer k) acts) x ≡ true
      prepare_rests : due_prepare c k (core_after c (j.signer k) acts) ≡ None
      commit_rests : due_commit c k (core_after c (j.signer k) acts) ≡ None

    -- where it was executed
    ready_there : (k : ℕ) (right : IsCorrect c j.faulty k) → Done x.number (acts_of k) → (acts : List Act) × Ready k acts
    ready_there k right (d, t, o, early, at) =
        let s = core_after c (j.signer k) early in
        let point = before (Execute x.number d t o) early (acts_of k) at in
        let ok : MayExecute c s x.number d t o = (history k right (Execute x.number d t o ∷ early) at).1 in
        let y : Fields = record { view = s.view; number = x.number; digest = d } in
        let view : s.view ≡ 0 = (first_then c j h first k right early point).0 in
        let prepared = (and_parts (is_prepared c s y) (has_quorum c.config (voted of_commit s.commits y)) ok.committed).0 in
        let parts = and_parts (is_certified c s y) (is_known c s y.digest) prepared in
        let same = one_proposal c j h first leader y x (certified_proposed c j h first leader k right early point y view parts.0) proposed (view ∙ sym asked.view) refl in
        let certified = subst (λ (z : Fields). is_certified c s z ≡ true) same parts.0 in
        let low = low_reached c k (j.signer k) early (history k right early point) in
        let next = ok.next in
        let none = votes_first c k s x.number d t o ((told c j h k right).does (Execute x.number d t o ∷ early) at tt) in (
          early,
          record {
            point = point;
            above = omega (arith, low, next);
            known = subst (λ (z : Fields). is_known c s z.digest ≡ true) same parts.1;
            voted_for = subst (λ (v : ℕ). voted of_pre_prepare s.pre_prepares x (primary c.config v) ≡ true) asked.view ((and_parts (voted of_pre_prepare s.pre_prepares x (primary c.config x.view)) _ certified).0);
            certified = λ all. certified;
            prepare_rests = none.0;
            commit_rests = none.1;
          },
        )

    module _ (knows : (i : ℕ) → IsCorrect c j.faulty i → (last i).executed < x.number → is_known c (last i) x.digest ≡ true) where
      -- or at the end, where the number was not reached
      ready_last : (k : ℕ) (right : IsCorrect c j.faulty k) → (last k).executed < x.number → Ready k (acts_of k)
      ready_last k right less =
          let low = low_reached c k (j.signer k) (acts_of k) (told c j h k right).is in
          let above : (last k).low < x.number = omega (arith, less, low) in
          let quiet = (rests k right).before_executing in
          record {
            point = now (acts_of k);
            above = above;
            known = knows k right less;
            voted_for = end_proposed k right above;
            certified = end_certified k right above;
            prepare_rests = quiet.prepare;
            commit_rests = quiet.commit;
          }

      ready : (k : ℕ) (right : IsCorrect c j.faulty k) → ((acts : List Act) × Ready k acts) ⊎ Jumped x.number (acts_of k)
      ready k right = elim (cases_lt (last k).executed x.number) [
        | inl less ↦ inl (acts_of k, ready_last k right less)
        | inr reached ↦ elim (reaches c k (j.signer k) x.number (acts_of k) (told c j h k right).is above_zero reached) [
          | inl done ↦ inl (ready_there k right done)
          | inr jumped ↦ inr jumped
        ]
      ]

      within_marks : (k : ℕ) → IsCorrect c j.faulty k → (acts : List Act) → Ready k acts → IsIn x.number (inside c (core_after c (j.signer k) acts))
      within_marks k right acts r =
          let s = core_after c (j.signer k) acts in
          let above = r.above in
          let w = voted_is of_pre_prepare s.pre_prepares x (primary c.config 0) r.voted_for in
          let by = by_is (primary c.config 0) (λ b. same_fields (of_pre_prepare b) x) w.0 w.2 in
          let number : w.0.body.number.0 ≡ x.number = ap (λ (y : Fields). y.number) (fields_are (of_pre_prepare w.0.body) x by.2) in
          let high = marked c k (j.signer k) acts (history k right acts r.point) (first_then c j h first k right acts r.point).0 (vote_key x.number x.view (primary c.config 0)) w.0 w.1 in
          in_numbers (span c.config) (s.low + 1) x.number (omega (arith, above)) (omega (arith, high, number))

      found : (k : ℕ) (right : IsCorrect c j.faulty k) (acts : List Act) → Ready k acts → (m : Signed PrePrepare) × (pre_prepare_at c (core_after c (j.signer k) acts) (core_after c (j.signer k) acts).view x.number ≡ Some m) × (of_pre_prepare m.body ≡ x)
      found k right acts r =
          proposal_at c (core_after c (j.signer k) acts) x (asked.view ∙ sym (first_then c j h first k right acts r.point).0)
          (subst (λ (v : ℕ). voted of_pre_prepare (core_after c (j.signer k) acts).pre_prepares x (primary c.config v) ≡ true) (sym asked.view) r.voted_for)

      pub prepares : (k : ℕ) → IsCorrect c j.faulty k → (k ≡ primary c.config 0 → ⊥) → GavePrepare k ⊎ Jumped x.number (acts_of k)
      prepares k right backup = elim (ready k right) [
        | inr jumped ↦ inr jumped
        | inl (acts, r) ↦
            let s = core_after c (j.signer k) acts in
            let view = first_then c j h first k right acts r.point in
            let m = found k right acts r in
            let follows : leads c k s ≡ false = ne_eqb (primary c.config s.view) k (λ e. backup (sym e ∙ ap (primary c.config) view.0)) in
            let known : is_known c s m.0.body.digest.0 ≡ true = subst (λ (z : Fields). is_known c s z.digest ≡ true) (sym m.2) r.known in
            let w = prepare_answered c k (j.signer k) acts (history k right acts r.point) x.number m.0 view.1 follows (within_marks k right acts r) m.1 known r.prepare_rests in
            let sending = w.0 in
            inl (
              sending.vote,
              part_of sending.message,
              signed_at (part_of sending.message) (Send sending.to sending.message) sending.early (acts_of k) (earlier_trans (Send sending.to sending.message ∷ sending.early) acts (acts_of k) sending.point r.point) (inl refl),
              sending.body_is,
              w.1 ∙ m.2,
            )
      ]

      pub commits : AllPrepare → (k : ℕ) → IsCorrect c j.faulty k → GaveCommit k ⊎ Jumped x.number (acts_of k)
      commits all k right = elim (ready k right) [
        | inr jumped ↦ inr jumped
        | inl (acts, r) ↦
            let s = core_after c (j.signer k) acts in
            let view = first_then c j h first k right acts r.point in
            let m = found k right acts r in
            let prepared : is_prepared c s (of_pre_prepare m.0.body) ≡ true = subst (λ (z : Fields). is_prepared c s z ≡ true) (sym m.2) (and_from (is_certified c s x) (is_known c s x.digest) (r.certified all) r.known) in
            let w = commit_answered c k (j.signer k) acts (history k right acts r.point) x.number m.0 view.1 (within_marks k right acts r) m.1 prepared r.commit_rests in
            let sending = w.0 in
            inl (
              sending.vote,
              part_of sending.message,
              signed_at (part_of sending.message) (Send sending.to sending.message) sending.early (acts_of k) (earlier_trans (Send sending.to sending.message ∷ sending.early) acts (acts_of k) sending.point r.point) (inl refl),
              sending.body_is,
              w.1 ∙ m.2,
            )
      ]

      -- Nobody rests before it.
      pub none_rests_before : AllPrepare → AllCommit → (k : ℕ) → IsCorrect c j.faulty k → (last k).executed + 1 ≡ x.number → ⊥
      none_rests_before prepared committed k right before_it =
          let s = last k in
          let r = ready_last k right (omega (arith, before_it)) in
          let m = found k right (acts_of k) r in
          let place : pre_prepare_at c s s.view (s.executed + 1) ≡ Some m.0 = subst (λ (n : ℕ). pre_prepare_at c s s.view n ≡ Some m.0) (sym before_it) m.1 in
          let here : is_committed c s x ≡ true = and_from (is_prepared c s x) (has_quorum c.config (voted of_commit s.commits x))
          (and_from (is_certified c s x) (is_known c s x.digest) (r.certified prepared) r.known) (end_committed k right r.above committed) in
          let view = first_then c j h first k right (acts_of k) (now (acts_of k)) in
          true≢false (sym (subst (λ (z : Fields). is_committed c s z ≡ true) (sym m.2) here) ∙ not_committed c k s m.0 view.1 place (rests k right).execute)

    -- ---- where nobody is faulty, what one committed comes to all

    module _ (nobody : (v : ℕ) → v < replicas c.config → j.faulty v ≡ false) where
      -- who voted has said so
      voted_prepare : (k : ℕ) → IsCorrect c j.faulty k → (acts : List Act) → IsEarlier acts (acts_of k) → (v : ℕ) → v < replicas c.config → voted of_prepare (core_after c (j.signer k) acts).prepares x v ≡ true → GavePrepare v
      voted_prepare k right acts point v below t =
          let s = core_after c (j.signer k) acts in
          let w = voted_is of_prepare s.prepares x v t in
          let by = by_is v (λ b. same_fields (of_prepare b) x) w.0 w.2 in
          let real = (real_core c (family c j h) k right (unforged c j h) acts point).1 (vote_key x.number x.view v) w.0 w.1 in
          let signed = signed_real c (family c j h) (unforged c j h) bodies.Prepare v (λ b. same_fields (of_prepare b) x) w.0 w.2 real (below, nobody v below) in
          (w.0.body, record { role = Replica; id = v; body = bodies.Prepare w.0.body }, signed, refl, fields_are (of_prepare w.0.body) x by.2)

      voted_commit : (k : ℕ) → IsCorrect c j.faulty k → (acts : List Act) → IsEarlier acts (acts_of k) → (v : ℕ) → v < replicas c.config → voted of_commit (core_after c (j.signer k) acts).commits x v ≡ true → GaveCommit v
      voted_commit k right acts point v below t =
          let s = core_after c (j.signer k) acts in
          let w = voted_is of_commit s.commits x v t in
          let by = by_is v (λ b. same_fields (of_commit b) x) w.0 w.2 in
          let real = (real_core c (family c j h) k right (unforged c j h) acts point).2 (vote_key x.number x.view v) w.0 w.1 in
          let signed = signed_real c (family c j h) (unforged c j h) bodies.Commit v (λ b. same_fields (of_commit b) x) w.0 w.2 real (below, nobody v below) in
          (w.0.body, record { role = Replica; id = v; body = bodies.Commit w.0.body }, signed, refl, fields_are (of_commit w.0.body) x by.2)

      -- the certificate and the Commits that one replica has at a point each has at an end below the number
      certified_too : (k : ℕ) → IsCorrect c j.faulty k → (acts : List Act) → IsEarlier acts (acts_of k) → is_certified c (core_after c (j.signer k) acts) x ≡ true → (i : ℕ) (correct : IsCorrect c j.faulty i) → (last i).low < x.number → is_certified c (last i) x ≡ true
      certified_too k right acts point e i correct above =
          let s = core_after c (j.signer k) acts in
          let lead = primary c.config x.view in
          let here = end_proposed i correct above in
          let parts = and_parts (voted of_pre_prepare s.pre_prepares x lead) (nat_le (2 * c.config.f) (count (λ v. not (v == lead) && voted of_prepare s.prepares x v) (replicas c.config))) e in
          let enough = leb-true (2 * c.config.f) (count (λ v. not (v == lead) && voted of_prepare s.prepares x v) (replicas c.config)) parts.1 in
          let more = count_below (λ v. not (v == lead) && voted of_prepare s.prepares x v) (λ v. not (v == lead) && voted of_prepare (last i).prepares x v) (replicas c.config) (λ v below t.
          let both = and_parts (not (v == lead)) (voted of_prepare s.prepares x v) t in
          let y = there i correct above (λ u. u.prepares) v (prepare_here v i (below, nobody v below) correct (voted_prepare k right acts point v below both.1)) in
          and_from (not (v == lead)) (voted of_prepare (last i).prepares x v) both.0 (prepare_counts c j h first leader x asked.view proposed i correct (acts_of i) (now (acts_of i)) v (below, nobody v below) y.0 y.1)) in
          and_from (voted of_pre_prepare (last i).pre_prepares x lead) (nat_le (2 * c.config.f) (count (λ v. not (v == lead) && voted of_prepare (last i).prepares x v) (replicas c.config)))
          (subst (λ (v : ℕ). voted of_pre_prepare (last i).pre_prepares x (primary c.config v) ≡ true) (sym asked.view) here)
          (le-leb (2 * c.config.f) (count (λ v. not (v == lead) && voted of_prepare (last i).prepares x v) (replicas c.config)) (omega (arith, enough, more)))

      committed_too : (k : ℕ) → IsCorrect c j.faulty k → (acts : List Act) → IsEarlier acts (acts_of k) → has_quorum c.config (voted of_commit (core_after c (j.signer k) acts).commits x) ≡ true → (i : ℕ) (correct : IsCorrect c j.faulty i) → (last i).low < x.number
          → has_quorum c.config (voted of_commit (last i).commits x) ≡ true
      committed_too k right acts point e i correct above =
          let s = core_after c (j.signer k) acts in
          let enough = leb-true (quorum c.config) (count (voted of_commit s.commits x) (replicas c.config)) e in
          let more = count_below (voted of_commit s.commits x) (voted of_commit (last i).commits x) (replicas c.config) (λ v below t.
          let y = there i correct above (λ u. u.commits) v (commit_here v i (below, nobody v below) correct (voted_commit k right acts point v below t)) in
          commit_counts c j h first leader x asked.view proposed i correct (acts_of i) (now (acts_of i)) v (below, nobody v below) y.0 y.1) in
          le-leb (quorum c.config) (count (voted of_commit (last i).commits x) (replicas c.config)) (omega (arith, enough, more))

      -- Nobody rests before what another executed.
      pub none_rests_behind : ((i : ℕ) → IsCorrect c j.faulty i → (last i).executed < x.number → is_known c (last i) x.digest ≡ true) → (k : ℕ) → IsCorrect c j.faulty k → Done x.number (acts_of k)
          → (i : ℕ) → IsCorrect c j.faulty i → (last i).executed + 1 ≡ x.number → ⊥
      none_rests_behind knows k right (d, t, o, early, point) i correct before_it =
          let s = core_after c (j.signer k) early in
          let here = before (Execute x.number d t o) early (acts_of k) point in
          let ok : MayExecute c s x.number d t o = (history k right (Execute x.number d t o ∷ early) point).1 in
          let y : Fields = record { view = s.view; number = x.number; digest = d } in
          let view : s.view ≡ 0 = (first_then c j h first k right early here).0 in
          let both = and_parts (is_prepared c s y) (has_quorum c.config (voted of_commit s.commits y)) ok.committed in
          let parts = and_parts (is_certified c s y) (is_known c s y.digest) both.0 in
          let same = one_proposal c j h first leader y x (certified_proposed c j h first leader k right early here y view parts.0) proposed (view ∙ sym asked.view) refl in
          let u = last i in
          let low = low_reached c i (j.signer i) (acts_of i) (told c j h i correct).is in
          let above : (last i).low < x.number = omega (arith, before_it, low) in
          let certified = certified_too k right early here (subst (λ (z : Fields). is_certified c s z ≡ true) same parts.0) i correct above in
          let committed = committed_too k right early here (subst (λ (z : Fields). has_quorum c.config (voted of_commit s.commits z) ≡ true) same both.1) i correct above in
          let all_of = and_from (is_prepared c u x) (has_quorum c.config (voted of_commit u.commits x)) (and_from (is_certified c u x) (is_known c u x.digest) certified (knows i correct (omega (arith, before_it)))) committed in
          let at_end = first_then c j h first i correct (acts_of i) (now (acts_of i)) in
          let m = proposal_at c u x (asked.view ∙ sym at_end.0) (subst (λ (v : ℕ). voted of_pre_prepare u.pre_prepares x (primary c.config v) ≡ true) (sym asked.view) (end_proposed i correct above)) in
          let place : pre_prepare_at c u u.view (u.executed + 1) ≡ Some m.0 = subst (λ (n : ℕ). pre_prepare_at c u u.view n ≡ Some m.0) (sym before_it) m.1 in
          true≢false (sym (subst (λ (z : Fields). is_committed c u z ≡ true) (sym m.2) all_of) ∙ not_committed c i u m.0 at_end.1 place (rests i correct).execute)
