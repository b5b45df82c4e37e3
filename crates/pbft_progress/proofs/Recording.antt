-- Votes within the marks, of the view that a replica is active in: they are recorded as they come and as they are sent, and
-- stay so while the view lasts, until the low mark passes them.
use Rattle.std.proofs.Common.{◌≡◌, ◌⊎◌, ℕ, ◌+◌, ◌<◌, ◌≤◌, Bool, true, false, ◌&&◌, List, [], ◌∷◌, Option, Some, refl, sym, ap, subst, ◌∙◌, arith, inl, inr}
use Rattle.std.specs.Prelude.{nat_lt, nat_le, not, ◌==◌}
use Rattle.std.proofs.lemmas.Bool.{true≢false, cases_lt, and_from, and_left, and_right, false_from_ne_true, not_from_false, eq-eqb, lt-ltb, le-leb, leb-true}
use Rattle.pbft_model.specs.Words.{SigningState, Signed, Body, PrePrepare, Prepare, Commit, as_message}
use Rattle.pbft_codec.specs.declared.body.Body.TheVariants as bodies
use Rattle.pbft_codec.specs.declared.body.fetch.Fetch.TheVariants as fetches
use Rattle.pbft_model.specs.Sequential.{Service}
use Rattle.pbft_model.specs.Setup.{Setup, span}
use Rattle.pbft_model.specs.Tables.{Key, Table, at, add_if, vote_key, is_above}
use Rattle.pbft_model.specs.Core.{Core, start_of, is_admitted, is_inside, floor_in}
use Rattle.pbft_model.specs.Acts.{Act, Destination, Take, Timeout, Send, Relay, Enter, Rise, Execute, Install, after, said, recorded, with_body, acted, signed_once_more}
use Rattle.pbft_model.specs.Rules.{Allowed, MaySay, IsInside}
use Rattle.pbft_model.specs.Histories.{core_after, IsHistory, IsEarlier}
use Rattle.pbft_model.proofs.Found.{kept_add, kept_keep, at_added}
use Rattle.pbft_model.specs.Rows.{Row, Received, IsLawfulFrom}
use Rattle.pbft_progress.specs.Votes.{Came, IsRecorded}
use Rattle.pbft_model.proofs.Events.{holds_on, history_at, low_reached, earlier_trans}
use Rattle.pbft_agreement.proofs.Reporting.{pushed, earlier_pushed, acts_from, earlier_from, core_from, history_from}
use Rattle.pbft_progress.proofs.Lives.{begins_received}
use Rattle.pbft_model.proofs.Calm.{Calm, calm, low_up}
use Rattle.pbft_model.proofs.Stages.{Stage, stage_after, view_up}
use Rattle.pbft_progress.proofs.Changes.{awaits_more}

-- ---- what is inside is admitted

pub admitted : (c : Setup) (s : Core) (view number : ℕ) → IsInside c s view number → is_admitted c s view number ≡ true
admitted c s view number h =
    let same = h.view_is in
    let low = h.above_low in
    let high = h.up_to_high in
    let floor = h.above_floor in
    let not_below : nat_le number (floor_in s) ≡ false = false_from_ne_true (nat_le number (floor_in s)) (λ e. let le = leb-true number (floor_in s) e in absurd (omega (arith, floor, le))) in
    and_from (nat_le s.view view) (is_inside c s number && not (s.active && ((view == s.view) && nat_le number (floor_in s)))) (le-leb s.view view (omega (arith, same)))
    (and_from (is_inside c s number) (not (s.active && ((view == s.view) && nat_le number (floor_in s))))
    (and_from (nat_lt s.low number) (nat_le number (s.low + span c.config)) (lt-ltb s.low number low) (le-leb number (s.low + span c.config) high))
    (not_from_false (s.active && ((view == s.view) && nat_le number (floor_in s)))
    (and_right s.active ((view == s.view) && nat_le number (floor_in s)) (and_right (view == s.view) (nat_le number (floor_in s)) not_below))))

-- ---- what stands in a table

-- The low mark has passed the number, or a vote of this replica stands there.
abbrev pub Stands : {X : Type 0} → (Core → Table X) → ℕ → ℕ → ℕ → Core → Type 0
Stands {X} table n view i s = (n ≤ s.low) ⊎ ((y : X) × (at (table s) (vote_key n view i) ≡ Some y))

stands_on : {X : Type 0} (table : Core → Table X) (n view i : ℕ) (s t : Core) → s.low ≤ t.low
    → (t.low < n → (x : X) → at (table s) (vote_key n view i) ≡ Some x → at (table t) (vote_key n view i) ≡ Some x) → Stands table n view i s → Stands table n view i t
stands_on table n view i s t low stays h = elim (cases_lt t.low n) [
  | inl above ↦ elim h [
    | inl below ↦ absurd (omega (arith, low, above, below))
    | inr w ↦ inr (w.0, stays above w.0 w.1)
  ]
  | inr below ↦ inl below
]

pre_prepare_stands : (c : Setup) (n view i : ℕ) (s t : Core) → Calm c s t → Stands (λ x. x.pre_prepares) n view i s → Stands (λ x. x.pre_prepares) n view i t
pre_prepare_stands c n view i s t calm h = stands_on (λ x. x.pre_prepares) n view i s t calm.3 (λ above x e. calm.4 (vote_key n view i) x above e) h

prepare_stands : (c : Setup) (n view i : ℕ) (s t : Core) → Calm c s t → Stands (λ x. x.prepares) n view i s → Stands (λ x. x.prepares) n view i t
prepare_stands c n view i s t calm h = stands_on (λ x. x.prepares) n view i s t calm.3 (λ above x e. calm.5 (vote_key n view i) x above e) h

added : {X : Type 0} (b : Bool) (t : Table X) (k : Key) (x : X) → b ≡ true → (y : X) × (at (add_if b k x t) k ≡ Some y)
added {X} b t k x e = subst (λ (z : Bool). (y : X) × (at (add_if z k x t) k ≡ Some y)) (sym e) (let w = at_added t k x in (w.0, w.1))

module _ (c : Setup) (me : ℕ) where
  -- ---- Commits stay too

  commit_recorded : (n view i : ℕ) (s : Core) (m : Signed Body) (b : Body) → Stands (λ x. x.commits) n view i s → Stands (λ x. x.commits) n view i (recorded c s m b)
  commit_recorded n view i s m (bodies.Request b) h = h
  commit_recorded n view i s m (bodies.Commit b) h =
      stands_on (λ x. x.commits) n view i s (recorded c s m (bodies.Commit b)) (omega arith) (λ above x e. kept_add _ s.commits (vote_key b.number.0 b.view.0 m.id) (vote_key n view i) (with_body m b) x e) h
  commit_recorded n view i s m _ h = h

  -- the view is left, or the Commit stands
  abbrev StandsOrLeft : ℕ → ℕ → ℕ → Core → Core → Type 0
  StandsOrLeft n view i s t = (t.view ≡ s.view → ⊥) ⊎ Stands (λ x. x.commits) n view i t

  commit_said : (n view i : ℕ) (s : Core) (m : Signed Body) (b : Body) → s.active ≡ true → MaySay c me s b → Stands (λ x. x.commits) n view i s → StandsOrLeft n view i s (said c s m b)
  commit_said n view i s m (bodies.Request b) on says h = absurd says
  commit_said n view i s m (bodies.Commit b) on says h =
      inr (stands_on (λ x. x.commits) n view i s (said c s m (bodies.Commit b)) (omega arith) (λ above x e. kept_add _ s.commits (vote_key b.number.0 b.view.0 m.id) (vote_key n view i) (with_body m b) x e) h)
  commit_said n view i s m (bodies.ViewChange b) on says h = inl (λ same. let higher = says.higher in absurd (omega (arith, higher, same)))
  commit_said n view i s m (bodies.NewView b) on says h = absurd (true≢false (sym on ∙ says.changing))
  commit_said n view i s m (bodies.Fetch (fetches.Request d)) on says h = inr h
  commit_said n view i s m (bodies.Fetch (fetches.State d)) on says h = inr h
  commit_said n view i s m _ on says h = inr h

  commit_by : (n view i : ℕ) (s : Core) (a : Act) → s.low ≤ s.executed → s.active ≡ true → Allowed c me s a → Stands (λ x. x.commits) n view i s → StandsOrLeft n view i s (after c s a)
  commit_by n view i s (Take m r) low on ok h = inr (commit_recorded n view i s m m.body h)
  commit_by n view i s (Send to m) low on ok h = commit_said n view i s m m.body on ok.says h
  commit_by n view i s (Enter m) low on ok h = inl (λ same. let higher = awaits_more s m.body.view.0 on ok.awaited in absurd (omega (arith, higher, same)))
  commit_by n view i s (Rise k d) low on ok h =
      inr (stands_on (λ x. x.commits) n view i s (after c s (Rise k d)) (low_up c me s (Rise k d) low ok) (λ above x e. kept_keep (is_above k) s.commits (vote_key n view i) x (lt-ltb k n above) e) h)
  commit_by n view i s (Install k b t) low on ok h =
      inr (stands_on (λ x. x.commits) n view i s (after c s (Install k b t)) (low_up c me s (Install k b t) low ok) (λ above x e. kept_keep (is_above k) s.commits (vote_key n view i) x (lt-ltb k n above) e) h)
  commit_by n view i s a low on ok h = inr h

  commit_stage : (n view i : ℕ) (s : Core) (a : Act) → s.low ≤ s.executed → Allowed c me s a → Stage view (Stands (λ x. x.commits) n view i) s → Stage view (Stands (λ x. x.commits) n view i) (after c s a)
  commit_stage n view i s a low ok (inr higher) = let up = view_up c me s a low ok in inr (omega (arith, higher, up))
  commit_stage n view i s a low ok (inl w) = elim (stage_after c me view (λ (x : Core). Unit {0}) (λ s t k u. tt) s a low ok (inl (w.0, w.1, tt))) [
    | inl v ↦ elim (commit_by n view i s a low w.1 ok w.2) [
      | inl left ↦ absurd (left (v.0 ∙ sym w.0))
      | inr stands ↦ inl (v.0, v.1, stands)
    ]
    | inr above ↦ inr above
  ]

  -- ---- as it comes

  taken_in_view : (s : Core) (m : Signed Body) (r : Option Service) (view : ℕ) (X : Core → Type 0) → s.low ≤ s.executed → Allowed c me s (Take m r) → view ≡ s.view → s.active ≡ true → X (after c s (Take m r))
      → Stage view X (after c s (Take m r))
  taken_in_view s m r view X low ok same on h = let k = calm c me s (Take m r) low ok tt in inl (k.0 ∙ sym same, k.1 ∙ on, h)

  take_pre_prepare : (s : Core) (m : Signed Body) (r : Option Service) (b : PrePrepare) → s.low ≤ s.executed → Allowed c me s (Take m r) → m.body ≡ bodies.PrePrepare b → IsInside c s b.view.0 b.number.0
      → Stage b.view.0 (Stands (λ x. x.pre_prepares) b.number.0 b.view.0 m.id) (after c s (Take m r))
  take_pre_prepare s m r b low ok e h =
      taken_in_view s m r b.view.0 (Stands (λ x. x.pre_prepares) b.number.0 b.view.0 m.id) low ok h.view_is h.active
      (inr (subst (λ (x : Body). (y : Signed PrePrepare) × (at (recorded c s m x).pre_prepares (vote_key b.number.0 b.view.0 m.id) ≡ Some y)) (sym e)
      (added (is_admitted c s b.view.0 b.number.0) s.pre_prepares (vote_key b.number.0 b.view.0 m.id) (with_body m b) (admitted c s b.view.0 b.number.0 h))))

  take_prepare : (s : Core) (m : Signed Body) (r : Option Service) (b : Prepare) → s.low ≤ s.executed → Allowed c me s (Take m r) → m.body ≡ bodies.Prepare b → IsInside c s b.view.0 b.number.0
      → Stage b.view.0 (Stands (λ x. x.prepares) b.number.0 b.view.0 m.id) (after c s (Take m r))
  take_prepare s m r b low ok e h =
      taken_in_view s m r b.view.0 (Stands (λ x. x.prepares) b.number.0 b.view.0 m.id) low ok h.view_is h.active
      (inr (subst (λ (x : Body). (y : Signed Prepare) × (at (recorded c s m x).prepares (vote_key b.number.0 b.view.0 m.id) ≡ Some y)) (sym e)
      (added (is_admitted c s b.view.0 b.number.0) s.prepares (vote_key b.number.0 b.view.0 m.id) (with_body m b) (admitted c s b.view.0 b.number.0 h))))

  take_commit : (s : Core) (m : Signed Body) (r : Option Service) (b : Commit) → s.low ≤ s.executed → Allowed c me s (Take m r) → m.body ≡ bodies.Commit b → IsInside c s b.view.0 b.number.0
      → Stage b.view.0 (Stands (λ x. x.commits) b.number.0 b.view.0 m.id) (after c s (Take m r))
  take_commit s m r b low ok e h =
      taken_in_view s m r b.view.0 (Stands (λ x. x.commits) b.number.0 b.view.0 m.id) low ok h.view_is h.active
      (inr (subst (λ (x : Body). (y : Signed Commit) × (at (recorded c s m x).commits (vote_key b.number.0 b.view.0 m.id) ≡ Some y)) (sym e)
      (added (is_admitted c s b.view.0 b.number.0) s.commits (vote_key b.number.0 b.view.0 m.id) (with_body m b) (admitted c s b.view.0 b.number.0 h))))

  -- ---- as it is sent

  send_pre_prepare : (s : Core) (to : Destination) (m : Signed Body) (b : PrePrepare) → m.body ≡ bodies.PrePrepare b → IsInside c s b.view.0 b.number.0
      → Stage b.view.0 (Stands (λ x. x.pre_prepares) b.number.0 b.view.0 m.id) (after c s (Send to m))
  send_pre_prepare s to m b e h = subst (λ (x : Body). Stage b.view.0 (Stands (λ y. y.pre_prepares) b.number.0 b.view.0 m.id) (acted (signed_once_more (said c s m x) x))) (sym e)
      (inl (sym h.view_is, h.active, inr (added (is_admitted c s b.view.0 b.number.0) s.pre_prepares (vote_key b.number.0 b.view.0 m.id) (with_body m b) (admitted c s b.view.0 b.number.0 h))))

  send_prepare : (s : Core) (to : Destination) (m : Signed Body) (b : Prepare) → m.body ≡ bodies.Prepare b → IsInside c s b.view.0 b.number.0
      → Stage b.view.0 (Stands (λ x. x.prepares) b.number.0 b.view.0 m.id) (after c s (Send to m))
  send_prepare s to m b e h = subst (λ (x : Body). Stage b.view.0 (Stands (λ y. y.prepares) b.number.0 b.view.0 m.id) (acted (signed_once_more (said c s m x) x))) (sym e)
      (inl (sym h.view_is, h.active, inr (added (is_admitted c s b.view.0 b.number.0) s.prepares (vote_key b.number.0 b.view.0 m.id) (with_body m b) (admitted c s b.view.0 b.number.0 h))))

  send_commit : (s : Core) (to : Destination) (m : Signed Body) (b : Commit) → m.body ≡ bodies.Commit b → IsInside c s b.view.0 b.number.0
      → Stage b.view.0 (Stands (λ x. x.commits) b.number.0 b.view.0 m.id) (after c s (Send to m))
  send_commit s to m b e h = subst (λ (x : Body). Stage b.view.0 (Stands (λ y. y.commits) b.number.0 b.view.0 m.id) (acted (signed_once_more (said c s m x) x))) (sym e)
      (inl (sym h.view_is, h.active, inr (added (is_admitted c s b.view.0 b.number.0) s.commits (vote_key b.number.0 b.view.0 m.id) (with_body m b) (admitted c s b.view.0 b.number.0 h))))

-- ---- at a later point of the history

module _ (c : Setup) (me : ℕ) (signer : SigningState) (acts : List Act) (is : IsHistory c me signer acts) where
  pub pre_prepare_taken : (m : Signed Body) (r : Option Service) (early : List Act) (b : PrePrepare) → IsEarlier (Take m r ∷ early) acts → m.body ≡ bodies.PrePrepare b → IsInside c (core_after c signer early) b.view.0 b.number.0
      → Stage b.view.0 (Stands (λ x. x.pre_prepares) b.number.0 b.view.0 m.id) (core_after c signer acts)
  pre_prepare_taken m r early b point e h =
      let at = history_at c me signer (Take m r ∷ early) acts point is in
      holds_on c me signer (Stage b.view.0 (Stands (λ x. x.pre_prepares) b.number.0 b.view.0 m.id)) (stage_after c me b.view.0 (Stands (λ x. x.pre_prepares) b.number.0 b.view.0 m.id) (pre_prepare_stands c b.number.0 b.view.0 m.id)) (Take m r ∷ early) acts point is
      (take_pre_prepare c me (core_after c signer early) m r b (low_reached c me signer early at.0) at.1 e h)

  pub prepare_taken : (m : Signed Body) (r : Option Service) (early : List Act) (b : Prepare) → IsEarlier (Take m r ∷ early) acts → m.body ≡ bodies.Prepare b → IsInside c (core_after c signer early) b.view.0 b.number.0
      → Stage b.view.0 (Stands (λ x. x.prepares) b.number.0 b.view.0 m.id) (core_after c signer acts)
  prepare_taken m r early b point e h =
      let at = history_at c me signer (Take m r ∷ early) acts point is in
      holds_on c me signer (Stage b.view.0 (Stands (λ x. x.prepares) b.number.0 b.view.0 m.id)) (stage_after c me b.view.0 (Stands (λ x. x.prepares) b.number.0 b.view.0 m.id) (prepare_stands c b.number.0 b.view.0 m.id)) (Take m r ∷ early) acts point is
      (take_prepare c me (core_after c signer early) m r b (low_reached c me signer early at.0) at.1 e h)

  pub commit_taken : (m : Signed Body) (r : Option Service) (early : List Act) (b : Commit) → IsEarlier (Take m r ∷ early) acts → m.body ≡ bodies.Commit b → IsInside c (core_after c signer early) b.view.0 b.number.0
      → Stage b.view.0 (Stands (λ x. x.commits) b.number.0 b.view.0 m.id) (core_after c signer acts)
  commit_taken m r early b point e h =
      let at = history_at c me signer (Take m r ∷ early) acts point is in
      holds_on c me signer (Stage b.view.0 (Stands (λ x. x.commits) b.number.0 b.view.0 m.id)) (commit_stage c me b.number.0 b.view.0 m.id) (Take m r ∷ early) acts point is
      (take_commit c me (core_after c signer early) m r b (low_reached c me signer early at.0) at.1 e h)

  pub pre_prepare_sent : (to : Destination) (m : Signed Body) (early : List Act) (b : PrePrepare) → IsEarlier (Send to m ∷ early) acts → m.body ≡ bodies.PrePrepare b → IsInside c (core_after c signer early) b.view.0 b.number.0
      → Stage b.view.0 (Stands (λ x. x.pre_prepares) b.number.0 b.view.0 m.id) (core_after c signer acts)
  pre_prepare_sent to m early b point e h =
      holds_on c me signer (Stage b.view.0 (Stands (λ x. x.pre_prepares) b.number.0 b.view.0 m.id)) (stage_after c me b.view.0 (Stands (λ x. x.pre_prepares) b.number.0 b.view.0 m.id) (pre_prepare_stands c b.number.0 b.view.0 m.id)) (Send to m ∷ early) acts point is
      (send_pre_prepare c me (core_after c signer early) to m b e h)

  pub prepare_sent : (to : Destination) (m : Signed Body) (early : List Act) (b : Prepare) → IsEarlier (Send to m ∷ early) acts → m.body ≡ bodies.Prepare b → IsInside c (core_after c signer early) b.view.0 b.number.0
      → Stage b.view.0 (Stands (λ x. x.prepares) b.number.0 b.view.0 m.id) (core_after c signer acts)
  prepare_sent to m early b point e h =
      holds_on c me signer (Stage b.view.0 (Stands (λ x. x.prepares) b.number.0 b.view.0 m.id)) (stage_after c me b.view.0 (Stands (λ x. x.prepares) b.number.0 b.view.0 m.id) (prepare_stands c b.number.0 b.view.0 m.id)) (Send to m ∷ early) acts point is
      (send_prepare c me (core_after c signer early) to m b e h)

  pub commit_sent : (to : Destination) (m : Signed Body) (early : List Act) (b : Commit) → IsEarlier (Send to m ∷ early) acts → m.body ≡ bodies.Commit b → IsInside c (core_after c signer early) b.view.0 b.number.0
      → Stage b.view.0 (Stands (λ x. x.commits) b.number.0 b.view.0 m.id) (core_after c signer acts)
  commit_sent to m early b point e h =
      holds_on c me signer (Stage b.view.0 (Stands (λ x. x.commits) b.number.0 b.view.0 m.id)) (commit_stage c me b.number.0 b.view.0 m.id) (Send to m ∷ early) acts point is
      (send_commit c me (core_after c signer early) to m b e h)

-- ---- between rows

-- a message that came was taken at a point of the history, and the history leads on
pub record Arrival (c : Setup) (me : ℕ) (signer : SigningState) (m : Signed Body) (t s : Core) : Type 0 where
  pub acts : List Act
  pub is : IsHistory c me signer acts
  pub core_is : core_after c signer acts ≡ s
  pub reading : Option Service
  pub early : List Act
  pub early_is : core_after c signer early ≡ t
  pub point : IsEarlier (Take m reading ∷ early) acts

module _ (c : Setup) (me : ℕ) (signer : SigningState) (m : Signed Body) (t s : Core) where
  arrival : Came c me signer m t s → Arrival c me signer m t s
  arrival w = behind w.later w.row w.came (history_from c me signer [] w.earlier (start_of c signer) t w.first refl tt) (core_from c me signer [] w.earlier (start_of c signer) t w.first refl) w.leads_on where
    early : List Act
    early = acts_from c me signer [] w.earlier (start_of c signer) t w.first

    behind : (later : List Row) (row : Row) → row.input ≡ Received m → IsHistory c me signer early → core_after c signer early ≡ t → IsLawfulFrom c me t (row ∷ later) s → Arrival c me signer m t s
    behind later row came is core (u, next, rest) =
        let b = begins_received c row.input next.first m next.begins came in
        let done : List Act = pushed (next.first ∷ next.acts) early in
        record {
          acts = acts_from c me signer early (row ∷ later) t s (u, next, rest);
          is = history_from c me signer early (row ∷ later) t s (u, next, rest) core is;
          core_is = core_from c me signer early (row ∷ later) t s (u, next, rest) core;
          reading = b.0;
          early = early;
          early_is = core;
          point = earlier_trans (Take m b.0 ∷ early) done (acts_from c me signer done later u s rest)
              (subst (λ (a : Act). IsEarlier (a ∷ early) done) b.1 (earlier_pushed next.acts (next.first ∷ early)))
              (earlier_from c me signer done later u s rest);
        }

  module _ (w : Came c me signer m t s) where
    stage_now : {X : Type 0} (table : Core → Table X) (n view i : ℕ) → s.view ≡ view → s.low < n → Stage view (Stands table n view i) s → (y : X) × (at (table s) (vote_key n view i) ≡ Some y)
    stage_now table n view i same above (inl v) = elim v.2 [ inl below ↦ absurd (omega (arith, above, below)) | inr y ↦ y ]
    stage_now table n view i same above (inr higher) = absurd (omega (arith, same, higher))

    pub pre_prepare_recorded : (b : PrePrepare) → m.body ≡ bodies.PrePrepare b → IsInside c t b.view.0 b.number.0 → s.view ≡ b.view.0 → s.low < b.number.0 → IsRecorded s.pre_prepares b.number.0 b.view.0 m.id
    pre_prepare_recorded b e h same above =
        let a = arrival w in
        stage_now (λ x. x.pre_prepares) b.number.0 b.view.0 m.id same above (subst (Stage b.view.0 (Stands (λ x. x.pre_prepares) b.number.0 b.view.0 m.id)) a.core_is
        (pre_prepare_taken c me signer a.acts a.is m a.reading a.early b a.point e (subst (λ (x : Core). IsInside c x b.view.0 b.number.0) (sym a.early_is) h)))

    pub prepare_recorded : (b : Prepare) → m.body ≡ bodies.Prepare b → IsInside c t b.view.0 b.number.0 → s.view ≡ b.view.0 → s.low < b.number.0 → IsRecorded s.prepares b.number.0 b.view.0 m.id
    prepare_recorded b e h same above =
        let a = arrival w in
        stage_now (λ x. x.prepares) b.number.0 b.view.0 m.id same above (subst (Stage b.view.0 (Stands (λ x. x.prepares) b.number.0 b.view.0 m.id)) a.core_is
        (prepare_taken c me signer a.acts a.is m a.reading a.early b a.point e (subst (λ (x : Core). IsInside c x b.view.0 b.number.0) (sym a.early_is) h)))

    pub commit_recorded_too : (b : Commit) → m.body ≡ bodies.Commit b → IsInside c t b.view.0 b.number.0 → s.view ≡ b.view.0 → s.low < b.number.0 → IsRecorded s.commits b.number.0 b.view.0 m.id
    commit_recorded_too b e h same above =
        let a = arrival w in
        stage_now (λ x. x.commits) b.number.0 b.view.0 m.id same above (subst (Stage b.view.0 (Stands (λ x. x.commits) b.number.0 b.view.0 m.id)) a.core_is
        (commit_taken c me signer a.acts a.is m a.reading a.early b a.point e (subst (λ (x : Core). IsInside c x b.view.0 b.number.0) (sym a.early_is) h)))
