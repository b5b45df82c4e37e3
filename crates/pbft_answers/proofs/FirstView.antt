-- Histories that end in view 0: they were in it, active, from the beginning, and their votes stand under their own places, up to
-- the high mark.
use Rattle.std.proofs.Common.{◌≡◌, ℕ, ◌+◌, ◌≤◌, Bool, true, ◌&&◌, List, [], ◌∷◌, Some, refl, sym, ap, subst, ◌∙◌, arith, inl, inr}
use Rattle.std.specs.Prelude.{IsTrue, nat_lt, nat_le, not, ◌==◌}
use Rattle.std.proofs.lemmas.Bool.{true≢false, false≢true, and_parts, leb-true}
use Rattle.pbft_model.specs.Words.{SigningState, Signed, Body, PrePrepare, Configuration, Role, Replica, Client}
use Rattle.pbft_codec.specs.declared.body.Body.TheVariants as bodies
use Rattle.pbft_codec.specs.declared.body.fetch.Fetch.TheVariants as fetches
use Rattle.seal.specs.Signers.{may_sign}
use Rattle.pbft_model.specs.Setup.{Setup, span}
use Rattle.pbft_model.specs.Tables.{Key, Table, at, keep, add_if, vote_key}
use Rattle.pbft_model.specs.Certificates.{Fields, of_pre_prepare, of_prepare, of_commit}
use Rattle.pbft_model.specs.Core.{Core, floor_in, is_admitted, is_inside}
use Rattle.pbft_model.specs.Acts.{Act, Take, Send, Enter, Rise, Install, after, said, recorded, with_body}
use Rattle.pbft_model.specs.Rules.{Allowed, MaySay}
use Rattle.pbft_model.specs.Histories.{core_after, IsHistory, IsEarlier}
use Rattle.pbft_model.proofs.Found.{no_some, found_add, found_keep}
use Rattle.pbft_model.proofs.Events.{history_at, low_reached}
use Rattle.pbft_model.proofs.Calm.{IsCalm, IsCalmBody, calm, low_up}
use Rattle.pbft_model.proofs.Stages.{view_up}
use Rattle.pbft_progress.proofs.Standing.{view_rises}
use Rattle.pbft_progress.proofs.Changes.{awaits_more}

-- Active in view 0.
abbrev pub First : Core → Type 0
First s = (s.view ≡ 0) × (s.active ≡ true) × (s.basis ≡ [])

module _ (c : Setup) (me : ℕ) (signer : SigningState) where
  said_first : (s : Core) (m : Signed Body) (b : Body) → MaySay c me s b → (said c s m b).view ≡ 0 → First s → IsCalmBody b × First (said c s m b)
  said_first s m (bodies.Request b) says e h = absurd says
  said_first s m (bodies.ViewChange b) says e h = let higher = says.higher in absurd (omega (arith, higher, e))
  said_first s m (bodies.NewView b) says e h = absurd (true≢false (sym h.1 ∙ says.changing))
  said_first s m (bodies.Fetch (fetches.Request d)) says e h = (tt, h)
  said_first s m (bodies.Fetch (fetches.State n)) says e h = (tt, h)
  said_first s m _ says e h = (tt, h)

  after_first : (s : Core) (a : Act) → s.low ≤ s.executed → Allowed c me s a → (after c s a).view ≡ 0 → First s → IsCalm a × First (after c s a)
  after_first s (Take m r) low ok e h = let k = calm c me s (Take m r) low ok tt in (tt, (k.0 ∙ h.0, k.1 ∙ h.1, k.2 ∙ h.2))
  after_first s (Send to m) low ok e h = said_first s m m.body ok.says e h
  after_first s (Enter m) low ok e h = let higher = awaits_more s m.body.view.0 h.1 ok.awaited in absurd (omega (arith, higher, e))
  after_first s _ low ok e h = (tt, h)

  view_before : (a : Act) (acts : List Act) → IsHistory c me signer (a ∷ acts) → (core_after c signer (a ∷ acts)).view ≡ 0 → (core_after c signer acts).view ≡ 0
  view_before a acts is e = let up = view_up c me (core_after c signer acts) a (low_reached c me signer acts is.0) is.1 in omega (arith, up, e)

  pub first_view : (acts : List Act) → IsHistory c me signer acts → (core_after c signer acts).view ≡ 0 → First (core_after c signer acts)
  first_view [] is e = (refl, refl, refl)
  first_view (a ∷ acts) is e =
      (after_first (core_after c signer acts) a (low_reached c me signer acts is.0) is.1 e (first_view acts is.0 (view_before a acts is e))).1

  -- its last act stayed in the view
  pub calm_last : (a : Act) (acts : List Act) → IsHistory c me signer (a ∷ acts) → (core_after c signer (a ∷ acts)).view ≡ 0 → IsCalm a × First (core_after c signer acts)
  calm_last a acts is e =
      let first = first_view acts is.0 (view_before a acts is e) in
      ((after_first (core_after c signer acts) a (low_reached c me signer acts is.0) is.1 e first).0, first)

  pub first_at : (x acts : List Act) → IsEarlier x acts → IsHistory c me signer acts → (core_after c signer acts).view ≡ 0 → First (core_after c signer x)
  first_at x acts at is e = let rises = view_rises c me signer x acts at is in first_view x (history_at c me signer x acts at is) (omega (arith, rises, e))

-- ---- each vote stands under its own number, view and signer, and a replica signed it

abbrev Shaped : {B : Type 0} → (B → Fields) → Table (Signed B) → Type 0
Shaped {B} of t = (q : Key) (y : Signed B) → at t q ≡ Some y → (q ≡ vote_key (of y.body).number (of y.body).view y.id) × (y.role ≡ Replica)

abbrev pub Shapes : Core → Type 0
Shapes s = Shaped of_pre_prepare s.pre_prepares × Shaped of_prepare s.prepares × Shaped of_commit s.commits

shaped_add : {B : Type 0} (of : B → Fields) (b : Bool) (m : Signed B) (t : Table (Signed B)) → m.role ≡ Replica → Shaped of t → Shaped of (add_if b (vote_key (of m.body).number (of m.body).view m.id) m t)
shaped_add {B} of b m t role h q y e = elim (found_add b t (vote_key (of m.body).number (of m.body).view m.id) q m y e) [
  | inl w ↦ subst (λ (z : Signed B). (q ≡ vote_key (of z.body).number (of z.body).view z.id) × (z.role ≡ Replica)) w.1 (w.0, role)
  | inr old ↦ h q y old
]

shaped_keep : {B : Type 0} (of : B → Fields) (test : Key → Bool) (t : Table (Signed B)) → Shaped of t → Shaped of (keep test t)
shaped_keep of test t h q y e = h q y ((found_keep test t q y e).1)

-- only a replica may sign it
abbrev IsVote : Body → Type 0
IsVote (bodies.PrePrepare b) = Unit {0}
IsVote (bodies.Prepare b) = Unit {0}
IsVote (bodies.Commit b) = Unit {0}
IsVote _ = ⊥

by_replica : (c : Configuration) (r : Role) (id : ℕ) (b : Body) → IsVote b → IsTrue (may_sign c r id b) → r ≡ Replica
by_replica c Replica id b v h = refl
by_replica c Client id (bodies.PrePrepare b) v h = absurd (false≢true h)
by_replica c Client id (bodies.Prepare b) v h = absurd (false≢true h)
by_replica c Client id (bodies.Commit b) v h = absurd (false≢true h)
by_replica c Client id _ v h = absurd v

pub role_of : (c : Setup) (m : Signed Body) (b : Body) → m.body ≡ b → IsVote b → IsTrue (may_sign c.config m.role m.id m.body) → m.role ≡ Replica
role_of c m b e v may = by_replica c.config m.role m.id b v (subst (λ (x : Body). IsTrue (may_sign c.config m.role m.id x)) e may)

shapes_recorded : (c : Setup) (s : Core) (m : Signed Body) (b : Body) → m.body ≡ b → IsTrue (may_sign c.config m.role m.id m.body) → Shapes s → Shapes (recorded c s m b)
shapes_recorded c s m (bodies.PrePrepare b) e may h = (shaped_add of_pre_prepare _ (with_body m b) s.pre_prepares (role_of c m (bodies.PrePrepare b) e tt may) h.0, h.1, h.2)
shapes_recorded c s m (bodies.Prepare b) e may h = (h.0, shaped_add of_prepare _ (with_body m b) s.prepares (role_of c m (bodies.Prepare b) e tt may) h.1, h.2)
shapes_recorded c s m (bodies.Commit b) e may h = (h.0, h.1, shaped_add of_commit _ (with_body m b) s.commits (role_of c m (bodies.Commit b) e tt may) h.2)
shapes_recorded c s m (bodies.Request b) e may h = h
shapes_recorded c s m _ e may h = h

shapes_said : (c : Setup) (s : Core) (m : Signed Body) (b : Body) → IsCalmBody b → m.role ≡ Replica → Shapes s → Shapes (said c s m b)
shapes_said c s m (bodies.Request b) k role h = absurd k
shapes_said c s m (bodies.PrePrepare b) k role h = (shaped_add of_pre_prepare _ (with_body m b) s.pre_prepares role h.0, h.1, h.2)
shapes_said c s m (bodies.Prepare b) k role h = (h.0, shaped_add of_prepare _ (with_body m b) s.prepares role h.1, h.2)
shapes_said c s m (bodies.Commit b) k role h = (h.0, h.1, shaped_add of_commit _ (with_body m b) s.commits role h.2)
shapes_said c s m (bodies.ViewChange b) k role h = absurd k
shapes_said c s m (bodies.NewView b) k role h = absurd k
shapes_said c s m (bodies.Fetch (fetches.Request d)) k role h = h
shapes_said c s m (bodies.Fetch (fetches.State n)) k role h = h
shapes_said c s m _ k role h = h

shapes_kept : (test : Key → Bool) (s : Core) → Shapes s → Shaped of_pre_prepare (keep test s.pre_prepares) × Shaped of_prepare (keep test s.prepares) × Shaped of_commit (keep test s.commits)
shapes_kept test s h = (shaped_keep of_pre_prepare test s.pre_prepares h.0, shaped_keep of_prepare test s.prepares h.1, shaped_keep of_commit test s.commits h.2)

shapes_after : (c : Setup) (me : ℕ) (s : Core) (a : Act) → Allowed c me s a → IsCalm a → Shapes s → Shapes (after c s a)
shapes_after c me s (Take m r) ok k h = shapes_recorded c s m m.body refl ok.opened.authentic.0.role h
shapes_after c me s (Send to m) ok k h = shapes_said c s m m.body k (ap (λ (x : Signed Body). x.role) ok.signed) h
shapes_after c me s (Enter m) ok k h = absurd k
shapes_after c me s (Rise n d) ok k h = shapes_kept _ s h
shapes_after c me s (Install n b t) ok k h = shapes_kept _ s h
shapes_after c me s _ ok k h = h

pub shapes : (c : Setup) (me : ℕ) (signer : SigningState) (acts : List Act) → IsHistory c me signer acts → (core_after c signer acts).view ≡ 0 → Shapes (core_after c signer acts)
shapes c me signer [] is e = ((λ q y none. no_some y none), (λ q y none. no_some y none), (λ q y none. no_some y none))
shapes c me signer (a ∷ acts) is e =
    let k = calm_last c me signer a acts is e in
    shapes_after c me (core_after c signer acts) a is.1 k.0 (shapes c me signer acts is.0 k.1.0)

-- ---- each PrePrepare that stands is at most at the high mark

abbrev Marked : ℕ → Table (Signed PrePrepare) → Type 0
Marked high t = (q : Key) (y : Signed PrePrepare) → at t q ≡ Some y → y.body.number.0 ≤ high

-- what is admitted is at most there
admitted_high : (c : Setup) (s : Core) (view n : ℕ) → is_admitted c s view n ≡ true → n ≤ s.low + span c.config
admitted_high c s view n ok =
    let parts = and_parts (nat_le s.view view) (is_inside c s n && not (s.active && ((view == s.view) && nat_le n (floor_in s)))) ok in
    let marks = and_parts (is_inside c s n) (not (s.active && ((view == s.view) && nat_le n (floor_in s)))) parts.1 in
    leb-true n (s.low + span c.config) ((and_parts (nat_lt s.low n) (nat_le n (s.low + span c.config)) marks.0).1)

marked_add : (c : Setup) (s : Core) (m : Signed PrePrepare) → Marked (s.low + span c.config) s.pre_prepares
    → Marked (s.low + span c.config) (add_if (is_admitted c s m.body.view.0 m.body.number.0) (vote_key m.body.number.0 m.body.view.0 m.id) m s.pre_prepares)
marked_add c s m h q y e = elim (found_add (is_admitted c s m.body.view.0 m.body.number.0) s.pre_prepares (vote_key m.body.number.0 m.body.view.0 m.id) q m y e) [
  | inl w ↦ subst (λ (z : Signed PrePrepare). z.body.number.0 ≤ s.low + span c.config) w.1 (admitted_high c s m.body.view.0 m.body.number.0 w.2)
  | inr old ↦ h q y old
]

abbrev IsMarked : Setup → Core → Type 0
IsMarked c s = Marked (s.low + span c.config) s.pre_prepares

marked_recorded : (c : Setup) (s : Core) (m : Signed Body) (b : Body) → IsMarked c s → IsMarked c (recorded c s m b)
marked_recorded c s m (bodies.PrePrepare b) h = marked_add c s (with_body m b) h
marked_recorded c s m (bodies.Request b) h = h
marked_recorded c s m _ h = h

marked_said : (c : Setup) (s : Core) (m : Signed Body) (b : Body) → IsCalmBody b → IsMarked c s → IsMarked c (said c s m b)
marked_said c s m (bodies.PrePrepare b) k h = marked_add c s (with_body m b) h
marked_said c s m (bodies.Request b) k h = absurd k
marked_said c s m (bodies.ViewChange b) k h = absurd k
marked_said c s m (bodies.NewView b) k h = absurd k
marked_said c s m (bodies.Fetch (fetches.Request d)) k h = h
marked_said c s m (bodies.Fetch (fetches.State n)) k h = h
marked_said c s m _ k h = h

marked_kept : (c : Setup) (s : Core) (test : Key → Bool) (low : ℕ) → s.low ≤ low → IsMarked c s → Marked (low + span c.config) (keep test s.pre_prepares)
marked_kept c s test low up h q y e = let le = h q y ((found_keep test s.pre_prepares q y e).1) in omega (arith, up, le)

marked_after : (c : Setup) (me : ℕ) (s : Core) (a : Act) → s.low ≤ s.executed → Allowed c me s a → IsCalm a → IsMarked c s → IsMarked c (after c s a)
marked_after c me s (Take m r) low ok k h = marked_recorded c s m m.body h
marked_after c me s (Send to m) low ok k h = marked_said c s m m.body k h
marked_after c me s (Enter m) low ok k h = absurd k
marked_after c me s (Rise n d) low ok k h = marked_kept c s _ n (low_up c me s (Rise n d) low ok) h
marked_after c me s (Install n b t) low ok k h = marked_kept c s _ n (low_up c me s (Install n b t) low ok) h
marked_after c me s _ low ok k h = h

pub marked : (c : Setup) (me : ℕ) (signer : SigningState) (acts : List Act) → IsHistory c me signer acts → (core_after c signer acts).view ≡ 0 → (q : Key) (y : Signed PrePrepare)
    → at (core_after c signer acts).pre_prepares q ≡ Some y → y.body.number.0 ≤ (core_after c signer acts).low + span c.config
marked c me signer [] is e = λ q y none. no_some y none
marked c me signer (a ∷ acts) is e =
    let k = calm_last c me signer a acts is e in
    marked_after c me (core_after c signer acts) a (low_reached c me signer acts is.0) is.1 k.0 (marked c me signer acts is.0 k.1.0)
