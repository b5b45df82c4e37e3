-- ViewChanges: one that comes to a replica which awaits its view is recorded, and stays so until a higher view.
use Rattle.std.proofs.Common.{◌≡◌, ◌⊎◌, ℕ, ◌<◌, ◌≤◌, Bool, true, false, ◌&&◌, cond, List, [], ◌∷◌, Option, Some, refl, sym, ap, subst, ◌∙◌, arith, inl, inr}
use Rattle.std.specs.Prelude.{nat_lt, nat_le, not, IsTrue, ◌==◌}
use Rattle.std.proofs.lemmas.Bool.{true≢false, false≢true, cases_lt, and_from, and_parts, or_cases, or_left, or_right, eq-eqb, lt-ltb, ltb-true, le-leb}
use Rattle.pbft_model.specs.Words.{SigningState, Signed, Body, ViewChange, Role, Replica, Client, Configuration, Part}
use Rattle.pbft_codec.specs.declared.body.Body.TheVariants as bodies
use Rattle.pbft_codec.specs.declared.body.fetch.Fetch.TheVariants as fetches
use Rattle.seal.specs.Signers.{may_sign}
use Rattle.pbft_model.specs.Sequential.{Service}
use Rattle.pbft_model.specs.Setup.{Setup}
use Rattle.pbft_model.specs.Tables.{Key, Table, at, keep, add_if, change_key, first_in, view_in}
use Rattle.pbft_model.specs.Validity.{is_valid}
use Rattle.pbft_model.specs.Core.{Core}
use Rattle.pbft_model.specs.Acts.{Act, Take, Send, Enter, after, said, recorded, left_for, left_if_above, with_body, is_awaited}
use Rattle.pbft_model.specs.Rules.{Allowed}
use Rattle.pbft_model.specs.Histories.{core_after, IsHistory, IsEarlier, HasSigned}
use Rattle.pbft_model.proofs.Found.{no_some, found_add, found_keep, kept_add, kept_keep, at_added}
use Rattle.pbft_model.proofs.Events.{before, holds_on}
use Rattle.pbft_model.proofs.Stages.{view_up}
use Rattle.pbft_progress.proofs.Lives.{TakenAt}
use Rattle.pbft_progress.proofs.Standing.{change_uttered, view_rises, active_on}

-- ---- each stands under its own view and signer, and a replica signed it

abbrev IsShaped : Key → Signed ViewChange → Type 0
IsShaped q m = (q ≡ change_key m.body.view.0 m.id) × (m.role ≡ Replica)

abbrev pub AreShaped : Table (Signed ViewChange) → Type 0
AreShaped t = (q : Key) (m : Signed ViewChange) → at t q ≡ Some m → IsShaped q m

shaped_add : (b : Bool) (m : Signed ViewChange) (t : Table (Signed ViewChange)) → m.role ≡ Replica → AreShaped t → AreShaped (add_if b (change_key m.body.view.0 m.id) m t)
shaped_add b m t role h q p e = elim (found_add b t (change_key m.body.view.0 m.id) q m p e) [
  | inl w ↦ subst (IsShaped q) w.1 (w.0, role)
  | inr old ↦ h q p old
]

shaped_keep : (test : Key → Bool) (t : Table (Signed ViewChange)) → AreShaped t → AreShaped (keep test t)
shaped_keep test t h q m e = h q m ((found_keep test t q m e).1)

shaped_left : (c : Setup) (s : Core) (view : ℕ) → AreShaped s.changes → AreShaped (left_if_above c s view).changes
shaped_left c s view h = cases (nat_lt s.view view) where
  cases : (b : Bool) → AreShaped (cond b (left_for c s view) s).changes
  cases true = shaped_keep _ s.changes h
  cases false = h

-- no client signs a ViewChange
change_role : (c : Configuration) (r : Role) (id : ℕ) (b : ViewChange) → IsTrue (may_sign c r id (bodies.ViewChange b)) → r ≡ Replica
change_role c Replica id b h = refl
change_role c Client id b h = absurd (false≢true h)

shaped_recorded : (c : Setup) (s : Core) (m : Signed Body) (b : Body) → m.body ≡ b → IsTrue (may_sign c.config m.role m.id m.body) → AreShaped s.changes → AreShaped (recorded c s m b).changes
shaped_recorded c s m (bodies.ViewChange b) e may h =
    shaped_add _ (with_body m b) s.changes (change_role c.config m.role m.id b (subst (λ (x : Body). IsTrue (may_sign c.config m.role m.id x)) e may)) h
shaped_recorded c s m _ e may h = h

shaped_said : (c : Setup) (s : Core) (m : Signed Body) (b : Body) → m.role ≡ Replica → AreShaped s.changes → AreShaped (said c s m b).changes
shaped_said c s m (bodies.ViewChange b) role h = shaped_add _ (with_body m b) (left_for c s b.view.0).changes role (shaped_keep _ s.changes h)
shaped_said c s m (bodies.NewView b) role h = shaped_left c s b.view.0 h
shaped_said c s m (bodies.Fetch (fetches.Request d)) role h = h
shaped_said c s m (bodies.Fetch (fetches.State n)) role h = h
shaped_said c s m _ role h = h

shaped_after : (c : Setup) (me : ℕ) (s : Core) (a : Act) → Allowed c me s a → AreShaped s.changes → AreShaped (after c s a).changes
shaped_after c me s (Take m r) ok h = shaped_recorded c s m m.body refl ok.opened.authentic.0.role h
shaped_after c me s (Send to m) ok h = shaped_said c s m m.body (ap (λ (x : Signed Body). x.role) ok.signed) h
shaped_after c me s (Enter m) ok h = shaped_left c s m.body.view.0 h
shaped_after c me s _ ok h = h

pub shaped : (c : Setup) (me : ℕ) (signer : SigningState) (acts : List Act) → IsHistory c me signer acts → AreShaped (core_after c signer acts).changes
shaped c me signer [] is = λ q m e. no_some m e
shaped c me signer (a ∷ acts) is = shaped_after c me (core_after c signer acts) a is.1 (shaped c me signer acts is.0)

-- ---- what is recorded stays

-- A ViewChange of this replica for this view is recorded.
abbrev pub Wants : ℕ → ℕ → Core → Type 0
Wants view i s = (y : Signed ViewChange) × (at s.changes (change_key view i) ≡ Some y)

abbrev WantsOrAbove : ℕ → ℕ → Core → Type 0
WantsOrAbove view i s = (view < s.view) ⊎ Wants view i s

module _ (c : Setup) (view i : ℕ) where
  left_wants : (s : Core) (higher : ℕ) → Wants view i s → (view < higher) ⊎ Wants view i (left_for c s higher)
  left_wants s higher w = elim (cases_lt view higher) [
    | inl less ↦ inl less
    | inr le ↦ inr (w.0, kept_keep (λ key. nat_le higher (first_in key)) s.changes (change_key view i) w.0 (le-leb higher view le) w.1)
  ]

  above_wants : (s : Core) (higher : ℕ) → Wants view i s → (view < higher) ⊎ Wants view i (left_if_above c s higher)
  above_wants s higher w = cases (nat_lt s.view higher) where
    cases : (b : Bool) → (view < higher) ⊎ Wants view i (cond b (left_for c s higher) s)
    cases true = left_wants s higher w
    cases false = inr w

  recorded_wants : (s : Core) (m : Signed Body) (b : Body) → Wants view i s → Wants view i (recorded c s m b)
  recorded_wants s m (bodies.ViewChange b) w = (w.0, kept_add _ s.changes (change_key b.view.0 m.id) (change_key view i) (with_body m b) w.0 w.1)
  recorded_wants s m _ w = w

  said_wants : (s : Core) (m : Signed Body) (b : Body) → Wants view i s → WantsOrAbove view i (said c s m b)
  said_wants s m (bodies.ViewChange b) w = elim (left_wants s b.view.0 w) [
    | inl less ↦ inl less
    | inr v ↦ inr (v.0, kept_add _ (left_for c s b.view.0).changes (change_key b.view.0 m.id) (change_key view i) (with_body m b) v.0 v.1)
  ]
  said_wants s m (bodies.NewView b) w = above_wants s b.view.0 w
  said_wants s m (bodies.Fetch (fetches.Request d)) w = inr w
  said_wants s m (bodies.Fetch (fetches.State n)) w = inr w
  said_wants s m _ w = inr w

  wants_by : (s : Core) (a : Act) → Wants view i s → WantsOrAbove view i (after c s a)
  wants_by s (Take m r) w = inr (recorded_wants s m m.body w)
  wants_by s (Send to m) w = said_wants s m m.body w
  wants_by s (Enter m) w = above_wants s m.body.view.0 w
  wants_by s _ w = inr w

  wants_after : (me : ℕ) (s : Core) (a : Act) → s.low ≤ s.executed → Allowed c me s a → WantsOrAbove view i s → WantsOrAbove view i (after c s a)
  wants_after me s a low ok (inl less) = let up = view_up c me s a low ok in inl (omega (arith, less, up))
  wants_after me s a low ok (inr w) = wants_by s a w

-- ---- what comes is recorded

-- The replica awaits the view: it stands below it, or changes to it.
abbrev pub Awaits : ℕ → Core → Type 0
Awaits view s = (s.view < view) ⊎ ((s.view ≡ view) × (s.active ≡ false))

awaits_is : (view : ℕ) (s : Core) → Awaits view s → is_awaited s view ≡ true
awaits_is view s (inl less) = or_left (nat_lt s.view view) (view == s.view && not s.active) (lt-ltb s.view view less)
awaits_is view s (inr (same, off)) =
    or_right (nat_lt s.view view) (view == s.view && not s.active) (and_from (view == s.view) (not s.active) (eq-eqb view s.view (sym same)) (ap not off))

awaits_low : (view : ℕ) (s : Core) → Awaits view s → s.view ≤ view
awaits_low view s (inl less) = omega (arith, less)
awaits_low view s (inr w) = let same : s.view ≡ view = w.0 in omega (arith, same)

-- what an active replica awaits is a higher view
pub awaits_more : (s : Core) (view : ℕ) → s.active ≡ true → is_awaited s view ≡ true → s.view < view
awaits_more s view on e = elim (or_cases (nat_lt s.view view) (view == s.view && not s.active) e) [
  | inl more ↦ ltb-true s.view view more
  | inr off ↦ absurd (false≢true (subst (λ (b : Bool). not b ≡ true) on ((and_parts (view == s.view) (not s.active) off).1)))
]

-- a view that is not awaited, and not below the replica's, is active
pub not_awaiting : (view : ℕ) (s : Core) → s.view ≤ view → is_awaited s view ≡ false → (s.view ≡ view) × (s.active ≡ true)
not_awaiting view s low passed = elim (cases_lt s.view view) [
  | inl less ↦ absurd (true≢false (sym (awaits_is view s (inl less)) ∙ passed))
  | inr above ↦ (same above, on s.active refl (same above))
] where
  same : view ≤ s.view → s.view ≡ view
  same above = omega (arith, low, above)

  on : (b : Bool) → s.active ≡ b → s.view ≡ view → s.active ≡ true
  on true e here = e
  on false e here = absurd (true≢false (sym (awaits_is view s (inr (here, e))) ∙ passed))

module _ (c : Setup) (me : ℕ) (signer : SigningState) where
  -- as it did before
  awaits_before : (view : ℕ) (x acts : List Act) → IsEarlier x acts → IsHistory c me signer acts → Awaits view (core_after c signer acts) → Awaits view (core_after c signer x)
  awaits_before view x acts at is h = elim (cases_lt (core_after c signer x).view view) [
    | inl less ↦ inl less
    | inr above ↦ elim h [
      | inl less ↦ absurd (omega (arith, above, rises, less))
      | inr w ↦ inr (same_view w.0 above, off w.0 w.1 (same_view w.0 above) ((core_after c signer x).active) refl)
    ]
  ] where
    rises : (core_after c signer x).view ≤ (core_after c signer acts).view
    rises = view_rises c me signer x acts at is

    same_view : (core_after c signer acts).view ≡ view → view ≤ (core_after c signer x).view → (core_after c signer x).view ≡ view
    same_view same above = let up = rises in omega (arith, same, above, up)

    off : (core_after c signer acts).view ≡ view → (core_after c signer acts).active ≡ false → (core_after c signer x).view ≡ view → (b : Bool) → (core_after c signer x).active ≡ b → (core_after c signer x).active ≡ false
    off same no_more here false e = e
    off same no_more here true e = elim (active_on c me signer view x acts at is here e) [
      | inl still ↦ absurd (true≢false (sym still.1 ∙ no_more))
      | inr higher ↦ absurd (omega (arith, same, higher))
    ]

  take_wants : (s : Core) (m : Signed Body) (r : Option Service) (b : ViewChange) → m.body ≡ bodies.ViewChange b → is_valid c b ≡ true → is_awaited s b.view.0 ≡ true
      → Wants b.view.0 m.id (after c s (Take m r))
  take_wants s m r b e valid awaited = subst P (sym e) here where
    key : Key
    key = change_key b.view.0 m.id

    P : Body → Type 0
    P x = (y : Signed ViewChange) × (at (recorded c s m x).changes (change_key b.view.0 m.id) ≡ Some y)

    Q : Bool → Type 0
    Q t = (y : Signed ViewChange) × (at (add_if t (change_key b.view.0 m.id) (with_body m b) s.changes) (change_key b.view.0 m.id) ≡ Some y)

    here : (y : Signed ViewChange) × (at (recorded c s m (bodies.ViewChange b)).changes (change_key b.view.0 m.id) ≡ Some y)
    here = let w = at_added s.changes (change_key b.view.0 m.id) (with_body m b) in subst Q (sym (and_from (is_valid c b) (is_awaited s b.view.0) valid awaited)) (w.0, w.1)

  -- A ViewChange that was taken is recorded where its view is awaited.
  pub taken_wants : (acts : List Act) (m : Signed Body) (b : ViewChange) → IsHistory c me signer acts → TakenAt m acts → m.body ≡ bodies.ViewChange b → is_valid c b ≡ true
      → Awaits b.view.0 (core_after c signer acts) → Wants b.view.0 m.id (core_after c signer acts)
  taken_wants acts m b is w e valid awaits =
      let earlier = awaits_before b.view.0 w.early acts (before (Take m w.reading) w.early acts w.point) is awaits in
      let took = take_wants (core_after c signer w.early) m w.reading b e valid (awaits_is b.view.0 (core_after c signer w.early) earlier) in
      let low = awaits_low b.view.0 (core_after c signer acts) awaits in
      elim (holds_on c me signer (WantsOrAbove b.view.0 m.id) (wants_after c b.view.0 m.id me) (Take m w.reading ∷ w.early) acts w.point is (inr took)) [
        | inl above ↦ absurd (omega (arith, above, low))
        | inr wants ↦ wants
      ]

  said_recorded : (s : Core) (m : Signed Body) (b : ViewChange) → Wants b.view.0 m.id (said c s m (bodies.ViewChange b))
  said_recorded s m b =
      let awaited : is_awaited (left_for c s b.view.0) b.view.0 ≡ true = awaits_is b.view.0 (left_for c s b.view.0) (inr (refl, refl)) in
      let w = at_added (left_for c s b.view.0).changes (change_key b.view.0 m.id) (with_body m b) in
      subst Q (sym (and_from true (is_awaited (left_for c s b.view.0) b.view.0) refl awaited)) (w.0, w.1) where
        Q : Bool → Type 0
        Q t = (y : Signed ViewChange) × (at (add_if t (change_key b.view.0 m.id) (with_body m b) (left_for c s b.view.0).changes) (change_key b.view.0 m.id) ≡ Some y)

  -- So is an own one.
  pub own_wants : (acts : List Act) (p : Part) (b : ViewChange) → IsHistory c me signer acts → p.body ≡ bodies.ViewChange b → HasSigned p acts
      → (core_after c signer acts).view ≤ b.view.0 → Wants b.view.0 me (core_after c signer acts)
  own_wants acts p b is body signed low =
      let w = change_uttered c me signer acts p b is body signed in
      let s = core_after c signer w.early in
      let wrote : Wants b.view.0 w.message.id (said c s w.message w.message.body) = subst (λ (x : Body). Wants b.view.0 w.message.id (said c s w.message x)) (sym w.body_is) (said_recorded s w.message b) in
      subst (λ (i : ℕ). Wants b.view.0 i (core_after c signer acts)) w.own
      (elim (holds_on c me signer (WantsOrAbove b.view.0 w.message.id) (wants_after c b.view.0 w.message.id me) (Send w.to w.message ∷ w.early) acts w.point is (inr wrote)) [
        | inl above ↦ absurd (omega (arith, above, low))
        | inr wants ↦ wants
      ])

-- What is recorded is by whom and for what its place says.
pub wants_shape : (s : Core) (view i : ℕ) → AreShaped s.changes → (w : Wants view i s) → (view ≡ w.0.body.view.0) × (i ≡ w.0.id) × (w.0.role ≡ Replica)
wants_shape s view i h w = let q = h (change_key view i) w.0 w.1 in (ap first_in q.0, ap view_in q.0, q.1)
