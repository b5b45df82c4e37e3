-- Views spread, and a view whose primary is correct opens.
use Rattle.std.proofs.Common.{◌≡◌, ◌⊎◌, ℕ, zero, suc, ◌<◌, ◌≤◌, Bool, true, false, Option, Some, refl, sym, ap, subst, ◌∙◌, arith, inl, inr}
use Rattle.std.specs.Prelude.{not, ◌==◌}
use Rattle.std.proofs.lemmas.Bool.{true≢false, cases_lt, cases_eq, eq-eqb, le-leb, not-true, not_from_false}
use Rattle.pbft_model.specs.Words.{Signed, ViewChange}
use Rattle.pbft_model.specs.Setup.{Setup, replicas, quorum, primary, count}
use Rattle.pbft_model.specs.Tables.{at, change_key}
use Rattle.pbft_model.specs.Certificates.{some_by}
use Rattle.pbft_model.specs.Core.{Core, start_of}
use Rattle.pbft_model.specs.Acts.{is_awaited}
use Rattle.pbft_model.specs.Rules.{wants_view}
use Rattle.pbft_model.specs.Duties.{leads}
use Rattle.pbft_model.specs.Histories.{core_after}
use Rattle.pbft_model.specs.Families.{IsCorrect}
use Rattle.pbft_agreement.specs.Journals.{Journals, ComesTo, IsHonestFamily}
use Rattle.pbft_progress.specs.Progress.{IsDrained, Ends, EachEnds, Enough, IsAtRest}
use Rattle.pbft_model.proofs.Calm.{at_in}
use Rattle.pbft_model.proofs.Stages.{Stage}
use Rattle.pbft_agreement.proofs.Reporting.{one_core}
use Rattle.pbft_progress.proofs.Resting.{at_rest, journal_rests}
use Rattle.pbft_progress.proofs.Standing.{Standing, HasChanged, HasFollowed, Always, standing, view_rises, active_on, own_change, own_opening}
use Rattle.pbft_progress.proofs.Changes.{AreShaped, Wants, Awaits, shaped, taken_wants, own_wants, wants_shape, not_awaiting}
use Rattle.pbft_progress.proofs.Duties.{Calls, count_below, count_all, by_from, join_due, open_due, not_awaited}
use Rattle.pbft_progress.proofs.Spreading.{Changed, Opened, Ended, ended, change_comes, opening_comes, opened_by_primary, changed_by_enough}

-- each of those below n is of the first kind, or there is one of the second
pub each_or_one : (those : ℕ → Bool) (A : ℕ → Type 0) (B : Type 0) (n : ℕ) → ((i : ℕ) → i < n → those i ≡ true → A i ⊎ B) → ((i : ℕ) → i < n → those i ≡ true → A i) ⊎ B
each_or_one those A B zero h = inl (λ i below t. absurd (omega (arith, below)))
each_or_one those A B (suc n) h = elim (each_or_one those A B n (λ i below t. h i (omega (arith, below)) t)) [
  | inr one ↦ inr one
  | inl each ↦ last (those n) refl each
] where
  last : (b : Bool) → those n ≡ b → ((i : ℕ) → i < n → those i ≡ true → A i) → ((i : ℕ) → i < suc n → those i ≡ true → A i) ⊎ B
  last false e each = inl (λ i below t. elim (cases_eq i n) [
    | inl same ↦ absurd (true≢false (sym t ∙ ap those same ∙ e))
    | inr other ↦ each i (elim (cases_lt i n) [ inl less ↦ less | inr more ↦ absurd (other (omega (arith, below, more))) ]) t
  ])
  last true e each = elim (h n (omega arith) e) [
    | inr one ↦ inr one
    | inl new ↦ inl (λ i below t. elim (cases_eq i n) [
      | inl same ↦ subst A (sym same) new
      | inr other ↦ each i (elim (cases_lt i n) [ inl less ↦ less | inr more ↦ absurd (other (omega (arith, below, more))) ]) t
    ])
  ]

module _ (c : Setup) (j : Journals) (h : IsHonestFamily c j) (drained : IsDrained c j) where
  -- of a view that is not below this one
  abbrev ChangedFrom : ℕ → ℕ → Type 0
  ChangedFrom view i = (v : ℕ) × (view ≤ v) × Changed j v i

  abbrev the_end : (i : ℕ) → IsCorrect c j.faulty i → Ended c j i
  the_end i correct = ended c j h i correct

  -- ---- of one replica that has come to its end

  -- the core there is one
  same_end : (i : ℕ) (e : Ended c j i) (s : Core) → ComesTo c j i (j.rows i) s → e.core ≡ s
  same_end i e s comes = one_core c i (j.signer i) (j.rows i) (start_of c (j.signer i)) e.core s e.comes comes

  rests : (i : ℕ) (e : Ended c j i) → IsAtRest c i e.core
  rests i e = journal_rests c i (j.signer i) (j.rows i) e.core e.comes

  stands_at : (i : ℕ) (e : Ended c j i) → Standing c e.history.acts e.core
  stands_at i e = subst (Standing c e.history.acts) e.history.core_is (standing c i (j.signer i) e.history.acts e.history.is)

  shaped_at : (i : ℕ) (e : Ended c j i) → AreShaped e.core.changes
  shaped_at i e = subst (λ (s : Core). AreShaped s.changes) e.history.core_is (shaped c i (j.signer i) e.history.acts e.history.is)

  -- it gave the ViewChange
  changed : (i view : ℕ) (e : Ended c j i) → HasChanged view e.history.acts → Changed j view i
  changed i view e (p, b, signed, body, is) = (p, b, e.history.gives p signed, body, is)

  -- who changed to a view stands in it or above
  changed_low : (i view : ℕ) (e : Ended c j i) → Changed j view i → (0 < view) × (view ≤ e.core.view)
  changed_low i view e (p, b, given, body, is) =
      let own = own_change c i (j.signer i) e.history.acts p b e.history.is body (e.history.signs p given) in
      let low = own.1 in
      let high = own.2 in
      let core : (core_after c (j.signer i) e.history.acts).view ≡ e.core.view = ap (λ (s : Core). s.view) e.history.core_is in
      (omega (arith, low, is), omega (arith, high, core, is))

  -- ---- what comes to it

  -- another's ViewChange for a view that is awaited is recorded
  comes_wanted : (k i view : ℕ) → IsCorrect c j.faulty k → IsCorrect c j.faulty i → (k ≡ i → ⊥) → (e : Ended c j i) → Changed j view k → Awaits view e.core → Wants view k e.core
  comes_wanted k i view correct right other e (p, b, given, body, is) awaits =
      let m = change_comes c j h drained k i correct right other p b given body in
      let from = the_end k correct in
      let own = own_change c k (j.signer k) from.history.acts p b from.history.is body (from.history.signs p given) in
      let acts = e.history.acts in
      let awaits_b : Awaits b.view.0 (core_after c (j.signer i) acts) =
      subst (λ (v : ℕ). Awaits v (core_after c (j.signer i) acts)) (sym is) (subst (Awaits view) (sym e.history.core_is) awaits) in
      let wants = taken_wants c i (j.signer i) acts m.0 b e.history.is (e.history.takes m.0 m.1) m.2 own.0 awaits_b in
      subst (λ (v : ℕ). Wants v k e.core) is (subst (λ (q : ℕ). Wants b.view.0 q e.core) m.3 (subst (Wants b.view.0 m.0.id) e.history.core_is wants))

  -- An end below a view that enough have changed to, or to higher ones: to join them is due there.
  none_below : (i view : ℕ) → IsCorrect c j.faulty i → (e : Ended c j i) → e.core.view < view → Enough c j (ChangedFrom view) → ⊥
  none_below i view correct e less (those, many, each) = join_due c i e.core those many call (rests i e).join where
    call : (k : ℕ) → k < replicas c.config → those k ≡ true → Calls c i e.core k
    call k below t =
        let w = each k below t in
        let v = w.1.0 in
        let up = w.1.1 in
        let other : k ≡ i → ⊥ = λ same. higher v up (changed_low i v e (subst (Changed j v) same w.1.2)).1 in
        let wants = comes_wanted k i v w.0 correct other e w.1.2 (inl (omega (arith, less, up))) in
        let shape = wants_shape e.core v k (shaped_at i e) wants in
        let view_is = shape.0 in
        record {
          change = wants.0;
          recorded = at_in e.core.changes (change_key v k) wants.0 wants.1;
          higher = omega (arith, less, up, view_is);
          by = sym shape.1;
          role = shape.2;
          other = other;
        } where
          higher : (v : ℕ) → view ≤ v → v ≤ e.core.view → ⊥
          higher v up low = omega (arith, less, up, low)

  -- Where enough stand at a view above 0 or higher, enough have changed to it or higher.
  all_changed : (view : ℕ) → 0 < view → Enough c j (λ i. Ends c j i (λ s. view ≤ s.view)) → Enough c j (ChangedFrom view)
  all_changed view above (those, many, each) = elim (each_or_one those (ChangedFrom view) (Enough c j (ChangedFrom view)) (replicas c.config) one) [
    | inl all ↦ (those, many, λ k below t. ((each k below t).0, all k below t))
    | inr enough ↦ enough
  ] where
    raised : (v : ℕ) → view ≤ v → Enough c j (Changed j v) → Enough c j (ChangedFrom view)
    raised v up (some, more, every) = (some, more, λ k below t. let w = every k below t in (w.0, (v, up, w.1)))

    one : (k : ℕ) → k < replicas c.config → those k ≡ true → ChangedFrom view k ⊎ Enough c j (ChangedFrom view)
    one k below t =
        let w = each k below t in
        let e = the_end k w.0 in
        let up : view ≤ e.core.view = w.1 e.core e.comes in
        elim (stands_at k e) [
          | inl first ↦ let none = first.0 in absurd (omega (arith, above, up, none))
          | inr (inl (on, (n, taken, valid, is))) ↦
              inr (raised n.body.view.0 (omega (arith, up, is)) (changed_by_enough c j h k w.0 n (e.history.received _ taken) valid))
          | inr (inr (own, opens)) ↦ inl (e.core.view, up, changed k e.core.view e own)
        ]

  -- Views spread.
  pub spreads : (view : ℕ) → Enough c j (λ i. Ends c j i (λ s. view ≤ s.view)) → EachEnds c j (λ i s. view ≤ s.view)
  spreads view enough i correct s comes = elim (cases_lt s.view view) [
    | inr up ↦ up
    | inl less ↦
        let e = the_end i correct in
        let same : e.core.view ≡ s.view = ap (λ (x : Core). x.view) (same_end i e s comes) in
        absurd (none_below i view correct e (omega (arith, less, same)) (all_changed view (omega (arith, less)) enough))
  ]

  -- ---- all stand in one view, whose primary is correct

  module _ (view : ℕ) (stand : EachEnds c j (λ i s. s.view ≡ view)) (leader : IsCorrect c j.faulty (primary c.config view)) where
    at_view : (i : ℕ) (correct : IsCorrect c j.faulty i) (e : Ended c j i) → e.core.view ≡ view
    at_view i correct e = stand i correct e.core e.comes

    still_active : (i : ℕ) (correct : IsCorrect c j.faulty i) (e : Ended c j i) → Stage view (Always c i (j.signer i)) (core_after c (j.signer i) e.history.acts) → e.core.active ≡ true
    still_active i correct e stage = elim (subst (Stage view (Always c i (j.signer i))) e.history.core_is stage) [
      | inl w ↦ w.1
      | inr higher ↦ let same = at_view i correct e in absurd (omega (arith, higher, same))
    ]

    -- who opened the view is active in it
    opener_active : (i : ℕ) (correct : IsCorrect c j.faulty i) (e : Ended c j i) → Opened j view i → e.core.active ≡ true
    opener_active i correct e (p, n, given, body, is) =
        let own = own_opening c i (j.signer i) e.history.acts p n e.history.is body (e.history.signs p given) in
        still_active i correct e (subst (λ (v : ℕ). Stage v (Always c i (j.signer i)) (core_after c (j.signer i) e.history.acts)) is own.1)

    -- and so is to whom the NewView came
    hearer_active : (i : ℕ) (correct : IsCorrect c j.faulty i) (e : Ended c j i) → (primary c.config view ≡ i → ⊥) → Opened j view (primary c.config view) → e.core.active ≡ true
    hearer_active i correct e other (p, n, given, body, is) =
        let leading = the_end (primary c.config view) leader in
        let own = own_opening c (primary c.config view) (j.signer (primary c.config view)) leading.history.acts p n leading.history.is body (leading.history.signs p given) in
        let m = opening_comes c j h drained (primary c.config view) i leader correct other p n given body in
        let heard = e.history.hears m.0 m.1 in
        let acts = e.history.acts in
        let u = core_after c (j.signer i) heard.early in
        let entered = (at_rest c i u heard.rests).before_executing.enter in
        let passed : is_awaited u view ≡ false = subst (λ (v : ℕ). is_awaited u v ≡ false) is (not_awaited c i u m.0 n heard.taken m.2 own.0 entered) in
        let rises = view_rises c i (j.signer i) heard.early acts heard.point e.history.is in
        let last : (core_after c (j.signer i) acts).view ≡ view = ap (λ (s : Core). s.view) e.history.core_is ∙ at_view i correct e in
        let now = not_awaiting view u (omega (arith, rises, last)) passed in
        still_active i correct e (active_on c i (j.signer i) view heard.early acts heard.point e.history.is now.0 now.1)

    -- Its primary opened the view, unless it is view 0.
    leading : Ended c j (primary c.config view)
    leading = the_end (primary c.config view) leader

    wanted : (k : ℕ) → (e : Ended c j (primary c.config view)) → Wants view k e.core → wants_view e.core k ≡ true
    wanted k e w =
        let same = at_view (primary c.config view) leader e in
        let shape = wants_shape e.core view k (shaped_at (primary c.config view) e) w in
        let found : at e.core.changes (change_key e.core.view k) ≡ Some w.0 = subst (λ (v : ℕ). at e.core.changes (change_key v k) ≡ Some w.0) (sym same) w.1 in
        subst (λ (o : Option (Signed ViewChange)). some_by k (λ v. v.view.0 == e.core.view) o ≡ true) (sym found)
        (by_from k (λ v. v.view.0 == e.core.view) w.0 shape.2 (sym shape.1) (eq-eqb w.0.body.view.0 e.core.view (sym shape.0 ∙ sym same)))

    own_wanted : (e : Ended c j (primary c.config view)) → Changed j view (primary c.config view) → Wants view (primary c.config view) e.core
    own_wanted e (p, b, given, body, is) =
        let me = primary c.config view in
        let last : (core_after c (j.signer me) e.history.acts).view ≡ view = ap (λ (s : Core). s.view) e.history.core_is ∙ at_view me leader e in
        let wants = own_wants c me (j.signer me) e.history.acts p b e.history.is body (e.history.signs p given) (omega (arith, last, is)) in
        subst (λ (v : ℕ). Wants v me e.core) is (subst (Wants b.view.0 me) e.history.core_is wants)

    -- it cannot rest before that where all have changed to the view
    unopened : (e : Ended c j (primary c.config view)) → e.core.active ≡ false → ((k : ℕ) → k < replicas c.config → not (j.faulty k) ≡ true → Changed j view k) → ⊥
    unopened e off all =
        let me = primary c.config view in
        let each : (k : ℕ) → k < replicas c.config → not (j.faulty k) ≡ true → wants_view e.core k ≡ true = λ k below t. wanted k e (elim (cases_eq k me) [
          | inl same ↦ subst (λ (q : ℕ). Wants view q e.core) (sym same) (own_wanted e (subst (Changed j view) same (all k below t)))
          | inr other ↦ comes_wanted k me view (below, not-true (j.faulty k) t) leader other e (all k below t) (inr (at_view me leader e, off))
        ]) in
        let more = count_below (λ k. not (j.faulty k)) (wants_view e.core) (replicas c.config) each in
        let total = count_all j.faulty (replicas c.config) in
        let few = h.few in
        let lead : leads c me e.core ≡ true = eq-eqb (primary c.config e.core.view) me (ap (primary c.config) (at_view me leader e)) in
        open_due c me e.core off lead (each me leader.0 (not_from_false (j.faulty me) leader.1))
        (le-leb (quorum c.config) (count (wants_view e.core) (replicas c.config)) (omega (arith, more, total, few))) (rests me e).open_view

    -- a replica stands in view 0, or shows that the primary opened the view, or has changed to it
    shows : (k : ℕ) (right : IsCorrect c j.faulty k) (e : Ended c j k) → Changed j view k ⊎ ((view ≡ 0) ⊎ Opened j view (primary c.config view))
    shows k right e =
        let same = at_view k right e in
        elim (stands_at k e) [
          | inl first ↦ inr (inl (sym same ∙ first.0))
          | inr (inl (on, followed)) ↦ inr (inr (opened_by_primary c j h k view right e leader (subst (λ (v : ℕ). HasFollowed c v e.history.acts) same followed)))
          | inr (inr (own, opens)) ↦ inl (subst (λ (v : ℕ). Changed j v k) same (changed k e.core.view e own))
        ]

    opened : (view ≡ 0) ⊎ Opened j view (primary c.config view)
    opened = cases leading.core.active refl where
      cases : (b : Bool) → leading.core.active ≡ b → (view ≡ 0) ⊎ Opened j view (primary c.config view)
      cases true on = elim (stands_at (primary c.config view) leading) [
        | inl first ↦ inl (sym (at_view (primary c.config view) leader leading) ∙ first.0)
        | inr (inl (here, followed)) ↦
            inr (opened_by_primary c j h (primary c.config view) view leader leading leader
            (subst (λ (v : ℕ). HasFollowed c v leading.history.acts) (at_view (primary c.config view) leader leading) followed))
        | inr (inr (own, opens)) ↦ let w = opens on in inr (w.0, w.1, leading.history.gives w.0 w.2, w.3, w.4 ∙ at_view (primary c.config view) leader leading)
      ]
      cases false off =
          elim (each_or_one (λ k. not (j.faulty k)) (Changed j view) ((view ≡ 0) ⊎ Opened j view (primary c.config view)) (replicas c.config)
          (λ k below t. let right : IsCorrect c j.faulty k = (below, not-true (j.faulty k) t) in shows k right (the_end k right))) [
            | inl all ↦ absurd (unopened leading off all)
            | inr one ↦ one
          ]

    active_at : (i : ℕ) (correct : IsCorrect c j.faulty i) (e : Ended c j i) → e.core.active ≡ true
    active_at i correct e = elim opened [
      | inl first ↦ elim (stands_at i e) [
        | inl w ↦ w.1
        | inr (inl w) ↦ w.0
        | inr (inr (own, opens)) ↦
            let above = (changed_low i e.core.view e (changed i e.core.view e own)).0 in
            let same = at_view i correct e in
            absurd (omega (arith, above, same, first))
      ]
      | inr one ↦ elim (cases_eq (primary c.config view) i) [
        | inl same ↦ opener_active i correct e (subst (Opened j view) same one)
        | inr other ↦ hearer_active i correct e other one
      ]
    ]

    -- All are active in it.
    pub opens : EachEnds c j (λ i s. s.active ≡ true)
    opens i correct s comes = subst (λ (x : Core). x.active ≡ true) (same_end i (the_end i correct) s comes) (active_at i correct (the_end i correct))
