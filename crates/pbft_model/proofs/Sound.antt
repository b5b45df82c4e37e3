-- What holds of a replica's core at each point of its history.
use Rattle.std.proofs.Common.{◌≡◌, ℕ, ◌<◌, ◌≤◌, Bool, true, false, ◌&&◌, cond, List, [], ◌∷◌, Option, Some, refl, sym, ap, subst, ◌∙◌, arith, inl, inr}
use Rattle.std.specs.Prelude.{nat_lt, nat_le, not, ◌==◌, MatchOption}
use Rattle.std.proofs.lemmas.Bool.{true≢false, false≢true, cases_lt, and_parts, and_from, or_cases, or_left, or_right, eq-eqb, le-leb, ltb-true, not-true}
use Rattle.std.proofs.lemmas.Option.{same_Some}
use Rattle.pbft_model.specs.Words.{SigningState, Signed, Body, PrePrepare, Snapshot, ViewChange, NewView}
use Rattle.pbft_codec.specs.declared.body.Body.TheVariants as bodies
use Rattle.pbft_codec.specs.declared.body.fetch.Fetch.TheVariants as fetches
use Rattle.pbft_model.specs.Sequential.{Service}
use Rattle.pbft_model.specs.Setup.{Setup}
use Rattle.pbft_model.specs.Tables.{Key, Table, at, keep, first_in, view_in, vote_key, change_key, is_above}
use Rattle.pbft_model.specs.Validity.{is_valid, floor_of, top_of}
use Rattle.pbft_model.specs.Core.{Core, start_of, floor_in, is_admitted, is_inside}
use Rattle.pbft_model.specs.Acts.{Act, Take, Timeout, Send, Relay, Enter, Rise, Execute, Install, after, said, recorded, entered, opened_by, with_list, left_for, add_pre_prepare, add_pre_prepares, is_of_entered, is_awaited, with_body}
use Rattle.pbft_model.specs.Rules.{Allowed, MaySay, IsReading, IsStateAt}
use Rattle.pbft_model.specs.Histories.{core_after, IsHistory}
use Rattle.pbft_model.proofs.Found.{found_add, found_keep, no_some}
use Rattle.pbft_model.proofs.Stages.{awaited_above}
use Rattle.pbft_model.proofs.Events.{low_reached}
use Rattle.pbft_model.proofs.Made.{IsKept, kept_leaving, kept_above, HasProof, proof_made, view_change_made}

-- what is recorded for the active view lies above its floor
abbrev pub AboveFloor : Core → Type 0
AboveFloor s = (q : Key) (m : Signed PrePrepare) → at s.pre_prepares q ≡ Some m → s.active ≡ true → view_in q ≡ s.view → floor_in s < first_in q

-- the reading of the message just taken is right
abbrev pub ReadsRight : Setup → Core → Type 0
ReadsRight c s = (m : Signed Body) (b : Snapshot) (t : Service) → s.taken ≡ Some m → m.body ≡ bodies.Snapshot b → s.reading ≡ Some t → IsStateAt c b.number.0 b.state t

abbrev pub ValidChanges : Setup → Core → Type 0
ValidChanges c s = (q : Key) (m : Signed ViewChange) → at s.changes q ≡ Some m → is_valid c m.body ≡ true

abbrev pub IsSoundCore : Setup → Core → Type 0
IsSoundCore c s = AboveFloor s × ReadsRight c s × ValidChanges c s × IsKept c s.low s.view s.kept × HasProof c s

module _ (c : Setup) where
  admitted_above : (s : Core) (view number : ℕ) → is_admitted c s view number ≡ true → s.active ≡ true → view ≡ s.view → floor_in s < number
  admitted_above s view number e active same =
      let a = and_parts (nat_le s.view view) (is_inside c s number && not (s.active && (view == s.view && nat_le number (floor_in s)))) e in
      let b = and_parts (is_inside c s number) (not (s.active && (view == s.view && nat_le number (floor_in s)))) a.1 in
      elim (cases_lt (floor_in s) number) [
        | inl above ↦ above
        | inr below ↦ absurd (true≢false (sym (and_from _ _ active (and_from _ _ (eq-eqb view s.view same) (le-leb number (floor_in s) below))) ∙ not-true _ b.1))
      ]

  -- what is added stands under its own number and view
  added_above : (s : Core) (m : Signed PrePrepare) (t : Table (Signed PrePrepare)) → s.active ≡ true → ((q : Key) (p : Signed PrePrepare) → at t q ≡ Some p → view_in q ≡ s.view → floor_in s < first_in q)
      → (q : Key) (p : Signed PrePrepare) → at (add_pre_prepare c s m t) q ≡ Some p → view_in q ≡ s.view → floor_in s < first_in q
  added_above s m t active h q p e view = elim (found_add (is_admitted c s m.body.view.0 m.body.number.0) t (vote_key m.body.number.0 m.body.view.0 m.id) q m p e) [
    | inl new ↦
        let above = admitted_above s m.body.view.0 m.body.number.0 new.2 active (ap view_in (sym new.0) ∙ view) in
        subst (λ (k : Key). floor_in s < first_in k) (sym new.0) above
    | inr old ↦ h q p old view
  ]

  list_above : (s : Core) (ms : List (Signed PrePrepare)) (t : Table (Signed PrePrepare)) → s.active ≡ true → ((q : Key) (p : Signed PrePrepare) → at t q ≡ Some p → view_in q ≡ s.view → floor_in s < first_in q)
      → (q : Key) (p : Signed PrePrepare) → at (add_pre_prepares c s ms t) q ≡ Some p → view_in q ≡ s.view → floor_in s < first_in q
  list_above s [] t active h = h
  list_above s (m ∷ ms) t active h = list_above s ms (add_pre_prepare c s m t) active (added_above s m t active h)

  one_above : (s : Core) (m : Signed PrePrepare) → AboveFloor s → (q : Key) (p : Signed PrePrepare) → at (add_pre_prepare c s m s.pre_prepares) q ≡ Some p → s.active ≡ true → view_in q ≡ s.view → floor_in s < first_in q
  one_above s m h q p e active view = added_above s m s.pre_prepares active (λ k x f v. h k x f active v) q p e view

  entered_keys : (view : ℕ) (ms : List (Signed ViewChange)) (q : Key) → is_of_entered view (top_of ms) q ≡ true → view_in q ≡ view → floor_of ms < first_in q
  entered_keys view ms q e same = elim (or_cases (nat_lt view (view_in q)) (view == view_in q && nat_lt (top_of ms) (first_in q)) e) [
    | inl higher ↦ let less = ltb-true view (view_in q) higher in absurd (omega arith)
    | inr here ↦ let above = ltb-true (top_of ms) (first_in q) ((and_parts (view == view_in q) (nat_lt (top_of ms) (first_in q)) here).1) in omega arith
  ]

  left_sound : (s : Core) (view : ℕ) → s.view < view → IsSoundCore c s → IsSoundCore c (left_for c s view)
  left_sound s view higher h =
      ((λ q m e active. absurd (false≢true active)), h.1, (λ q m e. h.2 q m ((found_keep _ s.changes q m e).1)), kept_leaving c s view higher h.3, h.4)

  -- at the view itself, or in a higher one
  OrSame : Core → Core → ℕ → Type 0
  OrSame s t view = (ReadsRight c t) × ValidChanges c t × IsKept c t.low view t.kept × HasProof c t

  entered_sound : (s : Core) (n : NewView) → s.view ≤ n.view.0 → IsSoundCore c s → IsSoundCore c (entered c s n)
  entered_sound s n up h = cases (nat_lt s.view n.view.0) refl where
    opened : (t : Core) → ReadsRight c t → ValidChanges c t → IsKept c t.low n.view.0 t.kept → HasProof c t → IsSoundCore c (with_list c (opened_by t n) n)
    opened t reads valid kept proof = (
      (λ q m e active view. list_above (opened_by t n) n.pre_prepares (opened_by t n).pre_prepares refl
          (λ k p f same. entered_keys n.view.0 n.changes k ((found_keep (is_of_entered n.view.0 (top_of n.changes)) t.pre_prepares k p f).0) same) q m e view),
      reads,
      valid,
      kept,
      proof,
    )

    cases : (b : Bool) → nat_lt s.view n.view.0 ≡ b → IsSoundCore c (with_list c (opened_by (cond b (left_for c s n.view.0) s) n) n)
    cases true e = let l = left_sound s n.view.0 (ltb-true s.view n.view.0 e) h in opened (left_for c s n.view.0) l.1 l.2 l.3 l.4
    cases false e = opened s h.1 h.2 (h.3.0, λ d is. let w = h.3.1 d is in let below = w.4 in (w.0, w.1, w.2, w.3, omega arith)) h.4

  sound_said : (me : ℕ) (s : Core) (m : Signed Body) (b : Body) → MaySay c me s b → IsSoundCore c s → IsSoundCore c (said c s m b)
  sound_said me s m (bodies.Request b) says h = absurd says
  sound_said me s m (bodies.PrePrepare b) says h = (one_above s (with_body m b) h.0, h.1, h.2, h.3, h.4)
  sound_said me s m (bodies.Prepare b) says h = h
  sound_said me s m (bodies.Commit b) says h = h
  sound_said me s m (bodies.Reply b) says h = h
  sound_said me s m (bodies.Checkpoint b) says h = h
  sound_said me s m (bodies.ViewChange b) says h =
      let l = left_sound s b.view.0 says.higher h in
      let own : is_valid c b ≡ true = subst (λ (v : ViewChange). is_valid c v ≡ true) (sym says.reports_all) (view_change_made c s b.view.0 says.higher h.3 h.4) in (
        l.0,
        l.1,
        (λ q p e. elim (found_add (true && is_awaited (left_for c s b.view.0) b.view.0) (left_for c s b.view.0).changes (change_key b.view.0 m.id) q (with_body m b) p e) [
          | inl new ↦ subst (λ (x : Signed ViewChange). is_valid c x.body ≡ true) new.1 own
          | inr old ↦ l.2 q p old
        ]),
        l.3,
        l.4,
      )
  sound_said me s m (bodies.NewView b) says h = let same : b.view.0 ≡ s.view = ap (λ (n : NewView). n.view.0) says.is in entered_sound s b (omega arith) h
  sound_said me s m (bodies.Fetch (fetches.Request d)) says h = h
  sound_said me s m (bodies.Fetch (fetches.State n)) says h = h
  sound_said me s m (bodies.Snapshot b) says h = h

  no_reading : (b : Body) (reading : Option Service) (x : Snapshot) (t : Service) → IsReading c b reading → b ≡ bodies.Snapshot x → reading ≡ Some t → IsStateAt c x.number.0 x.state t
  no_reading b reading x t h e is = from (subst (λ (y : Body). IsReading c y reading) e h) where
    from : MatchOption reading ((state : Service) → IsStateAt c x.number.0 x.state state → ⊥) (λ state. IsStateAt c x.number.0 x.state state) → IsStateAt c x.number.0 x.state t
    from h = subst (λ (r : Option Service). MatchOption r ((state : Service) → IsStateAt c x.number.0 x.state state → ⊥) (λ state. IsStateAt c x.number.0 x.state state)) is h

  reads_now : (m : Signed Body) (reading : Option Service) → IsReading c m.body reading → (m' : Signed Body) (b : Snapshot) (t : Service) → Some m ≡ Some m' → m'.body ≡ bodies.Snapshot b → reading ≡ Some t → IsStateAt c b.number.0 b.state t
  reads_now m reading h m' b t same e is = no_reading m.body reading b t h (ap (λ (x : Signed Body). x.body) (same_Some _ _ same) ∙ e) is

  sound_recorded : (s : Core) (m : Signed Body) (b : Body) (reading : Option Service) → IsReading c m.body reading → IsSoundCore c s
      → IsSoundCore c (record (recorded c s m b) { taken = Some m; reading = reading; is_fresh = true; timed_out = false })
  sound_recorded s m (bodies.PrePrepare b) r reads h = (one_above s (with_body m b) h.0, reads_now m r reads, h.2, h.3, h.4)
  sound_recorded s m (bodies.ViewChange b) r reads h = (
    h.0,
    reads_now m r reads,
    (λ q p e. elim (found_add (is_valid c b && is_awaited s b.view.0) s.changes (change_key b.view.0 m.id) q (with_body m b) p e) [
      | inl new ↦ subst (λ (x : Signed ViewChange). is_valid c x.body ≡ true) new.1 ((and_parts (is_valid c b) (is_awaited s b.view.0) new.2).0)
      | inr old ↦ h.2 q p old
    ]),
    h.3,
    h.4,
  )
  sound_recorded s m _ r reads h = (h.0, reads_now m r reads, h.2, h.3, h.4)

  floor_above : (s : Core) (n : ℕ) → AboveFloor s → (q : Key) (m : Signed PrePrepare) → at (keep (is_above n) s.pre_prepares) q ≡ Some m → s.active ≡ true → view_in q ≡ s.view → floor_in s < first_in q
  floor_above s n h q m e active view = h q m ((found_keep (is_above n) s.pre_prepares q m e).1) active view

  pub sound_after : (me : ℕ) (s : Core) (a : Act) → s.low ≤ s.executed → Allowed c me s a → IsSoundCore c s → IsSoundCore c (after c s a)
  sound_after me s (Take m r) low ok h = sound_recorded s m m.body r ok.reads h
  sound_after me s Timeout low ok h = (h.0, (λ m b t e. no_some m e), h.2, h.3, h.4)
  sound_after me s (Send to m) low ok h = sound_said me s m m.body ok.says h
  sound_after me s (Relay to m) low ok h = h
  sound_after me s (Enter m) low ok h = entered_sound s m.body (awaited_above s m.body.view.0 ok.awaited) h
  sound_after me s (Rise n d) low ok h =
      let above = ok.above in
      (floor_above s n h.0, h.1, h.2, kept_above c s.low n s.view s.kept (omega arith) h.3, or_left _ _ (proof_made c s n d ok.stable))
  sound_after me s (Execute n d t o) low ok h = h
  sound_after me s (Install n b t) low ok h =
      let above = ok.above in
      (floor_above s n h.0, (λ m x t e is none. no_some t none), h.2, kept_above c s.low n s.view s.kept (omega arith) h.3, or_left _ _ (proof_made c s n (c.hash b) ok.stable))

  pub sound_start : (signer : SigningState) → IsSoundCore c (start_of c signer)
  sound_start signer = ((λ q m e. no_some m e), (λ m b t e. no_some m e), (λ q m e. no_some m e), (tt, λ e none. absurd none), or_right _ _ refl)

  pub sound_at : (me : ℕ) (signer : SigningState) (acts : List Act) → IsHistory c me signer acts → IsSoundCore c (core_after c signer acts)
  sound_at me signer [] is = sound_start signer
  sound_at me signer (a ∷ acts) is = sound_after me (core_after c signer acts) a (low_reached c me signer acts is.0) is.1 (sound_at me signer acts is.0)
