-- What a replica signs as it changes views in a lawful journal: one ViewChange and one NewView for each view, which are valid,
-- and no ViewChange hides a Commit.
use Rattle.std.proofs.Common.{◌≡◌, ℕ, ◌<◌, ◌≤◌, true, false, List, [], ◌∷◌, refl, sym, ap, subst, ◌∙◌, arith, inl, inr}
use Rattle.std.specs.Prelude.{not, nat_lt, ◌&&◌}
use Rattle.std.specs.List.{list_any}
use Rattle.std.proofs.lemmas.Bool.{true≢false, and_parts, and_from, eq-eqb, le-leb, ltb-true, not-true}
use Rattle.pbft_codec.specs.declared.body.Body.TheVariants as bodies
use Rattle.pbft_model.specs.Words.{SigningState, Body, Commit, Certificate, ViewChange, NewView, Replica, SeqNo}
use Rattle.pbft_model.specs.Setup.{Setup}
use Rattle.pbft_model.specs.Validity.{is_valid, is_valid_new_view}
use Rattle.pbft_model.specs.Certificates.{of_commit}
use Rattle.pbft_model.specs.Core.{Core, is_certified, is_known, kept_on_leaving, start_of}
use Rattle.pbft_model.specs.Acts.{Act, Send}
use Rattle.pbft_model.specs.Rows.{Row, IsLawfulFrom}
use Rattle.pbft_model.specs.Histories.{IsEarlier, IsHistory, IsIn}
use Rattle.pbft_model.specs.Families.{Family, IsCorrect}
use Rattle.pbft_model.proofs.Calm.{any_in, at_in}
use Rattle.pbft_model.proofs.Events.{before, history_at, holds_on}
use Rattle.pbft_model.proofs.Made.{view_change_made}
use Rattle.pbft_model.proofs.Sound.{sound_at}
use Rattle.pbft_model.proofs.Stages.{Stage, EnteredBy, basis_keeps, Remembers, remembers_after, remembers_leaving, view_up}
use Rattle.pbft_model.proofs.Voices.{Said, core_at, core_then, two_said, later, change_said, commit_said, new_view_said}
use Rattle.pbft_agreement.specs.Journals.{Journals}
use Rattle.pbft_agreement.proofs.Reporting.{acts_from, given_from, history_from}
use Rattle.journal_laws.specs.Blame.{HasSigned, IsRealFamily}
use Rattle.journal_laws.specs.Views.{hides, shows, Reports, Differ, IsInvalid, HasTwo, HasHidden, HasInvalid}
use Rattle.journal_laws.proofs.Claimed.{heard_signed}

module _ (c : Setup) (family : Family) (IsLawful : ℕ → Type 0) (histories : (i : ℕ) → IsLawful i → IsHistory c i (family.signer i) (family.acts i)) (i : ℕ) (lawful : IsLawful i) where
  history_then : (x : List Act) → IsEarlier x (family.acts i) → IsHistory c i (family.signer i) x
  history_then x h = history_at c i (family.signer i) x (family.acts i) h (histories i lawful)

  above_at : (view : ℕ) (x y : List Act) → IsEarlier x y → IsEarlier y (family.acts i) → view ≤ (core_at c family i x).view → view ≤ (core_at c family i y).view
  above_at view x y h k below =
      holds_on c i (family.signer i) (λ s. view ≤ s.view) (λ s a low ok is. let up = view_up c i s a low ok in omega arith) x y h (history_then y k) below

  -- ---- one ViewChange for a view

  left_then : (v : ViewChange) (w : Said c family i (bodies.ViewChange v)) → v.view.0 ≤ (core_at c family i (Send w.to w.message ∷ w.early)).view
  left_then v w = subst (λ (s : Core). v.view.0 ≤ s.view) (sym (core_then c family IsLawful histories i (bodies.ViewChange v) w)) (omega arith)

  changes_once : (v v' : ViewChange) (w : Said c family i (bodies.ViewChange v)) (w' : Said c family i (bodies.ViewChange v')) → v.view.0 ≡ v'.view.0 → IsEarlier (Send w.to w.message ∷ w.early) w'.early → ⊥
  changes_once v v' w w' view h =
      let up = above_at v.view.0 (Send w.to w.message ∷ w.early) w'.early h (before (Send w'.to w'.message) w'.early (family.acts i) w'.point) (left_then v w) in
      let higher = w'.says.higher in
      absurd (omega arith)

  pub change_one : (v v' : ViewChange) → Said c family i (bodies.ViewChange v) → Said c family i (bodies.ViewChange v') → v.view.0 ≡ v'.view.0 → v ≡ v'
  change_one v v' w w' view = elim (two_said c family IsLawful histories i (bodies.ViewChange v) (bodies.ViewChange v') w w') [
    | inl same ↦ cc
    | inr (inl h) ↦ absurd (changes_once v v' w w' view h)
    | inr (inr h) ↦ absurd (changes_once v' v w' w (sym view) h)
  ]

  -- ---- one NewView

  opened_then : (n : NewView) (w : Said c family i (bodies.NewView n)) → Stage n.view.0 (EnteredBy n.changes) (core_at c family i (Send w.to w.message ∷ w.early))
  opened_then n w = subst (λ (s : Core). Stage n.view.0 (EnteredBy n.changes) s) (sym (core_then c family IsLawful histories i (bodies.NewView n) w)) (inl (refl, refl, refl))

  opens_once : (n n' : NewView) (w : Said c family i (bodies.NewView n)) (w' : Said c family i (bodies.NewView n')) → n.view.0 ≡ n'.view.0 → IsEarlier (Send w.to w.message ∷ w.early) w'.early → ⊥
  opens_once n n' w w' view h =
      let here : n'.view.0 ≡ (core_at c family i w'.early).view = ap (λ (z : NewView). z.view.0) w'.says.is in
      elim (later c family IsLawful histories i n.view.0 (EnteredBy n.changes) (basis_keeps c n.changes) lawful (Send w.to w.message ∷ w.early) w'.early h
      (before (Send w'.to w'.message) w'.early (family.acts i) w'.point) (opened_then n w)) [
        | inl now ↦ true≢false (sym now.1 ∙ w'.says.changing)
        | inr higher ↦ absurd (omega arith)
      ]

  pub opening_one : (n n' : NewView) → Said c family i (bodies.NewView n) → Said c family i (bodies.NewView n') → n.view.0 ≡ n'.view.0 → n ≡ n'
  opening_one n n' w w' view = elim (two_said c family IsLawful histories i (bodies.NewView n) (bodies.NewView n') w w') [
    | inl same ↦ cc
    | inr (inl h) ↦ absurd (opens_once n n' w w' view h)
    | inr (inr h) ↦ absurd (opens_once n' n w' w (sym view) h)
  ]

  -- ---- a ViewChange is valid

  pub change_valid : (v : ViewChange) → Said c family i (bodies.ViewChange v) → is_valid c v ≡ true
  change_valid v w =
      let sound = sound_at c i (family.signer i) w.early (history_then w.early (before (Send w.to w.message) w.early (family.acts i) w.point)) in
      subst (λ (x : ViewChange). is_valid c x ≡ true) (sym w.says.reports_all) (view_change_made c (core_at c family i w.early) v.view.0 w.says.higher sound.3 sound.4)

  -- ---- and hides no Commit

  committed_then : (b : Commit) (w : Said c family i (bodies.Commit b)) → Remembers c (of_commit b) (core_at c family i (Send w.to w.message ∷ w.early))
  committed_then b w =
      let inside = w.says.inside in
      let parts = and_parts (is_certified c (core_at c family i w.early) (of_commit b)) (is_known c (core_at c family i w.early) b.digest.0) w.says.prepared in
      subst (λ (s : Core). Remembers c (of_commit b) s) (sym (core_then c family IsLawful histories i (bodies.Commit b) w))
      (inside.up_to_high, inl (sym inside.view_is, inside.active, inr (parts.0, parts.1)))

  -- what the ViewChange carries, where it was said behind the Commit
  reported_after : (b : Commit) (v : ViewChange) (w : Said c family i (bodies.Commit b)) (w' : Said c family i (bodies.ViewChange v)) → v.low.0 < b.number.0 → IsEarlier (Send w.to w.message ∷ w.early) w'.early → Reports v b
  reported_after b v w w' above h =
      let s = core_at c family i w'.early in
      let complete = w'.says.reports_all in
      let low : v.low.0 ≡ s.low = ap (λ (z : ViewChange). z.low.0) complete in
      let remembered = holds_on c i (family.signer i) (Remembers c (of_commit b)) (remembers_after c i (of_commit b)) (Send w.to w.message ∷ w.early) w'.early h
      (history_then w'.early (before (Send w'.to w'.message) w'.early (family.acts i) w'.point)) (committed_then b w) in
      elim (remembers_leaving c (of_commit b) s remembered) [
        | inl below ↦ absurd (omega arith)
        | inr k ↦ (
          k.0,
          subst (λ (xs : List Certificate). IsIn k.0 xs) (sym (ap (λ (z : ViewChange). z.certificates) complete)) (at_in (kept_on_leaving c s) (b.number.0 ∷ []) k.0 k.1),
          (λ j. record { 0 = k.2 j }),
          k.3,
        )
      ]

  pub reported : (b : Commit) (v : ViewChange) → Said c family i (bodies.Commit b) → Said c family i (bodies.ViewChange v) → b.view.0 < v.view.0 → v.low.0 < b.number.0 → Reports v b
  reported b v w w' higher above = elim (two_said c family IsLawful histories i (bodies.Commit b) (bodies.ViewChange v) w w') [
    | inl same ↦ absurd cc
    | inr (inl h) ↦ reported_after b v w w' above h
    | inr (inr h) ↦
        let up = above_at v.view.0 (Send w'.to w'.message ∷ w'.early) w.early h (before (Send w.to w.message) w.early (family.acts i) w.point) (left_then v w') in
        let here : b.view.0 ≡ (core_at c family i w.early).view = w.says.inside.view_is in
        absurd (omega arith)
  ]

-- ---- of one journal

module _ (c : Setup) (me : ℕ) (signer : SigningState) (rows : List Row) (last : Core) (w : IsLawfulFrom c me (start_of c signer) rows last) where
  acts : List Act
  acts = acts_from c me signer [] rows (start_of c signer) last w

  abbrev lone : Family
  lone = record { faulty = λ i. false; signer = λ i. signer; acts = λ i. acts_from c me signer [] rows (start_of c signer) last w }

  abbrev IsMe : ℕ → Type 0
  IsMe i = me ≡ i

  lone_history : (i : ℕ) → IsMe i → IsHistory c i signer (lone.acts i)
  lone_history i same = subst (λ (k : ℕ). IsHistory c k signer (lone.acts me)) same (history_from c me signer [] rows (start_of c signer) last w refl tt)

  change_in : (v : ViewChange) → HasSigned me (bodies.ViewChange v) rows → Said c lone me (bodies.ViewChange v)
  change_in v h = change_said c lone IsMe lone_history me v refl
      (given_from c me signer (record { role = Replica; id = me; body = bodies.ViewChange v }) [] rows (start_of c signer) last w h)

  opening_in : (n : NewView) → HasSigned me (bodies.NewView n) rows → Said c lone me (bodies.NewView n)
  opening_in n h = new_view_said c lone IsMe lone_history me n refl
      (given_from c me signer (record { role = Replica; id = me; body = bodies.NewView n }) [] rows (start_of c signer) last w h)

  commit_in : (b : Commit) → HasSigned me (bodies.Commit b) rows → Said c lone me (bodies.Commit b)
  commit_in b h = commit_said c lone IsMe lone_history me b refl
      (given_from c me signer (record { role = Replica; id = me; body = bodies.Commit b }) [] rows (start_of c signer) last w h)

  pub one_change : (v v' : ViewChange) → HasSigned me (bodies.ViewChange v) rows → HasSigned me (bodies.ViewChange v') rows → v.view ≡ v'.view → v ≡ v'
  one_change v v' h k same = change_one c lone IsMe lone_history me refl v v' (change_in v h) (change_in v' k) (ap (λ x. x.0) same)

  pub one_opening : (n n' : NewView) → HasSigned me (bodies.NewView n) rows → HasSigned me (bodies.NewView n') rows → n.view ≡ n'.view → n ≡ n'
  one_opening n n' h k same = opening_one c lone IsMe lone_history me refl n n' (opening_in n h) (opening_in n' k) (ap (λ x. x.0) same)

  pub valid_change : (v : ViewChange) → HasSigned me (bodies.ViewChange v) rows → is_valid c v ≡ true
  valid_change v h = change_valid c lone IsMe lone_history me refl v (change_in v h)

  pub valid_opening : (n : NewView) → HasSigned me (bodies.NewView n) rows → is_valid_new_view c n ≡ true
  valid_opening n h = (opening_in n h).says.valid

  pub reports : (v : ViewChange) (b : Commit) → HasSigned me (bodies.ViewChange v) rows → HasSigned me (bodies.Commit b) rows → b.view.0 < v.view.0 → v.low.0 < b.number.0 → Reports v b
  reports v b h k higher above = reported c lone IsMe lone_history me refl b v (commit_in b k) (change_in v h) higher above

-- ---- of a family

shown : (v : ViewChange) (b : Commit) → Reports v b → list_any (shows b) v.certificates ≡ true
shown v b (x, within, number, view) =
    any_in (shows b) x v.certificates within
    (and_from _ _ (eq-eqb x.pre_prepare.body.number.0 b.number.0 (ap (λ (n : SeqNo). n.0) number)) (le-leb b.view.0 x.pre_prepare.body.view.0 view))

module _ (c : Setup) (j : Journals) (honest : IsRealFamily c j) (id : ℕ) (correct : IsCorrect c j.faulty id) where
  never_two : (x y : Body) → Differ x y → HasSigned id x (j.rows id) → HasSigned id y (j.rows id) → ⊥
  never_two (bodies.ViewChange v) (bodies.ViewChange v') d h k =
      let lawful = honest.lawful id correct in d.1 (one_change c id (j.signer id) (j.rows id) lawful.0 lawful.1 v v' h k d.0)
  never_two (bodies.NewView n) (bodies.NewView n') d h k =
      let lawful = honest.lawful id correct in d.1 (one_opening c id (j.signer id) (j.rows id) lawful.0 lawful.1 n n' h k d.0)
  never_two _ _ d h k = absurd d

  never_hidden : (v : ViewChange) (b : Commit) → hides v b ≡ true → HasSigned id (bodies.ViewChange v) (j.rows id) → HasSigned id (bodies.Commit b) (j.rows id) → ⊥
  never_hidden v b e h k =
      let lawful = honest.lawful id correct in
      let p = and_parts (nat_lt b.view.0 v.view.0) (nat_lt v.low.0 b.number.0 && not (list_any (shows b) v.certificates)) e in
      let q = and_parts (nat_lt v.low.0 b.number.0) (not (list_any (shows b) v.certificates)) p.1 in
      let there = shown v b (reports c id (j.signer id) (j.rows id) lawful.0 lawful.1 v b h k (ltb-true b.view.0 v.view.0 p.0) (ltb-true v.low.0 b.number.0 q.0)) in
      true≢false (sym there ∙ not-true (list_any (shows b) v.certificates) q.1)

  never_invalid : (x : Body) → IsInvalid c x → HasSigned id x (j.rows id) → ⊥
  never_invalid (bodies.ViewChange v) e h = let lawful = honest.lawful id correct in true≢false (sym (valid_change c id (j.signer id) (j.rows id) lawful.0 lawful.1 v h) ∙ e)
  never_invalid (bodies.NewView n) e h = let lawful = honest.lawful id correct in true≢false (sym (valid_opening c id (j.signer id) (j.rows id) lawful.0 lawful.1 n h) ∙ e)
  never_invalid _ e h = absurd e

  pub not_two : HasTwo c j id → ⊥
  not_two b = never_two b.first.body b.second.body b.differ (heard_signed c j honest b.first id b.first_heard correct) (heard_signed c j honest b.second id b.second_heard correct)

  pub not_hidden : HasHidden c j id → ⊥
  not_hidden b =
      never_hidden b.leaving b.left_out b.hidden
      (subst (λ (x : Body). HasSigned id x (j.rows id)) b.change_is (heard_signed c j honest b.change id b.change_heard correct))
      (subst (λ (x : Body). HasSigned id x (j.rows id)) b.commit_is (heard_signed c j honest b.commit id b.commit_heard correct))

  pub not_invalid : HasInvalid c j id → ⊥
  not_invalid b = never_invalid b.message.body b.invalid (heard_signed c j honest b.message id b.heard correct)
