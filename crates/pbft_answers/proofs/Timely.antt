-- A first view without early votes: what is asked of journals holds at the points of their histories; and the first window is one.
use Rattle.std.proofs.Common.{◌≡◌, ℕ, ◌≤◌, ◌∷◌, Some, refl, sym, ap, subst, ◌∙◌, arith, inl}
use Rattle.std.specs.Prelude.{IsTrue}
use Rattle.std.proofs.lemmas.Bool.{and_parts}
use Rattle.std.proofs.lemmas.Option.{same_Some}
use Rattle.seal.specs.Signers.{may_sign}
use Rattle.pbft_model.specs.Words.{Signed, Body, PrePrepare, Prepare, Commit, Replica, Part, part_of}
use Rattle.pbft_codec.specs.declared.body.Body.TheVariants as bodies
use Rattle.pbft_model.specs.Setup.{Setup, primary, span}
use Rattle.pbft_model.specs.Certificates.{Fields, of_pre_prepare, of_prepare, of_commit}
use Rattle.pbft_model.specs.Core.{is_certified, is_known}
use Rattle.pbft_model.specs.Acts.{Take, Send}
use Rattle.pbft_model.specs.Rules.{MaySay}
use Rattle.pbft_model.specs.Histories.{core_after, IsIn, HasSigned}
use Rattle.pbft_model.specs.Families.{IsCorrect}
use Rattle.pbft_agreement.specs.Journals.{Journals, HasReceived, IsHonestFamily}
use Rattle.pbft_progress.specs.Progress.{EachEnds}
use Rattle.pbft_progress.specs.Votes.{HasProposed}
use Rattle.pbft_answers.specs.Window.{IsFirstWindow}
use Rattle.pbft_answers.specs.Early.{voted_number, NoVoteIsEarly, IsTimely}
use Rattle.pbft_model.proofs.Found.{no_some, in_append_right}
use Rattle.pbft_model.proofs.Events.{before, history_at}
use Rattle.pbft_model.proofs.Holdings.{taken_opened}
use Rattle.pbft_answers.proofs.FirstView.{role_of}
use Rattle.pbft_answers.proofs.Kin.{family, told}
use Rattle.pbft_answers.proofs.Speaking.{spoken, first_then}
use Rattle.pbft_answers.proofs.Deciding.{InTime}
use Rattle.pbft_answers.proofs.Proposing.{Signs, proposed_by, voted_signs, certified_signs}

module _ (c : Setup) (j : Journals) (h : IsHonestFamily c j) (first : EachEnds c j (λ i s. s.view ≡ 0)) (leader : IsCorrect c j.faulty (primary c.config 0)) where
  -- no vote that was taken came early
  pub comes_in_time : NoVoteIsEarly c j → (n : ℕ) → InTime c j h first leader n
  comes_in_time early n i correct m r x at right number =
      let w = (told c j h i correct).splits m r x at in
      early i w.earlier w.later w.row (core_after c (j.signer i) x) m n correct right w.splits w.leads w.came number

  -- ---- a vote of a correct replica is for what the primary proposed

  abbrev SignsAt : ℕ → Type 0
  SignsAt n = (x : Fields) × (x.number ≡ n) × Signs c j h first leader x

  by_prepare : (k : ℕ) → IsCorrect c j.faulty k → (p : Part) (b : Prepare) → HasSigned p ((family c j h).acts k) → p.body ≡ bodies.Prepare b → SignsAt b.number.0
  by_prepare k right p b signed body =
      let w = spoken c j h first k right p signed in
      let point = before (Send w.to w.message) w.early ((family c j h).acts k) w.point in
      let says = subst (λ (y : Body). MaySay c k (core_after c (j.signer k) w.early) y) body w.says in
      let view = says.inside.view_is ∙ (first_then c j h first k right w.early point).0 in
      (of_prepare b, refl, voted_signs c j h first leader k right w.early point (of_prepare b) view says.proposed)

  by_commit : (k : ℕ) → IsCorrect c j.faulty k → (p : Part) (b : Commit) → HasSigned p ((family c j h).acts k) → p.body ≡ bodies.Commit b → SignsAt b.number.0
  by_commit k right p b signed body =
      let w = spoken c j h first k right p signed in
      let point = before (Send w.to w.message) w.early ((family c j h).acts k) w.point in
      let s = core_after c (j.signer k) w.early in
      let says = subst (λ (y : Body). MaySay c k s y) body w.says in
      let view = says.inside.view_is ∙ (first_then c j h first k right w.early point).0 in
      (of_commit b, refl, certified_signs c j h first leader k right w.early point (of_commit b) view ((and_parts (is_certified c s (of_commit b)) (is_known c s b.digest.0) says.prepared).0))

  by_proposal : (k : ℕ) → IsCorrect c j.faulty k → (m : Signed Body) (b : PrePrepare) → HasSigned (part_of m) ((family c j h).acts k) → m.body ≡ bodies.PrePrepare b → primary c.config b.view.0 ≡ k → SignsAt b.number.0
  by_proposal k right m b signed body by =
      let p : Part = part_of m in
      let w = spoken c j h first k right p signed in
      let point = before (Send w.to w.message) w.early ((family c j h).acts k) w.point in
      let says = subst (λ (y : Body). MaySay c k (core_after c (j.signer k) w.early) y) body w.says in
      let view = says.inside.view_is ∙ (first_then c j h first k right w.early point).0 in
      let same : k ≡ primary c.config 0 = sym by ∙ ap (primary c.config) view in
      (of_pre_prepare b, refl, (p, b, subst (λ (q : ℕ). HasSigned p ((family c j h).acts q)) same signed, body, refl))

  -- ---- the first window

  module _ (within : (x : Fields) → HasProposed x (j.rows (primary c.config 0)) → x.number ≤ span c.config) where
    signs_within : (n : ℕ) → SignsAt n → n ≤ span c.config
    signs_within n (x, number, (p, b, signed, body, fields)) =
        let le = within x (b, (p, (told c j h (primary c.config 0) leader).gives p signed, body), fields) in
        omega (arith, le, number)

    pub window_early : NoVoteIsEarly c j
    window_early i earlier later row s m n correct right splits comes came number =
        let t = told c j h i correct in
        let received : HasReceived m (j.rows i) = (row, subst (IsIn row) (sym splits) (in_append_right row earlier (row ∷ later) (inl refl)), came) in
        let w = t.takes m received in
        let opened = taken_opened c i (j.signer i) m (Take m w.reading ∷ w.early) (history_at c i (j.signer i) (Take m w.reading ∷ w.early) ((family c j h).acts i) w.point t.is) (inl (w.reading, refl)) in
        let le = by_body m.body refl opened.authentic.0.role received number in
        omega (arith, le) where
          signed_by : m.role ≡ Replica → HasReceived m (j.rows i) → HasSigned (part_of m) ((family c j h).acts m.id)
          signed_by role received = (told c j h m.id right).signs (part_of m) (h.real i correct m m received (inl refl) role right)

          by_body : (b : Body) → m.body ≡ b → IsTrue (may_sign c.config m.role m.id m.body) → HasReceived m (j.rows i) → voted_number m.body ≡ Some n → n ≤ span c.config
          by_body (bodies.PrePrepare b) e may received number =
              let by = proposed_by c.config m.role m.id b (subst (λ (x : Body). IsTrue (may_sign c.config m.role m.id x)) e may) in
              let same = same_Some b.number.0 n (ap voted_number (sym e) ∙ number) in
              subst (λ (k : ℕ). k ≤ span c.config) same (signs_within b.number.0 (by_proposal m.id right m b (signed_by by.0 received) e by.1))
          by_body (bodies.Prepare b) e may received number =
              let same = same_Some b.number.0 n (ap voted_number (sym e) ∙ number) in
              subst (λ (k : ℕ). k ≤ span c.config) same (signs_within b.number.0 (by_prepare m.id right (part_of m) b (signed_by (role_of c m (bodies.Prepare b) e tt may) received) e))
          by_body (bodies.Commit b) e may received number =
              let same = same_Some b.number.0 n (ap voted_number (sym e) ∙ number) in
              subst (λ (k : ℕ). k ≤ span c.config) same (signs_within b.number.0 (by_commit m.id right (part_of m) b (signed_by (role_of c m (bodies.Commit b) e tt may) received) e))
          by_body (bodies.Request b) e may received number = no_some n (sym (ap voted_number e) ∙ number)
          by_body (bodies.Reply b) e may received number = no_some n (sym (ap voted_number e) ∙ number)
          by_body (bodies.Checkpoint b) e may received number = no_some n (sym (ap voted_number e) ∙ number)
          by_body (bodies.ViewChange b) e may received number = no_some n (sym (ap voted_number e) ∙ number)
          by_body (bodies.NewView b) e may received number = no_some n (sym (ap voted_number e) ∙ number)
          by_body (bodies.Fetch b) e may received number = no_some n (sym (ap voted_number e) ∙ number)
          by_body (bodies.Snapshot b) e may received number = no_some n (sym (ap voted_number e) ∙ number)

-- The first window is timely.
pub window_timely : (c : Setup) (j : Journals) → IsHonestFamily c j → IsFirstWindow c j → IsTimely c j
window_timely c j h w = record {
  leader = w.leader;
  stands = w.stands;
  in_time = window_early c j h w.stands w.leader w.within;
  asks = w.asks;
  spreads = w.spreads;
}
