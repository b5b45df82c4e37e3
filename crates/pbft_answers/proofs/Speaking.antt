-- In an honest family whose correct replicas stand in view 0: what one of them gives is a message of its own, and where all is
-- drained it comes to each other.
use Rattle.std.proofs.Common.{◌≡◌, ◌⊎◌, ℕ, true, List, [], ◌∷◌, refl, sym, ap, subst, ◌∙◌, inl, inr}
use Rattle.std.proofs.lemmas.Bool.{true≢false}
use Rattle.pbft_model.specs.Words.{Signed, Body, PrePrepare, NewView, Role, Replica, Part, part_of, as_message}
use Rattle.pbft_codec.specs.declared.body.Body.TheVariants as bodies
use Rattle.pbft_model.specs.Setup.{Setup}
use Rattle.pbft_model.specs.Core.{Core, start_of}
use Rattle.pbft_model.specs.Acts.{Act, Destination, All, Send}
use Rattle.pbft_model.specs.Rules.{MaySay}
use Rattle.pbft_model.specs.Rows.{Row, Output}
use Rattle.pbft_model.specs.Histories.{core_after, IsHistory, IsEarlier, IsIn, HasSigned, signed_in, listed_in}
use Rattle.pbft_model.specs.Families.{IsCorrect}
use Rattle.pbft_agreement.specs.Journals.{Journals, HasReceived, HasGiven, IsHonestFamily}
use Rattle.pbft_progress.specs.Progress.{IsFor, IsDrained, EachEnds}
use Rattle.pbft_model.proofs.Found.{from_map}
use Rattle.pbft_model.proofs.Events.{before, history_at, sent_of}
use Rattle.pbft_progress.proofs.Telling.{GoesRight, rows_tell}
use Rattle.pbft_progress.proofs.Standing.{opening_uttered}
use Rattle.pbft_answers.proofs.FirstView.{First, first_at}
use Rattle.pbft_answers.proofs.Kin.{family, Told, told}

-- what has a list is a NewView
pub opening_of : (b : Body) (q : Signed PrePrepare) → IsIn q (listed_in b) → (n : NewView) × (b ≡ bodies.NewView n)
opening_of (bodies.NewView n) q h = (n, refl)
opening_of _ q h = absurd h

module _ (c : Setup) (j : Journals) (h : IsHonestFamily c j) (first : EachEnds c j (λ i s. s.view ≡ 0)) where
  -- the view at the end of a correct replica's history
  pub ends_first : (i : ℕ) → IsCorrect c j.faulty i → (core_after c (j.signer i) ((family c j h).acts i)).view ≡ 0
  ends_first i correct = let e = told c j h i correct in ap (λ (s : Core). s.view) e.core_is ∙ first i correct e.core e.comes

  -- at each point it is active in view 0
  pub first_then : (i : ℕ) → IsCorrect c j.faulty i → (x : List Act) → IsEarlier x ((family c j h).acts i) → First (core_after c (j.signer i) x)
  first_then i correct x at = first_at c i (j.signer i) x ((family c j h).acts i) at (told c j h i correct).is (ends_first i correct)

  -- no view was opened
  never_opened : (i : ℕ) → IsCorrect c j.faulty i → (p : Part) (n : NewView) → HasSigned p ((family c j h).acts i) → p.body ≡ bodies.NewView n → ⊥
  never_opened i correct p n signed body =
      let w = opening_uttered c i (j.signer i) ((family c j h).acts i) p n (told c j h i correct).is body signed in
      let here = first_then i correct w.early (before (Send w.to w.message) w.early ((family c j h).acts i) w.point) in
      true≢false (sym here.1 ∙ w.says.changing)

  -- a part that was signed in an own message is the message's own
  pub alone : (i : ℕ) → IsCorrect c j.faulty i → (m : Signed Body) (p : Part) → HasSigned (part_of m) ((family c j h).acts i) → IsIn p (signed_in m) → p ≡ part_of m
  alone i correct m p signed (inl same) = same
  alone i correct m p signed (inr listed) =
      let w = from_map (λ (q : Signed PrePrepare). part_of (as_message bodies.PrePrepare q)) (listed_in m.body) p listed in
      let n = opening_of m.body w.0 w.1 in
      absurd (never_opened i correct (part_of m) n.0 signed n.1)

  -- An own message that carries the part was sent, at this point.
  pub record Spoken (i : ℕ) (p : Part) : Type 0 where
    pub early : List Act
    pub to : Destination
    pub message : Signed Body
    pub point : IsEarlier (Send to message ∷ early) ((family c j h).acts i)
    pub part_is : p ≡ part_of message
    pub by : message.id ≡ i
    pub role : message.role ≡ Replica
    pub says : MaySay c i (core_after c (j.signer i) early) p.body

  pub spoken : (i : ℕ) → IsCorrect c j.faulty i → (p : Part) → HasSigned p ((family c j h).acts i) → Spoken i p
  spoken i correct p signed =
      let acts = (family c j h).acts i in
      let w = sent_of p acts signed in
      let ok = (history_at c i (j.signer i) (Send w.sent.to w.message ∷ w.sent.early) acts w.sent.at (told c j h i correct).is).1 in
      let one = from_parts w.message w.within w.sent.early (before (Send w.sent.to w.message) w.sent.early acts w.sent.at) ok.says in
      record {
        early = w.sent.early;
        to = w.sent.to;
        message = w.message;
        point = w.sent.at;
        part_is = one;
        by = ap (λ (x : Signed Body). x.id) ok.signed;
        role = ap (λ (x : Signed Body). x.role) ok.signed;
        says = subst (λ (x : Part). MaySay c i (core_after c (j.signer i) w.sent.early) x.body) (sym one) ok.says;
      } where
        from_parts : (m : Signed Body) → IsIn p (signed_in m) → (early : List Act) → IsEarlier early ((family c j h).acts i) → MaySay c i (core_after c (j.signer i) early) m.body → p ≡ part_of m
        from_parts m (inl same) early at says = same
        from_parts m (inr listed) early at says =
            let v = from_map (λ (q : Signed PrePrepare). part_of (as_message bodies.PrePrepare q)) (listed_in m.body) p listed in
            let n = opening_of m.body v.0 v.1 in
            let opens : MaySay c i (core_after c (j.signer i) early) (bodies.NewView n.0) = subst (λ (b : Body). MaySay c i (core_after c (j.signer i) early) b) n.1 says in
            absurd (true≢false (sym (first_then i correct early at).1 ∙ opens.changing))

  -- what goes to all
  abbrev pub IsToAll : Body → Type 0
  IsToAll b = (to : Destination) → GoesRight to b → to ≡ All

  -- What one gave to all comes to each other.
  pub comes : IsDrained c j → (k i : ℕ) → IsCorrect c j.faulty k → IsCorrect c j.faulty i → (k ≡ i → ⊥) → (p : Part) → HasGiven p (j.rows k) → IsToAll p.body
      → (m : Signed Body) × HasReceived m (j.rows i) × (p ≡ part_of m)
  comes drained k i correct right other p given to_all =
      let output : Output = given.1 in
      let e = told c j h k correct in
      let own_part : HasGiven (part_of output.message) (j.rows k) = (given.0, output, given.2, given.3, given.4, inl refl) in
      let same = alone k correct output.message p (e.signs (part_of output.message) own_part) given.5 in
      let goes = rows_tell c k (j.signer k) (j.rows k) (start_of c (j.signer k)) e.core e.comes given.0 output given.2 given.3 given.4 in
      let all : output.to ≡ All = to_all output.to (subst (λ (x : Part). GoesRight output.to x.body) (sym same) goes) in
      (output.message, drained k i given.0 output correct right other given.2 given.3 (subst (IsFor i) (sym all) tt), same)
