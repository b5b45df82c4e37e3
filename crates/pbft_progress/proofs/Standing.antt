-- How a replica came to its view: it began there, changed to it by an own ViewChange, or followed another's NewView.
use Rattle.std.proofs.Common.{◌≡◌, ◌⊎◌, ℕ, ◌<◌, ◌≤◌, true, List, [], ◌∷◌, refl, sym, ap, subst, ◌∙◌, arith, inl, inr}
use Rattle.std.proofs.lemmas.Bool.{true≢false, false≢true}
use Rattle.pbft_model.specs.Words.{SigningState, Signed, Body, PrePrepare, ViewChange, NewView, Part, part_of, as_message}
use Rattle.pbft_codec.specs.declared.body.Body.TheVariants as bodies
use Rattle.pbft_model.specs.Setup.{Setup}
use Rattle.pbft_model.specs.Validity.{is_valid, is_valid_new_view}
use Rattle.pbft_model.specs.Core.{Core}
use Rattle.pbft_model.specs.Acts.{Act, Destination, Take, Send, Enter, after, said}
use Rattle.pbft_model.specs.Rules.{Allowed, MaySay}
use Rattle.pbft_model.specs.Histories.{core_after, IsHistory, IsEarlier, IsIn, HasSigned, HasTaken, signed_in, listed_in}
use Rattle.pbft_model.proofs.Found.{from_map}
use Rattle.pbft_model.proofs.Events.{now, before, history_at, holds_on, low_reached, sent_of}
use Rattle.pbft_model.proofs.Calm.{calm, calm_said}
use Rattle.pbft_model.proofs.Holdings.{just_taken}
use Rattle.pbft_model.proofs.Made.{view_change_made}
use Rattle.pbft_model.proofs.Sound.{sound_at}
use Rattle.pbft_model.proofs.Stages.{Stage, stage_after, view_up}

-- An own ViewChange for the view was signed, or an own NewView, or another's valid NewView was taken.
abbrev pub HasChanged : ℕ → List Act → Type 0
HasChanged view acts = (p : Part) × (b : ViewChange) × HasSigned p acts × (p.body ≡ bodies.ViewChange b) × (b.view.0 ≡ view)

abbrev pub HasOpened : ℕ → List Act → Type 0
HasOpened view acts = (p : Part) × (n : NewView) × HasSigned p acts × (p.body ≡ bodies.NewView n) × (n.view.0 ≡ view)

abbrev pub HasFollowed : Setup → ℕ → List Act → Type 0
HasFollowed c view acts =
    (m : Signed NewView) × HasTaken (as_message bodies.NewView m) acts × (is_valid_new_view c m.body ≡ true) × (m.body.view.0 ≡ view)

abbrev pub Standing : Setup → List Act → Core → Type 0
Standing c acts s =
    ((s.view ≡ 0) × (s.active ≡ true))
    ⊎ (((s.active ≡ true) × HasFollowed c s.view acts)
    ⊎ (HasChanged s.view acts × (s.active ≡ true → HasOpened s.view acts)))

no_list : (b : Body) (m : Signed Body) (p : Part) → ((q : PrePrepare) → b ≡ bodies.PrePrepare q → ⊥) → p.body ≡ b → IsIn p (signed_in m) → m.body ≡ b
no_list b m p other is (inl same) = ap (λ (x : Part). x.body) (sym same) ∙ is
no_list b m p other is (inr listed) =
    let w = from_map (λ (q : Signed PrePrepare). part_of (as_message bodies.PrePrepare q)) (listed_in m.body) p listed in
    absurd (other w.0.body (sym is ∙ ap (λ (x : Part). x.body) w.2))

-- what is signed as no PrePrepare is the message itself
pub change_alone : (b : ViewChange) (m : Signed Body) (p : Part) → p.body ≡ bodies.ViewChange b → IsIn p (signed_in m) → m.body ≡ bodies.ViewChange b
change_alone b m p is h = no_list (bodies.ViewChange b) m p (λ q e. cc) is h

pub opening_alone : (n : NewView) (m : Signed Body) (p : Part) → p.body ≡ bodies.NewView n → IsIn p (signed_in m) → m.body ≡ bodies.NewView n
opening_alone n m p is h = no_list (bodies.NewView n) m p (λ q e. cc) is h

module _ (c : Setup) (me : ℕ) (signer : SigningState) where
  -- ---- how it came to its view

  stands : (a : Act) (acts : List Act) (s t : Core) → t.view ≡ s.view → t.active ≡ s.active → Standing c acts s → Standing c (a ∷ acts) t
  stands a acts s t view active (inl w) = inl (view ∙ w.0, active ∙ w.1)
  stands a acts s t view active (inr (inl (on, (m, taken, valid, is)))) = inr (inl (active ∙ on, (m, inr taken, valid, is ∙ sym view)))
  stands a acts s t view active (inr (inr ((p, b, signed, body, is), opens))) =
      inr (inr ((p, b, inr signed, body, is ∙ sym view), λ on. let w = opens (sym active ∙ on) in (w.0, w.1, inr w.2, w.3, w.4 ∙ sym view)))

  said_stands : (acts : List Act) (s : Core) (to : Destination) (m : Signed Body) (b : Body) → m.body ≡ b → MaySay c me s b → Standing c acts s → Standing c (Send to m ∷ acts) (said c s m b)
  said_stands acts s to m (bodies.Request b) e says st = absurd says
  said_stands acts s to m (bodies.ViewChange b) e says st = inr (inr ((part_of m, b, inl (inl refl), e, refl), λ on. absurd (false≢true on)))
  said_stands acts s to m (bodies.NewView b) e says st =
      let view : b.view.0 ≡ s.view = ap (λ (n : NewView). n.view.0) says.is in
      elim st [
        | inl w ↦ absurd (true≢false (sym w.1 ∙ says.changing))
        | inr (inl w) ↦ absurd (true≢false (sym w.0 ∙ says.changing))
        | inr (inr w) ↦ inr (inr ((w.0.0, w.0.1, inr w.0.2, w.0.3, w.0.4 ∙ sym view), λ on. (part_of m, b, inl (inl refl), e, refl)))
      ]
  said_stands acts s to m (bodies.Fetch b) e says st =
      let k = calm_said c s m (bodies.Fetch b) tt in stands (Send to m) acts s (said c s m (bodies.Fetch b)) k.0 k.1 st
  said_stands acts s to m b e says st = stands (Send to m) acts s (said c s m b) refl refl st

  stands_after : (acts : List Act) (a : Act) → IsHistory c me signer acts → Allowed c me (core_after c signer acts) a → Standing c acts (core_after c signer acts) → Standing c (a ∷ acts) (after c (core_after c signer acts) a)
  stands_after acts (Take m r) is ok st =
      let s = core_after c signer acts in
      let k = calm c me s (Take m r) (low_reached c me signer acts is) ok tt in stands (Take m r) acts s (after c s (Take m r)) k.0 k.1 st
  stands_after acts (Send to m) is ok st = said_stands acts (core_after c signer acts) to m m.body refl ok.says st
  stands_after acts (Enter m) is ok st =
      inr (inl (refl, (m, inr (just_taken c me signer acts is acts (now acts) (as_message bodies.NewView m) ok.taken), ok.valid, refl)))
  stands_after acts a is ok st = stands a acts (core_after c signer acts) (after c (core_after c signer acts) a) refl refl st

  pub standing : (acts : List Act) → IsHistory c me signer acts → Standing c acts (core_after c signer acts)
  standing [] is = inl (refl, refl)
  standing (a ∷ acts) is = stands_after acts a is.0 is.1 (standing acts is.0)

  -- ---- later points

  abbrev pub Always : Core → Type 0
  Always s = Unit {0}

  pub view_rises : (x acts : List Act) → IsEarlier x acts → IsHistory c me signer acts → (core_after c signer x).view ≤ (core_after c signer acts).view
  view_rises x acts at is =
      holds_on c me signer (λ s. (core_after c signer x).view ≤ s.view) (λ s a low ok le. let up = view_up c me s a low ok in omega arith) x acts at is (omega arith)

  -- who was active in a view is so still, or is in a higher one
  pub active_on : (view : ℕ) (x acts : List Act) → IsEarlier x acts → IsHistory c me signer acts → (core_after c signer x).view ≡ view → (core_after c signer x).active ≡ true
      → Stage view Always (core_after c signer acts)
  active_on view x acts at is same on = holds_on c me signer (Stage view Always) (stage_after c me view Always (λ s t k u. tt)) x acts at is (inl (same, on, tt))

  -- ---- own ViewChanges and NewViews

  -- an own message with this body was sent
  pub record Uttered (acts : List Act) (p : Part) (b : Body) : Type 0 where
    pub early : List Act
    pub to : Destination
    pub message : Signed Body
    pub point : IsEarlier (Send to message ∷ early) acts
    pub body_is : message.body ≡ b
    pub says : MaySay c me (core_after c signer early) b
    pub own : message.id ≡ me
    pub part_own : p.id ≡ me

  uttered : (acts : List Act) (p : Part) (b : Body) → IsHistory c me signer acts → ((q : PrePrepare) → b ≡ bodies.PrePrepare q → ⊥) → p.body ≡ b → HasSigned p acts → Uttered acts p b
  uttered acts p b is other body signed =
      let w = sent_of p acts signed in
      let ok = (history_at c me signer (Send w.sent.to w.message ∷ w.sent.early) acts w.sent.at is).1 in
      let same = no_list b w.message p other body w.within in
      let own : w.message.id ≡ me = ap (λ (x : Signed Body). x.id) ok.signed in
      record {
        early = w.sent.early;
        to = w.sent.to;
        message = w.message;
        point = w.sent.at;
        body_is = same;
        says = subst (λ (x : Body). MaySay c me (core_after c signer w.sent.early) x) same ok.says;
        own = own;
        part_own = elim w.within [
          | inl alone ↦ ap (λ (x : Part). x.id) alone ∙ own
          | inr listed ↦
              let v = from_map (λ (q : Signed PrePrepare). part_of (as_message bodies.PrePrepare q)) (listed_in w.message.body) p listed in
              absurd (other v.0.body (sym body ∙ ap (λ (x : Part). x.body) v.2))
        ];
      }

  pub change_uttered : (acts : List Act) (p : Part) (b : ViewChange) → IsHistory c me signer acts → p.body ≡ bodies.ViewChange b → HasSigned p acts → Uttered acts p (bodies.ViewChange b)
  change_uttered acts p b is body signed = uttered acts p (bodies.ViewChange b) is (λ q e. cc) body signed

  pub opening_uttered : (acts : List Act) (p : Part) (n : NewView) → IsHistory c me signer acts → p.body ≡ bodies.NewView n → HasSigned p acts → Uttered acts p (bodies.NewView n)
  opening_uttered acts p n is body signed = uttered acts p (bodies.NewView n) is (λ q e. cc) body signed

  -- an own ViewChange is valid, for a view above 0, and not for one above where the replica stands
  pub own_change : (acts : List Act) (p : Part) (b : ViewChange) → IsHistory c me signer acts → p.body ≡ bodies.ViewChange b → HasSigned p acts
      → (is_valid c b ≡ true) × (0 < b.view.0) × (b.view.0 ≤ (core_after c signer acts).view)
  own_change acts p b is body signed =
      let w = change_uttered acts p b is body signed in
      let s = core_after c signer w.early in
      let sound = sound_at c me signer w.early (history_at c me signer w.early acts (before (Send w.to w.message) w.early acts w.point) is) in
      let higher = w.says.higher in
      let valid = view_change_made c s b.view.0 higher sound.3 sound.4 in
      let then : (core_after c signer (Send w.to w.message ∷ w.early)).view ≡ b.view.0 = ap (λ (x : Body). (said c s w.message x).view) w.body_is in
      let rises = view_rises (Send w.to w.message ∷ w.early) acts w.point is in
      (subst (λ (v : ViewChange). is_valid c v ≡ true) (sym w.says.reports_all) valid, omega (arith, higher), omega (arith, then, rises))

  -- an own NewView is valid, and the replica is active in its view or in a higher one
  pub own_opening : (acts : List Act) (p : Part) (n : NewView) → IsHistory c me signer acts → p.body ≡ bodies.NewView n → HasSigned p acts
      → (is_valid_new_view c n ≡ true) × Stage n.view.0 Always (core_after c signer acts)
  own_opening acts p n is body signed =
      let w = opening_uttered acts p n is body signed in
      let s = core_after c signer w.early in
      let view : (core_after c signer (Send w.to w.message ∷ w.early)).view ≡ n.view.0 = ap (λ (x : Body). (said c s w.message x).view) w.body_is in
      let on : (core_after c signer (Send w.to w.message ∷ w.early)).active ≡ true = ap (λ (x : Body). (said c s w.message x).active) w.body_is in
      (w.says.valid, active_on n.view.0 (Send w.to w.message ∷ w.early) acts w.point is view on)
