-- What a replica notes as proposed, prepared and committed in its view it has said.
use Rattle.std.proofs.Common.{◌≡◌, ◌⊎◌, ℕ, Bool, true, false, cond, List, [], ◌∷◌, map, filter, refl, sym, ap, subst, ◌∙◌, inl, inr}
use Rattle.std.specs.Prelude.{nat_lt, ◌==◌}
use Rattle.std.specs.List.{list_any}
use Rattle.std.proofs.lemmas.Bool.{false≢true, or_cases, or_left, or_right, eqb-true}
use Rattle.pbft_model.specs.Words.{SigningState, Signed, Body, PrePrepare, Prepare, Commit, NewView, Part, as_message, part_of}
use Rattle.pbft_codec.specs.declared.body.Body.TheVariants as bodies
use Rattle.pbft_codec.specs.declared.body.fetch.Fetch.TheVariants as fetches
use Rattle.pbft_model.specs.Setup.{Setup}
use Rattle.pbft_model.specs.Certificates.{Fields, of_pre_prepare, of_prepare, of_commit}
use Rattle.pbft_model.specs.Core.{Core, start_of}
use Rattle.pbft_model.specs.Acts.{Act, Destination, Take, Timeout, Send, Relay, Enter, Rise, Execute, Install, after, said, recorded}
use Rattle.pbft_model.specs.Rules.{Allowed, MaySay}
use Rattle.pbft_model.specs.Duties.{among}
use Rattle.pbft_model.specs.Rows.{Row, IsLawfulFrom}
use Rattle.pbft_model.specs.Histories.{core_after, IsHistory, IsEarlier, IsIn, HasSigned, signed_in, listed_in}
use Rattle.pbft_model.proofs.Found.{in_map, from_map}
use Rattle.pbft_model.proofs.Events.{signed_at}
use Rattle.pbft_agreement.specs.RowRules.{HasSaid}
use Rattle.pbft_progress.specs.Votes.{HasProposed, HasPrepared, HasCommitted}
use Rattle.pbft_progress.proofs.Lives.{life}

-- ---- an own message at a point

-- An own vote for this view and number was sent, at this point.
pub record Sending {B : Type 0} (kind : B → Body) (of : B → Fields) (view number : ℕ) (acts : List Act) : Type 0 where
  pub early : List Act
  pub to : Destination
  pub message : Signed Body
  pub vote : B
  pub point : IsEarlier (Send to message ∷ early) acts
  pub body_is : message.body ≡ kind vote
  pub view_is : (of vote).view ≡ view
  pub number_is : (of vote).number ≡ number

later_sending : {B : Type 0} (kind : B → Body) (of : B → Fields) (view view' number : ℕ) (a : Act) (acts : List Act) → view' ≡ view → Sending kind of view number acts → Sending kind of view' number (a ∷ acts)
later_sending kind of view view' number a acts same w = record {
  early = w.early;
  to = w.to;
  message = w.message;
  vote = w.vote;
  point = inr w.point;
  body_is = w.body_is;
  view_is = w.view_is ∙ sym same;
  number_is = w.number_is;
}

-- Each of these numbers has an own vote of this view.
abbrev Noted : {B : Type 0} → (B → Body) → (B → Fields) → List ℕ → ℕ → List Act → Type 0
Noted kind of numbers view acts = (n : ℕ) → among numbers n ≡ true → Sending kind of view n acts

-- A PrePrepare with these fields was signed, alone or in an own NewView.
abbrev pub Led : Fields → List Act → Type 0
Led x acts = (p : Part) × (b : PrePrepare) × HasSigned p acts × (p.body ≡ bodies.PrePrepare b) × (of_pre_prepare b ≡ x)

abbrev AreLed : List Fields → List Act → Type 0
AreLed xs acts = (x : Fields) → IsIn x xs → Led x acts

abbrev Notes : List Act → Core → Type 0
Notes acts s =
    Noted bodies.Prepare of_prepare s.prepared_numbers s.view acts × Noted bodies.Commit of_commit s.committed_numbers s.view acts × AreLed s.proposed acts

noted_none : {B : Type 0} (kind : B → Body) (of : B → Fields) (view : ℕ) (acts : List Act) → Noted kind of [] view acts
noted_none kind of view acts n e = absurd (false≢true e)

noted_on : {B : Type 0} (kind : B → Body) (of : B → Fields) (numbers numbers' : List ℕ) (view view' : ℕ) (a : Act) (acts : List Act) → view' ≡ view → ((n : ℕ) → among numbers' n ≡ true → among numbers n ≡ true)
    → Noted kind of numbers view acts → Noted kind of numbers' view' (a ∷ acts)
noted_on kind of numbers numbers' view view' a acts same less h n e = later_sending kind of view view' n a acts same (h n (less n e))

noted_more : {B : Type 0} (kind : B → Body) (of : B → Fields) (numbers : List ℕ) (view number : ℕ) (a : Act) (acts : List Act) → Sending kind of view number (a ∷ acts) → Noted kind of numbers view acts
    → Noted kind of (number ∷ numbers) view (a ∷ acts)
noted_more kind of numbers view number a acts new h n e = elim (or_cases (number == n) (among numbers n) e) [
  | inl here ↦ subst (λ (k : ℕ). Sending kind of view k (a ∷ acts)) (eqb-true number n here) new
  | inr old ↦ later_sending kind of view view n a acts refl (h n old)
]

led_on : (xs ys : List Fields) (a : Act) (acts : List Act) → ((x : Fields) → IsIn x ys → IsIn x xs) → AreLed xs acts → AreLed ys (a ∷ acts)
led_on xs ys a acts less h x is = let w = h x (less x is) in (w.0, w.1, inr w.2, w.3, w.4)

any_unfilter : {X : Type 0} (p q : X → Bool) (xs : List X) → list_any p (filter q xs) ≡ true → list_any p xs ≡ true
any_unfilter p q [] e = e
any_unfilter {X} p q (x ∷ xs) e = cases (q x) e (any_unfilter p q xs) where
  cases : (b : Bool) → list_any p (cond b (x ∷ filter q xs) (filter q xs)) ≡ true → (list_any p (filter q xs) ≡ true → list_any p xs ≡ true) → list_any p (x ∷ xs) ≡ true
  cases true e rest = elim (or_cases (p x) (list_any p (filter q xs)) e) [ inl here ↦ or_left (p x) (list_any p xs) here | inr later ↦ or_right (p x) (list_any p xs) (rest later) ]
  cases false e rest = or_right (p x) (list_any p xs) (rest e)

pub unfiltered : {X : Type 0} (q : X → Bool) (xs : List X) (x : X) → IsIn x (filter q xs) → IsIn x xs
unfiltered q [] x h = h
unfiltered {X} q (y ∷ xs) x h = cases (q y) h (unfiltered q xs x) where
  cases : (b : Bool) → IsIn x (cond b (y ∷ filter q xs) (filter q xs)) → (IsIn x (filter q xs) → IsIn x xs) → IsIn x (y ∷ xs)
  cases true (inl same) rest = inl same
  cases true (inr later) rest = inr (rest later)
  cases false h rest = inr (rest h)

-- ---- over a history

module _ (c : Setup) (me : ℕ) (signer : SigningState) where
  notes_same : (a : Act) (acts : List Act) (s t : Core) → t.view ≡ s.view → t.prepared_numbers ≡ s.prepared_numbers → t.committed_numbers ≡ s.committed_numbers → t.proposed ≡ s.proposed
      → Notes acts s → Notes (a ∷ acts) t
  notes_same a acts s t view prepared committed proposed h = (
    noted_on bodies.Prepare of_prepare s.prepared_numbers t.prepared_numbers s.view t.view a acts view (λ n e. subst (λ (ns : List ℕ). among ns n ≡ true) prepared e) h.0,
    noted_on bodies.Commit of_commit s.committed_numbers t.committed_numbers s.view t.view a acts view (λ n e. subst (λ (ns : List ℕ). among ns n ≡ true) committed e) h.1,
    led_on s.proposed t.proposed a acts (λ x is. subst (λ (xs : List Fields). IsIn x xs) proposed is) h.2,
  )

  notes_discarded : (a : Act) (acts : List Act) (s t : Core) (k : ℕ) → t.view ≡ s.view → t.prepared_numbers ≡ filter (nat_lt k) s.prepared_numbers → t.committed_numbers ≡ filter (nat_lt k) s.committed_numbers
      → t.proposed ≡ filter (λ x. nat_lt k x.number) s.proposed → Notes acts s → Notes (a ∷ acts) t
  notes_discarded a acts s t k view prepared committed proposed h = (
    noted_on bodies.Prepare of_prepare s.prepared_numbers t.prepared_numbers s.view t.view a acts view
        (λ n e. any_unfilter (λ i. i == n) (nat_lt k) s.prepared_numbers (subst (λ (ns : List ℕ). among ns n ≡ true) prepared e)) h.0,
    noted_on bodies.Commit of_commit s.committed_numbers t.committed_numbers s.view t.view a acts view
        (λ n e. any_unfilter (λ i. i == n) (nat_lt k) s.committed_numbers (subst (λ (ns : List ℕ). among ns n ≡ true) committed e)) h.1,
    led_on s.proposed t.proposed a acts (λ x is. unfiltered (λ y. nat_lt k y.number) s.proposed x (subst (λ (xs : List Fields). IsIn x xs) proposed is)) h.2,
  )

  notes_recorded : (acts : List Act) (a : Act) (s : Core) (m : Signed Body) (b : Body) → Notes acts s → Notes (a ∷ acts) (recorded c s m b)
  notes_recorded acts a s m b h = notes_same a acts s (recorded c s m b) (recorded_view s m b) (recorded_prepared s m b) (recorded_committed s m b) (recorded_proposed s m b) h where
    recorded_view : (s : Core) (m : Signed Body) (b : Body) → (recorded c s m b).view ≡ s.view
    recorded_view s m (bodies.Request b) = refl
    recorded_view s m _ = refl

    recorded_prepared : (s : Core) (m : Signed Body) (b : Body) → (recorded c s m b).prepared_numbers ≡ s.prepared_numbers
    recorded_prepared s m (bodies.Request b) = refl
    recorded_prepared s m _ = refl

    recorded_committed : (s : Core) (m : Signed Body) (b : Body) → (recorded c s m b).committed_numbers ≡ s.committed_numbers
    recorded_committed s m (bodies.Request b) = refl
    recorded_committed s m _ = refl

    recorded_proposed : (s : Core) (m : Signed Body) (b : Body) → (recorded c s m b).proposed ≡ s.proposed
    recorded_proposed s m (bodies.Request b) = refl
    recorded_proposed s m _ = refl

  notes_said : (acts : List Act) (s : Core) (to : Destination) (m : Signed Body) (b : Body) → m.body ≡ b → MaySay c me s b → Notes acts s → Notes (Send to m ∷ acts) (said c s m b)
  notes_said acts s to m (bodies.Request b) e says h = absurd says
  notes_said acts s to m (bodies.PrePrepare b) e says h =
      let k = notes_same (Send to m) acts s s refl refl refl refl h in
      (k.0, k.1, λ x is. elim is [ inl same ↦ (part_of m, b, inl (inl refl), e, sym same) | inr old ↦ k.2 x old ])
  notes_said acts s to m (bodies.Prepare b) e says h =
      let k = notes_same (Send to m) acts s s refl refl refl refl h in
      let new : Sending bodies.Prepare of_prepare s.view b.number.0 (Send to m ∷ acts) =
      record { early = acts; to = to; message = m; vote = b; point = inl refl; body_is = e; view_is = says.inside.view_is; number_is = refl } in
      (noted_more bodies.Prepare of_prepare s.prepared_numbers s.view b.number.0 (Send to m) acts new h.0, k.1, k.2)
  notes_said acts s to m (bodies.Commit b) e says h =
      let k = notes_same (Send to m) acts s s refl refl refl refl h in
      let new : Sending bodies.Commit of_commit s.view b.number.0 (Send to m ∷ acts) =
      record { early = acts; to = to; message = m; vote = b; point = inl refl; body_is = e; view_is = says.inside.view_is; number_is = refl } in
      (k.0, noted_more bodies.Commit of_commit s.committed_numbers s.view b.number.0 (Send to m) acts new h.1, k.2)
  notes_said acts s to m (bodies.ViewChange b) e says h =
      (noted_none bodies.Prepare of_prepare b.view.0 (Send to m ∷ acts), noted_none bodies.Commit of_commit b.view.0 (Send to m ∷ acts), λ x none. absurd none)
  notes_said acts s to m (bodies.NewView b) e says h = (
    noted_none bodies.Prepare of_prepare b.view.0 (Send to m ∷ acts),
    noted_none bodies.Commit of_commit b.view.0 (Send to m ∷ acts),
    λ x is.
        let w = from_map (λ (p : Signed PrePrepare). of_pre_prepare p.body) b.pre_prepares x is in
        let listed : IsIn (part_of (as_message bodies.PrePrepare w.0)) (map (λ (p : Signed PrePrepare). part_of (as_message bodies.PrePrepare p)) (listed_in m.body)) =
        in_map (λ (p : Signed PrePrepare). part_of (as_message bodies.PrePrepare p)) (listed_in m.body) w.0 (subst (λ (y : Body). IsIn w.0 (listed_in y)) (sym e) w.1) in
        (part_of (as_message bodies.PrePrepare w.0), w.0.body, inl (inr listed), refl, sym w.2),
  )
  notes_said acts s to m (bodies.Fetch (fetches.Request d)) e says h = notes_same (Send to m) acts s (said c s m (bodies.Fetch (fetches.Request d))) refl refl refl refl h
  notes_said acts s to m (bodies.Fetch (fetches.State d)) e says h = notes_same (Send to m) acts s (said c s m (bodies.Fetch (fetches.State d))) refl refl refl refl h
  notes_said acts s to m b e says h = notes_same (Send to m) acts s (said c s m b) refl refl refl refl h

  notes_after : (acts : List Act) (s : Core) (a : Act) → Allowed c me s a → Notes acts s → Notes (a ∷ acts) (after c s a)
  notes_after acts s (Take m r) ok h = notes_recorded acts (Take m r) s m m.body h
  notes_after acts s (Send to m) ok h = notes_said acts s to m m.body refl ok.says h
  notes_after acts s (Enter m) ok h =
      (noted_none bodies.Prepare of_prepare m.body.view.0 (Enter m ∷ acts), noted_none bodies.Commit of_commit m.body.view.0 (Enter m ∷ acts), λ x none. absurd none)
  notes_after acts s (Rise k d) ok h = notes_discarded (Rise k d) acts s (after c s (Rise k d)) k refl refl refl refl h
  notes_after acts s (Install k b t) ok h = notes_discarded (Install k b t) acts s (after c s (Install k b t)) k refl refl refl refl h
  notes_after acts s a ok h = notes_same a acts s (after c s a) refl refl refl refl h

  pub notes : (acts : List Act) → IsHistory c me signer acts → Notes acts (core_after c signer acts)
  notes [] is = (noted_none bodies.Prepare of_prepare 0 [], noted_none bodies.Commit of_commit 0 [], λ x none. absurd none)
  notes (a ∷ acts) is = notes_after acts (core_after c signer acts) a is.1 (notes acts is.0)

  -- ---- over a journal

  module _ (rows : List Row) (s : Core) (lawful : IsLawfulFrom c me (start_of c signer) rows s) where
    said_by : {B : Type 0} (kind : B → Body) (of : B → Fields) (view n : ℕ) → Sending kind of view n (life c me signer rows s lawful).acts → (x : Fields) × (x.view ≡ view) × (x.number ≡ n) × ((b : B) × HasSaid (kind b) rows × (of b ≡ x))
    said_by kind of view n w =
        let l = life c me signer rows s lawful in
        (of w.vote, w.view_is, w.number_is, (w.vote, (part_of w.message, l.gives (part_of w.message) (signed_at (part_of w.message) (Send w.to w.message) w.early l.acts w.point (inl refl)), w.body_is), refl))

    noted_now : Notes (life c me signer rows s lawful).acts s
    noted_now = let l = life c me signer rows s lawful in subst (Notes l.acts) l.core_is (notes l.acts l.is)

    pub prepares_said : (n : ℕ) → among s.prepared_numbers n ≡ true → (x : Fields) × (x.view ≡ s.view) × (x.number ≡ n) × HasPrepared x rows
    prepares_said n e = said_by bodies.Prepare of_prepare s.view n (noted_now.0 n e)

    pub commits_said : (n : ℕ) → among s.committed_numbers n ≡ true → (x : Fields) × (x.view ≡ s.view) × (x.number ≡ n) × HasCommitted x rows
    commits_said n e = said_by bodies.Commit of_commit s.view n (noted_now.1 n e)

    pub proposals_said : (x : Fields) → IsIn x s.proposed → HasProposed x rows
    proposals_said x is = let l = life c me signer rows s lawful in let w = noted_now.2 x is in (w.1, (w.0, l.gives w.0 w.2, w.3), w.4)
