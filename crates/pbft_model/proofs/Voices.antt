-- What a replica signed, and that it speaks with one voice.
use Rattle.std.proofs.Common.{◌≡◌, ℕ, ◌<◌, true, ◌&&◌, List, ◌∷◌, map, refl, sym, ap, subst, ◌∙◌, arith, inl, inr, ◌⊎◌}
use Rattle.std.specs.Prelude.{◌==◌}
use Rattle.std.specs.List.{list_all}
use Rattle.std.proofs.lemmas.Bool.{true≢false, and_parts, eqb-true, eq-eqb, or_left}
use Rattle.pbft_model.specs.Words.{Signed, Body, PrePrepare, Prepare, Commit, Checkpoint, ViewChange, NewView, Replica, Part, part_of, as_message}
use Rattle.pbft_codec.specs.declared.body.Body.TheVariants as bodies
use Rattle.pbft_model.specs.Setup.{Setup, primary}
use Rattle.pbft_model.specs.Certificates.{Fields, of_pre_prepare, of_prepare, of_commit}
use Rattle.pbft_model.specs.Validity.{is_valid_new_view, are_given, given, given_digest, are_for_view, have_proofs, have_certificates, have_order, has_order, bodies_in}
use Rattle.pbft_model.specs.Core.{Core, next_number}
use Rattle.pbft_model.specs.Acts.{Act, Destination, Send, said, acted, signed_once_more}
use Rattle.pbft_model.specs.Rules.{MaySay}
use Rattle.pbft_model.specs.Duties.{among}
use Rattle.pbft_model.specs.Histories.{core_after, IsEarlier, IsHistory, IsIn, HasSigned, listed_in}
use Rattle.pbft_model.specs.Families.{Family}
use Rattle.pbft_model.proofs.Found.{in_any, from_map, in_map}
use Rattle.pbft_model.proofs.Events.{Sent, sent_of, before, in_order, history_at, holds_on}
use Rattle.pbft_model.proofs.Calm.{any_in, has_number, Calm}
use Rattle.pbft_model.proofs.Stages.{Stage, stage_after, Prepared, prepared_keeps, Proposed, proposed_keeps}
use Rattle.pbft_model.proofs.Views.{greatest_above, given_one, in_given}

module _ (c : Setup) (family : Family) where
  -- the core at a point of a replica's history
  abbrev pub core_at : ℕ → List Act → Core
  core_at i acts = core_after c (family.signer i) acts

  -- A replica sent an own message with this body.
  pub record Said (i : ℕ) (body : Body) : Type 0 where
    pub early : List Act
    pub to : Destination
    pub message : Signed Body
    pub point : IsEarlier (Send to message ∷ early) (family.acts i)
    pub body_is : message.body ≡ body
    pub says : MaySay c i (core_at i early) body

  -- the replicas whose histories are lawful
  module _ (IsLawful : ℕ → Type 0) (histories : (i : ℕ) → IsLawful i → IsHistory c i (family.signer i) (family.acts i)) where
    said_of : (i : ℕ) (m : Signed Body) (body : Body) → IsLawful i → Sent (family.acts i) m → m.body ≡ body → Said i body
    said_of i m body correct w e = record {
      early = w.early;
      to = w.to;
      message = m;
      point = w.at;
      body_is = e;
      says = subst (λ (b : Body). MaySay c i (core_at i w.early) b) e
          ((history_at c i (family.signer i) (Send w.to m ∷ w.early) (family.acts i) w.at (histories i correct)).1.says);
    }

    -- it is a PrePrepare with these fields, alone or in the list of an own NewView
    abbrev pub Leads : Fields → Body → Type 0
    Leads x body =
        ((b : PrePrepare) × (body ≡ bodies.PrePrepare b) × (of_pre_prepare b ≡ x))
        ⊎ ((n : NewView) × (body ≡ bodies.NewView n) × ((q : Signed PrePrepare) × IsIn q n.pre_prepares × (of_pre_prepare q.body ≡ x)))

    abbrev pub Led : ℕ → Fields → Type 0
    Led i x = (body : Body) × Said i body × Leads x body

    abbrev pub Followed : ℕ → Fields → Type 0
    Followed i x = (b : Prepare) × Said i (bodies.Prepare b) × (of_prepare b ≡ x)

    abbrev pub CommittedTo : ℕ → Fields → Type 0
    CommittedTo i x = (b : Commit) × Said i (bodies.Commit b) × (of_commit b ≡ x)

    -- ---- from signed parts

    abbrev part_by : ℕ → Body → Part
    part_by i body = record { role = Replica; id = i; body = body }

    no_list : (body : Body) (b : Body) (p : Part) → IsIn p (map (λ (q : Signed PrePrepare). part_of (as_message bodies.PrePrepare q)) (listed_in body)) → p.body ≡ b → ((q : PrePrepare) → b ≡ bodies.PrePrepare q → ⊥) → ⊥
    no_list body b p h e other =
        let w = from_map (λ (q : Signed PrePrepare). part_of (as_message bodies.PrePrepare q)) (listed_in body) p h in
        other w.0.body (sym e ∙ ap (λ (x : Part). x.body) w.2)

    alone : (i : ℕ) (p : Part) (b : Body) → p.body ≡ b → ((q : PrePrepare) → b ≡ bodies.PrePrepare q → ⊥) → IsLawful i → HasSigned p (family.acts i) → Said i b
    alone i p b is other correct h =
        let w = sent_of p (family.acts i) h in
        elim w.within [
          | inl same ↦ said_of i w.message b correct w.sent (ap (λ (x : Part). x.body) (sym same) ∙ is)
          | inr listed ↦ absurd (no_list w.message.body b p listed is other)
        ]

    pub prepare_part : (i : ℕ) (p : Part) (b : Prepare) → p.body ≡ bodies.Prepare b → IsLawful i → HasSigned p (family.acts i) → Said i (bodies.Prepare b)
    prepare_part i p b is correct h = alone i p (bodies.Prepare b) is (λ q e. cc) correct h

    pub prepare_said : (i : ℕ) (b : Prepare) → IsLawful i → HasSigned (part_by i (bodies.Prepare b)) (family.acts i) → Said i (bodies.Prepare b)
    prepare_said i b correct h = alone i (part_by i (bodies.Prepare b)) (bodies.Prepare b) refl (λ q e. cc) correct h

    pub commit_said : (i : ℕ) (b : Commit) → IsLawful i → HasSigned (part_by i (bodies.Commit b)) (family.acts i) → Said i (bodies.Commit b)
    commit_said i b correct h = alone i (part_by i (bodies.Commit b)) (bodies.Commit b) refl (λ q e. cc) correct h

    pub change_said : (i : ℕ) (b : ViewChange) → IsLawful i → HasSigned (part_by i (bodies.ViewChange b)) (family.acts i) → Said i (bodies.ViewChange b)
    change_said i b correct h = alone i (part_by i (bodies.ViewChange b)) (bodies.ViewChange b) refl (λ q e. cc) correct h

    pub checkpoint_said : (i : ℕ) (b : Checkpoint) → IsLawful i → HasSigned (part_by i (bodies.Checkpoint b)) (family.acts i) → Said i (bodies.Checkpoint b)
    checkpoint_said i b correct h = alone i (part_by i (bodies.Checkpoint b)) (bodies.Checkpoint b) refl (λ q e. cc) correct h

    pub new_view_said : (i : ℕ) (b : NewView) → IsLawful i → HasSigned (part_by i (bodies.NewView b)) (family.acts i) → Said i (bodies.NewView b)
    new_view_said i b correct h = alone i (part_by i (bodies.NewView b)) (bodies.NewView b) refl (λ q e. cc) correct h

    listed_body : (body : Body) (q : Signed PrePrepare) → IsIn q (listed_in body) → (n : NewView) × (body ≡ bodies.NewView n) × IsIn q n.pre_prepares
    listed_body (bodies.NewView b) q h = (b, refl, h)
    listed_body _ q h = absurd h

    pub led_part : (i : ℕ) (p : Part) (b : PrePrepare) → p.body ≡ bodies.PrePrepare b → IsLawful i → HasSigned p (family.acts i) → Led i (of_pre_prepare b)
    led_part i p b is correct h =
        let w = sent_of p (family.acts i) h in
        elim w.within [
          | inl same ↦ (bodies.PrePrepare b, said_of i w.message (bodies.PrePrepare b) correct w.sent (ap (λ (x : Part). x.body) (sym same) ∙ is), inl (b, refl, refl))
          | inr listed ↦
              let v = from_map (λ (q : Signed PrePrepare). part_of (as_message bodies.PrePrepare q)) (listed_in w.message.body) p listed in
              let same : bodies.PrePrepare b ≡ bodies.PrePrepare v.0.body = sym is ∙ ap (λ (x : Part). x.body) v.2 in
              let n = listed_body w.message.body v.0 v.1 in
              let same_body : b ≡ v.0.body = cc in
              (bodies.NewView n.0, said_of i w.message (bodies.NewView n.0) correct w.sent n.1, inr (n.0, refl, (v.0, n.2, ap of_pre_prepare (sym same_body))))
        ]

    pub led_from : (i : ℕ) (b : PrePrepare) → IsLawful i → HasSigned (part_by i (bodies.PrePrepare b)) (family.acts i) → Led i (of_pre_prepare b)
    led_from i b correct h = led_part i (part_by i (bodies.PrePrepare b)) b refl correct h

    -- ---- one voice

    pub core_then : (i : ℕ) (body : Body) (w : Said i body) → core_at i (Send w.to w.message ∷ w.early) ≡ acted (signed_once_more (said c (core_at i w.early) w.message body) body)
    core_then i body w = ap (λ (b : Body). acted (signed_once_more (said c (core_at i w.early) w.message b) b)) w.body_is

    -- what holds after a point holds at a later one
    pub later : (i view : ℕ) (X : Core → Type 0) → ((s t : Core) → Calm c s t → X s → X t) → IsLawful i → (x y : List Act) → IsEarlier x y → IsEarlier y (family.acts i) → Stage view X (core_at i x) → Stage view X (core_at i y)
    later i view X keeps correct x y h k st =
        holds_on c i (family.signer i) (Stage view X) (stage_after c i view X keeps) x y h (history_at c i (family.signer i) y (family.acts i) k (histories i correct)) st

    -- a thing is done once: what was done in the view is not done again
    clash : (i : ℕ) (b b' : Body) (w : Said i b) (w' : Said i b') (view : ℕ) (X : Core → Type 0) → ((s t : Core) → Calm c s t → X s → X t) → IsLawful i
        → Stage view X (core_at i (Send w.to w.message ∷ w.early)) → ((core_at i w'.early).view ≡ view) → ((core_at i w'.early).active ≡ true → X (core_at i w'.early) → ⊥)
        → IsEarlier (Send w.to w.message ∷ w.early) w'.early → ⊥
    clash i b b' w w' view X keeps correct st same never h =
        elim (later i view X keeps correct (Send w.to w.message ∷ w.early) w'.early h (before (Send w'.to w'.message) w'.early (family.acts i) w'.point) st) [
          | inl now ↦ never now.1 now.2
          | inr higher ↦ absurd (omega arith)
        ]

    same_message : (to to' : Destination) (m m' : Signed Body) (x y : List Act) → Send to m ∷ x ≡ Send to' m' ∷ y → m ≡ m'
    same_message to to' m m' x y e = cc

    -- two bodies that were said are one, or one was said before the other
    pub two_said : (i : ℕ) (b b' : Body) (w : Said i b) (w' : Said i b') → (b ≡ b') ⊎ ((IsEarlier (Send w.to w.message ∷ w.early) w'.early) ⊎ (IsEarlier (Send w'.to w'.message ∷ w'.early) w.early))
    two_said i b b' w w' = elim (in_order (Send w.to w.message ∷ w.early) (Send w'.to w'.message ∷ w'.early) (family.acts i) w.point w'.point) [
      | inl (inl same) ↦ inl (sym w.body_is ∙ ap (λ (m : Signed Body). m.body) (same_message w.to w'.to w.message w'.message w.early w'.early same) ∙ w'.body_is)
      | inl (inr h) ↦ inr (inl h)
      | inr (inl same) ↦ inl (sym w.body_is ∙ ap (λ (m : Signed Body). m.body) (sym (same_message w'.to w.to w'.message w.message w'.early w.early same)) ∙ w'.body_is)
      | inr (inr h) ↦ inr (inr h)
    ]

    prepared_after : (i : ℕ) (b : Prepare) (w : Said i (bodies.Prepare b)) → Stage b.view.0 (Prepared b.number.0) (core_at i (Send w.to w.message ∷ w.early))
    prepared_after i b w =
        let inside = w.says.inside in
        subst (λ (s : Core). Stage b.view.0 (Prepared b.number.0) s) (sym (core_then i (bodies.Prepare b) w))
        (inl (sym inside.view_is, inside.active, inr (or_left _ _ (eq-eqb b.number.0 b.number.0 refl))))

    prepare_new : (s : Core) (b : Prepare) (i n : ℕ) → MaySay c i s (bodies.Prepare b) → n ≡ b.number.0 → Prepared n s → ⊥
    prepare_new s b i n says same (inl below) = let above = says.inside.above_low in absurd (omega arith)
    prepare_new s b i n says same (inr done) = true≢false (sym (subst (λ (k : ℕ). among s.prepared_numbers k ≡ true) same done) ∙ says.once)

    pub followed_one : (i : ℕ) (x y : Fields) → IsLawful i → Followed i x → Followed i y → x.view ≡ y.view → x.number ≡ y.number → x ≡ y
    followed_one i x y correct (b, w, is) (b', w', is') view number = elim (two_said i (bodies.Prepare b) (bodies.Prepare b') w w') [
      | inl same ↦ let same_body : b ≡ b' = cc in sym is ∙ ap of_prepare same_body ∙ is'
      | inr (inl h) ↦ absurd (clash i (bodies.Prepare b) (bodies.Prepare b') w w' b.view.0 (Prepared b.number.0) (prepared_keeps c b.number.0) correct (prepared_after i b w)
          (sym w'.says.inside.view_is ∙ sym views) (λ _ done. prepare_new (core_at i w'.early) b' i b.number.0 w'.says numbers done) h)
      | inr (inr h) ↦ absurd (clash i (bodies.Prepare b') (bodies.Prepare b) w' w b'.view.0 (Prepared b'.number.0) (prepared_keeps c b'.number.0) correct (prepared_after i b' w')
          (sym w.says.inside.view_is ∙ views) (λ _ done. prepare_new (core_at i w.early) b i b'.number.0 w.says (sym numbers) done) h)
    ] where
      views : b.view.0 ≡ b'.view.0
      views = ap (λ (f : Fields). f.view) is ∙ view ∙ ap (λ (f : Fields). f.view) (sym is')

      numbers : b.number.0 ≡ b'.number.0
      numbers = ap (λ (f : Fields). f.number) is ∙ number ∙ ap (λ (f : Fields). f.number) (sym is')

    -- ---- proposals

    pub valid_list : (n : NewView) → is_valid_new_view c n ≡ true → are_given (primary c.config n.view.0) (given c n.view.0 n.changes) n.pre_prepares ≡ true
    valid_list n e =
        let a = and_parts (are_for_view n) (have_proofs c n && (have_certificates c n && have_order c n)) e in
        let b = and_parts (have_proofs c n) (have_certificates c n && have_order c n) a.1 in
        let d = and_parts (have_certificates c n) (have_order c n) b.1 in
        (and_parts (list_all (has_order c) (bodies_in n.changes)) (are_given (primary c.config n.view.0) (given c n.view.0 n.changes) n.pre_prepares) d.1).1

    pub listed_fields : (n : NewView) (q : Signed PrePrepare) (x : Fields) → is_valid_new_view c n ≡ true → IsIn q n.pre_prepares → of_pre_prepare q.body ≡ x → (x.view ≡ n.view.0) × (x.digest ≡ given_digest c n.changes x.number)
    listed_fields n q x valid within is =
        let w = given_one (primary c.config n.view.0) (given c n.view.0 n.changes) n.pre_prepares q (valid_list n valid) within in
        let g = in_given c n.view.0 n.changes w.0 w.1 in
        let same : w.0 ≡ x = sym w.2 ∙ is in
        (ap (λ (f : Fields). f.view) (sym same) ∙ g.0, subst (λ (f : Fields). f.digest ≡ given_digest c n.changes f.number) same g.1)

    proposed_then : (i : ℕ) (s : Core) (m : Signed Body) (x : Fields) (b : PrePrepare) → of_pre_prepare b ≡ x → MaySay c i s (bodies.PrePrepare b)
        → Stage x.view (Proposed x.number) (acted (signed_once_more (said c s m (bodies.PrePrepare b)) (bodies.PrePrepare b)))
    proposed_then i s m x b is says =
        let inside = says.inside in
        subst (λ (y : Fields). Stage y.view (Proposed y.number) (acted (signed_once_more (said c s m (bodies.PrePrepare b)) (bodies.PrePrepare b)))) is
        (inl (sym inside.view_is, inside.active, inr (or_left _ _ (eq-eqb b.number.0 b.number.0 refl))))

    listed_then : (i : ℕ) (s : Core) (m : Signed Body) (x : Fields) (n : NewView) (q : Signed PrePrepare) → IsIn q n.pre_prepares → of_pre_prepare q.body ≡ x → MaySay c i s (bodies.NewView n)
        → Stage x.view (Proposed x.number) (acted (signed_once_more (said c s m (bodies.NewView n)) (bodies.NewView n)))
    listed_then i s m x n q within is says =
        let f = listed_fields n q x says.valid within is in
        inl (
          sym f.0,
          refl,
          inr (any_in (λ (y : Fields). y.number == x.number) (of_pre_prepare q.body) (map (λ p. of_pre_prepare p.body) n.pre_prepares)
              (in_map (λ (p : Signed PrePrepare). of_pre_prepare p.body) n.pre_prepares q within) (eq-eqb _ _ (ap (λ (y : Fields). y.number) is))),
        )

    led_after : (i : ℕ) (x : Fields) (body : Body) (w : Said i body) → Leads x body → Stage x.view (Proposed x.number) (core_at i (Send w.to w.message ∷ w.early))
    led_after i x body w leads = subst (λ (s : Core). Stage x.view (Proposed x.number) s) (sym (core_then i body w)) (from leads) where
      from : Leads x body → Stage x.view (Proposed x.number) (acted (signed_once_more (said c (core_at i w.early) w.message body) body))
      from (inl (b, e, is)) =
          subst (λ (y : Body). Stage x.view (Proposed x.number) (acted (signed_once_more (said c (core_at i w.early) w.message y) y))) (sym e)
          (proposed_then i (core_at i w.early) w.message x b is (subst (λ (y : Body). MaySay c i (core_at i w.early) y) e w.says))
      from (inr (n, e, (q, within, is))) =
          subst (λ (y : Body). Stage x.view (Proposed x.number) (acted (signed_once_more (said c (core_at i w.early) w.message y) y))) (sym e)
          (listed_then i (core_at i w.early) w.message x n q within is (subst (λ (y : Body). MaySay c i (core_at i w.early) y) e w.says))

    below_next : (s : Core) (n : ℕ) → has_number s.proposed n ≡ true → n < next_number s
    below_next s n e =
        let w = in_any (λ (x : Fields). x.number == n) s.proposed e in
        let same : w.0.number ≡ n = eqb-true w.0.number n w.2 in
        let below = greatest_above w.0.number (map (λ (x : Fields). x.number) s.proposed) (in_map (λ (x : Fields). x.number) s.proposed w.0 w.1) in
        omega arith

    proposes_new : (i : ℕ) (x : Fields) (b : PrePrepare) (s : Core) → of_pre_prepare b ≡ x → MaySay c i s (bodies.PrePrepare b) → Proposed x.number s → ⊥
    proposes_new i x b s is says (inl below) =
        let above = says.inside.above_low in let same : b.number.0 ≡ x.number = ap (λ (y : Fields). y.number) is in absurd (omega arith)
    proposes_new i x b s is says (inr done) =
        let same : b.number.0 ≡ x.number = ap (λ (y : Fields). y.number) is in
        let next = says.next in let below = below_next s x.number done in absurd (omega arith)

    led_new : (i : ℕ) (x : Fields) (body : Body) (s : Core) → Leads x body → MaySay c i s body → (s.view ≡ x.view) × (s.active ≡ true → Proposed x.number s → ⊥) × ((primary c.config s.view == i) ≡ true)
    led_new i x body s (inl (b, e, is)) says =
        let says' : MaySay c i s (bodies.PrePrepare b) = subst (λ (y : Body). MaySay c i s y) e says in
        (sym says'.inside.view_is ∙ ap (λ (y : Fields). y.view) is, (λ _ done. proposes_new i x b s is says' done), says'.leads)
    led_new i x body s (inr (n, e, (q, within, is))) says =
        let says' : MaySay c i s (bodies.NewView n) = subst (λ (y : Body). MaySay c i s y) e says in
        let f = listed_fields n q x says'.valid within is in
        (sym (ap (λ (v : NewView). v.view.0) says'.is) ∙ sym f.0, (λ active done. absurd (true≢false (sym active ∙ says'.changing))), says'.leads)

    same_leads : (i : ℕ) (x y : Fields) (body : Body) (s : Core) → MaySay c i s body → Leads x body → Leads y body → x.view ≡ y.view → x.number ≡ y.number → x ≡ y
    same_leads i x y body s says (inl (b, e, is)) (inl (b', e', is')) view number = let both : bodies.PrePrepare b ≡ bodies.PrePrepare b' = sym e ∙ e' in let same : b ≡ b' = cc in sym is ∙ ap of_pre_prepare same ∙ is'
    same_leads i x y body s says (inl (b, e, is)) (inr (n, e', w)) view number = let both : bodies.PrePrepare b ≡ bodies.NewView n = sym e ∙ e' in absurd cc
    same_leads i x y body s says (inr (n, e', w)) (inl (b, e, is)) view number = let both : bodies.PrePrepare b ≡ bodies.NewView n = sym e ∙ e' in absurd cc
    same_leads i x y body s says (inr (n, e, (q, within, is))) (inr (n', e', (q', within', is'))) view number =
        let both : bodies.NewView n ≡ bodies.NewView n' = sym e ∙ e' in
        let same : n ≡ n' = cc in
        let says' : MaySay c i s (bodies.NewView n) = subst (λ (z : Body). MaySay c i s z) e says in
        let f = listed_fields n q x says'.valid within is in
        let f' = listed_fields n q' y says'.valid (subst (λ (v : NewView). IsIn q' v.pre_prepares) (sym same) within') is' in
        let digest : x.digest ≡ y.digest = f.1 ∙ ap (given_digest c n.changes) number ∙ sym f'.1 in
        λ j. record { view = view j; number = number j; digest = digest j }

    pub led_one : (i : ℕ) (x y : Fields) → IsLawful i → Led i x → Led i y → x.view ≡ y.view → x.number ≡ y.number → x ≡ y
    led_one i x y correct (body, w, leads) (body', w', leads') view number = elim (two_said i body body' w w') [
      | inl same ↦ same_leads i x y body (core_at i w.early) w.says leads (subst (λ (z : Body). Leads y z) (sym same) leads') view number
      | inr (inl h) ↦
          let new = led_new i y body' (core_at i w'.early) leads' w'.says in
          absurd (clash i body body' w w' x.view (Proposed x.number) (proposed_keeps c x.number) correct (led_after i x body w leads) (new.0 ∙ sym view)
          (λ active done. new.1 active (subst (λ (k : ℕ). Proposed k (core_at i w'.early)) number done)) h)
      | inr (inr h) ↦
          let new = led_new i x body (core_at i w.early) leads w.says in
          absurd (clash i body' body w' w y.view (Proposed y.number) (proposed_keeps c y.number) correct (led_after i y body' w' leads') (new.0 ∙ view)
          (λ active done. new.1 active (subst (λ (k : ℕ). Proposed k (core_at i w.early)) (sym number) done)) h)
    ]

    -- the primary prepares nothing
    pub led_or_followed : (i : ℕ) (x y : Fields) → Led i x → Followed i y → x.view ≡ y.view → ⊥
    led_or_followed i x y (body, w, leads) (b, w', is) view =
        let new = led_new i x body (core_at i w.early) leads w.says in
        let views : (core_at i w.early).view ≡ (core_at i w'.early).view = new.0 ∙ view ∙ ap (λ (f : Fields). f.view) (sym is) ∙ w'.says.inside.view_is in
        true≢false (sym new.2 ∙ ap (λ (v : ℕ). primary c.config v == i) views ∙ w'.says.follows)

    abbrev pub Vouched : ℕ → Fields → Type 0
    Vouched i x = Led i x ⊎ Followed i x

    -- a correct replica speaks with one voice
    pub vouched_one : (i : ℕ) (x y : Fields) → IsLawful i → Vouched i x → Vouched i y → x.view ≡ y.view → x.number ≡ y.number → x ≡ y
    vouched_one i x y correct (inl w) (inl w') view number = led_one i x y correct w w' view number
    vouched_one i x y correct (inr w) (inr w') view number = followed_one i x y correct w w' view number
    vouched_one i x y correct (inl w) (inr w') view number = absurd (led_or_followed i x y w w' view)
    vouched_one i x y correct (inr w) (inl w') view number = absurd (led_or_followed i y x w' w (sym view))
