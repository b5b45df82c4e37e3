-- A row is determined by the core before it and its input.
use Rattle.std.proofs.Common.{◌≡◌, ℕ, List, [], ◌∷◌, ◌++◌, Option, Some, None, refl, sym, ap, subst, ◌∙◌}
use Rattle.pbft_model.specs.Words.{Body, Snapshot}
use Rattle.pbft_codec.specs.declared.body.Body.TheVariants as bodies
use Rattle.service_model.proofs.Determined.{same_step}
use Rattle.service_model.proofs.Injective.{same_state}
use Rattle.pbft_model.specs.Sequential.{Service}
use Rattle.pbft_model.specs.Setup.{Setup}
use Rattle.pbft_model.specs.Core.{Core, request_of}
use Rattle.pbft_model.specs.Acts.{Act, Take, Execute, after}
use Rattle.pbft_model.specs.Rules.{IsReading, IsReadingOf, IsStateAt}
use Rattle.pbft_model.specs.Duties.{Duty, Do, Executing, WornOut, due}
use Rattle.pbft_model.specs.Rows.{Row, Input, Received, TimedOut, Fulfils, Follows, Begins, IsLawfulFrom, IsNext, all_outputs, all_done, all_leaves}

module _ (c : Setup) (me : ℕ) where
  -- two states that the same bytes encode are one
  one_state : (number : ℕ) (bytes : List ℕ) (s t : Service) → IsStateAt c number bytes s → IsStateAt c number bytes t → s ≡ t
  one_state number bytes s t h k = same_state s t h.sound.bounded k.sound.bounded h.sound.sound k.sound.sound (h.config_is ∙ sym k.config_is) (h.encodes ∙ sym k.encodes)

  one_reading_of : (b : Snapshot) (r r' : Option Service) → IsReadingOf c b r → IsReadingOf c b r' → r ≡ r'
  one_reading_of b None None h k = refl
  one_reading_of b None (Some t) h k = absurd (h t k)
  one_reading_of b (Some t) None h k = absurd (k t h)
  one_reading_of b (Some s) (Some t) h k = ap Some (one_state b.number.0 b.state s t h k)

  one_reading : (b : Body) (r r' : Option Service) → IsReading c b r → IsReading c b r' → r ≡ r'
  one_reading (bodies.Snapshot b) r r' h k = one_reading_of b r r' h k
  one_reading _ r r' h k = h ∙ sym k

  pub one_beginning : (input : Input) (a b : Act) → Begins c input a → Begins c input b → a ≡ b
  one_beginning (Received m) a b (r, may, is) (r', may', is') = is ∙ ap (Take m) (one_reading m.body r r' may.reads may'.reads) ∙ sym is'
  one_beginning TimedOut a b h k = h ∙ sym k

  pub one_act : (s : Core) (o : Option Duty) (a b : Act) → Fulfils c s o a → Fulfils c s o b → a ≡ b
  one_act s None a b h k = absurd h
  one_act s (Some (Do d)) a b h k = h ∙ sym k
  one_act s (Some (Executing n d)) a b (t, o, step, is) (t', o', step', is') =
      let one = same_step s.service (request_of c s d) t t' o o' step step' in
      is ∙ (λ i. Execute n d (one.0 i) (one.1 i)) ∙ sym is'
  one_act s (Some WornOut) a b h k = absurd h

  nothing_due : (s : Core) (o : Option Duty) (a : Act) → o ≡ None → Fulfils c s o a → ⊥
  nothing_due s o a e h = subst (λ (x : Option Duty). Fulfils c s x a) e h

  one_end : (acts acts' : List Act) (s t t' : Core) → Follows c me s acts t → due c me t ≡ None → Follows c me s acts' t' → due c me t' ≡ None → (acts ≡ acts') × (t ≡ t')
  one_end [] [] s t t' h e k f = (refl, h ∙ sym k)
  one_end [] (a ∷ acts') s t t' h e (does, leaves, rest) f = absurd (nothing_due s (due c me s) a (subst (λ (x : Core). due c me x ≡ None) h e) does)
  one_end (a ∷ acts) [] s t t' (does, leaves, rest) e k f = absurd (nothing_due s (due c me s) a (subst (λ (x : Core). due c me x ≡ None) k f) does)
  one_end (a ∷ acts) (b ∷ acts') s t t' (does, leaves, rest) e (does', leaves', rest') f =
      let same = one_act s (due c me s) a b does does' in
      let w = one_end acts acts' (after c s a) t t' rest e (subst (λ (x : Act). Follows c me (after c s x) acts' t') (sym same) rest') f in
      ((λ i. same i ∷ w.0 i), w.1)

  -- The acts of one input, and one core after them.
  pub same_acts : (s t t' : Core) (row row' : Row) → row.input ≡ row'.input → (n : IsNext c me s row t) (n' : IsNext c me s row' t') → (n.acts ≡ n'.acts) × (t ≡ t')
  same_acts s t t' row row' input n n' =
      let first = one_beginning row.input n.first n'.first n.begins (subst (λ (i : Input). Begins c i n'.first) (sym input) n'.begins) in
      one_end n.acts n'.acts (after c s n.first) t t' n.reacts.follows n.reacts.rests (subst (λ (x : Act). Follows c me (after c s x) n'.acts t') (sym first) n'.reacts.follows) n'.reacts.rests

  -- One row, and one core after it.
  pub one_row : (s t t' : Core) (row row' : Row) → row.input ≡ row'.input → IsNext c me s row t → IsNext c me s row' t' → (row ≡ row') × (t ≡ t')
  one_row s t t' row row' input n n' =
      let w = same_acts s t t' row row' input n n' in
      let outputs = n.outputs ∙ ap all_outputs w.0 ∙ sym n'.outputs in
      let done = n.done ∙ ap (all_done c) w.0 ∙ sym n'.done in
      let leaves = n.leaves ∙ ap all_leaves w.0 ∙ sym n'.leaves in
      ((λ i. record { input = input i; outputs = outputs i; done = done i; leaves = leaves i }), w.1)

  -- a row more is lawful
  pub one_row_more : (rows : List Row) (row : Row) (s t u : Core) → IsLawfulFrom c me s rows t → IsNext c me t row u → IsLawfulFrom c me s (rows ++ row ∷ []) u
  one_row_more [] row s t u w next = (u, subst (λ (x : Core). IsNext c me x row u) w next, refl)
  one_row_more (r ∷ rows) row s t u (v, n, w) next = (v, n, one_row_more rows row v t u w next)
