-- A run without a view change stays in view 0.
use Rattle.std.proofs.Common.{◌≡◌, ℕ, true, List, [], ◌∷◌, refl, sym, ap, subst, ◌∙◌, inl, inr}
use Rattle.std.specs.List.{AllByRecursion}
use Rattle.std.proofs.lemmas.Bool.{and_parts}
use Rattle.pbft_model.specs.Words.{SigningState, Body}
use Rattle.pbft_codec.specs.declared.body.Body.TheVariants as bodies
use Rattle.pbft_model.specs.Setup.{Setup, replicas}
use Rattle.pbft_model.specs.Certificates.{Fields, of_commit, voted, has_quorum}
use Rattle.pbft_model.specs.Core.{Core, is_prepared}
use Rattle.pbft_model.specs.Acts.{Act, Take, Timeout, Send, Relay, Enter, Rise, Execute, Install}
use Rattle.pbft_model.specs.Rules.{Allowed, MaySay}
use Rattle.pbft_model.specs.Histories.{core_after, IsHistory, IsEarlier}
use Rattle.pbft_model.specs.Families.{IsSteadyBody, IsSteady, Family, IsCorrect, IsUnforged, HasCommitted}
use Rattle.pbft_model.proofs.Counting.{quorum_has}
use Rattle.pbft_model.proofs.Events.{before, history_at, low_reached}
use Rattle.pbft_model.proofs.Calm.{IsCalmBody, IsCalm, calm}
use Rattle.pbft_model.proofs.Voices.{core_at}
use Rattle.pbft_model.proofs.ByView.{committing_at}

calm_body : (c : Setup) (me : ℕ) (s : Core) (b : Body) → MaySay c me s b → IsSteadyBody b → IsCalmBody b
calm_body c me s (bodies.Request b) says h = absurd says
calm_body c me s (bodies.ViewChange b) says h = absurd h
calm_body c me s (bodies.NewView b) says h = absurd h
calm_body c me s _ says h = tt

calm_act : (c : Setup) (me : ℕ) (s : Core) (a : Act) → Allowed c me s a → IsSteady a → IsCalm a
calm_act c me s (Send to m) ok h = calm_body c me s m.body ok.says h
calm_act c me s (Enter m) ok h = absurd h
calm_act c me s (Install n b t) ok h = absurd h
calm_act c me s _ ok h = tt

pub stays : (c : Setup) (me : ℕ) (signer : SigningState) (acts : List Act) → IsHistory c me signer acts → AllByRecursion IsSteady acts
    → ((core_after c signer acts).view ≡ 0) × ((core_after c signer acts).active ≡ true)
stays c me signer [] is all = (refl, refl)
stays c me signer (a ∷ acts) is all =
    let s = core_after c signer acts in
    let same = calm c me s a (low_reached c me signer acts is.0) is.1 (calm_act c me s a is.1 all.0) in
    let rest = stays c me signer acts is.0 all.1 in
    (same.0 ∙ rest.0, same.1 ∙ rest.1)

steady_earlier : (x acts : List Act) → IsEarlier x acts → AllByRecursion IsSteady acts → AllByRecursion IsSteady x
steady_earlier x [] h all = subst (AllByRecursion IsSteady) (sym h) all
steady_earlier x (a ∷ acts) (inl same) all = subst (AllByRecursion IsSteady) (sym same) all
steady_earlier x (a ∷ acts) (inr h) all = steady_earlier x acts h all.1

pub commits : (c : Setup) (family : Family) → IsUnforged c family → ((i : ℕ) → IsCorrect c family.faulty i → AllByRecursion IsSteady (family.acts i))
    → (i view number : ℕ) (digest : List ℕ) → HasCommitted c family i view number digest → view ≡ 0
commits c family u steady i view number digest w =
    let s = core_at c family i w.acts in
    let x : Fields = record { view = view; number = number; digest = digest } in
    let both = and_parts (is_prepared c s x) (has_quorum c.config (voted of_commit s.commits x)) w.committed in
    let many = committing_at c family u i w.correct w.acts w.earlier x both.1 in
    let v = quorum_has c.config.f (replicas c.config) many.voters family.faulty many.many u.few in
    let correct : IsCorrect c family.faulty v.0 = (v.1, v.3) in
    let (b, said, fields) = many.commit v.0 correct v.2 in
    let at_first = before (Send said.to said.message) said.early (family.acts v.0) said.point in
    let zero_is = stays c v.0 (family.signer v.0) said.early (history_at c v.0 (family.signer v.0) said.early (family.acts v.0) at_first (u.histories v.0 correct))
    (steady_earlier said.early (family.acts v.0) at_first (steady v.0 correct)) in
    ap (λ (f : Fields). f.view) (sym fields) ∙ said.says.inside.view_is ∙ zero_is.0
