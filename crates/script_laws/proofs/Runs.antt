-- The steps of a script, one after another: what they print, and where one of them ends it.
use Rattle.std.proofs.Common.{◌≡◌, ℕ, zero, suc, List, [], ◌∷◌, ◌++◌, length, refl, sym, ap, subst, ◌∙◌}
use Rattle.std.proofs.lemmas.Bool.{false≢true}
use Rattle.std.proofs.lemmas.List.{append_assoc}
use Rattle.std.proofs.lemmas.Option.{same_Some}
use Rattle.std.specs.Prelude.{is_some}
use Rattle.script_text.specs.declared.script.NamedStep.{NamedStep}
use Rattle.script_text.specs.declared.script.Step.{Step}
use Rattle.script_text.specs.declared.script.Step.TheVariants as steps
use Rattle.world_script.specs.Expecting.{Holds, IsUnexpected, Scene, behind, differing_line, unexpected_line, unread_behind}
use Rattle.world_script.specs.Facts.{StageFacts}
use Rattle.world_script.specs.Scripts.{BreaksOff, Plays}
use Rattle.world_script.specs.Stages.{Overruns, Prints}
use Rattle.script_laws.proofs.Stages.{Like, Printed}
use Rattle.script_laws.proofs.Steps.{backwards as backwards_stages, naming_alike, overruns_alike, prints_alike, prints_or_overruns}

pub record LikeScenes (s t : Scene) : Type 0 where
  pub stages : Like s.stage t.stage
  pub unread : s.unread ≡ t.unread

unread_alike : (step : Step) (a b text other : List ℕ) → a ≡ b → text ≡ other → unread_behind a step text ≡ unread_behind b step other
unread_alike step a b text other same is = ap (λ (u : List ℕ). unread_behind u step text) same ∙ ap (unread_behind b step) is

behind_alike : (x : NamedStep) (s s' : Scene) (text other : List ℕ) (t u : StageFacts) → LikeScenes s s' → Printed text other t u → LikeScenes (behind s x text t) (behind s' x other u)
behind_alike x s s' text other t u like one = record {
  stages = naming_alike x s.stage.queue s'.stage.queue t u like.stages.queue one.stages;
  unread = unread_alike x.step s.unread s'.unread text other like.unread one.text;
}

pub record Played (one other : List ℕ) (t u : Scene) : Type 0 where
  pub text : one ≡ other
  pub scenes : LikeScenes t u

pub plays_alike : (xs : List NamedStep) (s s' t u : Scene) (text other : List ℕ) → LikeScenes s s' → Plays s xs text t → Plays s' xs other u → Played text other t u
plays_alike [] s s' t u text other like g h = record {
  text = g.0 ∙ sym h.0;
  scenes = subst (λ (x : Scene). LikeScenes x u) (sym g.1) (subst (λ (x : Scene). LikeScenes s x) (sym h.1) like);
}
plays_alike (x ∷ xs) s s' t u text other like (line, more, v, one, holds, rest, is) (line', more', v', one', holds', rest', is') =
    let first = prints_alike x.step s.stage s'.stage v v' line line' like.stages one one' in
    let last = plays_alike xs (behind s x line v) (behind s' x line' v') t u more more' (behind_alike x s s' line line' v v' like first) rest rest' in
    record {
      text = is ∙ ap (λ (bs : List ℕ). bs ++ more) first.text ∙ ap (λ (bs : List ℕ). line' ++ bs) last.text ∙ sym is';
      scenes = last.scenes;
    }

-- ---- where a step ends the run

abbrev pub Early : Type 1
Early = Scene → Step → List ℕ → Type 0

-- behind so many steps that are done, one ends the run
abbrev pub StopsIn : Early → ℕ → Scene → List NamedStep → List ℕ → Type 0
StopsIn E n s [] text = ⊥
StopsIn E zero s (x ∷ xs) text = E s x.step text
StopsIn E (suc n) s (x ∷ xs) text =
    (line more : List ℕ) × (u : StageFacts) × Prints s.stage x.step line u × Holds s.unread x.step × StopsIn E n (behind s x line u) xs more × (text ≡ line ++ more)

stops_behind : (E : Early) (before after : List NamedStep) (x : NamedStep) (s scene : Scene) (front last : List ℕ) → Plays s before front scene → E scene x.step last
    → StopsIn E (length before) s (before ++ x ∷ after) (front ++ last)
stops_behind E [] after x s scene front last plays early =
    subst (λ (bs : List ℕ). E s x.step (bs ++ last)) (sym plays.0) (subst (λ (v : Scene). E v x.step last) plays.1 early)
stops_behind E (y ∷ before) after x s scene front last (line, more, u, one, holds, rest, is) early =
    (line, more ++ last, u, one, holds, stops_behind E before after x (behind s y line u) scene more last rest early, ap (λ (bs : List ℕ). bs ++ last) is ∙ append_assoc line more last)

pub stops : (E : Early) (s : Scene) (steps : List NamedStep) (number : ℕ) (text : List ℕ) → (off : BreaksOff s steps number E text) → StopsIn E (length off.before) s steps text
stops E s steps number text off =
    subst (λ (xs : List NamedStep). StopsIn E (length off.before) s xs text) (sym off.splits)
    (subst (StopsIn E (length off.before) s (off.before ++ off.step ∷ off.after)) (sym off.text_is)
    (stops_behind E off.before off.after off.step s off.scene off.front off.last off.plays off.early))

-- A step that ends the run so isn't done.
abbrev pub IsApart : Early → Type 0
IsApart E = (s s' : Scene) (x : NamedStep) (text line : List ℕ) (u : StageFacts) → LikeScenes s s' → E s x.step text → Prints s'.stage x.step line u → Holds s'.unread x.step → ⊥

backwards : (s t : Scene) → LikeScenes s t → LikeScenes t s
backwards s t like = record { stages = backwards_stages s.stage t.stage like.stages; unread = sym like.unread }

pub whole_or_stops : (E : Early) → IsApart E → (n : ℕ) (xs : List NamedStep) (s s' t : Scene) (text other : List ℕ) → LikeScenes s s' → Plays s xs text t → StopsIn E n s' xs other → ⊥
whole_or_stops E apart n [] s s' t text other like g h = h
whole_or_stops E apart zero (x ∷ xs) s s' t text other like (line, more, v, one, holds, rest, is) h = apart s' s x other line v (backwards s s' like) h one holds
whole_or_stops E apart (suc n) (x ∷ xs) s s' t text other like (line, more, v, one, holds, rest, is) (line', more', v', one', holds', rest', is') =
    let first = prints_alike x.step s.stage s'.stage v v' line line' like.stages one one' in
    whole_or_stops E apart n xs (behind s x line v) (behind s' x line' v') t more more' (behind_alike x s s' line line' v v' like first) rest rest'

pub same_place : (E F : Early) → IsApart E → IsApart F → (n m : ℕ) (xs : List NamedStep) (s s' : Scene) (text other : List ℕ) → LikeScenes s s' → StopsIn E n s xs text → StopsIn F m s' xs other → n ≡ m
same_place E F apart apart' n m [] s s' text other like g h = absurd g
same_place E F apart apart' zero zero (x ∷ xs) s s' text other like g h = refl
same_place E F apart apart' zero (suc m) (x ∷ xs) s s' text other like g (line', more', v', one', holds', rest', is') = absurd (apart s s' x text line' v' like g one' holds')
same_place E F apart apart' (suc n) zero (x ∷ xs) s s' text other like (line, more, v, one, holds, rest, is) h = absurd (apart' s' s x other line v (backwards s s' like) h one holds)
same_place E F apart apart' (suc n) (suc m) (x ∷ xs) s s' text other like (line, more, v, one, holds, rest, is) (line', more', v', one', holds', rest', is') =
    let first = prints_alike x.step s.stage s'.stage v v' line line' like.stages one one' in
    ap suc (same_place E F apart apart' n m xs (behind s x line v) (behind s' x line' v') more more' (behind_alike x s s' line line' v v' like first) rest rest')

-- What ends it there, of two that have one text.
pub same_end : (E F : Early) → ((s s' : Scene) (x : NamedStep) (text other : List ℕ) → LikeScenes s s' → E s x.step text → F s' x.step other → text ≡ other)
    → (n : ℕ) (xs : List NamedStep) (s s' : Scene) (text other : List ℕ) → LikeScenes s s' → StopsIn E n s xs text → StopsIn F n s' xs other → text ≡ other
same_end E F one n [] s s' text other like g h = absurd g
same_end E F one zero (x ∷ xs) s s' text other like g h = one s s' x text other like g h
same_end E F one (suc n) (x ∷ xs) s s' text other like (line, more, v, prints, holds, rest, is) (line', more', v', prints', holds', rest', is') =
    let first = prints_alike x.step s.stage s'.stage v v' line line' like.stages prints prints' in
    let last = same_end E F one n xs (behind s x line v) (behind s' x line' v') more more' (behind_alike x s s' line line' v v' like first) rest rest' in
    is ∙ ap (λ (bs : List ℕ). bs ++ more) first.text ∙ ap (λ (bs : List ℕ). line' ++ bs) last ∙ sym is'

-- Two of which none is both don't end it at one place.
pub never_both : (E F : Early) → ((s s' : Scene) (x : NamedStep) (text other : List ℕ) → E s x.step text → F s' x.step other → ⊥)
    → (n : ℕ) (xs : List NamedStep) (s s' : Scene) (text other : List ℕ) → StopsIn E n s xs text → StopsIn F n s' xs other → ⊥
never_both E F none n [] s s' text other g h = g
never_both E F none zero (x ∷ xs) s s' text other g h = none s s' x text other g h
never_both E F none (suc n) (x ∷ xs) s s' text other (line, more, v, prints, holds, rest, is) (line', more', v', prints', holds', rest', is') =
    never_both E F none n xs (behind s x line v) (behind s' x line' v') more more' rest rest'

-- ---- the two ways in which a step ends it

pub unexpected_apart : (number : ℕ) → IsApart (IsUnexpected number)
unexpected_apart number s s' x text line u like = by x.step where
  by : (step : Step) → IsUnexpected number s step text → Prints s'.stage step line u → Holds s'.unread step → ⊥
  by (steps.Expect expected) (at, differs, is) prints holds = false≢true (ap is_some (sym holds ∙ ap (differing_line expected) (sym like.unread) ∙ differs))
  by (steps.Request o) e prints holds = e
  by (steps.Deliver f order) e prints holds = e
  by (steps.Timeout ids) e prints holds = e
  by (steps.Forge f) e prints holds = e
  by (steps.Edit e) x prints holds = x
  by (steps.Print p) e prints holds = e

pub overruns_apart : IsApart (λ s. Overruns s.stage)
overruns_apart s s' x text line u like e prints holds = prints_or_overruns x.step s'.stage s.stage u line text (backwards s s' like).stages prints e

pub unexpected_one : (number : ℕ) (s s' : Scene) (x : NamedStep) (text other : List ℕ) → LikeScenes s s' → IsUnexpected number s x.step text → IsUnexpected number s' x.step other → text ≡ other
unexpected_one number s s' x text other like = by x.step where
  by : (step : Step) → IsUnexpected number s step text → IsUnexpected number s' step other → text ≡ other
  by (steps.Expect expected) (at, differs, is) (at', differs', is') =
      is ∙ ap (unexpected_line number) (same_Some at at' (sym differs ∙ ap (differing_line expected) like.unread ∙ differs')) ∙ sym is'
  by (steps.Request o) e e' = absurd e
  by (steps.Deliver f order) e e' = absurd e
  by (steps.Timeout ids) e e' = absurd e
  by (steps.Forge f) e e' = absurd e
  by (steps.Edit x) e e' = absurd e
  by (steps.Print p) e e' = absurd e

pub overruns_one : (s s' : Scene) (x : NamedStep) (text other : List ℕ) → LikeScenes s s' → Overruns s.stage x.step text → Overruns s'.stage x.step other → text ≡ other
overruns_one s s' x text other like g h = overruns_alike x.step s.stage s'.stage text other like.stages g h

-- none is both
pub unexpected_or_overruns : (number : ℕ) (s s' : Scene) (x : NamedStep) (text other : List ℕ) → IsUnexpected number s x.step text → Overruns s'.stage x.step other → ⊥
unexpected_or_overruns number s s' x text other = by x.step where
  by : (step : Step) → IsUnexpected number s step text → Overruns s'.stage step other → ⊥
  by (steps.Expect expected) e e' = e'
  by (steps.Request o) e e' = e
  by (steps.Deliver f order) e e' = e
  by (steps.Timeout ids) e e' = e
  by (steps.Forge f) e e' = e
  by (steps.Edit x) e e' = e
  by (steps.Print p) e e' = e
