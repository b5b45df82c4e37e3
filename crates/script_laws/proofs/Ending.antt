-- A script ends in one way, with one text.
use Rattle.std.proofs.Common.{◌≡◌, ℕ, List, length, Ok, Err, refl, sym, ap, subst, ◌∙◌}
use Rattle.std.specs.Prelude.{Result}
use Rattle.script_text.specs.ScriptFault.{ScriptFault}
use Rattle.script_text.specs.Scripts.{script_of}
use Rattle.script_text.specs.declared.script.NamedStep.{NamedStep}
use Rattle.script_text.specs.declared.script.Script.{Script}
use Rattle.world_script.specs.Expecting.{IsUnexpected, Scene, first_scene}
use Rattle.world_script.specs.Scripts.{Breaks, BreaksOff, IsRefused, IsRun, Plays, step_number}
use Rattle.world_script.specs.Stages.{Overruns}
use Rattle.script_laws.specs.Ends.{End, EndsBy, Whole, Unexpected, Overrun, Refused}
use Rattle.script_laws.proofs.Runs.{Early, IsApart, LikeScenes, StopsIn, never_both, overruns_apart, overruns_one, plays_alike, same_end, same_place, stops, unexpected_apart, unexpected_one, unexpected_or_overruns, whole_or_stops}

like_self : (s : Scene) → LikeScenes s s
like_self s = record {
  stages = record { worlds = record { config = refl; members = refl }; forgers = refl; sessions = refl; made = refl; named = refl; queue = refl };
  unread = refl;
}

one_script : (input : List ℕ) (a b : Script) → script_of input ≡ Ok a → script_of input ≡ Ok b → a ≡ b
one_script input a b is is' = cc

read_or_refused : {A : Type 0} (input : List ℕ) (a : Script) (fault : ScriptFault) → script_of input ≡ Ok a → script_of input ≡ Err fault → A
read_or_refused input a fault is is' = absurd (no (sym is ∙ is')) where
  no : {X Y : Type 0} {x : X} {y : Y} → Ok x ≡ Err y → ⊥
  no h = cc h

-- the part of a script that it takes to the place where it breaks off
module _ (input : List ℕ) (E F : Early) (n m : ℕ) (text other : List ℕ) (g : Breaks input n E text) (h : Breaks input m F other) where
  pub script_is : g.script ≡ h.script
  script_is = one_script input g.script h.script g.is h.is

  pub off : BreaksOff (first_scene g.script.head) g.script.steps m F other
  off = subst (λ (x : Script). BreaksOff (first_scene x.head) x.steps m F other) (sym script_is) h.off

  pub places : IsApart E → IsApart F → length g.off.before ≡ length off.before
  places apart apart' =
      same_place E F apart apart' (length g.off.before) (length off.before) g.script.steps (first_scene g.script.head) (first_scene g.script.head) text other (like_self (first_scene g.script.head))
      (stops E (first_scene g.script.head) g.script.steps n text g.off) (stops F (first_scene g.script.head) g.script.steps m other off)

  pub numbers : IsApart E → IsApart F → n ≡ m
  numbers apart apart' = g.off.number_is ∙ ap step_number (places apart apart') ∙ sym off.number_is

  pub texts : IsApart E → IsApart F → ((s s' : Scene) (x : NamedStep) (a b : List ℕ) → LikeScenes s s' → E s x.step a → F s' x.step b → a ≡ b) → text ≡ other
  texts apart apart' one =
      same_end E F one (length g.off.before) g.script.steps (first_scene g.script.head) (first_scene g.script.head) text other (like_self (first_scene g.script.head))
      (stops E (first_scene g.script.head) g.script.steps n text g.off)
      (subst (λ (k : ℕ). StopsIn F k (first_scene g.script.head) g.script.steps other) (sym (places apart apart')) (stops F (first_scene g.script.head) g.script.steps m other off))

  pub never : IsApart E → IsApart F → ((s s' : Scene) (x : NamedStep) (a b : List ℕ) → E s x.step a → F s' x.step b → ⊥) → ⊥
  never apart apart' none =
      never_both E F none (length g.off.before) g.script.steps (first_scene g.script.head) (first_scene g.script.head) text other (stops E (first_scene g.script.head) g.script.steps n text g.off)
      (subst (λ (k : ℕ). StopsIn F k (first_scene g.script.head) g.script.steps other) (sym (places apart apart')) (stops F (first_scene g.script.head) g.script.steps m other off))

whole_or_broken : {A : Type 0} (input : List ℕ) (E : Early) → IsApart E → (n : ℕ) (text other : List ℕ) → IsRun input text → Breaks input n E other → A
whole_or_broken input E apart n text other g h =
    let script_is = one_script input g.script h.script g.is h.is in
    let off : BreaksOff (first_scene g.script.head) g.script.steps n E other = subst (λ (x : Script). BreaksOff (first_scene x.head) x.steps n E other) (sym script_is) h.off in
    absurd (whole_or_stops E apart (length off.before) g.script.steps (first_scene g.script.head) (first_scene g.script.head) g.last text other (like_self (first_scene g.script.head)) g.plays
    (stops E (first_scene g.script.head) g.script.steps n other off))

whole_alike : (input text other : List ℕ) → IsRun input text → IsRun input other → text ≡ other
whole_alike input text other g h =
    (plays_alike g.script.steps (first_scene g.script.head) (first_scene g.script.head) g.last h.last text other (like_self (first_scene g.script.head)) g.plays
    (subst (λ (x : Script). Plays (first_scene x.head) x.steps other h.last) (sym (one_script input g.script h.script g.is h.is)) h.plays)).text

unexpected_or_over : {A : Type 0} (input : List ℕ) (n m : ℕ) (text other : List ℕ) → Breaks input n (IsUnexpected n) text → Breaks input m (λ s. Overruns s.stage) other → A
unexpected_or_over input n m text other g h =
    absurd (never input (IsUnexpected n) (λ s. Overruns s.stage) n m text other g h (unexpected_apart n) overruns_apart (unexpected_or_overruns n))

unexpected_alike : (input : List ℕ) (n m : ℕ) (text other : List ℕ) → Breaks input n (IsUnexpected n) text → Breaks input m (IsUnexpected m) other → (n ≡ m) × (text ≡ other)
unexpected_alike input n m text other g h =
    let same : n ≡ m = numbers input (IsUnexpected n) (IsUnexpected m) n m text other g h (unexpected_apart n) (unexpected_apart m) in (
      same,
      texts input (IsUnexpected n) (IsUnexpected n) n n text other g (subst (λ (k : ℕ). Breaks input k (IsUnexpected k) other) (sym same) h) (unexpected_apart n) (unexpected_apart n) (unexpected_one n),
    )

overrun_alike : (input : List ℕ) (n m : ℕ) (text other : List ℕ) → Breaks input n (λ s. Overruns s.stage) text → Breaks input m (λ s. Overruns s.stage) other → (n ≡ m) × (text ≡ other)
overrun_alike input n m text other g h = (
  numbers input (λ s. Overruns s.stage) (λ s. Overruns s.stage) n m text other g h overruns_apart overruns_apart,
  texts input (λ s. Overruns s.stage) (λ s. Overruns s.stage) n m text other g h overruns_apart overruns_apart overruns_one,
)

refused_alike : (input : List ℕ) (a b : ScriptFault) (text other : List ℕ) → IsRefused input a text → IsRefused input b other → (a ≡ b) × (text ≡ other)
refused_alike input a b text other g h = (same (script_of input) g.0 h.0, g.1 ∙ sym h.1) where
  same : (r : Result Script ScriptFault) → r ≡ Err a → r ≡ Err b → a ≡ b
  same r is is' = cc

pub one_end : (input : List ℕ) (one other : End) (text printed : List ℕ) → EndsBy input one text → EndsBy input other printed → (one ≡ other) × (text ≡ printed)
one_end input Whole Whole text printed g h = (refl, whole_alike input text printed g h)
one_end input Whole (Unexpected m) text printed g h = whole_or_broken input (IsUnexpected m) (unexpected_apart m) m text printed g h
one_end input Whole (Overrun m) text printed g h = whole_or_broken input (λ s. Overruns s.stage) overruns_apart m text printed g h
one_end input Whole (Refused b) text printed g h = read_or_refused input g.script b g.is h.0
one_end input (Unexpected n) Whole text printed g h = whole_or_broken input (IsUnexpected n) (unexpected_apart n) n printed text h g
one_end input (Unexpected n) (Unexpected m) text printed g h = let same = unexpected_alike input n m text printed g h in (ap Unexpected same.0, same.1)
one_end input (Unexpected n) (Overrun m) text printed g h = unexpected_or_over input n m text printed g h
one_end input (Unexpected n) (Refused b) text printed g h = read_or_refused input g.script b g.is h.0
one_end input (Overrun n) Whole text printed g h = whole_or_broken input (λ s. Overruns s.stage) overruns_apart n printed text h g
one_end input (Overrun n) (Unexpected m) text printed g h = unexpected_or_over input m n printed text h g
one_end input (Overrun n) (Overrun m) text printed g h = let same = overrun_alike input n m text printed g h in (ap Overrun same.0, same.1)
one_end input (Overrun n) (Refused b) text printed g h = read_or_refused input g.script b g.is h.0
one_end input (Refused a) Whole text printed g h = read_or_refused input h.script a h.is g.0
one_end input (Refused a) (Unexpected m) text printed g h = read_or_refused input h.script a h.is g.0
one_end input (Refused a) (Overrun m) text printed g h = read_or_refused input h.script a h.is g.0
one_end input (Refused a) (Refused b) text printed g h = let same = refused_alike input a b text printed g h in (ap Refused same.0, same.1)
