-- The steps of a script that is traced, one after another.
use Rattle.std.proofs.Common.{◌≡◌, ℕ, suc, ◌+◌, ◌<◌, ◌≤◌, List, [], ◌∷◌, ◌++◌, length, get_or, take, drop, Option, Ok, refl, sym, ap, subst, ◌∙◌, inl, inr, arith, zero-add}
use Rattle.std.specs.Prelude.{Result}
use Rattle.std.proofs.lemmas.List.{drop_more, length-take-le, take-append-drop, take_more}
use Rattle.script_text.specs.declared.script.NamedStep.{NamedStep}
use Rattle.script_text.specs.declared.script.Script.{Script}
use Rattle.world_script.specs.Expecting.{Scene, first_scene}
use Rattle.world_script.specs.Scripts.{step_number}
use Rattle.world_script.specs.declared.fault.RunFault.{RunFault}
use Rattle.world_script.specs.declared.played.Played.{Played}
use Rattle.world_script.specs.declared.played.Played.TheVariants.{Whole}
use Rattle.world_trace.specs.Traces.{IsTraced, StepTraced, TraceEnds, Traces, place_in}

-- One more step is done.
traces_more : (lines : List ℕ) (steps : List NamedStep) (n : ℕ) (s u : Scene) (x : NamedStep) (t : Scene) (old between new : Option (List ℕ)) → Traces lines n s steps old between u
    → IsTraced (step_number (n + length steps)) (place_in lines (step_number (n + length steps))) u x between new (Ok Whole) t → Traces lines n s (steps ++ x ∷ []) old new t
traces_more lines [] n s u x t old between new d e = (
  new,
  t,
  subst (λ (v : Scene). IsTraced (step_number n) (place_in lines (step_number n)) v x old new (Ok Whole) t) d.1
      (subst (λ (o : Option (List ℕ)). IsTraced (step_number n) (place_in lines (step_number n)) u x o new (Ok Whole) t) d.0
      (subst (λ (m : ℕ). IsTraced (step_number m) (place_in lines (step_number m)) u x between new (Ok Whole) t) (none n) e)),
  (refl, refl),
) where
  none : (n : ℕ) → n + 0 ≡ n
  none n = omega arith
traces_more lines (y ∷ ys) n s u x t old between new d e = (
  d.0,
  d.1,
  d.2,
  traces_more lines ys (n + 1) d.1 u x t d.0 between new d.3
      (subst (λ (m : ℕ). IsTraced (step_number m) (place_in lines (step_number m)) u x between new (Ok Whole) t) (counted n (length ys)) e),
) where
  counted : (n m : ℕ) → n + suc m ≡ (n + 1) + m
  counted n m = omega arith

-- Steps that were done.
abbrev pub AreTraced : List ℕ → Script → ℕ → Option (List ℕ) → Option (List ℕ) → Scene → Type 0
AreTraced lines script i old new t = Traces lines 0 (first_scene script.head) (take i script.steps) old new t

within : (i n : ℕ) → i < n → i ≤ n
within i n h = omega (arith, h)

module _ (lines : List ℕ) (script : Script) (i : ℕ) (x : NamedStep) (number : ℕ) (s : Scene) (old between new : Option (List ℕ)) (below : i < length script.steps) (read : x ≡ get_or script.steps i x) (numbered : number ≡ step_number i) (done : AreTraced lines script i old between s) where
  counted : length (take i script.steps) ≡ i
  counted = length-take-le i script.steps (within i (length script.steps) below)

  -- The step at this index is done, too.
  pub one_more_traced : (t : Scene) → StepTraced number (place_in lines number) s x between new (Ok Whole) t → AreTraced lines script (i + 1) old new t
  one_more_traced t (inr early) = absurd early
  one_more_traced t (inl e) =
      subst (λ (xs : List NamedStep). Traces lines 0 (first_scene script.head) xs old new t) (sym (take_more script.steps i x below ∙ ap (λ (y : NamedStep). take i script.steps ++ y ∷ []) (sym read)))
      (traces_more lines (take i script.steps) 0 (first_scene script.head) s x t old between new done
      (subst (λ (m : ℕ). IsTraced m (place_in lines m) s x between new (Ok Whole) t) (numbered ∙ ap step_number (sym counted ∙ sym (zero-add (length (take i script.steps))))) e))

  -- It ends the run.
  pub trace_ends : (result : Result Played RunFault) (t : Scene) → StepTraced number (place_in lines number) s x between new result t → TraceEnds lines script number old new result
  trace_ends result t e = record {
    before = take i script.steps;
    step = x;
    after = drop (i + 1) script.steps;
    splits = sym (take-append-drop i script.steps) ∙ ap (λ (xs : List NamedStep). take i script.steps ++ xs) (drop_more script.steps i x below)
        ∙ ap (λ (y : NamedStep). take i script.steps ++ y ∷ drop (i + 1) script.steps) (sym read);
    number_is = numbered ∙ ap step_number (sym counted);
    between = between;
    scene = s;
    later = t;
    done = done;
    ends = e;
  }
