-- How a step is told, and what it printed is written behind that.
use Rattle.std.proofs.Common.{◌≡◌, ℕ, ◌+◌, ◌<◌, ◌≤◌, List, [], ◌++◌, length, get_or, take, Option, Some, None, Ok, Err, refl, sym, ap, subst, ◌∙◌, inl, inr, arith}
use Rattle.std.specs.Prelude.{IfSome, Result, ◌⊎◌}
use Rattle.std.specs.List.{flat_map}
use Rattle.std.specs.Io.KnownBytes.{Appends}
use Rattle.std.proofs.lemmas.List.{append-nil, flat_map_more, length-append, take_more}
use Rattle.std.proofs.lemmas.Option.{IfSome_then}
use Rattle.script_text.specs.Steps.{step_name}
use Rattle.script_text.specs.declared.script.NamedStep.{NamedStep}
use Rattle.script_text.specs.declared.script.Step.{Step}
use Rattle.script_text.specs.declared.script.Step.TheVariants as steps
use Rattle.world_chart.specs.Happening.{Happening}
use Rattle.world_chart.specs.Lines.{began_line, happening_line}
use Rattle.world_script.specs.Endings.{StepEnds}
use Rattle.world_script.specs.Expecting.{MayPrint, Scene}
use Rattle.world_script.specs.Facts.{StageFacts}
use Rattle.world_script.specs.Seen.{Seen, StepTells, Tells, end_seen}
use Rattle.world_script.specs.Stages.{Begins, Overruns, max_deliveries}
use Rattle.world_script.specs.Writing.{AppendsFront}
use Rattle.world_script.specs.declared.fault.RunFault.{RunFault}
use Rattle.world_script.specs.declared.fault.RunFault.TheVariants.{TooManyDeliveries, Write, Memory}
use Rattle.world_script.specs.declared.played.Played.{Played}
use Rattle.world_script.specs.declared.played.Played.TheVariants.{Whole, Unexpected}
use Rattle.world_script.proofs.Playing.{begun}
use Rattle.world_script.proofs.Written.{both, front_then, nothing}
use Rattle.world_trace.specs.Happenings.{AreTold}
use Rattle.world_trace.specs.Telling.{AreNoted, PassesOn, RunsInMemory, TellsSome, told_until}
use Rattle.world_trace.specs.Traces.{IsTold, StepTraced, TellsEarly}

-- ---- what was printed into memory

abbrev same_text : (old new : Option (List ℕ)) (printed text : List ℕ) → Appends old new printed → printed ≡ text → Appends old new text
same_text old new printed text w same = subst (Appends old new) same w

-- What a step printed into memory that was empty is what it prints to any writer.
abbrev pub moved : (number : ℕ) (s : Scene) (x : NamedStep) (printed : List ℕ) (old new : Option (List ℕ)) (r : Result Played RunFault) (t : Scene) → (r ≡ Err Write → ⊥) → StepEnds number s x (Some []) (Some printed) r t
    → Appends old new printed → StepEnds number s x old new r t
moved number s x printed old new (Ok Whole) t other e w = (e.0, e.1, e.2, e.3, e.4, same_text old new printed e.0 w e.5)
moved number s x printed old new (Ok Unexpected) t other e w = (e.0, e.1, same_text old new printed e.0 w e.2)
moved number s x printed old new (Err TooManyDeliveries) t other e w = (e.0, e.1, same_text old new printed e.0 w e.2)
moved number s x printed old new (Err Memory) t other e w = (e.0, e.1, same_text old new printed e.0 w e.2)
moved number s x printed old new (Err Write) t other e w = absurd (other refl)

-- The same is seen of it.
same_seen : (number : ℕ) (s : Scene) (x : NamedStep) (printed : List ℕ) (old new : Option (List ℕ)) (r : Result Played RunFault) (t : Scene) (other : r ≡ Err Write → ⊥) (e : StepEnds number s x (Some []) (Some printed) r t)
    (w : Appends old new printed) → end_seen number s x (Some []) (Some printed) r t e ≡ end_seen number s x old new r t (moved number s x printed old new r t other e w)
same_seen number s x printed old new (Ok Whole) t other e w = refl
same_seen number s x printed old new (Ok Unexpected) t other e w = refl
same_seen number s x printed old new (Err TooManyDeliveries) t other e w = refl
same_seen number s x printed old new (Err Memory) t other e w = refl
same_seen number s x printed old new (Err Write) t other e w = absurd (other refl)

overran : (s : StageFacts) (step : Step) (text : List ℕ) → Overruns s step text → Begins s step text
overran s (steps.Deliver f order) text o = (max_deliveries, o.0, at_most max_deliveries, o.1) where
  at_most : (n : ℕ) → n ≤ n
  at_most n = omega arith
overran s (steps.Request o) text h = absurd h
overran s (steps.Timeout at) text h = absurd h
overran s (steps.Forge f) text h = absurd h
overran s (steps.Edit e) text h = absurd h
overran s (steps.Print p) text h = absurd h
overran s (steps.Expect lines) text h = absurd h

-- It may have been about to print that.
may_print : (number : ℕ) (s : Scene) (x : NamedStep) (printed : List ℕ) (r : Result Played RunFault) (t : Scene) → (r ≡ Err Write → ⊥) → StepEnds number s x (Some []) (Some printed) r t → MayPrint number s x.step printed
may_print number s x printed (Ok Whole) t other e = subst (MayPrint number s x.step) (sym e.5) (inl (begun s.stage x.step e.0 e.1 e.2))
may_print number s x printed (Ok Unexpected) t other e = subst (MayPrint number s x.step) (sym e.2) (inr e.1)
may_print number s x printed (Err TooManyDeliveries) t other e = subst (MayPrint number s x.step) (sym e.2) (inl (overran s.stage x.step e.0 e.1))
may_print number s x printed (Err Memory) t other e = subst (MayPrint number s x.step) (sym e.2) (inl e.1)
may_print number s x printed (Err Write) t other e = absurd (other refl)

nothing_cut : (old new : Option (List ℕ)) (printed : List ℕ) → printed ≡ [] → AppendsFront old new printed → ⊥
nothing_cut old new printed none w = empty (length w.front) (length w.rest) (sym (ap length none) ∙ ap length w.is ∙ length-append w.front w.rest) w.is_left where
  empty : (n m : ℕ) → 0 ≡ n + m → 0 < m → ⊥
  empty n m e h = omega (arith, e, h)

module _ (number : ℕ) (place : Option ℕ) (s : Scene) (x : NamedStep) (old between new : Option (List ℕ)) (t : Scene) (mark printed : List ℕ) (happened : List Happening) (is : mark ≡ began_line number place (step_name x.step)) where
  abbrev pub told : List ℕ
  told = mark ++ flat_map happening_line happened

  -- It is told with what was seen of it.
  told_with : (seen : Option (List Seen)) → IfSome seen (λ (xs : List Seen). AreTold xs happened) → IsTold number place x.step seen told
  told_with seen are = record {
    happened = happened;
    is = ap (λ (bs : List ℕ). bs ++ flat_map happening_line happened) is;
    are_told = are;
  }

  -- It is told, and what it printed is passed on.
  by : (ended r : Result Played RunFault) → Appends old between told → ((ended ≡ Err Write → ⊥) × StepTells number s x (Some []) (Some printed) ended t (AreNoted []) (AreNoted happened)) ⊎ ((ended ≡ Err Memory) × (printed ≡ []))
      → PassesOn ended printed between new r → StepTraced number place s x old new r t
  by ended r tells (inl e) (inl whole) = subst (λ (q : Result Played RunFault). StepTraced number place s x old new q t) (sym whole.0) (inl (record {
    told = told;
    between = between;
    tells = tells;
    ends = moved number s x printed between new ended t e.0 e.1.0 whole.1;
    is_told = told_with (end_seen number s x between new ended t (moved number s x printed between new ended t e.0 e.1.0 whole.1))
        (subst (λ (o : Option (List Seen)). IfSome o (λ (xs : List Seen). AreTold xs happened)) (same_seen number s x printed between new ended t e.0 e.1.0 whole.1)
        (IfSome_then (end_seen number s x (Some []) (Some printed) ended t e.1.0) e.1.1 (λ (xs : List Seen) (tells_of : Tells (AreNoted []) xs (AreNoted happened)). tells_of [] refl)));
  }))
  by ended r tells (inl e) (inr cut) = subst (λ (q : Result Played RunFault). StepTraced number place s x old new q t) (sym cut.0) (inl (record {
    told = told;
    between = between;
    tells = tells;
    ends = (printed, may_print number s x printed ended t e.0 e.1.0, cut.1);
    is_told = told_with None tt;
  }))
  by ended r tells (inr none) (inl whole) =
      inr (subst (λ (q : Result Played RunFault). TellsEarly number place x.step old new q) (sym (whole.0 ∙ none.0))
      (told, inr (told_with None tt), subst (Appends old new) (ap (λ (bs : List ℕ). told ++ bs) none.1 ∙ append-nil told) (both old between new told printed tells whole.1)))
  by ended r tells (inr none) (inr cut) = absurd (nothing_cut between new printed none.1 cut.1)

  pub passed : (ended r : Result Played RunFault) → Appends old between told → RunsInMemory number s x [] printed ended t (AreNoted []) (AreNoted happened) → PassesOn ended printed between new r → StepTraced number place s x old new r t
  passed ended r tells e passes = by ended r tells e.runs passes

-- ---- what is told

told_of : (number : ℕ) (place : Option ℕ) (step : Step) (mark : List ℕ) (happened : List Happening) → mark ≡ began_line number place (step_name step) → IsTold number place step None (mark ++ flat_map happening_line happened)
told_of number place step mark happened is = record {
  happened = happened;
  is = ap (λ (bs : List ℕ). bs ++ flat_map happening_line happened) is;
  are_told = tt;
}

-- Telling ends early.
pub told_early : (number : ℕ) (place : Option ℕ) (s : Scene) (x : NamedStep) (old new : Option (List ℕ)) (t : Scene) (mark : List ℕ) (happened : List Happening) (fault : RunFault) → mark ≡ began_line number place (step_name x.step)
    → TellsSome mark happened old new fault → StepTraced number place s x old new (Err fault) t
told_early number place s x old new t mark happened Memory is w = inr (told_until mark happened w.0, inr (told_of number place x.step mark (take w.0 happened) is), w.1)
told_early number place s x old new t mark happened Write is w = inr (told_until mark happened w.0, told_of number place x.step mark (take w.0 happened) is, w.1)
told_early number place s x old new t mark happened TooManyDeliveries is w = absurd w

-- Memory runs out ahead of the mark.
pub told_nothing : (number : ℕ) (place : Option ℕ) (s : Scene) (x : NamedStep) (old : Option (List ℕ)) (t : Scene) → StepTraced number place s x old old (Err Memory) t
told_nothing number place s x old t = inr ([], inl refl, nothing old)

-- ---- line by line

pub cut_mark : (old new : Option (List ℕ)) (mark : List ℕ) (happened : List Happening) → AppendsFront old new mark → AppendsFront old new (told_until mark happened 0)
cut_mark old new mark happened w = subst (AppendsFront old new) (sym (append-nil mark)) w

-- One more line is begun.
pub cut_line : (old between new : Option (List ℕ)) (mark line : List ℕ) (happened : List Happening) (n : ℕ) (d : Happening) → n < length happened → line ≡ happening_line (get_or happened n d)
    → Appends old between (told_until mark happened n) → AppendsFront between new line → AppendsFront old new (told_until mark happened (n + 1))
cut_line old between new mark line happened n d below is w v =
    subst (AppendsFront old new)
    (ap (λ (bs : List ℕ). told_until mark happened n ++ bs) is ∙ flat_map_more happening_line mark (take n happened) (get_or happened n d)
    ∙ ap (λ (hs : List Happening). mark ++ flat_map happening_line hs) (sym (take_more happened n d below)))
    (front_then old between new (told_until mark happened n) line w v)
