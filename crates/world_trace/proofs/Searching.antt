-- The steps of a script under an order, one after another, and what comes of it.
use Rattle.std.proofs.Common.{◌≡◌, ℕ, zero, suc, ◌+◌, ◌<◌, ◌≤◌, inl, inr, List, [], ◌∷◌, ◌++◌, length, get_or, map, Some, None, Result, Err, refl, sym, ap, subst, ◌∙◌, arith, zero-add}
use Rattle.std.proofs.lemmas.List.{get_or-map, length-map, take_all}
use Rattle.script_text.specs.Orders.{named_in, ordered, ordered_named}
use Rattle.script_text.specs.ScriptKind.TheVariants as kinds
use Rattle.script_text.specs.declared.script.DeliveryOrder.{DeliveryOrder}
use Rattle.script_text.specs.declared.script.NamedStep.{NamedStep}
use Rattle.script_text.specs.declared.script.Script.{Script}
use Rattle.script_text.specs.declared.script.Step.{Step}
use Rattle.world_script.specs.Expecting.{Scene, first_scene}
use Rattle.world_script.specs.Facts.{StageFacts}
use Rattle.world_script.specs.Scripts.{BreaksOff, Plays, step_number}
use Rattle.world_script.specs.Seen.{Seen}
use Rattle.world_script.specs.Stages.{Overruns}
use Rattle.world_script.specs.declared.fault.RunFault.{RunFault}
use Rattle.world_script.specs.declared.fault.RunFault.TheVariants.{TooManyDeliveries, Memory}
use Rattle.world_script.specs.declared.played.Played.{Played}
use Rattle.world_script.proofs.Playing.{AreDone, breaks_at, one_more_done}
use Rattle.world_trace.specs.Exploring.{ComesTo, FindsOther, IsOutcome}
use Rattle.world_trace.specs.Searches.{in_order, in_orders}
use Rattle.world_trace.specs.Searching.{Judges, StepExplored}
use Rattle.world_trace.specs.Telling.{RunsInMemory}
use Rattle.world_trace.specs.declared.explore.Outcome.{Outcome}
use Rattle.world_trace.specs.declared.explore.Outcome.TheVariants as outcomes
use Rattle.world_trace.specs.declared.explore.Wanted.{Wanted}

-- Steps of a script as they stand, up to this one.
module _ (script : Script) (i : ℕ) (x : NamedStep) (number : ℕ) (s t : Scene) (below : i < length script.steps) (read : x ≡ get_or script.steps i x) (numbered : number ≡ step_number i) (done : AreDone script i None None s) where
  more_done : StepExplored number s x None t → AreDone script (i + 1) None None t
  more_done e = one_more_done script i x number s t None None None below read done e

  stops_at : (wanted : Wanted) (outcome : Outcome) → StepExplored number s x (Some outcome) t → IsOutcome script wanted outcome
  stops_at wanted (outcomes.Unexpected at line) e = (
    done.0 ++ [],
    subst (λ (n : ℕ). BreaksOff (first_scene script.head) script.steps n (FindsOther line) (done.0 ++ [])) (sym e.0)
        (breaks_at script.steps i x (first_scene script.head) s number (FindsOther line) done.0 [] below read numbered done.1 e.1),
  )
  stops_at wanted (outcomes.Faulted fault) e =
      subst (λ f. IsOutcome script wanted (outcomes.Faulted f)) (sym e.0)
      (refl, (done.0 ++ e.1.0, breaks_at script.steps i x (first_scene script.head) s number (λ s. Overruns s.stage) done.0 e.1.0 below read numbered done.1 e.1.1))
  stops_at wanted outcomes.Agreed e = absurd e
  stops_at wanted (outcomes.Audited fault) e = absurd e
  stops_at wanted (outcomes.Unanswered client time) e = absurd e

-- All of them.
module _ (script : Script) (i : ℕ) (s : Scene) (all : length script.steps ≤ i) (done : AreDone script i None None s) where
  comes : ComesTo script s.stage
  comes = record {
    text = done.0;
    scene = s;
    plays = subst (λ (xs : List NamedStep). Plays (first_scene script.head) xs done.0 s) (take_all i script.steps all) done.1;
    stage_is = refl;
  }

  judged_at : (wanted : Wanted) (outcome : Outcome) → Judges wanted s.stage outcome → IsOutcome script wanted outcome
  judged_at wanted outcomes.Agreed j = (s.stage, comes, j.0, j.1)
  judged_at wanted (outcomes.Audited fault) j = (s.stage, comes, j.0, j.1)
  judged_at wanted (outcomes.Unanswered client time) j = (s.stage, comes, j.0, j.1, j.2)
  judged_at wanted (outcomes.Unexpected number line) j = absurd j
  judged_at wanted (outcomes.Faulted fault) j = absurd j

-- ---- under a seed

module _ (script : Script) (seed i : ℕ) (x : NamedStep) (number : ℕ) (s t : Scene) (below : i < length script.steps) (read : x ≡ get_or script.steps i x) (numbered : number ≡ step_number i) (done : AreDone (ordered seed script) i None None s) where
  within : i < length (map (ordered_named seed) script.steps)
  within = subst (λ (n : ℕ). i < n) (sym (length-map script.steps (ordered_named seed))) below

  reads : ordered_named seed x ≡ get_or (map (ordered_named seed) script.steps) i (ordered_named seed x)
  reads = ap (ordered_named seed) read ∙ sym (get_or-map (ordered_named seed) script.steps i x (ordered_named seed x) below)

  pub one_more : StepExplored number s (ordered_named seed x) None t → AreDone (ordered seed script) (i + 1) None None t
  one_more e = more_done (ordered seed script) i (ordered_named seed x) number s t within reads numbered done e

  pub stops : (wanted : Wanted) (outcome : Outcome) → StepExplored number s (ordered_named seed x) (Some outcome) t → IsOutcome (ordered seed script) wanted outcome
  stops wanted outcome e = stops_at (ordered seed script) i (ordered_named seed x) number s t within reads numbered done wanted outcome e

module _ (script : Script) (seed i : ℕ) (s : Scene) (all : length script.steps ≤ i) (done : AreDone (ordered seed script) i None None s) where
  pub judged : (wanted : Wanted) (outcome : Outcome) → Judges wanted s.stage outcome → IsOutcome (ordered seed script) wanted outcome
  judged wanted outcome j = judged_at (ordered seed script) i s (subst (λ (n : ℕ). n ≤ i) (sym (length-map script.steps (ordered_named seed))) all) done wanted outcome j

-- ---- under an order for each step

-- the step in the order of its place
abbrev placed : (ℕ → Step → DeliveryOrder) → ℕ → NamedStep → NamedStep
placed order_at n x = named_in (order_at n x.step) x

length_in : (order_at : ℕ → Step → DeliveryOrder) (n : ℕ) (xs : List NamedStep) → length (in_orders order_at n xs) ≡ length xs
length_in order_at n [] = refl
length_in order_at n (x ∷ xs) = ap suc (length_in order_at (n + 1) xs)

read_in : (order_at : ℕ → Step → DeliveryOrder) (n : ℕ) (xs : List NamedStep) (i : ℕ) (d e : NamedStep) → i < length xs → get_or (in_orders order_at n xs) i e ≡ placed order_at (n + i) (get_or xs i d)
read_in order_at n [] i d e below = absurd (nothing i below) where
  nothing : (i : ℕ) → i < 0 → ⊥
  nothing i h = omega (arith, h)
read_in order_at n (x ∷ xs) zero d e below = ap (λ (m : ℕ). placed order_at m x) (none n) where
  none : (n : ℕ) → n ≡ n + 0
  none n = omega arith
read_in order_at n (x ∷ xs) (suc i) d e below =
    read_in order_at (n + 1) xs i d e (less i (length xs) below) ∙ ap (λ (m : ℕ). placed order_at m (get_or xs i d)) (counted n i) where
      less : (i m : ℕ) → suc i < suc m → i < m
      less i m h = omega (arith, h)

      counted : (n i : ℕ) → (n + 1) + i ≡ n + suc i
      counted n i = omega arith

module _ (script : Script) (order_at : ℕ → Step → DeliveryOrder) (i : ℕ) (x : NamedStep) (number : ℕ) (s t : Scene) (below : i < length script.steps) (read : x ≡ get_or script.steps i x) (numbered : number ≡ step_number i) (done : AreDone (in_order order_at script) i None None s) where
  within_order : i < length (in_orders order_at 0 script.steps)
  within_order = subst (λ (n : ℕ). i < n) (sym (length_in order_at 0 script.steps)) below

  reads_order : placed order_at i x ≡ get_or (in_orders order_at 0 script.steps) i (placed order_at i x)
  reads_order =
      ap (placed order_at i) read ∙ ap (λ (m : ℕ). placed order_at m (get_or script.steps i x)) (sym (zero-add i))
      ∙ sym (read_in order_at 0 script.steps i x (placed order_at i x) below)

  pub one_more_in : StepExplored number s (placed order_at i x) None t → AreDone (in_order order_at script) (i + 1) None None t
  one_more_in e = more_done (in_order order_at script) i (placed order_at i x) number s t within_order reads_order numbered done e

  pub stops_in : (wanted : Wanted) (outcome : Outcome) → StepExplored number s (placed order_at i x) (Some outcome) t → IsOutcome (in_order order_at script) wanted outcome
  stops_in wanted outcome e = stops_at (in_order order_at script) i (placed order_at i x) number s t within_order reads_order numbered done wanted outcome e

-- The same scene has another name.
pub unmoved : (script : Script) (i : ℕ) (s t : Scene) → t.stage ≡ s.stage → t.unread ≡ s.unread → AreDone script i None None s → AreDone script i None None t
unmoved script i s t stage unread done =
    subst (λ (xs : List ℕ). AreDone script i None None (record { stage = t.stage; unread = xs })) (sym unread) (subst (λ (u : StageFacts). AreDone script i None None (record { stage = u; unread = s.unread })) (sym stage) done)

pub judged_in : (script : Script) (order_at : ℕ → Step → DeliveryOrder) (i : ℕ) (s : Scene) → length script.steps ≤ i → AreDone (in_order order_at script) i None None s → (wanted : Wanted) (outcome : Outcome) → Judges wanted s.stage outcome
    → IsOutcome (in_order order_at script) wanted outcome
judged_in script order_at i s all done wanted outcome j = judged_at (in_order order_at script) i s (subst (λ (n : ℕ). n ≤ i) (sym (length_in order_at 0 script.steps)) all) done wanted outcome j

-- ---- a step that runs in memory

-- it has too many deliveries, wherever its lines go
pub overruns_so : (number : ℕ) (s : Scene) (x : NamedStep) (old new : List ℕ) (ended : Result Played RunFault) (t : Scene) (told later : List Seen → Type 0) → ended ≡ Err TooManyDeliveries
    → RunsInMemory number s x old new ended t told later
    → StepExplored number s x (Some (outcomes.Faulted (record { kind = kinds.TooManyDeliveries; step = number }))) t
overruns_so number s x old new ended t told later is runs = by (subst (λ (r : Result Played RunFault). RunsInMemory number s x old new r t told later) is runs) where
  other : (let r : Result Played RunFault = Err TooManyDeliveries in r) ≡ Err Memory → ⊥
  other e = cc

  by : RunsInMemory number s x old new (Err TooManyDeliveries) t told later → StepExplored number s x (Some (outcomes.Faulted (record { kind = kinds.TooManyDeliveries; step = number }))) t
  by r = elim r.runs [
    | inl ends ↦ (refl, (ends.1.0.0, ends.1.0.1, tt))
    | inr full ↦ absurd (other full.0)
  ]
