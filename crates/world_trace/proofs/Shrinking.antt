-- Lines of choices, one after another.
use Rattle.std.proofs.Common.{◌≡◌, ℕ, true, false, suc, ◌+◌, ◌<◌, ◌≤◌, List, [], ◌∷◌, ◌++◌, length, get_or, take, drop, Option, Ok, Err, refl, sym, ap, subst, ◌∙◌, inr, arith, zero-add}
use Rattle.std.specs.Prelude.{Result}
use Rattle.std.specs.List.{concat}
use Rattle.std.specs.Io.KnownBytes.{Appends}
use Rattle.std.proofs.Math.Seq.{take-append_seam}
use Rattle.std.proofs.lemmas.List.{append-nil, append_assoc, drop_more, length-take-le, take-append-drop, take_all, take_more}
use Rattle.std.proofs.lemmas.List.Folds.{concat-append}
use Rattle.script_text.specs.declared.script.DeliveryOrder.{DeliveryOrder}
use Rattle.script_text.specs.declared.script.DeliveryOrder.TheVariants.{Oldest, Drawn, Chosen, Unreliable}
use Rattle.script_text.specs.declared.script.Filter.{Filter}
use Rattle.script_text.specs.declared.script.NamedStep.{NamedStep}
use Rattle.script_text.specs.declared.script.Script.{Script}
use Rattle.script_text.specs.declared.script.Step.{Step}
use Rattle.script_text.specs.declared.script.Step.TheVariants as steps
use Rattle.world_script.specs.Writing.{AppendsFront}
use Rattle.world_script.specs.declared.fault.RunFault.{RunFault}
use Rattle.world_script.specs.declared.fault.RunFault.TheVariants.{TooManyDeliveries, Write, Memory}
use Rattle.world_script.proofs.Written.{both, front_more, front_then}
use Rattle.world_trace.specs.Exploring.{IsOutcome}
use Rattle.world_trace.specs.Finding.{TellsLines}
use Rattle.world_trace.specs.Searches.{AreChosen, choice_lines, choices_in, chosen, in_place, numbers_at, order_for, place_line}
use Rattle.world_trace.specs.Shrinking.{TellsOf, drawn_for, has_chances}
use Rattle.world_trace.specs.declared.explore.Outcome.{Outcome}
use Rattle.world_trace.specs.declared.explore.Wanted.{Wanted}

lines_append : (seed : ℕ) (numbers : List (List ℕ)) (n : ℕ) (xs ys : List NamedStep) → choice_lines seed numbers n (xs ++ ys) ≡ choice_lines seed numbers n xs ++ choice_lines seed numbers (n + length xs) ys
lines_append seed numbers n [] ys = ap (λ (m : ℕ). choice_lines seed numbers m ys) (none n) where
  none : (n : ℕ) → n ≡ n + 0
  none n = omega arith
lines_append seed numbers n (x ∷ xs) ys =
    ap (λ (ls : List (List ℕ)). choices_in (n + 1) seed (numbers_at numbers n) x.step ++ ls)
    (lines_append seed numbers (n + 1) xs ys ∙ ap (λ (m : ℕ). choice_lines seed numbers (n + 1) xs ++ choice_lines seed numbers m ys) (counted n (length xs)))
    ∙ sym (append_assoc (choices_in (n + 1) seed (numbers_at numbers n) x.step) (choice_lines seed numbers (n + 1) xs) (choice_lines seed numbers (n + suc (length xs)) ys)) where
      counted : (n m : ℕ) → (n + 1) + m ≡ n + suc m
      counted n m = omega arith

none_in : (number seed : ℕ) (numbers : List ℕ) (step : Step) → ((f : Filter) (order : DeliveryOrder) → step ≡ steps.Deliver f order → ⊥) → choices_in number seed numbers step ≡ []
none_in number seed numbers (steps.Deliver f order) other = absurd (other f order refl)
none_in number seed numbers step other = refl

module _ (seed : ℕ) (numbers : List (List ℕ)) (given : List NamedStep) (i : ℕ) (x : NamedStep) (old between : Option (List ℕ)) (below : i < length given) (read : x ≡ get_or given i x) (done : Appends old between (concat (choice_lines seed numbers 0 (take i given)))) where
  counted : 0 + length (take i given) ≡ i
  counted = zero-add (length (take i given)) ∙ length-take-le i given (within i (length given) below) where
    within : (i n : ℕ) → i < n → i ≤ n
    within i n h = omega (arith, h)

  rest : List (List ℕ)
  rest = choice_lines seed numbers (i + 1) (drop (i + 1) given)

  all : choice_lines seed numbers 0 given ≡ choice_lines seed numbers 0 (take i given) ++ (choices_in (i + 1) seed (numbers_at numbers i) x.step ++ rest)
  unfolding rest
  all =
      ap (choice_lines seed numbers 0)
      (sym (take-append-drop i given) ∙ ap (λ (xs : List NamedStep). take i given ++ xs) (drop_more given i x below) ∙ ap (λ (y : NamedStep). take i given ++ y ∷ drop (i + 1) given) (sym read))
      ∙ lines_append seed numbers 0 (take i given) (x ∷ drop (i + 1) given) ∙ ap (λ (m : ℕ). choice_lines seed numbers 0 (take i given) ++ choice_lines seed numbers m (x ∷ drop (i + 1) given)) counted

  grown : choice_lines seed numbers 0 (take (i + 1) given) ≡ choice_lines seed numbers 0 (take i given) ++ choices_in (i + 1) seed (numbers_at numbers i) x.step
  grown =
      ap (choice_lines seed numbers 0) (take_more given i x below ∙ ap (λ (y : NamedStep). take i given ++ y ∷ []) (sym read)) ∙ lines_append seed numbers 0 (take i given) (x ∷ [])
      ∙ ap (λ (m : ℕ). choice_lines seed numbers 0 (take i given) ++ choice_lines seed numbers m (x ∷ [])) counted
      ∙ ap (λ (ls : List (List ℕ)). choice_lines seed numbers 0 (take i given) ++ ls) (append-nil (choices_in (i + 1) seed (numbers_at numbers i) x.step))

  -- Memory runs out for a line.
  pub unwritten : TellsOf (choice_lines seed numbers 0 given) old between (Err Memory)
  unwritten = (
    length (choice_lines seed numbers 0 (take i given)),
    subst (λ (ls : List (List ℕ)). Appends old between (concat ls))
        (sym (ap (take (length (choice_lines seed numbers 0 (take i given)))) all ∙ take-append_seam (choice_lines seed numbers 0 (take i given)) (choices_in (i + 1) seed (numbers_at numbers i) x.step ++ rest)))
        done,
  )

  -- The step delivers nothing.
  pub no_line : ((f : Filter) (order : DeliveryOrder) → x.step ≡ steps.Deliver f order → ⊥) → Appends old between (concat (choice_lines seed numbers 0 (take (i + 1) given)))
  no_line other =
      subst (λ (ls : List (List ℕ)). Appends old between (concat ls))
      (sym (grown ∙ ap (λ (ls : List (List ℕ)). choice_lines seed numbers 0 (take i given) ++ ls) (none_in (i + 1) seed (numbers_at numbers i) x.step other) ∙ append-nil (choice_lines seed numbers 0 (take i given)))) done

  module _ (f : Filter) (order : DeliveryOrder) (delivers : x.step ≡ steps.Deliver f order) (line : List ℕ) (is : line ≡ place_line (i + 1) (in_place seed (numbers_at numbers i) order)) (new : Option (List ℕ)) where
    one : choices_in (i + 1) seed (numbers_at numbers i) x.step ≡ line ∷ []
    one = ap (choices_in (i + 1) seed (numbers_at numbers i)) delivers ∙ ap (λ (l : List ℕ). l ∷ []) (sym is)

    pub one_line : Appends between new line → Appends old new (concat (choice_lines seed numbers 0 (take (i + 1) given)))
    one_line w =
        subst (Appends old new)
        (sym (ap concat (grown ∙ ap (λ (ls : List (List ℕ)). choice_lines seed numbers 0 (take i given) ++ ls) one) ∙ concat-append (choice_lines seed numbers 0 (take i given)) (line ∷ [])
        ∙ ap (λ (bs : List ℕ). concat (choice_lines seed numbers 0 (take i given)) ++ bs) (append-nil line)))
        (both old between new (concat (choice_lines seed numbers 0 (take i given))) line done w)

    pub cut_line : AppendsFront between new line → TellsOf (choice_lines seed numbers 0 given) old new (Err Write)
    cut_line w =
        subst (AppendsFront old new)
        (sym (ap concat (all ∙ ap (λ (ls : List (List ℕ)). choice_lines seed numbers 0 (take i given) ++ (ls ++ rest)) one) ∙ concat-append (choice_lines seed numbers 0 (take i given)) (line ∷ rest)
        ∙ sym (append_assoc (concat (choice_lines seed numbers 0 (take i given))) line (concat rest))))
        (front_more old new (concat (choice_lines seed numbers 0 (take i given)) ++ line) (concat rest)
        (front_then old between new (concat (choice_lines seed numbers 0 (take i given))) line done w))

pub all_lines : (seed : ℕ) (numbers : List (List ℕ)) (given : List NamedStep) (i : ℕ) (old new : Option (List ℕ)) → length given ≤ i → Appends old new (concat (choice_lines seed numbers 0 (take i given))) → TellsOf (choice_lines seed numbers 0 given) old new (Ok tt)
all_lines seed numbers given i old new all w = subst (λ (xs : List NamedStep). Appends old new (concat (choice_lines seed numbers 0 xs))) (take_all i given all) w

-- The lines of choices under which the same is found.
pub told_choices : (script : Script) (wanted : Wanted) (outcome : Outcome) (seed : ℕ) (numbers : List (List ℕ)) (old new : Option (List ℕ)) (r : Result (Unit {0}) RunFault) → IsOutcome (chosen seed numbers script) wanted outcome
    → TellsOf (choice_lines seed numbers 0 script.steps) old new r → TellsLines (AreChosen script wanted outcome) old new r
told_choices script wanted outcome seed numbers old new (Ok done) comes w = (choice_lines seed numbers 0 script.steps, inr (seed, numbers, comes, refl), w)
told_choices script wanted outcome seed numbers old new (Err Memory) comes w = inr (choice_lines seed numbers 0 script.steps, inr (seed, numbers, comes, refl), w)
told_choices script wanted outcome seed numbers old new (Err Write) comes w = (choice_lines seed numbers 0 script.steps, inr (seed, numbers, comes, refl), w)
told_choices script wanted outcome seed numbers old new (Err TooManyDeliveries) comes w = absurd w

-- ---- orders in place of others

true_false : true ≡ false → ⊥
true_false h = cc h

-- An order with chances is the seed's.
pub kept_for : (seed : ℕ) (numbers : List ℕ) (step : Step) → has_chances (drawn_for seed step) ≡ true → drawn_for seed step ≡ order_for seed numbers step
kept_for seed numbers (steps.Deliver f (Unreliable own c)) h = refl
kept_for seed numbers (steps.Deliver f Oldest) h = absurd (true_false (sym h))
kept_for seed numbers (steps.Deliver f (Drawn own)) h = absurd (true_false (sym h))
kept_for seed numbers (steps.Deliver f (Chosen own)) h = absurd (true_false (sym h))
kept_for seed numbers (steps.Request o) h = absurd (true_false (sym h))
kept_for seed numbers (steps.Timeout at) h = absurd (true_false (sym h))
kept_for seed numbers (steps.Forge g) h = absurd (true_false (sym h))
kept_for seed numbers (steps.Edit e) h = absurd (true_false (sym h))
kept_for seed numbers (steps.Print p) h = absurd (true_false (sym h))
kept_for seed numbers (steps.Expect e) h = absurd (true_false (sym h))

-- Any other order is chosen.
pub chosen_for : (seed : ℕ) (numbers : List ℕ) (step : Step) → has_chances (drawn_for seed step) ≡ false → Chosen numbers ≡ order_for seed numbers step
chosen_for seed numbers (steps.Deliver f (Unreliable own c)) h = absurd (true_false h)
chosen_for seed numbers (steps.Deliver f Oldest) h = refl
chosen_for seed numbers (steps.Deliver f (Drawn own)) h = refl
chosen_for seed numbers (steps.Deliver f (Chosen own)) h = refl
chosen_for seed numbers (steps.Request o) h = refl
chosen_for seed numbers (steps.Timeout at) h = refl
chosen_for seed numbers (steps.Forge g) h = refl
chosen_for seed numbers (steps.Edit e) h = refl
chosen_for seed numbers (steps.Print p) h = refl
chosen_for seed numbers (steps.Expect e) h = refl
