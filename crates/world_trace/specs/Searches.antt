-- Statement: what a search finds and writes: under one seed after another who is blamed, up to the first under which something else
-- comes of the script than is wanted.
use Rattle.std.specs.Prelude.{◌≡◌, ◌≢◌, ℕ, ◌+◌, ◌-◌, ◌<◌, ◌≤◌, false, List, [], ◌∷◌, ◌++◌, Contains, codes, decimal, flat_map, get_or, length, map, take, Option, Result, Ok, Err, ◌⊎◌}
use Rattle.std.specs.List.{concat}
use Rattle.std.specs.Io.KnownBytes.{Appends}
use Rattle.conflicts.specs.declared.blame.Blame.{Blame}
use Rattle.script_text.specs.Faults.{at_head}
use Rattle.script_text.specs.Orders.{named_in, ordered}
use Rattle.script_text.specs.ScriptFault.{ScriptFault}
use Rattle.script_text.specs.declared.script.DeliveryOrder.{DeliveryOrder}
use Rattle.script_text.specs.declared.script.DeliveryOrder.TheVariants.{Chosen, Unreliable}
use Rattle.script_text.specs.declared.script.NamedStep.{NamedStep}
use Rattle.script_text.specs.declared.script.Script.{Script}
use Rattle.script_text.specs.declared.script.Step.{Step}
use Rattle.script_text.specs.declared.script.Step.TheVariants as steps
use Rattle.world_chart.specs.Lines.{blame_line}
use Rattle.world_script.specs.Expecting.{unexpected_line}
use Rattle.world_script.specs.Faults.{kind_of}
use Rattle.world_script.specs.Printing.{audit_fault_line}
use Rattle.world_script.specs.Running.{Reports}
use Rattle.world_script.specs.Scripts.{fault_line}
use Rattle.world_script.specs.Writing.{AppendsFront}
use Rattle.world_script.specs.declared.fault.RunFault.{RunFault}
use Rattle.world_script.specs.declared.fault.RunFault.TheVariants.{TooManyDeliveries, Write, Memory}
use Rattle.world_trace.specs.Exploring.{IsOutcome}
use Rattle.world_trace.specs.declared.explore.Outcome.{Outcome}
use Rattle.world_trace.specs.declared.explore.Outcome.TheVariants as outcomes
use Rattle.world_trace.specs.declared.explore.Wanted.{Wanted}
use Rattle.world_trace.specs.declared.findings.Search.{Search}
use Rattle.world_trace.specs.declared.findings.Searched.{Searched}
use Rattle.world_trace.specs.declared.findings.Searched.TheVariants.{Agreed, Refused}

-- ---- seeds

-- What is wanted holds behind the script under a seed.
abbrev pub AgreesUnder : Script → Wanted → ℕ → Type 0
AgreesUnder script wanted seed = IsOutcome (ordered seed script) wanted outcomes.Agreed

-- So it does under each seed from one on, without the last.
abbrev pub AllAgree : Script → Wanted → ℕ → ℕ → Type 0
AllAgree script wanted first end = (seed : ℕ) → first ≤ seed → seed < end → AgreesUnder script wanted seed

-- This seed is the first of those that are searched under which something else comes of the script, and this is what comes.
pub record IsFound (script : Script) (search : Search) (seed : ℕ) (outcome : Outcome) : Type 0 where
  pub from : search.seeds.first ≤ seed
  pub below : seed < search.seeds.end
  pub before : AllAgree script search.wanted search.seeds.first seed
  pub comes : IsOutcome (ordered seed script) search.wanted outcome
  pub other : outcome ≢ outcomes.Agreed

-- ---- lines

abbrev pub seed_line : ℕ → List ℕ → List ℕ
seed_line seed line = codes "seed " ++ (decimal seed ++ (codes " " ++ line))

-- that a client's request is open
abbrev pub open_line : ℕ → ℕ → List ℕ
open_line client time = codes "unanswered client " ++ (decimal client ++ (codes " time " ++ (decimal time ++ codes "\n")))

-- what comes of a script that isn't what is wanted
abbrev pub outcome_line : Outcome → List ℕ
outcome_line outcomes.Agreed = []
outcome_line (outcomes.Audited fault) = audit_fault_line fault
outcome_line (outcomes.Unanswered client time) = open_line client.0 time
outcome_line (outcomes.Unexpected step line) = unexpected_line step line
outcome_line (outcomes.Faulted fault) = fault_line fault

-- how many seeds there were
abbrev pub explored_line : ℕ → List ℕ
explored_line many = codes "explored " ++ (decimal many ++ codes " seeds\n")

-- ---- blame

-- Of the blame that is heard this is what was not said before, each once and in order.
abbrev pub AreNews : List Blame → List Blame → List Blame → Type 0
AreNews said [] news = news ≡ []
AreNews said (blame ∷ heard) news =
    (Contains said blame × AreNews said heard news)
    ⊎ ((Contains said blame → ⊥) × ((more : List Blame) × (news ≡ blame ∷ more) × AreNews (said ++ blame ∷ []) heard more))

-- Blame that is heard under the seeds from one on, a list for each, has these lines: each blame one, with the first seed under which it is
-- heard. With what was said before, this is said then.
abbrev pub AreBlameLines : ℕ → List Blame → List (List Blame) → List (List ℕ) → List Blame → Type 0
AreBlameLines seed said [] lines later = (lines ≡ []) × (later ≡ said)
AreBlameLines seed said (heard ∷ more) lines later =
    (news : List Blame) × (rest : List (List ℕ)) × AreNews said heard news × AreBlameLines (seed + 1) (said ++ news) more rest later
    × (lines ≡ map (λ blame. seed_line seed (blame_line blame)) news ++ rest)

-- ---- choices

-- The steps behind so many, each with the order of its place.
abbrev pub in_orders : (ℕ → Step → DeliveryOrder) → ℕ → List NamedStep → List NamedStep
in_orders order_at n [] = []
in_orders order_at n (x ∷ xs) = named_in (order_at n x.step) x ∷ in_orders order_at (n + 1) xs

abbrev pub in_order : (ℕ → Step → DeliveryOrder) → Script → Script
in_order order_at script = record script { steps = in_orders order_at 0 script.steps }

-- the numbers that are chosen in the step behind so many
abbrev pub numbers_at : List (List ℕ) → ℕ → List ℕ
numbers_at numbers n = get_or numbers n []

-- What stands in the place of an order: these numbers, or the seed where it has chances, which stay.
abbrev pub in_place : ℕ → List ℕ → DeliveryOrder → DeliveryOrder
in_place seed numbers (Unreliable own c) = Unreliable seed c
in_place seed numbers other = Chosen numbers

abbrev pub order_for : ℕ → List ℕ → Step → DeliveryOrder
order_for seed numbers (steps.Deliver filter order) = in_place seed numbers order
order_for seed numbers other = Chosen numbers

-- The script with these choices in place of its orders: a list of numbers for each step, none for those behind the last list.
abbrev pub chosen : ℕ → List (List ℕ) → Script → Script
chosen seed numbers script = in_order (λ n step. order_for seed (numbers_at numbers n) step) script

-- `0, 2`
abbrev pub listed : List ℕ → List ℕ
listed [] = []
listed (n ∷ more) = decimal n ++ flat_map (λ m. codes ", " ++ decimal m) more

abbrev pub choice_line : ℕ → List ℕ → List ℕ
choice_line step numbers = codes "# step " ++ (decimal step ++ (codes ": choose = [" ++ (listed numbers ++ codes "]\n")))

-- the line that tells what stands in the place of the order of the step of a number
abbrev pub place_line : ℕ → DeliveryOrder → List ℕ
place_line step (Chosen numbers) = choice_line step numbers
place_line step (Unreliable seed c) = codes "# step " ++ (decimal step ++ (codes ": order = " ++ (decimal seed ++ codes "\n")))
place_line step other = []

-- the line of a step that delivers
abbrev pub choices_in : ℕ → ℕ → List ℕ → Step → List (List ℕ)
choices_in number seed numbers (steps.Deliver filter order) = place_line number (in_place seed numbers order) ∷ []
choices_in number seed numbers other = []

-- those of the steps behind so many
abbrev pub choice_lines : ℕ → List (List ℕ) → ℕ → List NamedStep → List (List ℕ)
choice_lines seed numbers n [] = []
choice_lines seed numbers n (x ∷ xs) = choices_in (n + 1) seed (numbers_at numbers n) x.step ++ choice_lines seed numbers (n + 1) xs

-- Lines of choices with which the same comes of the script; none where no such choices are known.
abbrev pub AreChosen : Script → Wanted → Outcome → List (List ℕ) → Type 0
AreChosen script wanted outcome lines =
    (lines ≡ [])
    ⊎ ((seed : ℕ) × (numbers : List (List ℕ)) × IsOutcome (chosen seed numbers script) wanted outcome × (lines ≡ choice_lines seed numbers 0 script.steps))

-- There are lines of choices only where the search shrinks what it finds.
abbrev pub AreChoices : Script → Search → Outcome → List (List ℕ) → Type 0
AreChoices script search outcome lines = AreChosen script search.wanted outcome lines × (search.shrinks ≡ false → lines ≡ [])

-- ---- a search

-- The lines of a search that has run seeds, one after another; of the last of them maybe not all of its blame.
pub record GoesOn (script : Script) (search : Search) (lines : List (List ℕ)) : Type 0 where
  pub heard : List (List Blame)
  pub within : length heard ≤ search.seeds.end - search.seeds.first
  pub before : AllAgree script search.wanted search.seeds.first (search.seeds.first + length heard - 1)
  pub said : List Blame
  pub lines_are : AreBlameLines search.seeds.first [] heard lines said

-- The lines of one that has run all seeds: what is wanted holds under each.
pub record FindsNothing (script : Script) (search : Search) (lines : List (List ℕ)) : Type 0 where
  pub agree : AllAgree script search.wanted search.seeds.first search.seeds.end
  pub heard : List (List Blame)
  pub each : length heard ≡ search.seeds.end - search.seeds.first
  pub blames : List (List ℕ)
  pub said : List Blame
  pub blames_are : AreBlameLines search.seeds.first [] heard blames said
  pub lines_are : lines ≡ blames ++ explored_line (search.seeds.end - search.seeds.first) ∷ []

-- The lines of one that ends under a seed where this comes.
pub record Finds (script : Script) (search : Search) (outcome : Outcome) (lines : List (List ℕ)) : Type 0 where
  pub seed : ℕ
  pub is_found : IsFound script search seed outcome
  pub heard : List (List Blame)
  pub each : search.seeds.first + length heard ≡ seed + 1
  pub blames : List (List ℕ)
  pub said : List Blame
  pub blames_are : AreBlameLines search.seeds.first [] heard blames said
  pub lines_are : lines ≡ blames ++ seed_line seed (outcome_line outcome) ∷ []

-- The lines of one that ends so, and of choices behind them.
abbrev pub FindsAll : Script → Search → List (List ℕ) → Type 0
FindsAll script search lines =
    (outcome : Outcome) × (found choices : List (List ℕ)) × Finds script search outcome found × AreChoices script search outcome choices
    × (lines ≡ found ++ choices)

-- What a search may be about to write.
abbrev pub MayTell : Script → Search → List (List ℕ) → Type 0
MayTell script search lines =
    GoesOn script search lines ⊎ (FindsNothing script search lines ⊎ (((outcome : Outcome) × Finds script search outcome lines) ⊎ FindsAll script search lines))

-- It comes to its end, or ends early: with whole lines where memory ran out, with the first bytes of some where a write failed.
abbrev pub Searches : Script → Search → Option (List ℕ) → Option (List ℕ) → Result Searched RunFault → Type 0
Searches script search old new (Ok Agreed) = (lines : List (List ℕ)) × FindsNothing script search lines × Appends old new (concat lines)
Searches script search old new (Ok Refused) = (lines : List (List ℕ)) × FindsAll script search lines × Appends old new (concat lines)
Searches script search old new (Err Memory) = (lines : List (List ℕ)) × MayTell script search lines × ((n : ℕ) × Appends old new (concat (take n lines)))
Searches script search old new (Err Write) = (lines : List (List ℕ)) × MayTell script search lines × AppendsFront old new (concat lines)
Searches script search old new (Err TooManyDeliveries) = ⊥

-- The whole. Where it ends early, the line of the fault stands behind that, as one of the head.
abbrev pub Explores : Script → Search → Option (List ℕ) → Option (List ℕ) → Result Searched ScriptFault → Type 0
Explores script search old new (Ok searched) = Searches script search old new (Ok searched)
Explores script search old new (Err reported) =
    (why : RunFault) × (between : Option (List ℕ)) × Searches script search old between (Err why) × Reports (at_head (kind_of why)) between new reported
