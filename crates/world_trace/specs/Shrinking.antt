-- Internal: which choices come to the same.
use Rattle.std.specs.Prelude.{ℕ, Bool, true, false, List, map, take, Option, Result, Ok, Err, Vec}
use Rattle.std.specs.List.{concat}
use Rattle.std.specs.Io.KnownBytes.{Appends}
use Rattle.std.specs.declared.alloc.Global.{Global}
use Rattle.script_text.specs.declared.script.DeliveryOrder.{DeliveryOrder}
use Rattle.script_text.specs.Orders.{order_under}
use Rattle.script_text.specs.declared.script.DeliveryOrder.TheVariants.{Drawn, Unreliable}
use Rattle.script_text.specs.declared.script.Script.{Script}
use Rattle.script_text.specs.declared.script.Step.{Step}
use Rattle.script_text.specs.declared.script.Step.TheVariants as steps
use Rattle.world_script.specs.Writing.{AppendsFront}
use Rattle.world_script.specs.declared.fault.RunFault.{RunFault}
use Rattle.world_script.specs.declared.fault.RunFault.TheVariants.{TooManyDeliveries, Write, Memory}
use Rattle.world_trace.specs.Exploring.{IsOutcome}
use Rattle.world_trace.specs.Searches.{chosen, numbers_at, order_for}
use Rattle.world_trace.specs.declared.shrink.Finding.{Finding}
use Rattle.world_trace.specs.declared.shrink.Orders.{Orders}
use Rattle.world_trace.specs.declared.shrink.Orders.TheVariants as given

abbrev pub numbers_in : List (Vec ℕ Global) → List (List ℕ)
numbers_in lists = map (λ (v : Vec ℕ Global). v.items) lists

-- The same is found with these choices in place of the script's orders.
pub record IsFoundBy (script : Script) (found : Finding) (lists : List (Vec ℕ Global)) : Type 0 where
  pub comes : IsOutcome (chosen found.seed (numbers_in lists) script) found.wanted found.outcome

-- the order of a step under a seed
abbrev pub drawn_for : ℕ → Step → DeliveryOrder
drawn_for seed (steps.Deliver filter order) = order_under seed order
drawn_for seed other = Drawn seed

abbrev pub has_chances : DeliveryOrder → Bool
has_chances (Unreliable seed c) = true
has_chances other = false

-- the order of the step behind so many
abbrev pub order_at : Orders → ℕ → ℕ → Step → DeliveryOrder
order_at given.Drawn seed = λ n step. drawn_for seed step
order_at (given.Chosen lists) seed = λ n step. order_for seed (numbers_at (numbers_in lists.now) n) step

-- Lines are written, or the first of them.
abbrev pub TellsOf : List (List ℕ) → Option (List ℕ) → Option (List ℕ) → Result (Unit {0}) RunFault → Type 0
TellsOf lines old new (Ok done) = Appends old new (concat lines)
TellsOf lines old new (Err Memory) = (n : ℕ) × Appends old new (concat (take n lines))
TellsOf lines old new (Err Write) = AppendsFront old new (concat lines)
TellsOf lines old new (Err TooManyDeliveries) = ⊥
