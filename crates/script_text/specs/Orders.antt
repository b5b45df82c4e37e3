-- Statement: the orders of deliveries: what their keys say, and a script whose deliveries are in other orders than its own.
use Rattle.std.specs.Prelude.{ℕ, codes, List, map, ◌+◌, ◌==◌, nat_le, Option, Some, None, Result, Ok, Err, if◌then◌else◌}
use Rattle.toml.specs.Data.{Members}
use Rattle.script_values.specs.Forms.{choices, needed_key, optional_key, pair_of, up_to}
use Rattle.script_values.specs.KeyShapes.{given_or}
use Rattle.script_values.specs.declared.fault.TableFault.{TableFault}
use Rattle.script_values.specs.declared.fault.TableFault.TheVariants.{WrongValue}
use Rattle.script_text.specs.declared.script.Chances.{Chances}
use Rattle.script_text.specs.declared.script.DeliveryOrder.{DeliveryOrder}
use Rattle.script_text.specs.declared.script.DeliveryOrder.TheVariants.{Oldest, Drawn, Chosen, Unreliable}
use Rattle.script_text.specs.declared.script.NamedStep.{NamedStep}
use Rattle.script_text.specs.declared.script.Script.{Script}
use Rattle.script_text.specs.declared.script.Step.{Step}
use Rattle.script_text.specs.declared.script.Step.TheVariants as steps

-- ---- what the keys say

-- the order that a list chooses
abbrev pub chosen_from : Result (List ℕ) TableFault → Result DeliveryOrder TableFault
chosen_from (Ok numbers) = Ok (Chosen numbers)
chosen_from (Err fault) = Err fault

abbrev pub chosen_in : Members → Result DeliveryOrder TableFault
chosen_in members = chosen_from (needed_key choices (codes "choose") members)

-- of 1,000 deliveries so many go wrong on average
abbrev pub total : Chances → ℕ
total c = c.lose + c.again + c.late

-- One that is left out is 0; all together are at most 1,000.
abbrev pub if_few : Chances → Result Chances TableFault
if_few c = if nat_le (total c) 1000 then Ok c else Err WrongValue

abbrev pub chances_from : Result (Option ℕ × (Option ℕ × Option ℕ)) TableFault → Result Chances TableFault
chances_from (Ok r) = if_few (record { lose = given_or r.0 0; again = given_or r.1.0 0; late = given_or r.1.1 0 })
chances_from (Err fault) = Err fault

abbrev pub chance_in : List ℕ → Members → Result (Option ℕ) TableFault
chance_in key members = optional_key (up_to 1000) key members

abbrev pub chances_in : Members → Result Chances TableFault
chances_in members =
    chances_from (pair_of (chance_in (codes "lose") members) (pair_of (chance_in (codes "again") members) (chance_in (codes "late") members)))

-- The order that a seed draws, or the oldest first where there is none; with chances, the seed is 0 until it is given.
abbrev pub drawn_alone : Option ℕ → DeliveryOrder
drawn_alone None = Oldest
drawn_alone (Some seed) = Drawn seed

abbrev pub drawn_by : Option ℕ → Chances → DeliveryOrder
drawn_by seed c = if total c == 0 then drawn_alone seed else Unreliable (given_or seed 0) c

abbrev pub drawn_from : Result (Option ℕ × Chances) TableFault → Result DeliveryOrder TableFault
drawn_from (Ok r) = Ok (drawn_by r.0 r.1)
drawn_from (Err fault) = Err fault

abbrev pub drawn_in : Members → Result DeliveryOrder TableFault
drawn_in members = drawn_from (pair_of (optional_key (up_to 9223372036854775807) (codes "order") members) (chances_in members))

-- ---- other orders

-- A `deliver` has this order, whatever its own was.
abbrev pub step_in : DeliveryOrder → Step → Step
step_in order (steps.Deliver f own) = steps.Deliver f order
step_in order other = other

abbrev pub named_in : DeliveryOrder → NamedStep → NamedStep
named_in order x = record x { step = step_in order x.step }

-- The order that a seed draws in place of another one, whose chances stay.
abbrev pub order_under : ℕ → DeliveryOrder → DeliveryOrder
order_under seed (Unreliable own c) = Unreliable seed c
order_under seed other = Drawn seed

abbrev pub ordered_step : ℕ → Step → Step
ordered_step seed (steps.Deliver f own) = steps.Deliver f (order_under seed own)
ordered_step seed other = other

abbrev pub ordered_named : ℕ → NamedStep → NamedStep
ordered_named seed x = record x { step = ordered_step seed x.step }

-- The script under a seed, which draws the order of each of its `deliver` steps.
abbrev pub ordered : ℕ → Script → Script
ordered seed script = record script { steps = map (ordered_named seed) script.steps }
