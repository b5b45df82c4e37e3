-- Internal: the draws of an order, one delivery after another.
use Rattle.std.specs.Prelude.{ℕ, ◌*◌, ◌<◌}
use Rattle.script_text.specs.declared.script.DeliveryOrder.{DeliveryOrder}
use Rattle.script_text.specs.declared.script.DeliveryOrder.TheVariants.{Oldest, Drawn, Chosen, Unreliable}
use Rattle.world_queue.specs.declared.fates.Fate.{Fate}
use Rattle.world_queue.specs.declared.fates.Fate.TheVariants.{Handed, Lost, Repeated, TimedOut}

-- the seed of an order; 0 where none is drawn
abbrev pub seed_of : DeliveryOrder → ℕ
seed_of Oldest = 0
seed_of (Drawn seed) = seed
seed_of (Chosen numbers) = 0
seed_of (Unreliable seed c) = seed

-- how often the generator went on for so many deliveries
abbrev pub draws : DeliveryOrder → ℕ → ℕ
draws (Unreliable seed c) n = 2 * n
draws other n = n

-- There is a letter, and if the fate is one's it is among so many.
abbrev pub IsWithin : ℕ → Fate → Type 0
IsWithin count (Handed passed) = passed < count
IsWithin count (Lost passed) = passed < count
IsWithin count (Repeated passed) = passed < count
IsWithin count (TimedOut at) = 0 < count
