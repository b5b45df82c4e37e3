-- Fates worked by another program, each of which a likely wrong definition gives another.
use Rattle.std.proofs.Common.{◌≡◌, ℕ, refl}
use Rattle.script_text.specs.declared.script.Chances.{Chances}
use Rattle.script_text.specs.declared.script.DeliveryOrder.TheVariants.{Drawn, Unreliable}
use Rattle.world_queue.specs.Fates.{fate}
use Rattle.world_queue.specs.declared.fates.Fate.{Fate}
use Rattle.world_queue.specs.declared.fates.Fate.TheVariants.{Handed, Lost, Repeated, TimedOut}

-- of 8 letters and 4 replicas
abbrev fate_of : ℕ → ℕ → ℕ → ℕ → ℕ → Fate
fate_of seed lose again late n = fate (Unreliable seed (record { lose = lose; again = again; late = late })) n 8 4

-- Seed 6 draws the thousandth 311 first, and then of 8 the one of number 6, of 4 that of number 2. A letter that is drawn first would have
-- its thousandth from the second draw, 502.
lost : fate_of 6 312 0 0 0 ≡ Lost 6
lost = refl

-- a chance of 311 has the thousandths below it, and not its own
handed : fate_of 6 311 0 0 0 ≡ Handed 6
handed = refl

-- losses have the first thousandths, repeats the next, and late replicas those behind
lost_before_repeated : fate_of 6 400 400 200 0 ≡ Lost 6
lost_before_repeated = refl

repeated : fate_of 6 300 12 600 0 ≡ Repeated 6
repeated = refl

late : fate_of 6 300 11 1 0 ≡ TimedOut (record { 0 = 2 })
late = refl

handed_behind_all : fate_of 6 100 100 111 0 ≡ Handed 6
handed_behind_all = refl

-- The second delivery has the third draw, 493, and the fourth, not the second and the third.
second : fate_of 6 494 0 0 1 ≡ Lost 7
second = refl

-- without chances each delivery has one draw
plain : fate (Drawn 6) 0 8 4 ≡ Handed 7
plain = refl

plain_second : fate (Drawn 6) 1 8 4 ≡ Handed 6
plain_second = refl
