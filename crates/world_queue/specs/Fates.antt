-- Statement: what becomes of each delivery of a step: which of the letters that are meant is handed over, lost or queued again, or which
-- replica times out in its place.
use Rattle.std.proofs.Common.{zero, suc}
use Rattle.std.specs.Prelude.{ℕ, ◌+◌, ◌*◌, ◌/◌, ◌%◌, List, get_or, nat_lt, if◌then◌else◌}
use Rattle.script_text.specs.Orders.{total}
use Rattle.script_text.specs.declared.script.Chances.{Chances}
use Rattle.script_text.specs.declared.script.DeliveryOrder.{DeliveryOrder}
use Rattle.script_text.specs.declared.script.DeliveryOrder.TheVariants.{Oldest, Drawn, Chosen, Unreliable}
use Rattle.world_queue.specs.declared.fates.Fate.{Fate}
use Rattle.world_queue.specs.declared.fates.Fate.TheVariants.{Handed, Lost, Repeated, TimedOut}

-- ---- what a seed draws, and a list chooses

-- the next state of the generator: times 6364136223846793005, plus 1442695040888963407, of 64 bits
abbrev pub next_state : ℕ → ℕ
next_state state = (state * 6364136223846793005 + 1442695040888963407) % 18446744073709551616

-- its state behind so many draws
abbrev pub state_behind : ℕ → ℕ → ℕ
state_behind seed zero = seed
state_behind seed (suc n) = next_state (state_behind seed n)

-- which of so many is drawn: the state without its last 33 bits, as the rest of a division
abbrev pub drawn : ℕ → ℕ → ℕ
drawn state count = (state / 8589934592) % count

-- which of so many letters these numbers choose behind n deliveries: the next number, or 0 behind the last, as the rest of a
-- division
abbrev pub chosen : List ℕ → ℕ → ℕ → ℕ
chosen numbers n count = get_or numbers n 0 % count

-- ---- fates

-- What becomes of a delivery of which this thousandth is drawn; the next state draws of which letter it is, or of which replica.
abbrev pub fate_by : Chances → ℕ → ℕ → ℕ → ℕ → Fate
fate_by c thousandth next letters replicas =
    if nat_lt thousandth c.lose then Lost (drawn next letters)
    else if nat_lt thousandth (c.lose + c.again) then Repeated (drawn next letters)
    else if nat_lt thousandth (total c) then TimedOut (record { 0 = drawn next replicas })
    else Handed (drawn next letters)

-- What becomes of the delivery behind n others, where so many letters are meant, of so many replicas. Of an order with chances a delivery
-- takes two draws.
abbrev pub fate : DeliveryOrder → ℕ → ℕ → ℕ → Fate
fate Oldest n letters replicas = Handed 0
fate (Drawn seed) n letters replicas = Handed (drawn (state_behind seed (suc n)) letters)
fate (Chosen numbers) n letters replicas = Handed (chosen numbers n letters)
fate (Unreliable seed c) n letters replicas =
    fate_by c (drawn (state_behind seed (suc (2 * n))) 1000) (state_behind seed (suc (suc (2 * n)))) letters replicas
