-- Statement: what is left to do: a number that each act which does what is due lowers.
use Rattle.std.specs.Prelude.{ℕ, ◌+◌, ◌-◌, ◌*◌, Bool, cond}
use Rattle.pbft_model.specs.Words.{leaf_count}
use Rattle.pbft_model.specs.Setup.{number_limit, view_limit}
use Rattle.pbft_model.specs.Core.{Core}

abbrev pub bit : Bool → ℕ
bit b = cond b 1 0

-- where the replica stands among views: at even steps it changes to one, at odd ones it is active in it
abbrev pub stage : Core → ℕ
stage s = 2 * s.view + bit s.active

-- the leaves left, the numbers left to execute and to discard, the views left, and the turn of a message just taken
abbrev pub left_to_do : Core → ℕ
left_to_do s =
    (leaf_count s.signer - s.signer.next_leaf) + (number_limit - s.executed) + (number_limit - s.low) + (2 * view_limit - stage s) + bit s.is_fresh
