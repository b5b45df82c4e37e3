-- Statement: the registers' ranges as two lists of ends and a mask, whose bit r says that register r holds a number.
use Rattle.std.specs.Prelude.{ℕ, ◌≤◌, ◌==◌, ◌&&◌, nat_lt, Bool, List, slice_index_or, Option, Some, None, if◌then◌else◌}
use Rattle.std.specs.Int.{bit_at}
use Rattle.reg_ranges.specs.Ranges.{Range, range}

-- The lower end of each range is at most the upper one.
abbrev pub AreOrdered : List ℕ → List ℕ → Type 0
AreOrdered lo hi = (r : ℕ) → slice_index_or lo r 0 ≤ slice_index_or hi r 0

-- The mask says that a register, r0 to r10, holds a number.
abbrev pub is_known : ℕ → ℕ → Bool
is_known known r = nat_lt r 11 && bit_at known r == 1

-- The range of a register that the mask says to hold a number.
abbrev pub range_at : List ℕ → List ℕ → ℕ → ℕ → Option Range
range_at lo hi known r =
    if is_known known r then Some (range (slice_index_or lo r 0) (slice_index_or hi r 0))
    else None
