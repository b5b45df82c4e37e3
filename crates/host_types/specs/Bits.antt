-- Internal: sets of numbers as the bits of four words.
use Rattle.std.specs.Prelude.{ℕ, zero, suc, ◌/◌, ◌%◌, Bool, cond, List, nat_eq, slice_index}
use Rattle.std.specs.Int.{bit_at}
use Rattle.std.specs.Ordering.{nat_cmp}
use Rattle.std.specs.FinSet as set

-- bit `id % 64` of word `id / 64`
abbrev pub has_bit : List ℕ → ℕ → Bool
has_bit words id = nat_eq (bit_at (slice_index words (id / 64)) (id % 64)) 1

-- the numbers below n whose bits are set
unfoldable pub bits_below : List ℕ → ℕ → set.FinSet nat_cmp
bits_below words zero = set.empty
bits_below words (suc n) = cond (has_bit words n) (set.insert (bits_below words n) n) (bits_below words n)
