-- Statement: ranges of numbers, and what an operation makes of them. Both ends belong to a range; all bounds are unsigned.
use Rattle.std.specs.Prelude.{ℕ, ◌+◌, ◌-◌, ◌*◌, ◌/◌, ◌%◌, ◌^◌, ◌<◌, ◌≤◌, min, max, Bool, ◌&&◌, ◌||◌, not, ◌==◌, nat_le, nat_lt, if◌then◌else◌}
use Rattle.std.specs.Int.{w64, leading_zeros}
use Rattle.bpf_num.specs.declared.AluOp.{AluOp}
use Rattle.bpf_num.specs.declared.AluOp.TheVariants.{Add, Sub, Mul, Div, Sdiv, Or, And, Lsh, Rsh, Neg, Mod, Smod, Xor, Mov, Movsx8, Movsx16, Movsx32, Arsh}
use Rattle.bpf_num.specs.declared.AluWidth.{AluWidth}
use Rattle.bpf_num.specs.declared.AluWidth.TheVariants.{W32, W64}
use Rattle.bpf_num.specs.declared.swap.SwapKind.{SwapKind}
use Rattle.bpf_num.specs.declared.swap.SwapKind.TheVariants.{Le, Be, Swap}
use Rattle.bpf_num.specs.declared.swap.Width.{Width}
use Rattle.bpf_num.specs.Arithmetic.{bits_of, modulus, shift_count, result_of}
use Rattle.bpf_num.specs.ByteSwap.{byte_swap_of, swap_bits}

pub record Range : Type 0 where
  pub lo : ℕ
  pub hi : ℕ

-- A number of the range.
pub record In (x : ℕ) (r : Range) : Type 0 where
  pub low : r.lo ≤ x
  pub high : x ≤ r.hi

-- The ends are in order, and numbers of a width.
pub record WellFormed (width : AluWidth) (r : Range) : Type 0 where
  pub ordered : r.lo ≤ r.hi
  pub below : r.hi < modulus width

abbrev pub range : ℕ → ℕ → Range
range lo hi = record { lo = lo; hi = hi }

-- The range of one number alone.
abbrev pub single : ℕ → Range
single x = range x x

abbrev pub is_single : Range → Bool
is_single r = r.lo == r.hi

-- All numbers of a width.
abbrev pub full : AluWidth → Range
full width = range 0 (modulus width - 1)

-- The join: the least range that holds both.
abbrev pub join_of : Range → Range → Range
join_of a b = range (min a.lo b.lo) (max a.hi b.hi)

-- Both or neither.
abbrev pub alike : Bool → Bool → Bool
alike a b = a && b || not (a || b)

-- A sum's ends wrap, both or neither; where one wraps alone, the range is full.
abbrev pub sum_range : AluWidth → Range → Range → Range
sum_range width a b =
    if alike (nat_le (modulus width) (a.lo + b.lo)) (nat_le (modulus width) (a.hi + b.hi)) then
    range ((a.lo + b.lo) % modulus width) ((a.hi + b.hi) % modulus width)
    else full width

-- A difference's ends are negative, both or neither; where one is alone, the range is full.
abbrev pub difference_range : AluWidth → Range → Range → Range
difference_range width a b =
    if alike (nat_lt a.lo b.hi) (nat_lt a.hi b.lo) then
    range ((a.lo + (modulus width - b.hi)) % modulus width) ((a.hi + (modulus width - b.lo)) % modulus width)
    else full width

abbrev pub product_range : AluWidth → Range → Range → Range
product_range width a b =
    if nat_lt (a.hi * b.hi) (modulus width) then range (a.lo * b.lo) (a.hi * b.hi) else full width

abbrev pub quotient_range : Range → Range → Range
quotient_range a b = if nat_lt 0 b.lo then range (a.lo / b.hi) (a.hi / b.lo) else range 0 a.hi

abbrev pub rest_range : Range → Range → Range
rest_range a b =
    if nat_lt 0 b.lo then (if nat_lt a.hi b.lo then a else range 0 (min a.hi (b.hi - 1)))
    else range 0 a.hi

-- The least 2^j - 1 that isn't below either number: all bits up to the highest that is set.
abbrev pub all_bits : ℕ → ℕ → ℕ
all_bits x y = 2 ^ (64 - leading_zeros w64 (max x y)) - 1

-- A shift by a single count, unless the top leaves the width.
abbrev pub left_shift_range : AluWidth → Range → Range → Range
left_shift_range width a b =
    if is_single b && nat_lt (a.hi * 2 ^ shift_count width b.lo) (modulus width) then
    range (a.lo * 2 ^ shift_count width b.lo) (a.hi * 2 ^ shift_count width b.lo)
    else full width

abbrev pub right_shift_range : AluWidth → Range → Range → Range
right_shift_range width a b =
    if is_single b then range (a.lo / 2 ^ shift_count width b.lo) (a.hi / 2 ^ shift_count width b.lo)
    else range 0 a.hi

-- No number has its sign bit set.
abbrev pub is_positive : AluWidth → Range → Bool
is_positive width r = nat_lt r.hi (2 ^ (bits_of width - 1))

abbrev pub extended_range : AluWidth → AluOp → ℕ → Range → Range
extended_range width op bits b =
    if is_single b then single (result_of width op 0 b.lo)
    else if nat_lt b.hi (2 ^ (bits - 1)) then b
    else full width

abbrev pub negation_range : AluWidth → Range → Range
negation_range width a =
    if is_single a then single (result_of width Neg a.lo 0)
    else if nat_lt 0 a.lo then range (modulus width - a.hi) (modulus width - a.lo)
    else full width

-- Of operands that aren't both single numbers.
abbrev pub wide_range : AluWidth → AluOp → Range → Range → Range
wide_range width Add a b = sum_range width a b
wide_range width Sub a b = difference_range width a b
wide_range width Mul a b = product_range width a b
wide_range width Div a b = quotient_range a b
wide_range width Sdiv a b = if is_positive width a && is_positive width b then quotient_range a b else full width
wide_range width Or a b = range (max a.lo b.lo) (all_bits a.hi b.hi)
wide_range width And a b = range 0 (min a.hi b.hi)
wide_range width Lsh a b = left_shift_range width a b
wide_range width Rsh a b = right_shift_range width a b
wide_range width Neg a b = negation_range width a
wide_range width Mod a b = rest_range a b
wide_range width Smod a b = if is_positive width a && is_positive width b then rest_range a b else full width
wide_range width Xor a b = range 0 (all_bits a.hi b.hi)
wide_range width Mov a b = b
wide_range width Movsx8 a b = extended_range width Movsx8 8 b
wide_range width Movsx16 a b = extended_range width Movsx16 16 b
wide_range width Movsx32 a b = extended_range width Movsx32 32 b
wide_range width Arsh a b = if is_positive width a then right_shift_range width a b else full width

-- What an operation makes of its operands' ranges. Of two single numbers it is the result.
abbrev pub transfer_of : AluWidth → AluOp → Range → Range → Range
transfer_of width op a b =
    if is_single a && is_single b then single (result_of width op a.lo b.lo) else wide_range width op a b

-- The range of the low half of a number.
abbrev pub truncate : Range → Range
truncate r =
    if is_single r then single (r.lo % 2 ^ 32)
    else if nat_lt r.hi (2 ^ 32) then r
    else full W32

-- Class ALU64.
abbrev pub transfer64_of : AluOp → Range → Range → Range
transfer64_of op a b = transfer_of W64 op a b

-- Class ALU: of low halves.
abbrev pub transfer32_of : AluOp → Range → Range → Range
transfer32_of op a b = transfer_of W32 op (truncate a) (truncate b)

-- A byte swap.
abbrev pub swap_range_of : SwapKind → Width → Range → Range
swap_range_of kind width a = if is_single a then single (byte_swap_of kind width a.lo) else wide kind where
  wide : SwapKind → Range
  wide Le = if nat_lt a.hi (2 ^ swap_bits width) then a else range 0 (2 ^ swap_bits width - 1)
  wide Be = range 0 (2 ^ swap_bits width - 1)
  wide Swap = range 0 (2 ^ swap_bits width - 1)
