-- Statement: what a test that was taken, or wasn't, says of the ranges of its operands.
use Rattle.std.specs.Prelude.{ℕ, ◌+◌, ◌-◌, ◌^◌, min, max, Bool, true, false, ◌&&◌, ◌||◌, not, ◌==◌, nat_le, nat_lt, if◌then◌else◌, Option, Some, None}
use Rattle.std.specs.Option.{option_map}
use Rattle.bpf_num.specs.declared.jump.Test.{Test}
use Rattle.bpf_num.specs.declared.jump.Test.TheVariants.{Jeq, Jgt, Jge, Jset, Jne, Jsgt, Jsge, Jlt, Jle, Jslt, Jsle}
use Rattle.bpf_num.specs.declared.AluWidth.{AluWidth}
use Rattle.bpf_num.specs.declared.AluWidth.TheVariants.{W32, W64}
use Rattle.bpf_num.specs.Jump.{jump_test_of}
use Rattle.reg_ranges.specs.Ranges.{Range, In, range, is_single, is_positive}

-- The ranges of the operands of a test.
pub record Ranges : Type 0 where
  pub a : Range
  pub b : Range

abbrev pub ranges : Range → Range → Ranges
ranges a b = record { a = a; b = b }

abbrev pub exchanged : Ranges → Ranges
exchanged r = ranges r.b r.a

-- The numbers of a range but this one, where it is an end.
abbrev pub without : Range → ℕ → Range
without r x =
    if r.lo == x then range (r.lo + 1) r.hi
    else if r.hi == x then range r.lo (r.hi - 1)
    else r

abbrev pub equal_edge : Range → Range → Option Ranges
equal_edge a b =
    if nat_le (max a.lo b.lo) (min a.hi b.hi) then
    Some (ranges (range (max a.lo b.lo) (min a.hi b.hi)) (range (max a.lo b.lo) (min a.hi b.hi)))
    else None

-- An operand loses an end that is equal to the other, if that is a single number.
abbrev pub unequal_edge : Range → Range → Option Ranges
unequal_edge a b =
    Some (ranges (if is_single b then without a b.lo else a) (if is_single a then without b a.lo else b))

abbrev pub greater_edge : Range → Range → Option Ranges
greater_edge a b =
    if nat_le a.hi b.lo then None
    else Some (ranges (range (max a.lo (b.lo + 1)) a.hi) (range b.lo (min b.hi (a.hi - 1))))

abbrev pub greater_or_equal_edge : Range → Range → Option Ranges
greater_or_equal_edge a b =
    if nat_lt a.hi b.lo then None else Some (ranges (range (max a.lo b.lo) a.hi) (range b.lo (min b.hi a.hi)))

-- A signed test is the unsigned one where no number has its sign bit set.
abbrev pub signed_edge : AluWidth → Range → Range → Option Ranges → Option Ranges
signed_edge width a b edge = if is_positive width a && is_positive width b then edge else Some (ranges a b)

abbrev pub is_zero : Range → Bool
is_zero r = r.hi == 0

-- A test that is taken.
abbrev pub taken_edge : AluWidth → Test → Range → Range → Option Ranges
taken_edge width Jeq a b = equal_edge a b
taken_edge width Jne a b = unequal_edge a b
taken_edge width Jgt a b = greater_edge a b
taken_edge width Jge a b = greater_or_equal_edge a b
taken_edge width Jlt a b = option_map exchanged (greater_edge b a)
taken_edge width Jle a b = option_map exchanged (greater_or_equal_edge b a)
taken_edge width Jset a b = if is_zero a || is_zero b then None else Some (ranges a b)
taken_edge width Jsgt a b = signed_edge width a b (greater_edge a b)
taken_edge width Jsge a b = signed_edge width a b (greater_or_equal_edge a b)
taken_edge width Jslt a b = signed_edge width a b (option_map exchanged (greater_edge b a))
taken_edge width Jsle a b = signed_edge width a b (option_map exchanged (greater_or_equal_edge b a))

-- A test that isn't taken: its negation is.
abbrev pub refuted_edge : AluWidth → Test → Range → Range → Option Ranges
refuted_edge width Jeq a b = unequal_edge a b
refuted_edge width Jne a b = equal_edge a b
refuted_edge width Jgt a b = taken_edge width Jle a b
refuted_edge width Jge a b = taken_edge width Jlt a b
refuted_edge width Jlt a b = greater_or_equal_edge a b
refuted_edge width Jle a b = greater_edge a b
refuted_edge width Jset a b = Some (ranges a b)
refuted_edge width Jsgt a b = taken_edge width Jsle a b
refuted_edge width Jsge a b = taken_edge width Jslt a b
refuted_edge width Jslt a b = taken_edge width Jsge a b
refuted_edge width Jsle a b = taken_edge width Jsgt a b

abbrev pub wide_edge : AluWidth → Test → Range → Range → Bool → Option Ranges
wide_edge width test a b true = taken_edge width test a b
wide_edge width test a b false = refuted_edge width test a b

-- In class JMP32 a range that isn't of low halves says nothing.
abbrev pub narrow_edge : Test → Range → Range → Bool → Option Ranges
narrow_edge test a b taken =
    if nat_lt a.hi (2 ^ 32) && nat_lt b.hi (2 ^ 32) then wide_edge W32 test a b taken else Some (ranges a b)

abbrev pub edge_of : Test → Bool → Range → Range → Bool → Option Ranges
edge_of test true a b taken = narrow_edge test a b taken
edge_of test false a b taken = wide_edge W64 test a b taken

abbrev pub same : Bool → Bool → Bool
same true b = b
same false b = not b

-- The new ranges of a test's operands, or none where the edge can't be taken. Two single numbers decide it.
abbrev pub refine_of : Test → Bool → Range → Range → Bool → Option Ranges
refine_of test narrow a b taken =
    if is_single a && is_single b then
    (if same (jump_test_of test narrow a.lo b.lo) taken then Some (ranges a b) else None)
    else edge_of test narrow a b taken

-- An edge that can be taken, and keeps these numbers.
abbrev pub Keeps : Option Ranges → ℕ → ℕ → Type 0
Keeps None x y = ⊥
Keeps (Some r) x y = In x r.a × In y r.b
