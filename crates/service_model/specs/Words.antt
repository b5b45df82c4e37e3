-- Statement: numbers as bytes, high byte first.
use Rattle.std.specs.Prelude.{ℕ, List}
use Rattle.std.specs.Int.{w32, w64, to_be_bytes}

unfoldable pub u32_bytes : ℕ → List ℕ
u32_bytes number = to_be_bytes w32 number

unfoldable pub u64_bytes : ℕ → List ℕ
u64_bytes number = to_be_bytes w64 number
