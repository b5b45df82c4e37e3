-- Statement: what is read of a message's bytes that were cut, that go on behind it, or that are too many.
use Rattle.std.specs.Prelude.{◌≡◌, ℕ, ◌<◌, ◌≤◌, List, ◌++◌, length, take, Err}
use Rattle.codec_fields.specs.declared.fault.CodecFault.TheVariants.{Truncated, Trailing, TooLong}
use Rattle.pbft_codec.specs.Encoding.{max_bytes}
use Rattle.pbft_codec.specs.Reading.{reading}

-- Every proper prefix is Truncated.
abbrev pub IsTruncatedWhereCut : List ℕ → Type 0
IsTruncatedWhereCut bytes = (count : ℕ) → count < length bytes → reading (take count bytes) ≡ Err Truncated

-- With more bytes behind them, and no more in all than a message has, they are Trailing.
abbrev pub IsTrailingBeforeMore : List ℕ → Type 0
IsTrailingBeforeMore bytes =
    (more : List ℕ) → 0 < length more → length (bytes ++ more) ≤ max_bytes → reading (bytes ++ more) ≡ Err Trailing

abbrev pub AreTooLong : Type 0
AreTooLong = (bytes : List ℕ) → max_bytes < length bytes → reading bytes ≡ Err TooLong
