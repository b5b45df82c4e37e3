-- Statement: how bytes are told to a caller, by a buffer, a status and a length.
use Rattle.std.specs.Prelude.{◌≡◌, ◌⊎◌, ℕ, ◌<◌, ◌++◌, List, drop, length}

-- These bytes are told by a buffer before and after, a status and a length: the status is 0 and they stand at its front, what
-- is behind them as it was; or it is 35, there are more of them than the buffer has room for, and it stayed as it was.
abbrev pub AreTold : List ℕ → ℕ → ℕ → List ℕ → List ℕ → Type 0
AreTold bytes status told before after =
    (told ≡ length bytes)
    × (((status ≡ 0) × (after ≡ bytes ++ drop (length bytes) before))
    ⊎ ((status ≡ 35) × (length before < length bytes) × (after ≡ before)))
