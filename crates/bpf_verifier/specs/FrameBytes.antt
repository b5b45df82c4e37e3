-- Statement: the bytes of the stack as bits of 64-bit words, the least bit first.
use Rattle.std.specs.Prelude.{◌≡◌, ℕ, ◌+◌, ◌/◌, ◌%◌, ◌<◌, ◌≤◌, ◌==◌, Bool, List, slice_index_or}
use Rattle.std.specs.Int.{bit_at}
use Rattle.bpf_model.specs.Machine.{frame_start}

-- Whether the words hold byte i.
abbrev pub has_byte : List ℕ → ℕ → Bool
has_byte words i = bit_at (slice_index_or words (i / 64) 0) (i % 64) == 1

-- The words hold the bytes of the stack's eight frames that are initialized, a bit each.
abbrev pub AreBitsOf : List ℕ → (ℕ → Bool) → Type 0
AreBitsOf words init = (i : ℕ) → i < 4096 → has_byte words i ≡ init (frame_start 0 + i)

-- From one on the words are 0.
abbrev pub AreZeroFrom : ℕ → List ℕ → Type 0
AreZeroFrom used words = (n : ℕ) → used ≤ n → slice_index_or words n 0 ≡ 0
