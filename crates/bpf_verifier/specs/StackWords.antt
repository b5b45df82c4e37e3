-- Statement: what the verifier's array says of the words of the stack.
use Rattle.std.specs.Prelude.{◌≡◌, ℕ, ◌^◌, ◌<◌, ◌≤◌, ◌==◌, Bool, true, false, List, slice_get, Option, Some, None}
use Rattle.bpf_num.specs.declared.AluWidth.TheVariants.{W64}
use Rattle.reg_ranges.specs.Ranges as reg
use Rattle.reg_ranges.specs.Ranges.{full}
use Rattle.reg_ranges.specs.RangeOf.{range_of}
use Rattle.reg_ranges.specs.declared.range.Range.{Range}
use Rattle.bpf_decode.specs.declared.insn.Size.{Size}
use Rattle.bpf_decode.specs.declared.insn.Size.TheVariants.{B, H, W, Dw}
use Rattle.bpf_model.specs.Words.{Words}

-- The range of a word; of one behind the array nothing is known.
abbrev pub range_in : Option Range → reg.Range
range_in None = full W64
range_in (Some r) = range_of r

abbrev pub word_range : List Range → ℕ → reg.Range
word_range ranges w = range_in (slice_get ranges w)

-- The array is of so many words, as many as are followed.
pub record AreWordsOf (n : ℕ) (ranges : List Range) (words : Words) : Type 0 where
  pub followed_is : words.followed ≡ n
  pub ranges_are : (w : ℕ) → w < n → word_range ranges w ≡ words.ranges w

-- From one on nothing is known of the words.
abbrev pub AreFullFrom : ℕ → List Range → Type 0
AreFullFrom used ranges = (w : ℕ) → used ≤ w → word_range ranges w ≡ full W64

-- Each range is of numbers of 64 bits.
abbrev pub AreNumbers : List Range → Type 0
AreNumbers ranges = (w : ℕ) → (word_range ranges w).hi < 2 ^ 64

-- This word is the one, where there is one.
abbrev pub is_word : Option ℕ → ℕ → Bool
is_word None w = false
is_word (Some word) w = w == word

-- Whether a load takes 8 bytes as they are.
abbrev pub is_word_load : Size → Bool → Bool
is_word_load B signed = false
is_word_load H signed = false
is_word_load W signed = false
is_word_load Dw true = false
is_word_load Dw false = true
