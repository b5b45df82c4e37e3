-- Statement: what is known of the words of the stack. A word is 8 bytes, the least first, that begin at a multiple of 8.
use Rattle.std.specs.Prelude.{ℕ, ◌+◌, ◌-◌, ◌*◌, ◌/◌, Bool, false, ◌&&◌, ◌==◌, nat_lt, if◌then◌else◌, Option, Some, None}
use Rattle.bpf_num.specs.declared.AluWidth.TheVariants.{W64}
use Rattle.bpf_decode.specs.declared.insn.Size.{Size}
use Rattle.bpf_decode.specs.declared.insn.Size.TheVariants.{B, H, W, Dw}
use Rattle.reg_ranges.specs.Ranges.{Range, is_single, full, join_of}
use Rattle.bpf_model.specs.declared.profile.Profile.{Profile}
use Rattle.bpf_model.specs.Machine.{frame_start, is_in_frame}
use Rattle.bpf_model.specs.Profiles.{followed_words}

-- How many words are followed, from the first of the stack on, and the range of the number that each holds. That of a
-- word of which nothing is known is full.
pub record Words : Type 0 where
  pub followed : ℕ
  pub ranges : ℕ → Range

-- As a call begins nothing is known of any word.
abbrev pub start_words : Profile → Words
start_words profile = record { followed = followed_words profile; ranges = λ w. full W64 }

-- The address of a word.
abbrev pub word_start : ℕ → ℕ
word_start w = frame_start 0 + 8 * w

-- The word that holds the byte at an address of the stack.
abbrev pub word_of : ℕ → ℕ
word_of address = (address - frame_start 0) / 8

-- Whether an access begins at a word for certain, and the word is followed.
abbrev pub begins_at : Words → Option Range → ℕ → Bool
begins_at words None w = false
begins_at words (Some address) w = is_single address && address.lo == word_start w && nat_lt w words.followed

-- Whether a write of so many bytes may touch a word.
abbrev pub may_write : Option Range → ℕ → ℕ → Bool
may_write None size w = false
may_write (Some address) size w = nat_lt address.lo (word_start w + 8) && nat_lt (word_start w) (address.hi + size)

-- What is known of a number that a store writes: nothing, unless it writes all 8 bytes.
abbrev pub stored_range : Size → Range → Range
stored_range Dw value = value
stored_range _ value = full W64

-- The words after a store: the one that it begins at for certain holds what was stored; nothing is known of another one
-- that it may touch.
abbrev pub words_after : Words → Option Range → ℕ → Range → Words
words_after words address size value = record {
  followed = words.followed;
  ranges = λ w.
      if begins_at words address w then value
      else if may_write address size w then full W64
      else words.ranges w;
}

-- What a load of 8 bytes gives where it begins at a word for certain.
abbrev pub word_at : Words → Option Range → Range
word_at words None = full W64
word_at words (Some address) =
    if begins_at words (Some address) (word_of address.lo) then words.ranges (word_of address.lo) else full W64

-- The join of what two states say of the words: a word holds a number that one of both has.
abbrev pub join_words : Words → Words → Words
join_words a b = record { followed = a.followed; ranges = λ w. join_of (a.ranges w) (b.ranges w) }

-- Without the words of frame d.
abbrev pub words_without : ℕ → Words → Words
words_without d words = record {
  followed = words.followed;
  ranges = λ w. if is_in_frame d (word_start w) then full W64 else words.ranges w;
}
