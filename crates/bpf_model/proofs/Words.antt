-- The words of the stack hold numbers of their ranges, and go on to.
use Rattle.std.proofs.Common.{◌≡◌, ◌⊎◌, ℕ, zero, suc, ◌+◌, ◌-◌, ◌<◌, ◌≤◌, Bool, true, false, ◌&&◌, cond, eqb, ltb, List, [], ◌∷◌, length, get_or, Some, refl, sym, ap, subst, ◌∙◌, arith, inl, inr}
use Rattle.std.specs.Int.{w64, from_le_bytes}
use Rattle.std.specs.FinMap as map
use Rattle.std.proofs.lemmas.Bool.{lt-ltb, eqb-true, cases_lt}
use Rattle.bpf_num.specs.declared.AluWidth.TheVariants.{W64}
use Rattle.bpf_num.specs.Bind.{◌>>=◌}
use Rattle.bpf_decode.specs.declared.insn.Size.TheVariants.{Dw}
use Rattle.reg_ranges.specs.Ranges.{Range, In, is_single, full}
use Rattle.bpf_model.specs.Machine.{Memory, bytes_at, stored}
use Rattle.bpf_model.specs.Words.{Words, word_start, word_of, begins_at, may_write, words_after, word_at}
use Rattle.bpf_model.proofs.Options.{some_is, bind_some, and_true}
use Rattle.bpf_model.proofs.RangeLaws.{loaded_in}
use Rattle.bpf_model.proofs.Memories.{HoldsBytes, bytes_small, stored_outside, stored_within}

-- where the 8 bytes of a word are there, the number that they are is of its range
pub record HoldsWords (memory : Memory) (words : Words) : Type 0 where
  pub number : (w : ℕ) (bytes : List ℕ) → bytes_at memory (word_start w) 8 ≡ Some bytes → In (from_le_bytes w64 bytes) (words.ranges w)

-- any bytes are a number of 64 bits
pub in_full : (memory : Memory) (a : ℕ) (bytes : List ℕ) → HoldsBytes memory → bytes_at memory a 8 ≡ Some bytes → In (from_le_bytes w64 bytes) (full W64)
in_full memory a bytes small e =
    let i = loaded_in Dw false bytes (bytes_small memory a 8 bytes small e) in
    let low = i.low in
    let high = i.high in
    record { low = omega arith; high = omega (arith, high) }

-- ---- bytes

-- bytes that are there were there
pub bytes_kept : (before after : Memory) (a n : ℕ) → ((k byte : ℕ) → a ≤ k → k < a + n → map.get after k ≡ Some byte → map.get before k ≡ Some byte) → (bytes : List ℕ) → bytes_at after a n ≡ Some bytes → bytes_at before a n ≡ Some bytes
bytes_kept before after a zero kept bytes e = e
bytes_kept before after a (suc n) kept bytes e =
    let first = bind_some (map.get after a) (λ byte. bytes_at after (a + 1) n >>= λ rest. Some (byte ∷ rest)) bytes e in
    let rest = bind_some (bytes_at after (a + 1) n) (λ rest. Some (first.0 ∷ rest)) bytes first.2 in
    let here = kept a first.0 (omega arith) (omega arith) first.1 in
    let there = bytes_kept before after (a + 1) n (λ k byte low high. kept k byte (omega (arith, low)) (omega (arith, high))) rest.0 rest.1 in
    more first.0 rest.0 here there ∙ rest.2 where
      more : (byte : ℕ) (bytes : List ℕ) → map.get before a ≡ Some byte → bytes_at before (a + 1) n ≡ Some bytes → bytes_at before a (suc n) ≡ Some (byte ∷ bytes)
      more byte bytes e f = rw (e, f) refl

-- bytes at each place are bytes in a row
bytes_are : (memory : Memory) (a : ℕ) (bytes : List ℕ) → ((k : ℕ) → k < length bytes → map.get memory (a + k) ≡ Some (get_or bytes k 0)) → bytes_at memory a (length bytes) ≡ Some bytes
bytes_are memory a [] each = refl
bytes_are memory a (x ∷ xs) each =
    let here : map.get memory a ≡ Some x = let same : a ≡ a + 0 = omega arith in ap (λ (k : ℕ). map.get memory k) same ∙ each 0 (omega arith) in
    let rest = bytes_are memory (a + 1) xs (λ k less. let same : a + 1 + k ≡ a + suc k = omega arith in ap (λ (j : ℕ). map.get memory j) same ∙ each (suc k) (omega (arith, less))) in
    rw (here, rest) refl

-- what is stored is there
stored_whole : (memory : Memory) (a : ℕ) (bytes : List ℕ) → bytes_at (stored memory a bytes) a (length bytes) ≡ Some bytes
stored_whole memory a bytes =
    bytes_are (stored memory a bytes) a bytes (λ k less.
    let same : a + k - a ≡ k = omega arith in
    stored_within memory a bytes (a + k) (omega arith) (omega (arith, less)) ∙ ap (λ (j : ℕ). Some (get_or bytes j 0)) same)

-- ---- words

-- a word at which a write begins
pub begun : (words : Words) (address : Range) (w : ℕ) → begins_at words (Some address) w ≡ true → (address.lo ≡ word_start w) × (address.hi ≡ word_start w)
begun words address w e =
    let both = and_true (is_single address && eqb address.lo (word_start w)) (ltb w words.followed) e in
    let one = and_true (is_single address) (eqb address.lo (word_start w)) both.0 in
    let same = eqb-true address.lo address.hi one.0 in
    let at = eqb-true address.lo (word_start w) one.1 in
    (at, sym same ∙ at)

-- one that no write touches lies before or behind it
pub untouched : (address : Range) (size w : ℕ) → may_write (Some address) size w ≡ false → (word_start w + 8 ≤ address.lo) ⊎ (address.hi + size ≤ word_start w)
untouched address size w e =
    elim (cases_lt address.lo (word_start w + 8)) [
      | inl less ↦ elim (cases_lt (word_start w) (address.hi + size)) [
        | inl less2 ↦ absurd (let both = sym (ap (λ (b : Bool). b && ltb (word_start w) (address.hi + size)) (lt-ltb address.lo (word_start w + 8) less) ∙ lt-ltb (word_start w) (address.hi + size) less2) ∙ e in cc)
        | inr more ↦ inr more
      ]
      | inr more ↦ inl more
    ]

-- the bytes of a word that a write doesn't touch stay
pub word_stays : (memory : Memory) (address : ℕ) (bytes : List ℕ) (range : Range) (w : ℕ) → In address range → may_write (Some range) (length bytes) w ≡ false → (read : List ℕ) → bytes_at (stored memory address bytes) (word_start w) 8 ≡ Some read → bytes_at memory (word_start w) 8 ≡ Some read
word_stays memory address bytes range w i e read is =
    let low = i.low in
    let high = i.high in
    let apart = untouched range (length bytes) w e in
    bytes_kept memory (stored memory address bytes) (word_start w) 8 (λ k byte from to there. sym (stored_outside memory address bytes k (elim apart [
      | inl before ↦ inl (omega (arith, before, low, to))
      | inr behind ↦ inr (omega (arith, behind, high, from))
    ])) ∙ there) read is

-- what a store may leave in its word: the number that it stores, or any
abbrev pub Leaves : List ℕ → Range → Type 0
Leaves bytes value = ((length bytes ≡ 8) × In (from_le_bytes w64 bytes) value) ⊎ (value ≡ full W64)

pub words_stored : (memory : Memory) (words : Words) (address : ℕ) (bytes : List ℕ) (range value : Range) → HoldsWords memory words → HoldsBytes (stored memory address bytes) → In address range → Leaves bytes value → HoldsWords (stored memory address bytes) (words_after words (Some range) (length bytes) value)
words_stored memory words address bytes range value holds small i leaves = record {
  number = λ w read is. first w read is (begins_at words (Some range) w) refl;
} where
  after : Memory
  after = stored memory address bytes

  begins : (w : ℕ) (read : List ℕ) → bytes_at after (word_start w) 8 ≡ Some read → begins_at words (Some range) w ≡ true → ((length bytes ≡ 8) × In (from_le_bytes w64 bytes) value) ⊎ (value ≡ full W64) → In (from_le_bytes w64 read) value
  begins w read is e (inl (long, inside)) =
      let at = begun words range w e in
      let low = i.low in
      let high = i.high in
      let lo = at.0 in
      let hi = at.1 in
      let same : address ≡ word_start w = omega (arith, low, high, lo, hi) in
      let there : bytes_at after (word_start w) 8 ≡ Some bytes = ap (λ (a : ℕ). bytes_at after a 8) (sym same) ∙ ap (λ (n : ℕ). bytes_at after address n) (sym long) ∙ stored_whole memory address bytes in
      subst (λ (bs : List ℕ). In (from_le_bytes w64 bs) value) (some_is bytes read (sym there ∙ is)) inside
  begins w read is e (inr any) = subst (λ (r : Range). In (from_le_bytes w64 read) r) (sym any) (in_full after (word_start w) read small is)

  second : (w : ℕ) (read : List ℕ) → bytes_at after (word_start w) 8 ≡ Some read → (b : Bool) → may_write (Some range) (length bytes) w ≡ b → In (from_le_bytes w64 read) (cond b (full W64) (words.ranges w))
  second w read is true e = in_full after (word_start w) read small is
  second w read is false e = holds.number w read (word_stays memory address bytes range w i e read is)

  first : (w : ℕ) (read : List ℕ) → bytes_at after (word_start w) 8 ≡ Some read → (b : Bool) → begins_at words (Some range) w ≡ b → In (from_le_bytes w64 read) (cond b value (cond (may_write (Some range) (length bytes) w) (full W64) (words.ranges w)))
  first w read is true e = begins w read is e leaves
  first w read is false e = second w read is (may_write (Some range) (length bytes) w) refl

-- what a load of 8 bytes gives is of the range of its word
pub word_loaded : (memory : Memory) (words : Words) (address : ℕ) (range : Range) (bytes : List ℕ) → HoldsWords memory words → HoldsBytes memory → In address range → bytes_at memory address 8 ≡ Some bytes → In (from_le_bytes w64 bytes) (word_at words (Some range))
word_loaded memory words address range bytes holds small i is = cases (begins_at words (Some range) (word_of range.lo)) refl where
  cases : (b : Bool) → begins_at words (Some range) (word_of range.lo) ≡ b → In (from_le_bytes w64 bytes) (cond b (words.ranges (word_of range.lo)) (full W64))
  cases true e =
      let at = begun words range (word_of range.lo) e in
      let low = i.low in
      let high = i.high in
      let lo = at.0 in
      let hi = at.1 in
      let same : address ≡ word_start (word_of range.lo) = omega (arith, low, high, lo, hi) in
      holds.number (word_of range.lo) bytes (ap (λ (a : ℕ). bytes_at memory a 8) (sym same) ∙ is)
  cases false e = in_full memory address bytes small is
