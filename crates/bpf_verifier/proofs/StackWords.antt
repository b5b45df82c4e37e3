-- The array of the stack's words, as it is read and written.
use Rattle.std.proofs.Common.{◌≡◌, ◌⊎◌, ℕ, zero, suc, ◌+◌, ◌-◌, ◌*◌, ◌^◌, ◌<◌, ◌≤◌, min, max, Bool, true, false, ◌&&◌, cond, eqb, leb, ltb, List, [], ◌∷◌, length, get_or, set, replicate, Option, Some, None, refl, sym, ap, subst, ◌∙◌, arith, inl, inr}
use Rattle.std.proofs.lemmas.Bool.{lt-ltb, ltb-true, le-leb, leb-true, cases_lt}
use Rattle.std.proofs.lemmas.Bool.Decides.{eqb_tells}
use Rattle.bpf_num.specs.declared.AluWidth.TheVariants.{W64}
use Rattle.reg_ranges.specs.Ranges as reg
use Rattle.reg_ranges.specs.RangeOf.{range_of}
use Rattle.reg_ranges.specs.declared.range.Range.{Range}
use Rattle.bpf_decode.specs.declared.insn.Size.{Size}
use Rattle.bpf_decode.specs.declared.insn.Size.TheVariants.{B, H, W, Dw}
use Rattle.bpf_model.specs.AbstractState.{AbstractState, loaded_range, range_after_load}
use Rattle.bpf_model.specs.Machine.{frame_start, frame_end, is_in_frame}
use Rattle.bpf_model.specs.Words.{Words, word_start, word_of, begins_at, may_write, words_after, word_at}
use Rattle.bpf_model.proofs.Options.{and_true}
use Rattle.bpf_model.proofs.Words.{begun, untouched}
use Rattle.bpf_verifier.specs.StackWords.{word_range, AreWordsOf, AreFullFrom, AreNumbers, is_word, is_word_load}

pub word_get : (xs : List Range) (w : ℕ) (d : Range) → w < length xs → range_of (get_or xs w d) ≡ word_range xs w
word_get [] w d h = absurd (omega arith)
word_get (x ∷ xs) zero d h = refl
word_get (x ∷ xs) (suc w) d h = word_get xs w d (omega (arith, h))

pub word_past : (xs : List Range) (w : ℕ) → length xs ≤ w → word_range xs w ≡ reg.full W64
word_past [] w h = refl
word_past (x ∷ xs) zero h = absurd (omega (arith, h))
word_past (x ∷ xs) (suc w) h = word_past xs w (omega (arith, h))

pub word_replicate : (n : ℕ) (x : Range) (w : ℕ) → range_of x ≡ reg.full W64 → word_range (replicate n x) w ≡ reg.full W64
word_replicate zero x w is = refl
word_replicate (suc n) x zero is = is
word_replicate (suc n) x (suc w) is = word_replicate n x w is

word_set_same : (xs : List Range) (i : ℕ) (x : Range) → i < length xs → word_range (set xs i x) i ≡ range_of x
word_set_same [] i x h = absurd (omega arith)
word_set_same (y ∷ ys) zero x h = refl
word_set_same (y ∷ ys) (suc i) x h = word_set_same ys i x (omega (arith, h))

word_set_other : (xs : List Range) (i : ℕ) (x : Range) (w : ℕ) → (w ≡ i → ⊥) → word_range (set xs i x) w ≡ word_range xs w
word_set_other [] i x w apart = refl
word_set_other (y ∷ ys) zero x zero apart = absurd (apart refl)
word_set_other (y ∷ ys) zero x (suc w) apart = refl
word_set_other (y ∷ ys) (suc i) x zero apart = refl
word_set_other (y ∷ ys) (suc i) x (suc w) apart = word_set_other ys i x w (λ e. apart (ap suc e))

-- one word is written
pub word_set : (xs : List Range) (i : ℕ) (x : Range) (w : ℕ) → i < length xs → word_range (set xs i x) w ≡ cond (eqb w i) (range_of x) (word_range xs w)
word_set xs i x w h =
    elim (eqb_tells w i) [
      | inl (t, same) ↦ ap (word_range (set xs i x)) same ∙ word_set_same xs i x h ∙ sym (ap (λ (b : Bool). cond b (range_of x) (word_range xs w)) t)
      | inr (f, apart) ↦ word_set_other xs i x w apart ∙ sym (ap (λ (b : Bool). cond b (range_of x) (word_range xs w)) f)
    ]

-- ---- words that are written in a row

-- each word from the first one on and before another is what f says, the others are as before
abbrev pub AreWritten : ℕ → ℕ → (ℕ → reg.Range) → List Range → List Range → Type 0
AreWritten first next f before after =
    (w : ℕ) → ((first ≤ w) × (w < next) × (word_range after w ≡ f w)) ⊎ (((w < first) ⊎ (next ≤ w)) × (word_range after w ≡ word_range before w))

pub written_none : (first next : ℕ) (f : ℕ → reg.Range) (xs : List Range) → next ≤ first → AreWritten first next f xs xs
written_none first next f xs none w =
    inr (elim (cases_lt w first) [ inl lt ↦ inl lt | inr le ↦ inr (omega (arith, le, none)) ], refl)

pub written_more : (first next : ℕ) (f : ℕ → reg.Range) (before after : List Range) (x : Range) → first ≤ next → next < length after → range_of x ≡ f next → AreWritten first next f before after → AreWritten first (next + 1) f before (set after next x)
written_more first next f before after x low inside is all w =
    elim (eqb_tells w next) [
      | inl (t, same) ↦ inl (omega (arith, low, same), omega (arith, same), ap (word_range (set after next x)) same ∙ word_set_same after next x inside ∙ is ∙ ap f (sym same))
      | inr (t, apart) ↦ elim (all w) [
        | inl (from, to, there) ↦ inl (from, omega (arith, to), word_set_other after next x w apart ∙ there)
        | inr (out, there) ↦ inr (elim out [ inl lt ↦ inl lt | inr le ↦ inr (omega (arith, le, apart)) ], word_set_other after next x w apart ∙ there)
      ]
    ]

-- ---- words that are forgotten

pub forgotten : (first behind used next : ℕ) (before after : List Range) → AreWritten first next (λ w. reg.full W64) before after → min behind used ≤ next → (first < next → next ≤ min behind used) → AreFullFrom used before → (w : ℕ) (b : Bool) → (b ≡ true → (first ≤ w) × (w < behind)) → (b ≡ false → (w < first) ⊎ (behind ≤ w)) → word_range after w ≡ cond b (reg.full W64) (word_range before w)
forgotten first behind used next before after all stop within rest w true whole kept =
    let is = whole refl in
    elim (all w) [
      | inl (from, to, there) ↦ there
      | inr (out, there) ↦ there ∙ rest w (elim out [ inl lt ↦ absurd (omega (arith, lt, is.0)) | inr le ↦ omega (arith, le, is.1, stop) ])
    ]
forgotten first behind used next before after all stop within rest w false whole kept =
    elim (all w) [
      | inl (from, to, there) ↦
          let end = within (omega (arith, from, to)) in
          absurd (elim (kept refl) [ inl lt ↦ omega (arith, lt, from) | inr le ↦ omega (arith, le, to, end) ])
      | inr (out, there) ↦ there
    ]

-- ---- which words a write may touch

pub touched : (address : reg.Range) (size w first behind end : ℕ) → w < 512 → first ≡ word_of address.lo → ltb w behind ≡ ltb (word_start w) end → (end ≡ address.hi + size) ⊎ (2 ^ 33 ≤ end) × (2 ^ 33 ≤ address.hi + size) → (may_write (Some address) size w ≡ true → (first ≤ w) × (w < behind)) × (may_write (Some address) size w ≡ false → (w < first) ⊎ (behind ≤ w))
touched address size w first behind end few first_is behind_is end_is = (inside, outside) where
  near : word_start w < 2 ^ 33
  near = omega (arith, few)

  inside : may_write (Some address) size w ≡ true → (first ≤ w) × (w < behind)
  inside e =
      let both = and_true (ltb address.lo (word_start w + 8)) (ltb (word_start w) (address.hi + size)) e in
      let low = ltb-true _ _ both.0 in
      let high = ltb-true _ _ both.1 in
      let less : word_start w < end = elim end_is [ inl same ↦ omega (arith, high, same) | inr far ↦ let much = far.0 in omega (arith, near, much) ] in
      (omega (arith, low, first_is), ltb-true _ _ (behind_is ∙ lt-ltb (word_start w) end less))

  outside : may_write (Some address) size w ≡ false → (w < first) ⊎ (behind ≤ w)
  outside e =
      elim (untouched address size w e) [
        | inl past ↦ inl (omega (arith, past, first_is))
        | inr before ↦ inr (
            let more : end ≤ word_start w = elim end_is [ inl same ↦ omega (arith, before, same) | inr far ↦ let much = far.1 in absurd (omega (arith, near, much, before)) ] in
            elim (cases_lt w behind) [
              | inl lt ↦ absurd (let less = ltb-true _ _ (sym behind_is ∙ lt-ltb w behind lt) in omega (arith, less, more))
              | inr le ↦ le
            ])
      ]

-- ---- a store, and a load

pub words_stored : (n : ℕ) (before mid after : List Range) (words : Words) (address : Option reg.Range) (size : ℕ) (value : reg.Range) (o : Option ℕ) → AreWordsOf n before words → ((w : ℕ) → w < n → word_range mid w ≡ cond (may_write address size w) (reg.full W64) (word_range before w)) → ((w : ℕ) → begins_at words address w ≡ is_word o w) → ((w : ℕ) → w < n → word_range after w ≡ cond (is_word o w) value (word_range mid w)) → AreWordsOf n after (words_after words address size value)
words_stored n before mid after words address size value o holds forgets begins puts = record {
  followed_is = holds.followed_is;
  ranges_are = λ w h.
      puts w h
      ∙ ap (λ (b : Bool). cond b value (word_range mid w)) (sym (begins w))
      ∙ ap (λ (r : reg.Range). cond (begins_at words address w) value r) (forgets w h ∙ ap (λ (r : reg.Range). cond (may_write address size w) (reg.full W64) r) (holds.ranges_are w h));
}

pub word_read : (n : ℕ) (ranges : List Range) (words : Words) (o : Option reg.Range) (word : ℕ) (x : reg.Range) → AreWordsOf n ranges words → word < n → begins_at words o word ≡ true → x ≡ word_range ranges word → x ≡ word_at words o
word_read n ranges words None word x holds inside begins is = absurd cc
word_read n ranges words (Some a) word x holds inside begins is =
    let at = begun words a word begins in
    let lo = at.0 in
    let same : word ≡ word_of a.lo = omega (arith, lo) in
    let there : begins_at words (Some a) (word_of a.lo) ≡ true = subst (λ (k : ℕ). begins_at words (Some a) k ≡ true) same begins in
    is ∙ holds.ranges_are word inside ∙ ap words.ranges same ∙ sym (ap (λ (b : Bool). cond b (words.ranges (word_of a.lo)) (reg.full W64)) there)

pub no_word_read : (words : Words) (o : Option reg.Range) (x : reg.Range) → ((w : ℕ) → begins_at words o w ≡ false) → x ≡ reg.full W64 → x ≡ word_at words o
no_word_read words None x none is = is
no_word_read words (Some a) x none is =
    is ∙ sym (ap (λ (b : Bool). cond b (words.ranges (word_of a.lo)) (reg.full W64)) (none (word_of a.lo)))

pub loaded_word : (state : AbstractState) (size : Size) (signed : Bool) (o : Option reg.Range) → is_word_load size signed ≡ true → range_after_load state size signed o ≡ word_at state.words o
loaded_word state B signed o e = absurd cc
loaded_word state H signed o e = absurd cc
loaded_word state W signed o e = absurd cc
loaded_word state Dw true o e = absurd cc
loaded_word state Dw false o e = refl

pub loaded_other : (state : AbstractState) (size : Size) (signed : Bool) (o : Option reg.Range) → is_word_load size signed ≡ false → range_after_load state size signed o ≡ loaded_range size signed
loaded_other state B signed o e = refl
loaded_other state H signed o e = refl
loaded_other state W signed o e = refl
loaded_other state Dw true o e = refl
loaded_other state Dw false o e = absurd cc

not_less : (a b : ℕ) → b ≤ a → ltb a b ≡ false
not_less a b le = cases (ltb a b) refl where
  cases : (c : Bool) → ltb a b ≡ c → ltb a b ≡ false
  cases true e = absurd (let less = ltb-true a b e in omega (arith, less, le))
  cases false e = e

-- where no word is followed
pub loaded_nothing : (state : AbstractState) (size : Size) (signed : Bool) (o : Option reg.Range) → state.words.followed ≡ 0 → range_after_load state size signed o ≡ loaded_range size signed
loaded_nothing state B signed o e = refl
loaded_nothing state H signed o e = refl
loaded_nothing state W signed o e = refl
loaded_nothing state Dw true o e = refl
loaded_nothing state Dw false None e = refl
loaded_nothing state Dw false (Some a) e =
    ap (λ (b : Bool). cond b (state.words.ranges (word_of a.lo)) (reg.full W64)) (ap (λ (n : ℕ). (reg.is_single a && eqb a.lo (word_start (word_of a.lo))) && ltb (word_of a.lo) n) e ∙ nothing (reg.is_single a && eqb a.lo (word_start (word_of a.lo))) (word_of a.lo)) where
      nothing : (b : Bool) (w : ℕ) → (b && ltb w 0) ≡ false
      nothing true w = elim (cases_lt w 0) [ inl lt ↦ absurd (omega (arith, lt)) | inr le ↦ not_less w 0 le ]
      nothing false w = refl

-- ---- numbers of 64 bits

pub numbers_set : (xs : List Range) (i : ℕ) (x : Range) → i < length xs → AreNumbers xs → (range_of x).hi < 2 ^ 64 → AreNumbers (set xs i x)
numbers_set xs i x inside all small w =
    subst (λ (r : reg.Range). r.hi < 2 ^ 64) (sym (word_set xs i x w inside)) (chosen (eqb w i)) where
      chosen : (b : Bool) → (cond b (range_of x) (word_range xs w)).hi < 2 ^ 64
      chosen true = small
      chosen false = all w

-- behind the words in use a join is full
pub join_full : (a b : reg.Range) → a ≡ reg.full W64 → b.hi < 2 ^ 64 → a ≡ reg.join_of a b
join_full a b is small = is ∙ whole ∙ ap (λ (r : reg.Range). reg.join_of r b) (sym is) where
  whole : reg.full W64 ≡ reg.join_of (reg.full W64) b
  whole =
      let low : 0 ≡ min 0 b.lo = omega arith in
      let high : 2 ^ 64 - 1 ≡ max (2 ^ 64 - 1) b.hi = omega (arith, small) in
      λ i. record { lo = low i; hi = high i }

-- the words of a frame
pub framed : (d w : ℕ) → (is_in_frame d (word_start w) ≡ true → (d * 64 ≤ w) × (w < d * 64 + 64)) × (is_in_frame d (word_start w) ≡ false → (w < d * 64) ⊎ (d * 64 + 64 ≤ w))
framed d w = (inside, outside) where
  inside : is_in_frame d (word_start w) ≡ true → (d * 64 ≤ w) × (w < d * 64 + 64)
  inside e =
      let both = and_true (leb (frame_start d) (word_start w)) (ltb (word_start w) (frame_end d)) e in
      let low = leb-true _ _ both.0 in
      let high = ltb-true _ _ both.1 in
      (omega (arith, low), omega (arith, high))

  outside : is_in_frame d (word_start w) ≡ false → (w < d * 64) ⊎ (d * 64 + 64 ≤ w)
  outside e =
      elim (cases_lt w (d * 64)) [
        | inl lt ↦ inl lt
        | inr le ↦ elim (cases_lt w (d * 64 + 64)) [
          | inl near ↦ absurd (
              let low : frame_start d ≤ word_start w = omega (arith, le) in
              let high : word_start w < frame_end d = omega (arith, near) in
              let both = sym (ap (λ (b : Bool). b && ltb (word_start w) (frame_end d)) (le-leb _ _ low) ∙ lt-ltb _ _ high) ∙ e in cc)
          | inr far ↦ inr far
        ]
      ]

-- a sum that is cut at the greatest number of 64 bits
pub ends : (hi size end : ℕ) → end ≡ min (hi + size) (2 ^ 64 - 1) → (end ≡ hi + size) ⊎ (2 ^ 33 ≤ end) × (2 ^ 33 ≤ hi + size)
ends hi size end is =
    elim (cases_lt (hi + size) (2 ^ 64)) [
      | inl lt ↦ inl (omega (arith, is, lt))
      | inr le ↦ inr (omega (arith, is, le), omega (arith, le))
    ]

-- the next one is as before
pub unwritten : (next : ℕ) (f : ℕ → reg.Range) (before after : List Range) → AreWritten 0 next f before after → word_range after next ≡ word_range before next
unwritten next f before after all =
    elim (all next) [
      | inl (from, to, there) ↦ absurd (omega (arith, to))
      | inr (out, there) ↦ there
    ]
