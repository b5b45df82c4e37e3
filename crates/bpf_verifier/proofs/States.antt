-- The verifier's arrays, and the abstract states that they represent.
use Rattle.std.proofs.Common.{◌≡◌, ℕ, zero, suc, ◌+◌, ◌-◌, ◌<◌, ◌≤◌, Bool, true, false, ◌&&◌, ◌||◌, cond, eqb, leb, List, [], ◌∷◌, Option, Some, None, refl, sym, ap, subst, ◌∙◌, arith, inl, inr}
use Rattle.std.specs.Option.{option_map}
use Rattle.std.specs.List.{list_any}
use Rattle.std.proofs.lemmas.Bool.{le-leb, lt-leb}
use Rattle.std.proofs.lemmas.Bool.Decides.{leb_tells}
use Rattle.reg_ranges.specs.Ranges as reg
use Rattle.reg_ranges.specs.RangeOf.{range_of}
use Rattle.reg_ranges.specs.declared.range.Range.{Range}
use Rattle.map_helpers.specs.declared.helper.Access.{Access}
use Rattle.map_helpers.specs.Helpers.{fixed_size}
use Rattle.bpf_model.specs.Machine.{frame_start, frame_end, arguments_start}
use Rattle.bpf_model.specs.AbstractState as model
use Rattle.bpf_verifier.specs.declared.frame_bytes.FrameBytes.{FrameBytes}
use Rattle.bpf_verifier.specs.declared.stack_words.StackWords.{StackWords}
use Rattle.bpf_model.specs.AbstractState.{with_range, join_option, all_initialized, extent, in_bounds, is_initialized, is_written, entry_state, after_call, after_helper}
use Rattle.bpf_model.proofs.Memories.{in_bounds_cases}
use Rattle.bpf_verifier.specs.declared.abstract_state.AbstractState.{AbstractState}
use Rattle.bpf_verifier.specs.declared.registers.RegisterRanges.{RegisterRanges}
use Rattle.bpf_verifier.specs.FrameBytes.{has_byte, AreBitsOf}
use Rattle.bpf_verifier.specs.Represents.{ranges_of, Stack, IsStackOf, state_of, Represents, RepresentsOption, join_with}
use Rattle.bpf_verifier.specs.StackWords.{word_range}
use Rattle.bpf_model.specs.Words.{may_write}
use Rattle.bpf_num.specs.declared.AluWidth.TheVariants.{W64}
use Rattle.bpf_verifier.proofs.Bits.{not_equal}
use Rattle.bpf_verifier.proofs.Loops.{all_true, one_false}
use Rattle.bpf_verifier.proofs.RegisterRanges.{listed, range_past}

-- ---- bytes that are read

module _ (words : List ℕ) (range : reg.Range) (size d : ℕ) (shallow : d < 8) (ordered : range.lo ≤ range.hi) (inside : in_bounds d (Some range) size ≡ true) (near : range.lo < arguments_start) (init : ℕ → Bool) (bits : AreBitsOf words init) where
  in_frame : (frame_start 0 ≤ range.lo) × (range.hi + size ≤ frame_end d)
  in_frame =
      elim (in_bounds_cases d range.lo (extent range size) inside) [
        | inl (f, g) ↦ (f, omega arith)
        | inr (f, g) ↦ absurd (omega arith)
      ]

  near_test : leb arguments_start range.lo ≡ false
  near_test = elim (leb_tells arguments_start range.lo) [ inl (e, far) ↦ absurd (omega arith) | inr (e, h) ↦ e ]

  uninitialized : (index : ℕ) → range.lo - frame_start 0 ≤ index → index < range.hi + size - frame_start 0 → has_byte words index ≡ false → false ≡ is_initialized init (Some range) size
  uninitialized index low high e =
      let frame = in_frame in
      let start : frame_start 0 ≤ range.lo = frame.0 in
      let end : range.hi + size ≤ frame_end d = frame.1 in
      let here = sym (bits index (omega arith)) ∙ e in
      sym (ap (λ (b : Bool). b || all_initialized init range.lo (extent range size)) near_test ∙ one_false init range.lo (extent range size) (frame_start 0 + index) (omega arith) (omega arith) here)

  all_there : ((k : ℕ) → range.lo - frame_start 0 ≤ k → k < range.hi + size - frame_start 0 → has_byte words k ≡ true) → true ≡ is_initialized init (Some range) size
  all_there all =
      let frame = in_frame in
      let start : frame_start 0 ≤ range.lo = frame.0 in
      let end : range.hi + size ≤ frame_end d = frame.1 in
      let each : (k : ℕ) → range.lo ≤ k → k < range.lo + extent range size → init k ≡ true = λ k low high.
      let at : frame_start 0 + (k - frame_start 0) ≡ k = omega arith in
      subst (λ (j : ℕ). init j ≡ true) at (sym (bits (k - frame_start 0) (omega arith)) ∙ all (k - frame_start 0) (omega arith) (omega arith)) in
      sym (ap (λ (b : Bool). b || all_initialized init range.lo (extent range size)) near_test ∙ all_true init range.lo (extent range size) each)

  pub stack_bytes : (n : ℕ) → n ≡ size → (b : Bool) → (b ≡ true → (i : ℕ) → range.lo - frame_start 0 ≤ i → i < range.hi + n - frame_start 0 → has_byte words i ≡ true) → (b ≡ false → (i : ℕ) × (range.lo - frame_start 0 ≤ i) × (i < range.hi + n - frame_start 0) × (has_byte words i ≡ false)) → b ≡ is_initialized init (Some range) size
  stack_bytes n same true present absent = all_there (λ k low high. present refl k low (omega (arith, high, same)))
  stack_bytes n same false present absent =
      let one = absent refl in let high = one.2 in uninitialized one.0 one.1 (omega (arith, high, same)) one.3

-- ---- the stack of a state

abbrev pub stack_of : model.AbstractState → Stack
stack_of m = record { initialized = m.initialized; words = m.words }

-- nothing is known of the stack
abbrev pub no_stack : Stack
no_stack = record {
  initialized = λ a. false;
  words = record { followed = 0; ranges = λ w. reg.full W64 };
}

pub is_stack : {n_words : ℕ} → (v : AbstractState n_words) (m : model.AbstractState) → Represents v m → IsStackOf v.initialized.words n_words v.words.ranges (stack_of m)
is_stack {n_words} v m h = record { initialized_are = h.initialized_are; words_are = h.words_are }

-- a register was given another range
pub ranged : {n_words : ℕ} → (x y : AbstractState n_words) (stack : Stack) (d : ℕ) (given range : Option reg.Range) → IsStackOf x.initialized.words n_words x.words.ranges stack → ((r : ℕ) → ranges_of y.ranges r ≡ cond (eqb r d) given (ranges_of x.ranges r)) → y.initialized ≡ x.initialized → y.words ≡ x.words → given ≡ range → Represents y (with_range (state_of x.ranges stack) d range)
ranged {n_words} x y stack d given range holds ranges bytes words same = record {
  ranges_are = λ r. ranges r ∙ ap (λ (o : Option reg.Range). cond (eqb r d) o (ranges_of x.ranges r)) same;
  initialized_are = λ i h. ap (λ (b : FrameBytes). has_byte b.words i) bytes ∙ holds.initialized_are i h;
  words_are = record {
    followed_is = holds.words_are.followed_is;
    ranges_are = λ w h. ap (λ (ws : StackWords n_words). word_range ws.ranges w) words ∙ holds.words_are.ranges_are w h;
  };
}

-- ---- joins

pub joined_is : {n_words : ℕ} → (x y z : AbstractState n_words) → ((r : ℕ) → ranges_of z.ranges r ≡ join_option (ranges_of x.ranges r) (ranges_of y.ranges r)) → ((i : ℕ) → i < 4096 → has_byte z.initialized.words i ≡ (has_byte x.initialized.words i && has_byte y.initialized.words i)) → ((w : ℕ) → w < n_words → word_range z.words.ranges w ≡ reg.join_of (word_range x.words.ranges w) (word_range y.words.ranges w)) → (a b : model.AbstractState) → Represents x a → Represents y b → Represents z (model.join a b)
joined_is {n_words} x y z ranges bytes words a b ra rb = record {
  ranges_are = λ r. ranges r ∙ rw (ra.ranges_are r, rb.ranges_are r) refl;
  initialized_are = λ i h. bytes i h ∙ rw (ra.initialized_are i h, rb.initialized_are i h) refl;
  words_are = record {
    followed_is = ra.words_are.followed_is;
    ranges_are = λ w h. words w h ∙ rw (ra.words_are.ranges_are w h, rb.words_are.ranges_are w h) refl;
  };
}

-- a state with the same ranges and words represents the same
pub represents_same : {n_words : ℕ} → (x y : AbstractState n_words) (of : model.AbstractState) → x.ranges ≡ y.ranges → x.initialized.words ≡ y.initialized.words → ((w : ℕ) → w < n_words → word_range x.words.ranges w ≡ word_range y.words.ranges w) → Represents y of → Represents x of
represents_same {n_words} x y of ranges bits words is = record {
  ranges_are = λ r. ap (λ (rs : RegisterRanges). ranges_of rs r) ranges ∙ is.ranges_are r;
  initialized_are = λ i h. ap (λ (ws : List ℕ). has_byte ws i) bits ∙ is.initialized_are i h;
  words_are = record {
    followed_is = is.words_are.followed_is;
    ranges_are = λ w h. words w h ∙ is.words_are.ranges_are w h;
  };
}

pub join_visit : {n_words : ℕ} → (before state after : AbstractState n_words) (s : model.AbstractState) → ((a b : model.AbstractState) → Represents before a → Represents state b → Represents after (join_with (Some a) b)) → Represents state s → (o : Option model.AbstractState) → RepresentsOption (Some before) o → Represents after (join_with o s)
join_visit {n_words} before state after s joins is None h = absurd h
join_visit {n_words} before state after s joins is (Some a) h = joins a s h is

-- ---- after a helper

module _ (ranges : RegisterRanges) (stack : Stack) (most : ℕ) (answer : Range) (is : range_of answer ≡ reg.range 0 most) (written : List Access) where
  pub called_ranges : (x6 x7 x8 x9 x10 : Option Range) → option_map range_of x6 ≡ ranges_of ranges 6 → option_map range_of x7 ≡ ranges_of ranges 7 → option_map range_of x8 ≡ ranges_of ranges 8 → option_map range_of x9 ≡ ranges_of ranges 9 → option_map range_of x10 ≡ ranges_of ranges 10 → (r : ℕ) → listed (Some answer ∷ None ∷ None ∷ None ∷ None ∷ None ∷ x6 ∷ x7 ∷ x8 ∷ x9 ∷ x10 ∷ []) r ≡ (after_helper (state_of ranges stack) most written).ranges r
  called_ranges x6 x7 x8 x9 x10 e6 e7 e8 e9 e10 zero = ap Some is
  called_ranges x6 x7 x8 x9 x10 e6 e7 e8 e9 e10 (suc zero) = refl
  called_ranges x6 x7 x8 x9 x10 e6 e7 e8 e9 e10 (suc (suc zero)) = refl
  called_ranges x6 x7 x8 x9 x10 e6 e7 e8 e9 e10 (suc (suc (suc zero))) = refl
  called_ranges x6 x7 x8 x9 x10 e6 e7 e8 e9 e10 (suc (suc (suc (suc zero)))) = refl
  called_ranges x6 x7 x8 x9 x10 e6 e7 e8 e9 e10 (suc (suc (suc (suc (suc zero))))) = refl
  called_ranges x6 x7 x8 x9 x10 e6 e7 e8 e9 e10 (suc (suc (suc (suc (suc (suc zero)))))) = e6
  called_ranges x6 x7 x8 x9 x10 e6 e7 e8 e9 e10 (suc (suc (suc (suc (suc (suc (suc zero))))))) = e7
  called_ranges x6 x7 x8 x9 x10 e6 e7 e8 e9 e10 (suc (suc (suc (suc (suc (suc (suc (suc zero)))))))) = e8
  called_ranges x6 x7 x8 x9 x10 e6 e7 e8 e9 e10 (suc (suc (suc (suc (suc (suc (suc (suc (suc zero))))))))) = e9
  called_ranges x6 x7 x8 x9 x10 e6 e7 e8 e9 e10 (suc (suc (suc (suc (suc (suc (suc (suc (suc (suc zero)))))))))) = e10
  called_ranges x6 x7 x8 x9 x10 e6 e7 e8 e9 e10 (suc (suc (suc (suc (suc (suc (suc (suc (suc (suc (suc r))))))))))) =
      let n : ℕ = suc (suc (suc (suc (suc (suc (suc (suc (suc (suc (suc r)))))))))) in
      let none : ranges_of ranges n ≡ None = range_past ranges.lo ranges.hi ranges.known n (omega arith) in
      let zero_test : eqb n 0 ≡ false = not_equal n 0 (λ e. omega arith) in
      let six : leb 6 n ≡ true = le-leb 6 n (omega arith) in
      sym (ap (λ (b : Bool). cond b (Some (reg.range 0 most)) (cond (leb 6 n) (ranges_of ranges n) None)) zero_test
      ∙ ap (λ (b : Bool). cond b (ranges_of ranges n) None) six
      ∙ none)

-- two choices of the same
pub once_more : {A : Type 0} (a b : Bool) (x y : A) → cond b x (cond a x y) ≡ cond (a || b) x y
once_more true true x y = refl
once_more true false x y = refl
once_more false true x y = refl
once_more false false x y = refl

-- what a helper may have written of a word
abbrev pub may_be_written : RegisterRanges → List Access → ℕ → Bool
may_be_written ranges writes w =
    list_any (λ (access : Access). may_write (ranges_of ranges access.register) (fixed_size access.size) w) writes

module _ {n_words : ℕ} (ranges : RegisterRanges) (bits after_bits : List ℕ) (words after_words : List Range) (most : ℕ) (writes : List Access) (stack : Stack) where
  -- the state after a helper, of the bytes that it wrote
  pub represents_helper : (state : AbstractState n_words) → ((r : ℕ) → ranges_of state.ranges r ≡ (after_helper (state_of ranges stack) most writes).ranges r) → state.initialized.words ≡ after_bits → state.words.ranges ≡ after_words → IsStackOf bits n_words words stack → ((i : ℕ) → i < 4096 → has_byte after_bits i ≡ (list_any (λ access. is_written (ranges_of ranges access.register) (fixed_size access.size) (frame_start 0 + i)) writes || has_byte bits i)) → ((w : ℕ) → w < n_words → word_range after_words w ≡ cond (may_be_written ranges writes w) (reg.full W64) (word_range words w)) → Represents state (after_helper (state_of ranges stack) most writes)
  represents_helper state are same same_words holds bytes written = record {
    ranges_are = are;
    initialized_are = λ i h. ap (λ (ws : List ℕ). has_byte ws i) same ∙ bytes i h ∙ ap (λ (b : Bool). list_any (λ (access : Access). is_written (ranges_of ranges access.register) (fixed_size access.size) (frame_start 0 + i)) writes || b) (holds.initialized_are i h);
    words_are = record {
      followed_is = holds.words_are.followed_is;
      ranges_are = λ w h. ap (λ (rs : List Range). word_range rs w) same_words ∙ written w h ∙ ap (λ (r : reg.Range). cond (may_be_written ranges writes w) (reg.full W64) r) (holds.words_are.ranges_are w h);
    };
  }

-- ---- around a call

module _ {n_words : ℕ} (x : AbstractState n_words) (of : model.AbstractState) (is : Represents x of) where
  -- a function is entered
  pub entered_ranges : (d : ℕ) (fp : Range) → range_of fp ≡ reg.single (frame_end d) → (x1 x2 x3 x4 x5 : Option Range) → option_map range_of x1 ≡ ranges_of x.ranges 1 → option_map range_of x2 ≡ ranges_of x.ranges 2 → option_map range_of x3 ≡ ranges_of x.ranges 3 → option_map range_of x4 ≡ ranges_of x.ranges 4 → option_map range_of x5 ≡ ranges_of x.ranges 5 → (r : ℕ) → listed (None ∷ x1 ∷ x2 ∷ x3 ∷ x4 ∷ x5 ∷ None ∷ None ∷ None ∷ None ∷ Some fp ∷ []) r ≡ (entry_state d of).ranges r
  entered_ranges d fp e x1 x2 x3 x4 x5 e1 e2 e3 e4 e5 zero = refl
  entered_ranges d fp e x1 x2 x3 x4 x5 e1 e2 e3 e4 e5 (suc zero) = e1 ∙ is.ranges_are 1
  entered_ranges d fp e x1 x2 x3 x4 x5 e1 e2 e3 e4 e5 (suc (suc zero)) = e2 ∙ is.ranges_are 2
  entered_ranges d fp e x1 x2 x3 x4 x5 e1 e2 e3 e4 e5 (suc (suc (suc zero))) = e3 ∙ is.ranges_are 3
  entered_ranges d fp e x1 x2 x3 x4 x5 e1 e2 e3 e4 e5 (suc (suc (suc (suc zero)))) = e4 ∙ is.ranges_are 4
  entered_ranges d fp e x1 x2 x3 x4 x5 e1 e2 e3 e4 e5 (suc (suc (suc (suc (suc zero))))) = e5 ∙ is.ranges_are 5
  entered_ranges d fp e x1 x2 x3 x4 x5 e1 e2 e3 e4 e5 (suc (suc (suc (suc (suc (suc zero)))))) = refl
  entered_ranges d fp e x1 x2 x3 x4 x5 e1 e2 e3 e4 e5 (suc (suc (suc (suc (suc (suc (suc zero))))))) = refl
  entered_ranges d fp e x1 x2 x3 x4 x5 e1 e2 e3 e4 e5 (suc (suc (suc (suc (suc (suc (suc (suc zero)))))))) = refl
  entered_ranges d fp e x1 x2 x3 x4 x5 e1 e2 e3 e4 e5 (suc (suc (suc (suc (suc (suc (suc (suc (suc zero))))))))) = refl
  entered_ranges d fp e x1 x2 x3 x4 x5 e1 e2 e3 e4 e5 (suc (suc (suc (suc (suc (suc (suc (suc (suc (suc zero)))))))))) = ap Some e
  entered_ranges d fp e x1 x2 x3 x4 x5 e1 e2 e3 e4 e5 (suc (suc (suc (suc (suc (suc (suc (suc (suc (suc (suc r))))))))))) =
      let n : ℕ = suc (suc (suc (suc (suc (suc (suc (suc (suc (suc (suc r)))))))))) in
      let ten : eqb n 10 ≡ false = not_equal n 10 (λ e. omega arith) in
      let five : leb n 5 ≡ false = lt-leb n 5 (omega arith) in
      sym (ap (λ (b : Bool). cond b (Some (reg.single (frame_end d))) (cond (leb 1 n && leb n 5) (of.ranges n) None)) ten
      ∙ ap (λ (b : Bool). cond (leb 1 n && b) (of.ranges n) None) five
      ∙ no_and (leb 1 n)) where
        no_and : (b : Bool) → cond (b && false) (of.ranges (suc (suc (suc (suc (suc (suc (suc (suc (suc (suc (suc r)))))))))))) None ≡ None
        no_and true = refl
        no_and false = refl

  -- a function returns
  pub resumed_ranges : (y : AbstractState n_words) (exit : model.AbstractState) → Represents y exit → (d : ℕ) (x0 x6 x7 x8 x9 x10 : Option Range) → option_map range_of x0 ≡ ranges_of y.ranges 0 → option_map range_of x6 ≡ ranges_of x.ranges 6 → option_map range_of x7 ≡ ranges_of x.ranges 7 → option_map range_of x8 ≡ ranges_of x.ranges 8 → option_map range_of x9 ≡ ranges_of x.ranges 9 → option_map range_of x10 ≡ ranges_of x.ranges 10 → (r : ℕ) → listed (x0 ∷ None ∷ None ∷ None ∷ None ∷ None ∷ x6 ∷ x7 ∷ x8 ∷ x9 ∷ x10 ∷ []) r ≡ (after_call d of exit).ranges r
  resumed_ranges y exit out d x0 x6 x7 x8 x9 x10 e0 e6 e7 e8 e9 e10 zero = e0 ∙ out.ranges_are 0
  resumed_ranges y exit out d x0 x6 x7 x8 x9 x10 e0 e6 e7 e8 e9 e10 (suc zero) = refl
  resumed_ranges y exit out d x0 x6 x7 x8 x9 x10 e0 e6 e7 e8 e9 e10 (suc (suc zero)) = refl
  resumed_ranges y exit out d x0 x6 x7 x8 x9 x10 e0 e6 e7 e8 e9 e10 (suc (suc (suc zero))) = refl
  resumed_ranges y exit out d x0 x6 x7 x8 x9 x10 e0 e6 e7 e8 e9 e10 (suc (suc (suc (suc zero)))) = refl
  resumed_ranges y exit out d x0 x6 x7 x8 x9 x10 e0 e6 e7 e8 e9 e10 (suc (suc (suc (suc (suc zero))))) = refl
  resumed_ranges y exit out d x0 x6 x7 x8 x9 x10 e0 e6 e7 e8 e9 e10 (suc (suc (suc (suc (suc (suc zero)))))) = e6 ∙ is.ranges_are 6
  resumed_ranges y exit out d x0 x6 x7 x8 x9 x10 e0 e6 e7 e8 e9 e10 (suc (suc (suc (suc (suc (suc (suc zero))))))) = e7 ∙ is.ranges_are 7
  resumed_ranges y exit out d x0 x6 x7 x8 x9 x10 e0 e6 e7 e8 e9 e10 (suc (suc (suc (suc (suc (suc (suc (suc zero)))))))) = e8 ∙ is.ranges_are 8
  resumed_ranges y exit out d x0 x6 x7 x8 x9 x10 e0 e6 e7 e8 e9 e10 (suc (suc (suc (suc (suc (suc (suc (suc (suc zero))))))))) = e9 ∙ is.ranges_are 9
  resumed_ranges y exit out d x0 x6 x7 x8 x9 x10 e0 e6 e7 e8 e9 e10 (suc (suc (suc (suc (suc (suc (suc (suc (suc (suc zero)))))))))) = e10 ∙ is.ranges_are 10
  resumed_ranges y exit out d x0 x6 x7 x8 x9 x10 e0 e6 e7 e8 e9 e10 (suc (suc (suc (suc (suc (suc (suc (suc (suc (suc (suc r))))))))))) =
      let n : ℕ = suc (suc (suc (suc (suc (suc (suc (suc (suc (suc (suc r)))))))))) in
      let zero_test : eqb n 0 ≡ false = not_equal n 0 (λ e. omega arith) in
      let six : leb 6 n ≡ true = le-leb 6 n (omega arith) in
      let none : of.ranges n ≡ None = sym (is.ranges_are n) ∙ range_past x.ranges.lo x.ranges.hi x.ranges.known n (omega arith) in
      sym (ap (λ (b : Bool). cond b (exit.ranges 0) (cond (leb 6 n) (of.ranges n) None)) zero_test
      ∙ ap (λ (b : Bool). cond b (of.ranges n) None) six
      ∙ none)
