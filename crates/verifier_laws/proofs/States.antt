-- A state that is sharper than another one stays so over an instruction, and passes the checks that the other passes.
use Rattle.std.proofs.Common.{◌≡◌, ℕ, ◌+◌, ◌^◌, ◌<◌, ◌≤◌, Bool, true, false, ◌&&◌, not, cond, eqb, leb, ltb, List, [], ◌∷◌, fold, Option, Some, None, ℤ, refl, sym, ap, subst, ◌∙◌, arith, inl, inr}
use Rattle.std.specs.Int.{w64, cast_unsigned}
use Rattle.std.specs.List.{AllByRecursion, list_any}
use Rattle.std.specs.Option.{is_some, option_map}
use Rattle.std.proofs.lemmas.Bool.{leb-true, ltb-true, le-leb, lt-ltb, and_parts, and_from, or_cases, or_left, or_right}
use Rattle.bpf_num.specs.declared.AluOp.{AluOp}
use Rattle.bpf_num.specs.declared.AluOp.TheVariants.{Add}
use Rattle.bpf_num.specs.declared.AluWidth.{AluWidth}
use Rattle.bpf_num.specs.declared.AluWidth.TheVariants.{W64}
use Rattle.bpf_num.specs.declared.jump.Test as tests
use Rattle.bpf_num.specs.Arithmetic.{reads_destination}
use Rattle.bpf_num.specs.Bind.{◌>>=◌}
use Rattle.bpf_decode.specs.declared.insn.Source.{Source}
use Rattle.bpf_decode.specs.declared.insn.Source.TheVariants as source
use Rattle.bpf_decode.specs.declared.insn.Size.{Size}
use Rattle.bpf_decode.specs.declared.insn.Size.TheVariants.{B, H, W, Dw}
use Rattle.reg_ranges.specs.Ranges.{Range, single, is_single, full, join_of, transfer64_of}
use Rattle.reg_ranges.specs.Refine.{Ranges, refine_of}
use Rattle.bpf_model.specs.Words.{begins_at, may_write, word_of, word_start, stored_range, word_at}
use Rattle.bpf_model.specs.Machine.{frame_end, is_in_frame}
use Rattle.bpf_model.specs.Step.{tested_immediate}
use Rattle.bpf_model.specs.AbstractState.{AbstractState, join_option, join, join_all, IsOneOf, is_written, source_range, destination_range, transfer, with_range, alu_range, address_range, loaded_range, range_after_load, range_or_full, after_store, after_helper, entry_state, after_call, tested_range, with_ranges, after_test}
use Rattle.map_helpers.specs.declared.helper.Access.{Access}
use Rattle.map_helpers.specs.Helpers.{fixed_size}
use Rattle.bpf_model.proofs.Options.{some_is, bind_some, map_some}
use Rattle.bpf_model.proofs.Joins.{IsBelow, join_all_below}
use Rattle.bpf_model.proofs.RangeLaws.{IsRange}
use Rattle.bpf_model.proofs.Soundness.{IsWellFormed, ImmInRange, small_64}
use Rattle.verifier_laws.proofs.Ranges.{IsWithin, widen, within_self, single_is, single_within, transfer_within}
use Rattle.verifier_laws.proofs.Unfollowed.{FollowsNone}
use Rattle.verifier_laws.proofs.Refined.{AreWithin, refine_within}

-- what is known of a number: where the second says something, the first says as much
abbrev pub SaysMore : Option Range → Option Range → Type 0
SaysMore o p = (x : Range) → p ≡ Some x → (y : Range) × (o ≡ Some y) × IsWithin y x

-- all that is certain in the second state is certain in the first; and of words the first says what can be
pub record IsSharper (s t : AbstractState) : Type 0 where
  pub ranges : (r : ℕ) → SaysMore (s.ranges r) (t.ranges r)
  pub initialized : (address : ℕ) → t.initialized address ≡ true → s.initialized address ≡ true
  pub words : (w : ℕ) → IsWithin (s.words.ranges w) (full W64)

pub says_one : (y x : Range) → IsWithin y x → SaysMore (Some y) (Some x)
says_one y x p z e = (y, refl, subst (λ (v : Range). IsWithin y v) (some_is x z e) p)

pub says_itself : (x : Range) → x.lo ≤ x.hi → SaysMore (Some x) (Some x)
says_itself x some = says_one x x (within_self x some)

pub says_nothing : (o : Option Range) → SaysMore o None
says_nothing o x e = absurd cc

pub chosen_more : (b : Bool) (o p u v : Option Range) → SaysMore o p → SaysMore u v → SaysMore (cond b o u) (cond b p v)
chosen_more true o p u v first second = first
chosen_more false o p u v first second = second

any_within : IsWithin (full W64) (full W64)
any_within = within_self (full W64) (omega arith)

chosen_within : (b : Bool) (x y z : Range) → IsWithin x z → IsWithin y z → IsWithin (cond b x y) z
chosen_within true x y z first second = first
chosen_within false x y z first second = second

-- ---- where ways join

join_of_within : (x y z : Range) → IsWithin x z → IsWithin y z → IsWithin (join_of x y) z
join_of_within x y z p q = record { low = omega arith; some = omega arith; high = omega arith }

join_more : (o u p : Option Range) → SaysMore o p → SaysMore u p → SaysMore (join_option o u) p
join_more o u p first second x e =
    let y = first x e in
    let z = second x e in
    (join_of y.0 z.0, both o u y.0 z.0 y.1 z.1, join_of_within y.0 z.0 x y.2 z.2) where
      both : (o u : Option Range) (y z : Range) → o ≡ Some y → u ≡ Some z → join_option o u ≡ Some (join_of y z)
      both o u y z e f = rw (e, f) refl

join_sharper : (s t j : AbstractState) → IsSharper s j → IsSharper t j → IsSharper (join s t) j
join_sharper s t j p q = record {
  ranges = λ r. join_more (s.ranges r) (t.ranges r) (j.ranges r) (p.ranges r) (q.ranges r);
  initialized = λ a e. and_from (s.initialized a) (t.initialized a) (p.initialized a e) (q.initialized a e);
  words = λ w. join_of_within (s.words.ranges w) (t.words.ranges w) (full W64) (p.words w) (q.words w);
}

sharper_below : (s t j : AbstractState) → IsSharper s t → IsBelow j t → IsSharper s j
sharper_below s t j p below = record {
  ranges = λ r x e.
      let y = below.ranges r x e in
      let z = p.ranges r y.0 y.1 in
      (z.0, z.1, widen z.0 y.0 x z.2 y.2 y.3);
  initialized = λ a e. p.initialized a (below.initialized a e);
  words = p.words;
}

-- a state that is sharper than one of these
abbrev pub IsSharperThanOne : List AbstractState → AbstractState → Type 0
IsSharperThanOne ts s = (t : AbstractState) × IsOneOf t ts × IsSharper s t

fold_sharper : (s : AbstractState) (ss : List AbstractState) (j : AbstractState) → IsSharper s j → AllByRecursion (λ (t : AbstractState). IsSharper t j) ss → IsSharper (fold join s ss) j
fold_sharper s [] j p all = p
fold_sharper s (t ∷ ts) j p all = fold_sharper (join s t) ts j (join_sharper s t j p all.0) all.1

-- it is sharper than the join of them
than_join : (s : AbstractState) (ts : List AbstractState) (j : AbstractState) → IsSharperThanOne ts s → join_all ts ≡ Some j → IsSharper s j
than_join s ts j (t, one, p) e =
    let k = join_all_below ts t one in
    subst (λ (i : AbstractState). IsSharper s i) (some_is k.0 j (sym k.1 ∙ e)) (sharper_below s t k.0 p k.2)

all_than_join : (ss ts : List AbstractState) (j : AbstractState) → AllByRecursion (IsSharperThanOne ts) ss → join_all ts ≡ Some j → AllByRecursion (λ (s : AbstractState). IsSharper s j) ss
all_than_join [] ts j all e = tt
all_than_join (s ∷ ss) ts j all e = (than_join s ts j all.0 e, all_than_join ss ts j all.1 e)

-- the join of states each of which is sharper than one of others is sharper than the join of these
pub join_all_sharper : (ss ts : List AbstractState) (s : AbstractState) → AllByRecursion (IsSharperThanOne ts) ss → join_all ss ≡ Some s → (t : AbstractState) × (join_all ts ≡ Some t) × IsSharper s t
join_all_sharper [] ts s all e = absurd cc
join_all_sharper (x ∷ xs) ts s all e =
    let first = all.0 in
    let j = join_all_below ts first.0 first.1 in
    let rest = all_than_join xs ts j.0 all.1 j.1 in
    (j.0, j.1, subst (λ (y : AbstractState). IsSharper y j.0) (some_is _ _ e) (fold_sharper x xs j.0 (than_join x ts j.0 first j.1) rest))

-- ---- operands

pub with_range_sharper : (s t : AbstractState) (d : ℕ) (o u : Option Range) → IsSharper s t → SaysMore o u → IsSharper (with_range s d o) (with_range t d u)
with_range_sharper s t d o u p more = record {
  ranges = λ r. chosen_more (eqb r d) o u (s.ranges r) (t.ranges r) more (p.ranges r);
  initialized = p.initialized;
  words = p.words;
}

after_test_is : (state : AbstractState) (narrow : Bool) (test : tests.Test) (d : ℕ) (src : Source) (taken : Bool) (b a : Range) → tested_range state narrow src ≡ Some b → state.ranges d ≡ Some a → after_test state narrow test d src taken ≡ (refine_of test narrow a b taken >>= λ r. Some (with_ranges state d src r))
after_test_is state narrow test d src taken b a b-is a-is = rw (b-is, a-is) refl

module _ (s t : AbstractState) (p : IsSharper s t) (fits : IsWellFormed t) where
  register_fits : (r : ℕ) (x : Range) → t.ranges r ≡ Some x → IsRange x
  unfolding IsWellFormed
  register_fits r x e = fits.0 r x e

  single_fits : (n : ℕ) → n < 2 ^ 64 → IsRange (single n)
  single_fits n h = record { below = h }

  pub address_more : (base : ℕ) (offset : ℤ) → cast_unsigned w64 offset < 2 ^ 64 → SaysMore (address_range s base offset) (address_range t base offset)
  address_more base offset small x e =
      let a = map_some (λ (r : Range). transfer64_of Add r (single (cast_unsigned w64 offset))) (t.ranges base) x e in
      let b = p.ranges base a.0 a.1 in (
        transfer64_of Add b.0 (single (cast_unsigned w64 offset)),
        ap (λ (o : Option Range). option_map (λ (r : Range). transfer64_of Add r (single (cast_unsigned w64 offset))) o) b.1,
        subst (λ (y : Range). IsWithin (transfer64_of Add b.0 (single (cast_unsigned w64 offset))) y) a.2 (transfer_within W64 Add b.0 (single (cast_unsigned w64 offset)) a.0 (single (cast_unsigned w64 offset)) b.2 (within_self (single (cast_unsigned w64 offset)) (omega arith)) (register_fits base a.0 a.1) (single_fits (cast_unsigned w64 offset) small)),
      )

  source_more : (src : Source) → SaysMore (source_range s src) (source_range t src)
  source_more (source.Imm value) = says_itself (single (cast_unsigned w64 value)) (omega arith)
  source_more (source.Reg reg) = p.ranges reg.number

  source_fits : (src : Source) → ImmInRange src → (x : Range) → source_range t src ≡ Some x → IsRange x
  unfolding ImmInRange
  source_fits (source.Imm value) small x e =
      subst (λ (y : Range). IsRange y) (some_is (single (cast_unsigned w64 value)) x e) (single_fits (cast_unsigned w64 value) (small_64 value small))
  source_fits (source.Reg reg) small x e = register_fits reg.number x e

  tested_more : (narrow : Bool) (src : Source) → SaysMore (tested_range s narrow src) (tested_range t narrow src)
  tested_more narrow (source.Imm value) = says_itself (single (tested_immediate narrow value)) (omega arith)
  tested_more narrow (source.Reg reg) = p.ranges reg.number

  destination_more : (op : AluOp) (d : ℕ) → SaysMore (destination_range s op d) (destination_range t op d)
  destination_more op d =
      chosen_more (reads_destination op) (s.ranges d) (t.ranges d) (Some (single 0)) (Some (single 0)) (p.ranges d) (says_itself (single 0) (omega arith))

  destination_fits : (op : AluOp) (d : ℕ) (x : Range) → destination_range t op d ≡ Some x → IsRange x
  destination_fits op d x e = cases (reads_destination op) e where
    cases : (b : Bool) → cond b (t.ranges d) (Some (single 0)) ≡ Some x → IsRange x
    cases true f = register_fits d x f
    cases false f = subst (λ (y : Range). IsRange y) (some_is (single 0) x f) (single_fits 0 (omega arith))

  pub alu_more : (width : AluWidth) (op : AluOp) (d : ℕ) (src : Source) → ImmInRange src → SaysMore (alu_range s width op d src) (alu_range t width op d src)
  alu_more width op d src small x e =
      let b = bind_some (source_range t src) (λ b. destination_range t op d >>= λ a. Some (transfer width op a b)) x e in
      let a = bind_some (destination_range t op d) (λ a. Some (transfer width op a b.0)) x b.2 in
      let c = source_more src b.0 b.1 in
      let f = destination_more op d a.0 a.1 in (
        transfer width op f.0 c.0,
        both (source_range s src) (destination_range s op d) c.0 f.0 c.1 f.1,
        subst (λ (y : Range). IsWithin (transfer width op f.0 c.0) y) (some_is (transfer width op a.0 b.0) x a.2) (transfer_within width op f.0 c.0 a.0 b.0 f.2 c.2 (destination_fits op d a.0 a.1) (source_fits src small b.0 b.1)),
      ) where
        both : (o u : Option Range) (y z : Range) → o ≡ Some y → u ≡ Some z → (o >>= λ b. u >>= λ a. Some (transfer width op a b)) ≡ Some (transfer width op z y)
        both o u y z e f = rw (e, f) refl

  pub swap_more : (d : ℕ) (f : Range → Range) → ((a c : Range) → IsWithin a c → IsWithin (f a) (f c)) → SaysMore (option_map f (s.ranges d)) (option_map f (t.ranges d))
  swap_more d f keeps x e =
      let a = map_some f (t.ranges d) x e in
      let b = p.ranges d a.0 a.1 in
      (f b.0, ap (option_map f) b.1, subst (λ (y : Range). IsWithin (f b.0) y) a.2 (keeps b.0 a.0 b.2))

  -- ---- words

  full_above : (x y : Range) → IsWithin x y → IsRange y → IsWithin x (full W64)
  full_above x y q f = let below = f.below in widen x y (full W64) q (omega arith) (omega arith)

  loaded_within : (size : Size) (signed : Bool) → IsWithin (loaded_range size signed) (loaded_range size signed)
  loaded_within B false = within_self (loaded_range B false) (omega arith)
  loaded_within H false = within_self (loaded_range H false) (omega arith)
  loaded_within W false = within_self (loaded_range W false) (omega arith)
  loaded_within Dw false = within_self (loaded_range Dw false) (omega arith)
  loaded_within size true = any_within

  word_within : (o : Option Range) → IsWithin (word_at s.words o) (full W64)
  word_within None = any_within
  word_within (Some address) =
      chosen_within (begins_at s.words (Some address) (word_of address.lo)) (s.words.ranges (word_of address.lo)) (full W64) (full W64) (p.words (word_of address.lo)) any_within

  -- a word of which nothing is known
  word_unknown : FollowsNone t → (o : Option Range) → word_at t.words o ≡ full W64
  word_unknown none None = refl
  word_unknown none (Some address) = chosen (begins_at t.words (Some address) (word_of address.lo)) where
    chosen : (b : Bool) → cond b (t.words.ranges (word_of address.lo)) (full W64) ≡ full W64
    chosen true = none.nothing (word_of address.lo)
    chosen false = refl

  pub load_within : FollowsNone t → (size : Size) (signed : Bool) (o u : Option Range) → IsWithin (range_after_load s size signed o) (range_after_load t size signed u)
  load_within none B signed o u = loaded_within B signed
  load_within none H signed o u = loaded_within H signed
  load_within none W signed o u = loaded_within W signed
  load_within none Dw true o u = loaded_within Dw true
  load_within none Dw false o u =
      subst (λ (y : Range). IsWithin (word_at s.words o) y) (sym (word_unknown none u)) (word_within o)

  written_more : (o u : Option Range) (size address : ℕ) → SaysMore o u → is_written u size address ≡ true → is_written o size address ≡ true
  written_more o None size address more e = absurd cc
  written_more o (Some x) size address more e =
      let y = more x refl in
      let first = and_parts (is_single x && leb x.lo address) (ltb address (x.lo + size)) e in
      let second = and_parts (is_single x) (leb x.lo address) first.0 in
      let low = leb-true x.lo address second.1 in
      let high = ltb-true address (x.lo + size) first.1 in
      let is = (single_is y.0 x y.2 second.0).0 in
      subst (λ (v : Option Range). is_written v size address ≡ true) (sym y.1) (and_from (is_single y.0 && leb y.0.lo address) (ltb address (y.0.lo + size)) (and_from (is_single y.0) (leb y.0.lo address) (single_within y.0 x y.2 second.0) (le-leb y.0.lo address (omega arith))) (lt-ltb address (y.0.lo + size) (omega arith)))

  pub store_sharper : (o u : Option Range) (size : ℕ) (x y : Range) → SaysMore o u → IsWithin x (full W64) → IsSharper (after_store s o size x) (after_store t u size y)
  store_sharper o u size x y more value = record {
    ranges = p.ranges;
    initialized = λ address e. elim (or_cases (is_written u size address) (t.initialized address) e) [
      | inl f ↦ or_left (is_written o size address) (s.initialized address) (written_more o u size address more f)
      | inr f ↦ or_right (is_written o size address) (s.initialized address) (p.initialized address f)
    ];
    words = λ w. chosen_within (begins_at s.words o w) x _ (full W64) value (chosen_within (may_write o size w) (full W64) (s.words.ranges w) (full W64) any_within (p.words w));
  }

  pub stored_within : (size : Size) (x : Range) → IsWithin x (full W64) → IsWithin (stored_range size x) (full W64)
  stored_within Dw x value = value
  stored_within _ x value = any_within

  -- what a store writes of a register
  pub register_within : (r : ℕ) → is_some (t.ranges r) ≡ true → IsWithin (range_or_full (s.ranges r)) (full W64)
  register_within r has = cases (t.ranges r) refl has where
    cases : (u : Option Range) → t.ranges r ≡ u → is_some u ≡ true → IsWithin (range_or_full (s.ranges r)) (full W64)
    cases None e f = absurd cc
    cases (Some x) e f =
        let y = p.ranges r x e in
        subst (λ (o : Option Range). IsWithin (range_or_full o) (full W64)) (sym y.1) (full_above y.0 x y.2 (register_fits r x e))

  -- ---- calls

  any_written : (address : ℕ) (written : List Access) → list_any (λ (access : Access). is_written (t.ranges access.register) (fixed_size access.size) address) written ≡ true → list_any (λ (access : Access). is_written (s.ranges access.register) (fixed_size access.size) address) written ≡ true
  any_written address [] e = e
  any_written address (access ∷ rest) e =
      elim (or_cases (is_written (t.ranges access.register) (fixed_size access.size) address) (list_any (λ (access : Access). is_written (t.ranges access.register) (fixed_size access.size) address) rest) e) [
        | inl f ↦
            or_left (is_written (s.ranges access.register) (fixed_size access.size) address) (list_any (λ (access : Access). is_written (s.ranges access.register) (fixed_size access.size) address) rest) (written_more (s.ranges access.register) (t.ranges access.register) (fixed_size access.size) address (p.ranges access.register) f)
        | inr f ↦
            or_right (is_written (s.ranges access.register) (fixed_size access.size) address) (list_any (λ (access : Access). is_written (s.ranges access.register) (fixed_size access.size) address) rest) (any_written address rest f)
      ]

  pub helper_sharper : (most : ℕ) (written : List Access) → IsSharper (after_helper s most written) (after_helper t most written)
  helper_sharper most written = record {
    ranges = λ r. chosen_more (eqb r 0) (Some (record { lo = 0; hi = most })) (Some (record { lo = 0; hi = most })) (cond (leb 6 r) (s.ranges r) None) (cond (leb 6 r) (t.ranges r) None) (says_itself (record { lo = 0; hi = most }) (omega arith)) (chosen_more (leb 6 r) (s.ranges r) (t.ranges r) None None (p.ranges r) (says_nothing None));
    initialized = λ address e. elim (or_cases (list_any (λ (access : Access). is_written (t.ranges access.register) (fixed_size access.size) address) written) (t.initialized address) e) [
      | inl f ↦
          or_left (list_any (λ (access : Access). is_written (s.ranges access.register) (fixed_size access.size) address) written) (s.initialized address) (any_written address written f)
      | inr f ↦
          or_right (list_any (λ (access : Access). is_written (s.ranges access.register) (fixed_size access.size) address) written) (s.initialized address) (p.initialized address f)
    ];
    words = λ w. chosen_within (list_any (λ (access : Access). may_write (s.ranges access.register) (fixed_size access.size) w) written) (full W64) (s.words.ranges w) (full W64) any_within (p.words w);
  }

  pub entry_sharper : (d : ℕ) → IsSharper (entry_state d s) (entry_state d t)
  entry_sharper d = record {
    ranges = λ r. chosen_more (eqb r 10) (Some (single (frame_end d))) (Some (single (frame_end d))) (cond (leb 1 r && leb r 5) (s.ranges r) None) (cond (leb 1 r && leb r 5) (t.ranges r) None) (says_itself (single (frame_end d)) (omega arith)) (chosen_more (leb 1 r && leb r 5) (s.ranges r) (t.ranges r) None None (p.ranges r) (says_nothing None));
    initialized = p.initialized;
    words = p.words;
  }

  pub call_sharper : (d : ℕ) (x y : AbstractState) → IsSharper x y → IsSharper (after_call d s x) (after_call d t y)
  call_sharper d x y q = record {
    ranges = λ r. chosen_more (eqb r 0) (x.ranges 0) (y.ranges 0) (cond (leb 6 r) (s.ranges r) None) (cond (leb 6 r) (t.ranges r) None) (q.ranges 0) (chosen_more (leb 6 r) (s.ranges r) (t.ranges r) None None (p.ranges r) (says_nothing None));
    initialized = λ address e.
        let both = and_parts (y.initialized address) (not (is_in_frame d address)) e in
        and_from (x.initialized address) (not (is_in_frame d address)) (q.initialized address both.0) both.1;
    words = λ w. chosen_within (is_in_frame d (word_start w)) (full W64) (x.words.ranges w) (full W64) any_within (q.words w);
  }

  -- ---- tests

  with_ranges_sharper : (d : ℕ) (src : Source) (r u : Ranges) → IsWithin r.a u.a → IsWithin r.b u.b → IsSharper (with_ranges s d src r) (with_ranges t d src u)
  with_ranges_sharper d (source.Imm value) r u first second =
      with_range_sharper s t d (Some r.a) (Some u.a) p (says_one r.a u.a first)
  with_ranges_sharper d (source.Reg reg) r u first second = cases (eqb d reg.number) where
    cases : (b : Bool) → IsSharper (cond b s (with_range (with_range s d (Some r.a)) reg.number (Some r.b))) (cond b t (with_range (with_range t d (Some u.a)) reg.number (Some u.b)))
    cases true = p
    cases false =
        with_range_sharper (with_range s d (Some r.a)) (with_range t d (Some u.a)) reg.number (Some r.b) (Some u.b) (with_range_sharper s t d (Some r.a) (Some u.a) p (says_one r.a u.a first)) (says_one r.b u.b second)

  -- operands of a test that keep some numbers
  kept_sharper : (d : ℕ) (src : Source) (o u : Option Ranges) → AreWithin o u → (x : AbstractState) → (o >>= λ r. Some (with_ranges s d src r)) ≡ Some x → (y : AbstractState) × ((u >>= λ r. Some (with_ranges t d src r)) ≡ Some y) × IsSharper x y
  kept_sharper d src None u within x e = absurd cc
  kept_sharper d src (Some r) None within x e = absurd within
  kept_sharper d src (Some r) (Some v) within x e = (
    with_ranges t d src v,
    refl,
    subst (λ (z : AbstractState). IsSharper z (with_ranges t d src v)) (some_is (with_ranges s d src r) x e) (with_ranges_sharper d src r v within.0 within.1),
  )

  -- a test that can come out a way can do so in the other state
  pub test_sharper : (narrow : Bool) (test : tests.Test) (d : ℕ) (src : Source) (taken : Bool) (b a : Range) → tested_range t narrow src ≡ Some b → t.ranges d ≡ Some a → (x : AbstractState) → after_test s narrow test d src taken ≡ Some x → (y : AbstractState) × (after_test t narrow test d src taken ≡ Some y) × IsSharper x y
  test_sharper narrow test d src taken b a b-is a-is x e =
      let c = tested_more narrow src b b-is in
      let f = p.ranges d a a-is in
      let y = kept_sharper d src (refine_of test narrow f.0 c.0 taken) (refine_of test narrow a b taken) (refine_within test narrow f.0 c.0 a b taken f.2 c.2) x (sym (after_test_is s narrow test d src taken c.0 f.0 c.1 f.1) ∙ e) in
      (y.0, after_test_is t narrow test d src taken b a b-is a-is ∙ y.1, y.2)
