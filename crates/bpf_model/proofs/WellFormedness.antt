-- The ranges at each slot hold numbers of 64 bits alone.
use Rattle.std.proofs.Common.{◌≡◌, ℕ, zero, suc, ◌+◌, ◌^◌, ◌<◌, ◌≤◌, Bool, true, false, ◌&&◌, length, cond, eqb, List, [], ◌∷◌, ◌++◌, Option, Some, None, refl, sym, ap, subst, ◌∙◌, arith, inl, inr, map, filter, fold}
use Rattle.std.specs.Prelude.{nat_le}
use Rattle.std.specs.Int.{w64, cast_unsigned}
use Rattle.std.specs.List.{AllByRecursion, list_any}
use Rattle.std.specs.Option.{option_map}
use Rattle.std.proofs.lemmas.Bool.Decides.{eqb_tells, leb_tells}
use Rattle.bpf_num.specs.declared.AluOp.{AluOp}
use Rattle.bpf_num.specs.declared.AluWidth.{AluWidth}
use Rattle.bpf_num.specs.declared.jump.Test as tests
use Rattle.bpf_num.specs.Arithmetic.{reads_destination}
use Rattle.bpf_num.specs.Bind.{◌>>=◌}
use Rattle.bpf_decode.specs.declared.insn.Insn.{Insn}
use Rattle.bpf_decode.specs.declared.insn.Insn.TheVariants.{Alu, Swap, LoadImm, Load, StoreImm, Store, Jump, JumpLong, Test, CallHelper, CallLocal, Exit}
use Rattle.bpf_decode.specs.declared.insn.Source.{Source}
use Rattle.bpf_decode.specs.declared.insn.Source.TheVariants as source
use Rattle.bpf_decode.specs.Encoding.{IsInsn}
use Rattle.reg_ranges.specs.Ranges.{Range, single, full, join_of, swap_range_of}
use Rattle.bpf_num.specs.declared.AluWidth.TheVariants.{W64}
use Rattle.bpf_decode.specs.declared.insn.Size.{Size}
use Rattle.bpf_decode.specs.declared.insn.Size.TheVariants.{B, H, W, Dw}
use Rattle.bpf_model.specs.Words.{Words, word_start, word_of, begins_at, may_write, stored_range, word_at}
use Rattle.map_helpers.specs.Helpers.{fixed_size}
use Rattle.reg_ranges.specs.Refine.{Ranges, refine_of}
use Rattle.bpf_model.specs.Access.{bytes_of}
use Rattle.bpf_model.specs.Code.{insns_by_slot, insn_at, target_of}
use Rattle.bpf_model.specs.Machine.{frames, frame_end, is_in_frame}
use Rattle.map_helpers.specs.declared.helper.Access.{Access}
use Rattle.map_helpers.specs.declared.helper.Helper.{Helper}
use Rattle.map_helpers.specs.declared.helper.Helper.TheVariants.{Get, Put, Del, Len, Next, Emit, Caller}
use Rattle.map_helpers.specs.Helpers.{helper_of}
use Rattle.bpf_model.specs.Step.{tested_immediate}
use Rattle.bpf_model.specs.AbstractState.{AbstractState, Edge, entry_state, after_call, join_option, join, join_all, source_range, destination_range, transfer, with_range, alu_range, address_range, range_after_load, range_or_full, after_store, helper_max_answer, after_helper, tested_range, with_ranges, after_test, edge_if, edges}
use Rattle.bpf_model.specs.Dataflow.{Activation, activation, Exits, is_exit, entered, behind, edges_of, flows_to, incoming, state_at, exit_of, exits_below, exits}
use Rattle.bpf_model.proofs.Options.{some_is, bind_some, map_some}
use Rattle.bpf_model.proofs.Slots.{insn_fits}
use Rattle.bpf_model.proofs.RangeLaws.{IsRange, IsRange-transfer, IsRange-swap, IsRange-loaded, IsRange-refine}
use Rattle.bpf_model.proofs.Soundness.{IsWellFormed, ImmInRange, alu_imm, test_imm, small_64, immediate_small}

-- ---- where ways join

abbrev IsRangeIfSome : Option Range → Type 0
IsRangeIfSome o = (x : Range) → o ≡ Some x → IsRange x

IsRange-join : (a b : Range) → IsRange a → IsRange b → IsRange (join_of a b)
IsRange-join a b fa fb = let ha = fa.below in let hb = fb.below in record { below = omega arith }

join_option_well_formed : (p q : Option Range) → IsRangeIfSome p → IsRangeIfSome q → IsRangeIfSome (join_option p q)
join_option_well_formed None q fp fq x e = absurd cc
join_option_well_formed (Some a) None fp fq x e = absurd cc
join_option_well_formed (Some a) (Some b) fp fq x e =
    subst (λ (y : Range). IsRange y) (some_is _ _ e) (IsRange-join a b (fp a refl) (fq b refl))

join_well_formed : (a b : AbstractState) → IsWellFormed a → IsWellFormed b → IsWellFormed (join a b)
unfolding IsWellFormed
join_well_formed a b fa fb =
    (λ r x e. join_option_well_formed (a.ranges r) (b.ranges r) (fa.0 r) (fb.0 r) x e, λ w. IsRange-join (a.words.ranges w) (b.words.ranges w) (fa.1 w) (fb.1 w))

fold_well_formed : (s : AbstractState) (ss : List AbstractState) → IsWellFormed s → AllByRecursion IsWellFormed ss → IsWellFormed (fold join s ss)
fold_well_formed s [] fs all = fs
fold_well_formed s (t ∷ ts) fs all = fold_well_formed (join s t) ts (join_well_formed s t fs all.0) all.1

join_all_well_formed : (xs : List AbstractState) (s : AbstractState) → AllByRecursion IsWellFormed xs → join_all xs ≡ Some s → IsWellFormed s
join_all_well_formed [] s all e = absurd cc
join_all_well_formed (x ∷ xs) s all e = subst IsWellFormed (some_is _ _ e) (fold_well_formed x xs all.0 all.1)

-- ---- instructions

IsRange-single : (n : ℕ) → n < 2 ^ 64 → IsRangeIfSome (Some (single n))
IsRange-single n h x e =
    let one : IsRange (single n) = record { below = h } in subst (λ (y : Range). IsRange y) (some_is (single n) x e) one

source_range_well_formed : (state : AbstractState) (src : Source) → IsWellFormed state → ImmInRange src → IsRangeIfSome (source_range state src)
unfolding IsWellFormed ImmInRange
source_range_well_formed state (source.Imm value) fit small = IsRange-single (cast_unsigned w64 value) (small_64 value small)
source_range_well_formed state (source.Reg reg) fit small = fit.0 reg.number

tested_range_well_formed : (state : AbstractState) (narrow : Bool) (src : Source) → IsWellFormed state → ImmInRange src → IsRangeIfSome (tested_range state narrow src)
unfolding IsWellFormed ImmInRange
tested_range_well_formed state narrow (source.Imm value) fit small =
    IsRange-single (tested_immediate narrow value) (immediate_small narrow value small)
tested_range_well_formed state narrow (source.Reg reg) fit small = fit.0 reg.number

destination_range_well_formed : (state : AbstractState) (op : AluOp) (d : ℕ) → IsWellFormed state → IsRangeIfSome (destination_range state op d)
unfolding IsWellFormed
destination_range_well_formed state op d fit = cases (reads_destination op) where
  cases : (b : Bool) → IsRangeIfSome (cond b (state.ranges d) (Some (single 0)))
  cases true = fit.0 d
  cases false = IsRange-single 0 (omega arith)

alu_range_well_formed : (state : AbstractState) (width : AluWidth) (op : AluOp) (d : ℕ) (src : Source) → IsWellFormed state → ImmInRange src → IsRangeIfSome (alu_range state width op d src)
alu_range_well_formed state width op d src fit small r e =
    let first = bind_some (source_range state src) (λ b. destination_range state op d >>= λ a. Some (transfer width op a b)) r e in
    let second = bind_some (destination_range state op d) (λ a. Some (transfer width op a first.0)) r first.2 in
    let b = source_range_well_formed state src fit small first.0 first.1 in
    let a = destination_range_well_formed state op d fit second.0 second.1 in
    subst (λ (y : Range). IsRange y) (some_is _ _ second.2) (IsRange-transfer width op second.0 first.0 a b)

with_range_well_formed : (state : AbstractState) (d : ℕ) (o : Option Range) → IsWellFormed state → IsRangeIfSome o → IsWellFormed (with_range state d o)
unfolding IsWellFormed
with_range_well_formed state d o fit fo = (
  λ r x e.
      elim (eqb_tells r d) [
        | inl (t, same) ↦ fo x (sym (ap (λ (b : Bool). cond b o (state.ranges r)) t) ∙ e)
        | inr (f, other) ↦ fit.0 r x (sym (ap (λ (b : Bool). cond b o (state.ranges r)) f) ∙ e)
      ],
  fit.1,
)

with_one : (state : AbstractState) (d : ℕ) (y : Range) → IsWellFormed state → IsRange y → IsWellFormed (with_range state d (Some y))
with_one state d y fit fy =
    with_range_well_formed state d (Some y) fit (λ x e. subst (λ (z : Range). IsRange z) (some_is y x e) fy)

-- ---- words

IsRange-full : IsRange (full W64)
IsRange-full = record { below = omega arith }

chosen_well_formed : (b : Bool) (x y : Range) → IsRange x → IsRange y → IsRange (cond b x y)
chosen_well_formed true x y fx fy = fx
chosen_well_formed false x y fx fy = fy

stored_range_well_formed : (size : Size) (x : Range) → IsRange x → IsRange (stored_range size x)
stored_range_well_formed Dw x fx = fx
stored_range_well_formed _ x fx = IsRange-full

range_or_full_well_formed : (o : Option Range) → IsRangeIfSome o → IsRange (range_or_full o)
range_or_full_well_formed None fo = IsRange-full
range_or_full_well_formed (Some x) fo = fo x refl

word_at_well_formed : (words : Words) (o : Option Range) → ((w : ℕ) → IsRange (words.ranges w)) → IsRange (word_at words o)
word_at_well_formed words None fit = IsRange-full
word_at_well_formed words (Some address) fit =
    chosen_well_formed (begins_at words (Some address) (word_of address.lo)) (words.ranges (word_of address.lo)) (full W64) (fit (word_of address.lo)) IsRange-full

range_after_load_well_formed : (state : AbstractState) (size : Size) (signed : Bool) (o : Option Range) → IsWellFormed state → IsRange (range_after_load state size signed o)
unfolding IsWellFormed
range_after_load_well_formed state B signed o fit = IsRange-loaded B signed
range_after_load_well_formed state H signed o fit = IsRange-loaded H signed
range_after_load_well_formed state W signed o fit = IsRange-loaded W signed
range_after_load_well_formed state Dw true o fit = IsRange-loaded Dw true
range_after_load_well_formed state Dw false o fit = word_at_well_formed state.words o fit.1

after_store_well_formed : (state : AbstractState) (o : Option Range) (size : ℕ) (x : Range) → IsWellFormed state → IsRange x → IsWellFormed (after_store state o size x)
unfolding IsWellFormed
after_store_well_formed state o size x fit fx =
    (fit.0, λ w. chosen_well_formed (begins_at state.words o w) x _ fx (chosen_well_formed (may_write o size w) (full W64) (state.words.ranges w) IsRange-full (fit.1 w)))

after_helper_well_formed : (state : AbstractState) (most : ℕ) (written : List Access) → most < 2 ^ 64 → IsWellFormed state → IsWellFormed (after_helper state most written)
unfolding IsWellFormed
after_helper_well_formed state most written small fit = (registers, λ w. chosen_well_formed (list_any (λ (access : Access). may_write (state.ranges access.register) (fixed_size access.size) w) written) (full W64) (state.words.ranges w) IsRange-full (fit.1 w)) where
  registers : (r : ℕ) (x : Range) → (after_helper state most written).ranges r ≡ Some x → IsRange x
  registers r x e =
      elim (eqb_tells r 0) [
        | inl (t, same) ↦
            let is : record { lo = 0; hi = most } ≡ x = some_is _ _ (sym (ap (λ (b : Bool). cond b (Some (record { lo = 0; hi = most })) (cond (nat_le 6 r) (state.ranges r) None)) t) ∙ e) in
            subst (λ (y : Range). IsRange y) is (record { below = small })
        | inr (f, other) ↦
            let rest : cond (nat_le 6 r) (state.ranges r) None ≡ Some x = sym (ap (λ (b : Bool). cond b (Some (record { lo = 0; hi = most })) (cond (nat_le 6 r) (state.ranges r) None)) f) ∙ e in
            elim (leb_tells 6 r) [
              | inl (g, high) ↦ fit.0 r x (sym (ap (λ (b : Bool). cond b (state.ranges r) None) g) ∙ rest)
              | inr (g, low) ↦ absurd (let none = sym (ap (λ (b : Bool). cond b (state.ranges r) None) g) ∙ rest in cc)
            ]
      ]

swap_well_formed : (state : AbstractState) (d : ℕ) (f : Range → Range) → IsWellFormed state → ((a : Range) → IsRange a → IsRange (f a)) → IsRangeIfSome (option_map f (state.ranges d))
unfolding IsWellFormed
swap_well_formed state d f fit keeps x e =
    let a = map_some f (state.ranges d) x e in
    subst (λ (y : Range). IsRange y) a.2 (keeps a.0 (fit.0 d a.0 a.1))

-- ---- edges

abbrev EdgesWellFormed : List Edge → Type 0
EdgesWellFormed es = AllByRecursion (λ (e : Edge). IsWellFormed e.state) es

edge_if_well_formed : (target : Option ℕ) (o : Option AbstractState) → ((s : AbstractState) → o ≡ Some s → IsWellFormed s) → EdgesWellFormed (edge_if target o)
edge_if_well_formed None o fit = tt
edge_if_well_formed (Some t) None fit = tt
edge_if_well_formed (Some t) (Some s) fit = (fit s refl, tt)

with_ranges_well_formed : (state : AbstractState) (d : ℕ) (src : Source) (r : Ranges) → IsWellFormed state → IsRange r.a → IsRange r.b → IsWellFormed (with_ranges state d src r)
with_ranges_well_formed state d (source.Imm value) r fit fa fb = with_one state d r.a fit fa
with_ranges_well_formed state d (source.Reg reg) r fit fa fb = cases (eqb d reg.number) where
  cases : (p : Bool) → IsWellFormed (cond p state (with_range (with_range state d (Some r.a)) reg.number (Some r.b)))
  cases true = fit
  cases false = with_one (with_range state d (Some r.a)) reg.number r.b (with_one state d r.a fit fa) fb

range_at : (state : AbstractState) (d : ℕ) (x : Range) → IsWellFormed state → state.ranges d ≡ Some x → IsRange x
unfolding IsWellFormed
range_at state d x fit e = fit.0 d x e

after_test_well_formed : (state : AbstractState) (narrow : Bool) (test : tests.Test) (d : ℕ) (src : Source) (taken : Bool) → IsWellFormed state → ImmInRange src → (s : AbstractState) → after_test state narrow test d src taken ≡ Some s → IsWellFormed s
after_test_well_formed state narrow test d src taken fit small s e =
    let first = bind_some (tested_range state narrow src) (λ b. state.ranges d >>= λ a. refine_of test narrow a b taken >>= λ r. Some (with_ranges state d src r)) s e in
    let second = bind_some (state.ranges d) (λ a. refine_of test narrow a first.0 taken >>= λ r. Some (with_ranges state d src r)) s first.2 in
    let third = bind_some (refine_of test narrow second.0 first.0 taken) (λ r. Some (with_ranges state d src r)) s second.2 in
    let both = IsRange-refine test narrow second.0 first.0 taken third.0 (range_at state d second.0 fit second.1) (tested_range_well_formed state narrow src fit small first.0 first.1) third.1 in
    subst IsWellFormed (some_is (with_ranges state d src third.0) s third.2) (with_ranges_well_formed state d src third.0 fit both.0 both.1)

same_state : (state : AbstractState) → IsWellFormed state → (s : AbstractState) → Some state ≡ Some s → IsWellFormed s
same_state state fit s e = subst IsWellFormed (some_is state s e) fit

edges_append : (xs ys : List Edge) → EdgesWellFormed xs → EdgesWellFormed ys → EdgesWellFormed (xs ++ ys)
edges_append [] ys fx fy = fy
edges_append (x ∷ xs) ys fx fy = (fx.0, edges_append xs ys fx.1 fy)

max_answer_small : (o : Option Helper) → helper_max_answer o < 2 ^ 64
max_answer_small None = omega arith
max_answer_small (Some Get) = omega arith
max_answer_small (Some Put) = omega arith
max_answer_small (Some Del) = omega arith
max_answer_small (Some Len) = omega arith
max_answer_small (Some Next) = omega arith
max_answer_small (Some Emit) = omega arith
max_answer_small (Some Caller) = omega arith

-- behind calls too
abbrev BehindWellFormed : (ℕ → AbstractState → Option AbstractState) → Type 0
BehindWellFormed b = (target : ℕ) (state s : AbstractState) → IsWellFormed state → b target state ≡ Some s → IsWellFormed s

called_well_formed : (b : ℕ → AbstractState → Option AbstractState) → BehindWellFormed b → (o : Option ℕ) (state s : AbstractState) → IsWellFormed state → (o >>= λ target. b target state) ≡ Some s → IsWellFormed s
called_well_formed b keeps None state s fit e = absurd cc
called_well_formed b keeps (Some target) state s fit e = keeps target state s fit e

edges_well_formed : (b : ℕ → AbstractState → Option AbstractState) → BehindWellFormed b → (slot : ℕ) (state : AbstractState) (x : Insn) → IsWellFormed state → IsInsn x → EdgesWellFormed (edges b slot state x)
edges_well_formed b keeps slot state (Alu width op dst src) fit is =
    (with_range_well_formed state dst.number (alu_range state width op dst.number src) fit (alu_range_well_formed state width op dst.number src fit (alu_imm width op dst src is)), tt)
edges_well_formed b keeps slot state (Swap kind width dst) fit is =
    (with_range_well_formed state dst.number (option_map (swap_range_of kind width) (state.ranges dst.number)) fit (swap_well_formed state dst.number (swap_range_of kind width) fit (IsRange-swap kind width)), tt)
edges_well_formed b keeps slot state (LoadImm dst value) fit is = (with_one state dst.number (single value) fit (record { below = is }), tt)
edges_well_formed b keeps slot state (Load size signed dst base offset) fit is =
    (with_one state dst.number (range_after_load state size signed (address_range state base.number offset)) fit (range_after_load_well_formed state size signed (address_range state base.number offset) fit), tt)
edges_well_formed b keeps slot state (StoreImm size base offset imm) fit is =
    (after_store_well_formed state (address_range state base.number offset) (bytes_of size) _ fit (stored_range_well_formed size (single (cast_unsigned w64 imm)) (record { below = small_64 imm is.1 })), tt)
edges_well_formed b keeps slot state (Store size base offset src) fit is =
    (after_store_well_formed state (address_range state base.number offset) (bytes_of size) _ fit (stored_range_well_formed size (range_or_full (state.ranges src.number)) (range_or_full_well_formed (state.ranges src.number) (λ x e. range_at state src.number x fit e))), tt)
edges_well_formed b keeps slot state (Jump offset) fit is = edge_if_well_formed (target_of slot offset) (Some state) (same_state state fit)
edges_well_formed b keeps slot state (JumpLong offset) fit is = edge_if_well_formed (target_of slot offset) (Some state) (same_state state fit)
edges_well_formed b keeps slot state (Test narrow test dst src offset) fit is =
    let small = test_imm narrow test dst src offset is in
    edges_append (edge_if (Some (slot + 1)) (after_test state narrow test dst.number src false)) (edge_if (target_of slot offset) (after_test state narrow test dst.number src true)) (edge_if_well_formed (Some (slot + 1)) (after_test state narrow test dst.number src false) (after_test_well_formed state narrow test dst.number src false fit small)) (edge_if_well_formed (target_of slot offset) (after_test state narrow test dst.number src true) (after_test_well_formed state narrow test dst.number src true fit small))
edges_well_formed b keeps slot state (CallHelper number) fit is =
    (after_helper_well_formed state _ _ (max_answer_small (helper_of number)) fit, tt)
edges_well_formed b keeps slot state (CallLocal offset) fit is =
    edge_if_well_formed (Some (slot + 1)) (target_of slot offset >>= λ target. b target state) (λ s e. called_well_formed b keeps (target_of slot offset) state s fit e)
edges_well_formed b keeps slot state Exit fit is = tt

edges_of_well_formed : (a : Activation) → BehindWellFormed (behind a) → (slot : ℕ) (o : Option AbstractState) (i : Option Insn) → ((s : AbstractState) → o ≡ Some s → IsWellFormed s) → ((x : Insn) → i ≡ Some x → IsInsn x) → EdgesWellFormed (edges_of a slot o i)
edges_of_well_formed a keeps slot None i fs fx = tt
edges_of_well_formed a keeps slot (Some state) None fs fx = tt
edges_of_well_formed a keeps slot (Some state) (Some x) fs fx =
    edges_well_formed (behind a) keeps slot state x (fs state refl) (fx x refl)

flows_to_well_formed : (t : ℕ) (es : List Edge) → EdgesWellFormed es → AllByRecursion IsWellFormed (flows_to t es)
flows_to_well_formed t [] all = tt
flows_to_well_formed t (e ∷ es) all =
    let later = flows_to_well_formed t es all.1 in
    elim (eqb e.target t) as (λ (b : Bool). AllByRecursion IsWellFormed (map (λ (x : Edge). x.state) (cond b (e ∷ filter (λ (x : Edge). eqb x.target t) es) (filter (λ (x : Edge). eqb x.target t) es)))) [
      | true ↦ (all.0, later)
      | false ↦ later
    ]

append_well_formed : (xs ys : List AbstractState) → AllByRecursion IsWellFormed xs → AllByRecursion IsWellFormed ys → AllByRecursion IsWellFormed (xs ++ ys)
append_well_formed [] ys fx fy = fy
append_well_formed (x ∷ xs) ys fx fy = (fx.0, append_well_formed xs ys fx.1 fy)

first_well_formed : (state : AbstractState) (b : Bool) → IsWellFormed state → AllByRecursion IsWellFormed (cond b (state ∷ []) [])
first_well_formed state true fit = (fit, tt)
first_well_formed state false fit = tt

-- ---- functions

-- the exits of functions that are entered in a state that is well-formed are so too
abbrev ExitsWellFormed : Exits → Type 0
ExitsWellFormed exits = (entry : ℕ) (state : AbstractState) → IsWellFormed state → AllByRecursion IsWellFormed (exits entry state)

pub entry_well_formed : (d : ℕ) (state : AbstractState) → d < frames → IsWellFormed state → IsWellFormed (entry_state d state)
unfolding IsWellFormed
entry_well_formed d state shallow fit = (registers, fit.1) where
  chosen : (r : ℕ) (x : Range) (b : Bool) → cond b (state.ranges r) None ≡ Some x → IsRange x
  chosen r x true h = fit.0 r x h
  chosen r x false h = absurd cc

  registers : (r : ℕ) (x : Range) → (entry_state d state).ranges r ≡ Some x → IsRange x
  registers r x e =
      elim (eqb_tells r 10) [
        | inl (t, same) ↦
            let is : single (frame_end d) ≡ x = some_is _ _ (sym (ap (λ (b : Bool). cond b (Some (single (frame_end d))) (cond (nat_le 1 r && nat_le r 5) (state.ranges r) None)) t) ∙ e) in
            subst (λ (y : Range). IsRange y) is (record { below = omega arith })
        | inr (f, other) ↦
            let rest : cond (nat_le 1 r && nat_le r 5) (state.ranges r) None ≡ Some x = sym (ap (λ (b : Bool). cond b (Some (single (frame_end d))) (cond (nat_le 1 r && nat_le r 5) (state.ranges r) None)) f) ∙ e in
            chosen r x (nat_le 1 r && nat_le r 5) rest
      ]

after_call_well_formed : (d : ℕ) (state returned : AbstractState) → IsWellFormed state → IsWellFormed returned → IsWellFormed (after_call d state returned)
unfolding IsWellFormed
after_call_well_formed d state returned fit gives = (λ r x e. first r x (eqb r 0) e, λ w. chosen_well_formed (is_in_frame d (word_start w)) (full W64) (returned.words.ranges w) IsRange-full (gives.1 w)) where
  rest : (r : ℕ) (x : Range) (b : Bool) → cond b (state.ranges r) None ≡ Some x → IsRange x
  rest r x true h = fit.0 r x h
  rest r x false h = absurd cc

  first : (r : ℕ) (x : Range) (b : Bool) → cond b (returned.ranges 0) (cond (nat_le 6 r) (state.ranges r) None) ≡ Some x → IsRange x
  first r x true h = gives.0 0 x h
  first r x false h = rest r x (nat_le 6 r) h

behind_well_formed : (a : Activation) → a.depth + 1 < frames → ExitsWellFormed a.exits → BehindWellFormed (behind a)
behind_well_formed a shallow keeps target state s fit e =
    let j = map_some (after_call (a.depth + 1) state) (join_all (a.exits target (entered a state))) s e in
    subst IsWellFormed j.2 (after_call_well_formed (a.depth + 1) state j.0 fit (join_all_well_formed (a.exits target (entered a state)) j.0 (keeps target (entered a state) (entry_well_formed (a.depth + 1) state shallow fit)) j.1))

module _ (code : List Insn) (code_fits : AllByRecursion IsInsn code) (a : Activation) (enters : IsWellFormed a.state) (keeps : BehindWellFormed (behind a)) where
  incoming_well_formed : (n t : ℕ) → AllByRecursion IsWellFormed (incoming code a n t)
  incoming_well_formed zero t = first_well_formed a.state (eqb t a.entry) enters
  incoming_well_formed (suc n) t =
      let here = edges_of_well_formed a keeps n (join_all (incoming code a n n)) (insn_at code n) (λ s e. join_all_well_formed (incoming code a n n) s (incoming_well_formed n n) e) (λ x e. insn_fits code n x code_fits e) in
      append_well_formed (incoming code a n t) (flows_to t (edges_of a n (join_all (incoming code a n n)) (insn_at code n))) (incoming_well_formed n t) (flows_to_well_formed t (edges_of a n (join_all (incoming code a n n)) (insn_at code n)) here)

  state_well_formed : (slot : ℕ) (state : AbstractState) → state_at code a slot ≡ Some state → IsWellFormed state
  state_well_formed slot state e = join_all_well_formed (incoming code a slot slot) state (incoming_well_formed slot slot) e

  exit_well_formed : (o : Option AbstractState) (i : Option Insn) → ((s : AbstractState) → o ≡ Some s → IsWellFormed s) → AllByRecursion IsWellFormed (exit_of o i)
  exit_well_formed None i all = tt
  exit_well_formed (Some s) None all = tt
  exit_well_formed (Some s) (Some x) all = first_well_formed s (is_exit x) (all s refl)

  exits_below_well_formed : (n : ℕ) → AllByRecursion IsWellFormed (exits_below code a n)
  exits_below_well_formed zero = tt
  exits_below_well_formed (suc n) =
      append_well_formed (exits_below code a n) _ (exits_below_well_formed n) (exit_well_formed (state_at code a n) (insn_at code n) (λ s e. state_well_formed n s e))

keeps_behind : (code : List Insn) (left entry : ℕ) (state : AbstractState) → left < frames → ExitsWellFormed (exits code left) → BehindWellFormed (behind (activation left (exits code left) entry state))
keeps_behind code zero entry state h keeps = λ target t s fit e. never s e where
  never : (s : AbstractState) → None ≡ Some s → IsWellFormed s
  never s e = absurd cc
keeps_behind code (suc left) entry state h keeps =
    behind_well_formed (activation (suc left) (exits code (suc left)) entry state) (omega arith) keeps

exits_well_formed : (code : List Insn) → AllByRecursion IsInsn code → (left : ℕ) → left ≤ frames → ExitsWellFormed (exits code left)
exits_well_formed code code_fits zero h entry state fit = tt
exits_well_formed code code_fits (suc left) h entry state fit =
    exits_below_well_formed code code_fits (activation left (exits code left) entry state) fit (keeps_behind code left entry state (omega arith) (exits_well_formed code code_fits left (omega arith))) (length (insns_by_slot code))

-- each state of a function that is entered in a state that is well-formed
pub well_formed_at : (code : List Insn) → AllByRecursion IsInsn code → (left entry : ℕ) (start : AbstractState) → left < frames → IsWellFormed start → (slot : ℕ) (state : AbstractState) → state_at code (activation left (exits code left) entry start) slot ≡ Some state → IsWellFormed state
well_formed_at code code_fits left entry start h fit slot state e =
    state_well_formed code code_fits (activation left (exits code left) entry start) fit (keeps_behind code left entry start h (exits_well_formed code code_fits left (omega arith))) slot state e
