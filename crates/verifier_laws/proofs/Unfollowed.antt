-- Where no word is followed, nothing is known of any: in the state that a function is entered in, and so in each one.
use Rattle.std.proofs.Common.{◌≡◌, ℕ, zero, suc, ◌+◌, Bool, true, false, cond, eqb, ltb, List, [], ◌∷◌, ◌++◌, length, map, filter, fold, Option, Some, None, refl, ap, subst, ◌∙◌, arith}
use Rattle.std.specs.Int.{w64, cast_unsigned}
use Rattle.std.specs.List.{AllByRecursion, list_any}
use Rattle.std.proofs.lemmas.Bool.{le-ltb, and_right}
use Rattle.bpf_num.specs.declared.AluWidth.TheVariants.{W64}
use Rattle.bpf_num.specs.declared.jump.Test as tests
use Rattle.bpf_num.specs.Bind.{◌>>=◌}
use Rattle.bpf_decode.specs.declared.insn.Insn.{Insn}
use Rattle.bpf_decode.specs.declared.insn.Insn.TheVariants.{Alu, Swap, LoadImm, Load, StoreImm, Store, Jump, JumpLong, Test, CallHelper, CallLocal, Exit}
use Rattle.bpf_decode.specs.declared.insn.Source.{Source}
use Rattle.bpf_decode.specs.declared.insn.Source.TheVariants as source
use Rattle.reg_ranges.specs.Ranges.{Range, single, full, join_of}
use Rattle.reg_ranges.specs.Refine.{Ranges, refine_of}
use Rattle.bpf_model.specs.declared.profile.Profile.TheVariants.{One}
use Rattle.bpf_model.specs.Code.{insns_by_slot, insn_at, target_of}
use Rattle.bpf_model.specs.Machine.{is_in_frame}
use Rattle.bpf_model.specs.Words.{Words, word_start, begins_at, may_write, stored_range}
use Rattle.bpf_model.specs.Access.{bytes_of}
use Rattle.bpf_model.specs.AbstractState.{AbstractState, Edge, start_state, entry_state, after_call, join, join_all, address_range, range_or_full, with_range, after_store, after_helper, tested_range, with_ranges, after_test, edge_if, edges}
use Rattle.bpf_model.specs.Dataflow.{Activation, activation, Exits, is_exit, entered, behind, edges_of, flows_to, incoming, state_at, exit_of, exits_below, exits}
use Rattle.map_helpers.specs.declared.helper.Access.{Access}
use Rattle.map_helpers.specs.Helpers.{fixed_size}
use Rattle.bpf_model.proofs.Options.{some_is, bind_some, map_some}

-- a state in which no word is followed
pub record FollowsNone (t : AbstractState) : Type 0 where
  pub followed : t.words.followed ≡ 0
  pub nothing : (w : ℕ) → t.words.ranges w ≡ full W64

pub start_follows_none : FollowsNone (start_state One)
start_follows_none = record { followed = refl; nothing = λ w. refl }

chosen : (b : Bool) (x y : Range) → x ≡ full W64 → y ≡ full W64 → cond b x y ≡ full W64
chosen true x y e f = e
chosen false x y e f = f

-- ---- where ways join

join_none : (s t : AbstractState) → FollowsNone s → FollowsNone t → FollowsNone (join s t)
join_none s t p q = record {
  followed = p.followed;
  nothing = λ w. ap (λ (x : Range). join_of x (t.words.ranges w)) (p.nothing w) ∙ ap (join_of (full W64)) (q.nothing w);
}

fold_none : (s : AbstractState) (ss : List AbstractState) → FollowsNone s → AllByRecursion FollowsNone ss → FollowsNone (fold join s ss)
fold_none s [] p all = p
fold_none s (t ∷ ts) p all = fold_none (join s t) ts (join_none s t p all.0) all.1

join_all_none : (xs : List AbstractState) (s : AbstractState) → AllByRecursion FollowsNone xs → join_all xs ≡ Some s → FollowsNone s
join_all_none [] s all e = absurd cc
join_all_none (x ∷ xs) s all e = subst FollowsNone (some_is _ _ e) (fold_none x xs all.0 all.1)

-- ---- edges

-- another state with the same words
same_words : (s t : AbstractState) → t.words ≡ s.words → FollowsNone s → FollowsNone t
same_words s t e p = record {
  followed = ap (λ (w : Words). w.followed) e ∙ p.followed;
  nothing = λ w. ap (λ (v : Words). v.ranges w) e ∙ p.nothing w;
}

store_none : (s : AbstractState) (o : Option Range) (size : ℕ) (x : Range) → FollowsNone s → FollowsNone (after_store s o size x)
store_none s o size x p = record {
  followed = p.followed;
  nothing = λ w. ap (λ (b : Bool). cond b x (cond (may_write o size w) (full W64) (s.words.ranges w))) (never o w) ∙ chosen (may_write o size w) (full W64) (s.words.ranges w) refl (p.nothing w);
} where
  never : (o : Option Range) (w : ℕ) → begins_at s.words o w ≡ false
  never None w = refl
  never (Some address) w =
      and_right _ (ltb w s.words.followed) (ap (ltb w) p.followed ∙ le-ltb w 0 (omega arith))

helper_none : (s : AbstractState) (most : ℕ) (written : List Access) → FollowsNone s → FollowsNone (after_helper s most written)
helper_none s most written p = record {
  followed = p.followed;
  nothing = λ w. chosen (list_any (λ (access : Access). may_write (s.ranges access.register) (fixed_size access.size) w) written) (full W64) (s.words.ranges w) refl (p.nothing w);
}

pub entry_none : (d : ℕ) (s : AbstractState) → FollowsNone s → FollowsNone (entry_state d s)
entry_none d s p = record { followed = p.followed; nothing = p.nothing }

call_none : (d : ℕ) (s returned : AbstractState) → FollowsNone returned → FollowsNone (after_call d s returned)
call_none d s returned p = record {
  followed = p.followed;
  nothing = λ w. chosen (is_in_frame d (word_start w)) (full W64) (returned.words.ranges w) refl (p.nothing w);
}

test_none : (s : AbstractState) (narrow : Bool) (test : tests.Test) (d : ℕ) (src : Source) (taken : Bool) → FollowsNone s → (x : AbstractState) → after_test s narrow test d src taken ≡ Some x → FollowsNone x
test_none s narrow test d src taken p x e =
    let b = bind_some (tested_range s narrow src) (λ b. s.ranges d >>= λ a. refine_of test narrow a b taken >>= λ r. Some (with_ranges s d src r)) x e in
    let a = bind_some (s.ranges d) (λ a. refine_of test narrow a b.0 taken >>= λ r. Some (with_ranges s d src r)) x b.2 in
    let r = bind_some (refine_of test narrow a.0 b.0 taken) (λ r. Some (with_ranges s d src r)) x a.2 in
    subst FollowsNone (some_is (with_ranges s d src r.0) x r.2) (written src r.0) where
      written : (src : Source) (r : Ranges) → FollowsNone (with_ranges s d src r)
      written (source.Imm value) r = same_words s (with_range s d (Some r.a)) refl p
      written (source.Reg reg) r = cases (eqb d reg.number) where
        cases : (b : Bool) → FollowsNone (cond b s (with_range (with_range s d (Some r.a)) reg.number (Some r.b)))
        cases true = p
        cases false = same_words s (with_range (with_range s d (Some r.a)) reg.number (Some r.b)) refl p

abbrev EdgesNone : List Edge → Type 0
EdgesNone es = AllByRecursion (λ (e : Edge). FollowsNone e.state) es

if_none : (target : Option ℕ) (o : Option AbstractState) → ((s : AbstractState) → o ≡ Some s → FollowsNone s) → EdgesNone (edge_if target o)
if_none None o all = tt
if_none (Some t) None all = tt
if_none (Some t) (Some s) all = (all s refl, tt)

edges_append : (xs ys : List Edge) → EdgesNone xs → EdgesNone ys → EdgesNone (xs ++ ys)
edges_append [] ys p q = q
edges_append (x ∷ xs) ys p q = (p.0, edges_append xs ys p.1 q)

-- behind calls too
abbrev BehindNone : (ℕ → AbstractState → Option AbstractState) → Type 0
BehindNone b = (target : ℕ) (state s : AbstractState) → FollowsNone state → b target state ≡ Some s → FollowsNone s

called_none : (b : ℕ → AbstractState → Option AbstractState) → BehindNone b → (o : Option ℕ) (state s : AbstractState) → FollowsNone state → (o >>= λ target. b target state) ≡ Some s → FollowsNone s
called_none b keeps None state s p e = absurd cc
called_none b keeps (Some target) state s p e = keeps target state s p e

itself_none : (state : AbstractState) → FollowsNone state → (s : AbstractState) → Some state ≡ Some s → FollowsNone s
itself_none state p s e = subst FollowsNone (some_is state s e) p

edges_none : (b : ℕ → AbstractState → Option AbstractState) → BehindNone b → (slot : ℕ) (s : AbstractState) (x : Insn) → FollowsNone s → EdgesNone (edges b slot s x)
edges_none b keeps slot s (Alu width op dst src) p = (same_words s _ refl p, tt)
edges_none b keeps slot s (Swap kind width dst) p = (same_words s _ refl p, tt)
edges_none b keeps slot s (LoadImm dst value) p = (same_words s _ refl p, tt)
edges_none b keeps slot s (Load size signed dst base offset) p = (same_words s _ refl p, tt)
edges_none b keeps slot s (StoreImm size base offset imm) p =
    (store_none s (address_range s base.number offset) (bytes_of size) (stored_range size (single (cast_unsigned w64 imm))) p, tt)
edges_none b keeps slot s (Store size base offset src) p =
    (store_none s (address_range s base.number offset) (bytes_of size) (stored_range size (range_or_full (s.ranges src.number))) p, tt)
edges_none b keeps slot s (Jump offset) p = if_none (target_of slot offset) (Some s) (itself_none s p)
edges_none b keeps slot s (JumpLong offset) p = if_none (target_of slot offset) (Some s) (itself_none s p)
edges_none b keeps slot s (Test narrow test dst src offset) p =
    edges_append (edge_if (Some (slot + 1)) (after_test s narrow test dst.number src false)) (edge_if (target_of slot offset) (after_test s narrow test dst.number src true)) (if_none (Some (slot + 1)) (after_test s narrow test dst.number src false) (test_none s narrow test dst.number src false p)) (if_none (target_of slot offset) (after_test s narrow test dst.number src true) (test_none s narrow test dst.number src true p))
edges_none b keeps slot s (CallHelper number) p = (helper_none s _ _ p, tt)
edges_none b keeps slot s (CallLocal offset) p =
    if_none (Some (slot + 1)) (target_of slot offset >>= λ target. b target s) (λ x e. called_none b keeps (target_of slot offset) s x p e)
edges_none b keeps slot s Exit p = tt

edges_of_none : (a : Activation) → BehindNone (behind a) → (slot : ℕ) (o : Option AbstractState) (i : Option Insn) → ((s : AbstractState) → o ≡ Some s → FollowsNone s) → EdgesNone (edges_of a slot o i)
edges_of_none a keeps slot None i all = tt
edges_of_none a keeps slot (Some state) None all = tt
edges_of_none a keeps slot (Some state) (Some x) all = edges_none (behind a) keeps slot state x (all state refl)

flows_none : (t : ℕ) (es : List Edge) → EdgesNone es → AllByRecursion FollowsNone (flows_to t es)
flows_none t [] all = tt
flows_none t (e ∷ es) all =
    let later = flows_none t es all.1 in
    elim (eqb e.target t) as (λ (b : Bool). AllByRecursion FollowsNone (map (λ (x : Edge). x.state) (cond b (e ∷ filter (λ (x : Edge). eqb x.target t) es) (filter (λ (x : Edge). eqb x.target t) es)))) [
      | true ↦ (all.0, later)
      | false ↦ later
    ]

append_none : (xs ys : List AbstractState) → AllByRecursion FollowsNone xs → AllByRecursion FollowsNone ys → AllByRecursion FollowsNone (xs ++ ys)
append_none [] ys p q = q
append_none (x ∷ xs) ys p q = (p.0, append_none xs ys p.1 q)

first_none : (state : AbstractState) (b : Bool) → FollowsNone state → AllByRecursion FollowsNone (cond b (state ∷ []) [])
first_none state true p = (p, tt)
first_none state false p = tt

-- ---- functions

abbrev ExitsNone : Exits → Type 0
ExitsNone leave = (entry : ℕ) (state : AbstractState) → FollowsNone state → AllByRecursion FollowsNone (leave entry state)

behind_none : (a : Activation) → ExitsNone a.exits → BehindNone (behind a)
behind_none a keeps target state s p e =
    let j = map_some (after_call (a.depth + 1) state) (join_all (a.exits target (entered a state))) s e in
    subst FollowsNone j.2 (call_none (a.depth + 1) state j.0 (join_all_none (a.exits target (entered a state)) j.0 (keeps target (entered a state) (entry_none (a.depth + 1) state p)) j.1))

module _ (code : List Insn) (a : Activation) (enters : FollowsNone a.state) (keeps : BehindNone (behind a)) where
  incoming_none : (n t : ℕ) → AllByRecursion FollowsNone (incoming code a n t)
  incoming_none zero t = first_none a.state (eqb t a.entry) enters
  incoming_none (suc n) t =
      let here = edges_of_none a keeps n (join_all (incoming code a n n)) (insn_at code n) (λ s e. join_all_none (incoming code a n n) s (incoming_none n n) e) in
      append_none (incoming code a n t) (flows_to t (edges_of a n (join_all (incoming code a n n)) (insn_at code n))) (incoming_none n t) (flows_none t (edges_of a n (join_all (incoming code a n n)) (insn_at code n)) here)

  state_none : (slot : ℕ) (state : AbstractState) → state_at code a slot ≡ Some state → FollowsNone state
  state_none slot state e = join_all_none (incoming code a slot slot) state (incoming_none slot slot) e

  exit_none : (o : Option AbstractState) (i : Option Insn) → ((s : AbstractState) → o ≡ Some s → FollowsNone s) → AllByRecursion FollowsNone (exit_of o i)
  exit_none None i all = tt
  exit_none (Some s) None all = tt
  exit_none (Some s) (Some x) all = first_none s (is_exit x) (all s refl)

  exits_below_none : (n : ℕ) → AllByRecursion FollowsNone (exits_below code a n)
  exits_below_none zero = tt
  exits_below_none (suc n) =
      append_none (exits_below code a n) _ (exits_below_none n) (exit_none (state_at code a n) (insn_at code n) (λ s e. state_none n s e))

exits_none : (code : List Insn) (left : ℕ) → ExitsNone (exits code left)
exits_none code zero entry state p = tt
exits_none code (suc left) entry state p =
    exits_below_none code (activation left (exits code left) entry state) p (behind_none (activation left (exits code left) entry state) (exits_none code left)) (length (insns_by_slot code))

-- each state of a function that is entered so
pub none_at : (code : List Insn) (left entry : ℕ) (start : AbstractState) → FollowsNone start → (slot : ℕ) (state : AbstractState) → state_at code (activation left (exits code left) entry start) slot ≡ Some state → FollowsNone state
none_at code left entry start p slot state e =
    state_none code (activation left (exits code left) entry start) p (behind_none (activation left (exits code left) entry start) (exits_none code left)) slot state e
