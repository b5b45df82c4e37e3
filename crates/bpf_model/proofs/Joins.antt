-- The abstract state at a slot is below that of each edge to it.
use Rattle.std.proofs.Common.{◌≡◌, ℕ, zero, suc, ◌<◌, ◌≤◌, Bool, true, false, cond, eqb, List, [], ◌∷◌, Option, Some, None, refl, sym, ap, subst, ◌∙◌, arith, inl, inr, map, filter, fold}
use Rattle.std.proofs.lemmas.Bool.{cases_lt, eq-eqb}
use Rattle.bpf_decode.specs.declared.insn.Insn.{Insn}
use Rattle.reg_ranges.specs.Ranges.{Range}
use Rattle.bpf_model.specs.AbstractState.{AbstractState, Edge, join_option, join, join_all, IsOneOf}
use Rattle.bpf_decode.specs.declared.insn.Insn.TheVariants.{Exit}
use Rattle.bpf_model.specs.Code.{insn_at}
use Rattle.bpf_model.specs.Dataflow.{Activation, flows_to, incoming, state_at, edges_at, exit_of, exits_below}
use Rattle.bpf_model.proofs.Options.{and_true, some_is, IsOneOf-left, IsOneOf-right}

-- all that is certain in a is certain in b
pub record IsBelow (a b : AbstractState) : Type 0 where
  pub ranges : (r : ℕ) (x : Range) → a.ranges r ≡ Some x → (y : Range) × (b.ranges r ≡ Some y) × (x.lo ≤ y.lo) × (y.hi ≤ x.hi)
  pub initialized : (address : ℕ) → a.initialized address ≡ true → b.initialized address ≡ true
  pub words : (w : ℕ) → ((a.words.ranges w).lo ≤ (b.words.ranges w).lo) × ((b.words.ranges w).hi ≤ (a.words.ranges w).hi)

-- a range that lies in another
abbrev Within : Range → Option Range → Type 0
Within x o = (y : Range) × (o ≡ Some y) × (x.lo ≤ y.lo) × (y.hi ≤ x.hi)

join_option_left : (p q : Option Range) (x : Range) → join_option p q ≡ Some x → Within x p
join_option_left None q x e = absurd cc
join_option_left (Some a) None x e = absurd cc
join_option_left (Some a) (Some b) x e =
    subst (λ (y : Range). Within y (Some a)) (some_is _ _ e) (a, refl, omega arith, omega arith)

join_option_right : (p q : Option Range) (x : Range) → join_option p q ≡ Some x → Within x q
join_option_right None q x e = absurd cc
join_option_right (Some a) None x e = absurd cc
join_option_right (Some a) (Some b) x e =
    subst (λ (y : Range). Within y (Some b)) (some_is _ _ e) (b, refl, omega arith, omega arith)

IsBelow-join_left : (a b : AbstractState) → IsBelow (join a b) a
IsBelow-join_left a b = record {
  ranges = λ r x e. join_option_left (a.ranges r) (b.ranges r) x e;
  initialized = λ address h. (and_true _ _ h).0;
  words = λ w. (omega arith, omega arith);
}

IsBelow-join_right : (a b : AbstractState) → IsBelow (join a b) b
IsBelow-join_right a b = record {
  ranges = λ r x e. join_option_right (a.ranges r) (b.ranges r) x e;
  initialized = λ address h. (and_true _ _ h).1;
  words = λ w. (omega arith, omega arith);
}

IsBelow-trans : (a b c : AbstractState) → IsBelow a b → IsBelow b c → IsBelow a c
IsBelow-trans a b c p q = record {
  ranges = λ r x e.
      let first = p.ranges r x e in
      let second = q.ranges r first.0 first.1 in
      (second.0, second.1, omega (arith, first.2, second.2), omega (arith, first.3, second.3));
  initialized = λ address h. q.initialized address (p.initialized address h);
  words = λ w.
      let first = p.words w in
      let second = q.words w in
      (omega (arith, first.0, second.0), omega (arith, first.1, second.1));
}

pub IsBelow-self : (a : AbstractState) → IsBelow a a
IsBelow-self a = record { ranges = λ r x e. (x, e, omega arith, omega arith); initialized = λ address h. h; words = λ w. (omega arith, omega arith) }

fold_below_first : (s : AbstractState) (ss : List AbstractState) → IsBelow (fold join s ss) s
fold_below_first s [] = IsBelow-self s
fold_below_first s (t ∷ ts) = IsBelow-trans _ _ _ (fold_below_first (join s t) ts) (IsBelow-join_left s t)

fold_below : (s : AbstractState) (ss : List AbstractState) (x : AbstractState) → IsOneOf x ss → IsBelow (fold join s ss) x
fold_below s [] x h = absurd h
fold_below s (t ∷ ts) x (inl e) =
    subst (λ (y : AbstractState). IsBelow (fold join (join s t) ts) y) (sym e) (IsBelow-trans _ _ _ (fold_below_first (join s t) ts) (IsBelow-join_right s t))
fold_below s (t ∷ ts) x (inr h) = fold_below (join s t) ts x h

-- a join is below each state that is joined
pub join_all_below : (xs : List AbstractState) (x : AbstractState) → IsOneOf x xs → (j : AbstractState) × (join_all xs ≡ Some j) × IsBelow j x
join_all_below [] x h = absurd h
join_all_below (s ∷ ss) x (inl e) =
    (fold join s ss, refl, subst (λ (y : AbstractState). IsBelow (fold join s ss) y) (sym e) (fold_below_first s ss))
join_all_below (s ∷ ss) x (inr h) = (fold join s ss, refl, fold_below s ss x h)

-- an edge carries its state to its target
flows_to_one : (t : ℕ) (e : Edge) (es : List Edge) → IsOneOf e es → e.target ≡ t → IsOneOf e.state (flows_to t es)
flows_to_one t e [] h same = absurd h
flows_to_one t e (d ∷ es) (inl is) same =
    let here : eqb d.target t ≡ true = eq-eqb d.target t (ap (λ (x : Edge). x.target) (sym is) ∙ same) in
    rw here (inl (ap (λ (x : Edge). x.state) is))
flows_to_one t e (d ∷ es) (inr h) same =
    let later = flows_to_one t e es h same in
    elim (eqb d.target t) as (λ (b : Bool). IsOneOf e.state (map (λ (x : Edge). x.state) (cond b (d ∷ filter (λ (x : Edge). eqb x.target t) es) (filter (λ (x : Edge). eqb x.target t) es)))) [
      | true ↦ inr later
      | false ↦ later
    ]

incoming_one : (code : List Insn) (a : Activation) (s : ℕ) (e : Edge) (n : ℕ) → IsOneOf e (edges_at code a s) → s < n → IsOneOf e.state (incoming code a n e.target)
incoming_one code a s e zero h lt = absurd (omega arith)
incoming_one code a s e (suc n) h lt =
    elim (cases_lt s n) [
      | inl less ↦ IsOneOf-left e.state (incoming code a n e.target) _ (incoming_one code a s e n h less)
      | inr more ↦
          let same : s ≡ n = omega arith in
          IsOneOf-right e.state (incoming code a n e.target) _ (flows_to_one e.target e (edges_at code a n) (subst (λ (k : ℕ). IsOneOf e (edges_at code a k)) same h) refl)
    ]

-- an edge to a later slot: the slot's state is below the edge's
pub arrives : (code : List Insn) (a : Activation) (s : ℕ) (e : Edge) → IsOneOf e (edges_at code a s) → s < e.target → (j : AbstractState) × (state_at code a e.target ≡ Some j) × IsBelow j e.state
arrives code a s e h lt =
    join_all_below (incoming code a e.target e.target) e.state (incoming_one code a s e e.target h lt)

-- the state with which a function is entered
at_entry : (code : List Insn) (a : Activation) (n : ℕ) → IsOneOf a.state (incoming code a n a.entry)
at_entry code a zero = let same : eqb a.entry a.entry ≡ true = eq-eqb a.entry a.entry refl in rw same (inl refl)
at_entry code a (suc n) = IsOneOf-left a.state (incoming code a n a.entry) _ (at_entry code a n)

-- that of its slot is below it
pub enters_below : (code : List Insn) (a : Activation) → (j : AbstractState) × (state_at code a a.entry ≡ Some j) × IsBelow j a.state
enters_below code a = join_all_below (incoming code a a.entry a.entry) a.state (at_entry code a a.entry)

-- the states at exits
exits_below_one : (code : List Insn) (a : Activation) (t n : ℕ) (s : AbstractState) → IsOneOf s (exit_of (state_at code a t) (insn_at code t)) → t < n → IsOneOf s (exits_below code a n)
exits_below_one code a t zero s h lt = absurd (omega arith)
exits_below_one code a t (suc n) s h lt =
    elim (cases_lt t n) [
      | inl less ↦ IsOneOf-left s (exits_below code a n) _ (exits_below_one code a t n s h less)
      | inr more ↦
          let same : t ≡ n = omega arith in
          IsOneOf-right s (exits_below code a n) _ (subst (λ (k : ℕ). IsOneOf s (exit_of (state_at code a k) (insn_at code k))) same h)
    ]

-- the join over the exits is below that at each exit
pub exit_below : (code : List Insn) (a : Activation) (t n : ℕ) (s : AbstractState) → state_at code a t ≡ Some s → insn_at code t ≡ Some Exit → t < n → (j : AbstractState) × (join_all (exits_below code a n) ≡ Some j) × IsBelow j s
exit_below code a t n s known is lt =
    let here : exit_of (state_at code a t) (insn_at code t) ≡ s ∷ [] = ap (λ (o : Option AbstractState). exit_of o (insn_at code t)) known ∙ ap (exit_of (Some s)) is in
    join_all_below (exits_below code a n) s (exits_below_one code a t n s (subst (λ (xs : List AbstractState). IsOneOf s xs) (sym here) (inl refl)) lt)
