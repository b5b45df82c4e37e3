-- The sweep of a function: its start, one slot more, and its end.
use Rattle.std.proofs.Common.{◌≡◌, ◌⊎◌, ℕ, zero, suc, ◌+◌, ◌<◌, ◌≤◌, Bool, false, cond, eqb, max, List, [], ◌∷◌, ◌++◌, length, get_or, replicate, Option, Some, None, Box, refl, sym, ap, subst, ◌∙◌, arith, inl, inr}
use Rattle.std.specs.Prelude.{slice_get, option_and_then}
use Rattle.std.specs.List.{AppendsResults, FoldsTo}
use Rattle.std.specs.declared.alloc.Global.{Global}
use Rattle.std.proofs.lemmas.Bool.{cases_lt, eq-eqb}
use Rattle.std.proofs.lemmas.Bool.Decides.{eqb_tells}
use Rattle.std.proofs.lemmas.List.{get_or-set_same, get_or-set_other, length-set, length-replicate, length-append, append-nil, append_assoc}
use Rattle.bpf_decode.specs.declared.insn.Insn.{Insn}
use Rattle.bpf_model.specs.Code.{insns_by_slot, insn_at}
use Rattle.bpf_model.specs.AbstractState as model
use Rattle.bpf_model.specs.AbstractState.{Edge, join_all, IsOneOf}
use Rattle.bpf_model.specs.Dataflow.{Activation, called, entered, edges_of, flows_to, incoming, state_at, edges_at, exit_of, exits_below, Bounds, Takes, Path, HasBound}
use Rattle.bpf_model.specs.Verdict.{Visit as ModelVisit, Visits, insn_dataflow_fault, visits_of, visits_of_callee, visits_at, visits_below, visits_in, visit_fault, max_visits}
use Rattle.bpf_model.specs.declared.fault.VerifyFault.{VerifyFault}
use Rattle.bpf_model.proofs.Edges.{edge_within, edges_lead}
use Rattle.bpf_model.proofs.Slots.{insn_at_less}
use Rattle.bpf_model.proofs.Joins.{enters_below}
use Rattle.bpf_model.proofs.Bounds.{one_bound, takes_one}
use Rattle.bpf_model.proofs.Visits.{right_both, visits_here}
use Rattle.bpf_verifier.specs.declared.abstract_state.AbstractState.{AbstractState}
use Rattle.bpf_verifier.specs.declared.dataflow.Visit.{Visit}
use Rattle.bpf_verifier.specs.declared.dataflow.Returned.{Returned}
use Rattle.bpf_verifier.specs.Represents.{state_of, Represents}
use Rattle.bpf_verifier.specs.Slots.{or_exit}
use Rattle.bpf_verifier.specs.Sweep.{Pending, visit_in, RepresentsVisit, pending_at, Flowed, HasAtLeast, OfSteps, AreFew, AreRight, Fails, Entered, activation_of, IsEntered, SweepAt, IsStart, Followed}
use Rattle.bpf_verifier.proofs.Bits.{not_equal}
use Rattle.bpf_verifier.proofs.States.{stack_of}
use Rattle.bpf_verifier.proofs.Sweeps.{states_flow, least_flow, brought, steps_flow, length_flow, taken, taken_others}

-- the arrays' state, as the definition has it
pub same_state : {n_words : ℕ} → (v : AbstractState n_words) (m : model.AbstractState) → Represents v m → state_of v.ranges (stack_of m) ≡ m
same_state {n_words} v m h = λ i. record { ranges = λ r. h.ranges_are r i; initialized = m.initialized; words = m.words }

weaker : {n_words : ℕ} → (o : Option (Visit n_words)) (a b : ℕ) → b ≤ a → HasAtLeast o a → HasAtLeast o b
weaker {n_words} None a b h k = absurd k
weaker {n_words} (Some v) a b h k = omega (arith, h, k)

-- ---- what is pending as a function is entered

pub start_long : {n_words : ℕ} → (pending : Pending n_words) (slots entry : ℕ) (visit : Box (Visit n_words) Global) → IsStart pending slots entry visit → length pending ≡ slots
start_long {n_words} pending slots entry visit start =
    ap length start ∙ length-set (replicate slots None) entry (Some visit) ∙ length-replicate slots None

start_here : {n_words : ℕ} → (pending : Pending n_words) (slots entry : ℕ) (visit : Box (Visit n_words) Global) → entry < slots → IsStart pending slots entry visit → pending_at pending entry ≡ Some visit.value
start_here {n_words} pending slots entry visit inside start =
    let long = length-replicate {A = Option (Box (Visit n_words) Global)} slots None in
    ap (λ (l : Pending n_words). pending_at l entry) start ∙ ap visit_in (get_or-set_same (replicate slots None) entry (Some visit) None (omega (arith, inside, long)))

nothing_at : {n_words : ℕ} → (slots t : ℕ) → pending_at {n = n_words} (replicate slots None) t ≡ None
nothing_at {n_words} zero t = refl
nothing_at {n_words} (suc k) zero = refl
nothing_at {n_words} (suc k) (suc t) = nothing_at {n_words = n_words} k t

start_elsewhere : {n_words : ℕ} → (pending : Pending n_words) (slots entry : ℕ) (visit : Box (Visit n_words) Global) → IsStart pending slots entry visit → (t : ℕ) → (t ≡ entry → ⊥) → pending_at pending t ≡ None
start_elsewhere {n_words} pending slots entry visit start t apart =
    ap (λ (l : Pending n_words). pending_at l t) start ∙ ap visit_in (get_or-set_other (replicate slots None) entry t (Some visit) None apart) ∙ nothing_at {n_words = n_words} slots t

pub start_few : {n_words : ℕ} → (pending : Pending n_words) (slots entry visits : ℕ) (visit : Box (Visit n_words) Global) → entry < slots → IsStart pending slots entry visit → visit.value.steps ≡ 0 → visits ≤ max_visits → AreFew visits visits pending 0
start_few {n_words} pending slots entry visits visit inside start none few = record {
  pending_few = λ t. elim (eqb_tells t entry) [
    | inl (e, same) ↦ subst (λ (o : Option (Visit n_words)). OfSteps (λ n. visits + n ≤ visits) o) (sym (ap (pending_at pending) same ∙ start_here pending slots entry visit inside start)) (omega (arith, none))
    | inr (e, apart) ↦ subst (λ (o : Option (Visit n_words)). OfSteps (λ n. visits + n ≤ visits) o) (sym (start_elsewhere pending slots entry visit start t apart)) tt
  ];
  bound_few = omega arith;
  visits_few = few;
}

module _ (f : Entered) where
  abbrev A : Activation
  A = activation_of f

  abbrev B : Bounds
  B = HasBound f.code f.left

  abbrev V : Visits
  V = visits_in f.code f.left

  -- ---- before the function's slot nothing is visited

  none_at_first : (t : ℕ) → t < f.entry → incoming f.code A 0 t ≡ []
  none_at_first t h =
      let no : eqb t f.entry ≡ false = not_equal t f.entry (λ e. absurd (omega (arith, h, e))) in
      ap (λ (b : Bool). cond b (f.state ∷ []) []) no

  idle_before : (n : ℕ) → n ≤ f.entry → (t : ℕ) → incoming f.code A n t ≡ incoming f.code A 0 t
  idle_before zero h t = refl
  idle_before (suc n) h t =
      let none : join_all (incoming f.code A n n) ≡ None = ap join_all (idle_before n (omega (arith, h)) n ∙ none_at_first n (omega (arith, h))) in
      let out : edges_of A n (join_all (incoming f.code A n n)) (insn_at f.code n) ≡ [] = ap (λ (o : Option model.AbstractState). edges_of A n o (insn_at f.code n)) none in
      ap (λ (es : List Edge). incoming f.code A n t ++ flows_to t es) out ∙ append-nil (incoming f.code A n t) ∙ idle_before n (omega (arith, h)) t

  state_before : (t : ℕ) → t < f.entry → state_at f.code A t ≡ None
  state_before t h = ap join_all (idle_before t (omega (arith, h)) t ∙ none_at_first t h)

  visits_before : (n : ℕ) → n ≤ f.entry → visits_below f.code A V n ≡ []
  visits_before zero h = refl
  visits_before (suc n) h =
      ap (λ (vs : List ModelVisit). vs ++ visits_at f.code A V n) (visits_before n (omega (arith, h)))
      ∙ ap (λ (o : Option model.AbstractState). visits_of A V n o (insn_at f.code n)) (state_before n (omega (arith, h)))

  exits_before : (n : ℕ) → n ≤ f.entry → exits_below f.code A n ≡ []
  exits_before zero h = refl
  exits_before (suc n) h =
      ap (λ (ss : List model.AbstractState). ss ++ exit_of (state_at f.code A n) (insn_at f.code n)) (exits_before n (omega (arith, h)))
      ∙ ap (λ (o : Option model.AbstractState). exit_of o (insn_at f.code n)) (state_before n (omega (arith, h)))

  module _ (is : IsEntered f) where
    path_from : (n count t : ℕ) → Path f.code A B n count t → f.entry ≤ t
    path_from zero count t path = let e = path.0 in omega (arith, e)
    path_from (suc n) count t (s, d, before, own, path, takes, one, to, sum) =
        let less = (edge_within f.code A s d (is.structured s) one).0 in
        let low = path_from n before s path in
        omega (arith, less, low, to)

    -- ---- the start

    pub sweep_start : {n_words : ℕ} → (pending : Pending n_words) (slots : ℕ) (visit : Box (Visit n_words) Global) → slots ≡ length (insns_by_slot f.code) → f.entry < slots → IsStart pending slots f.entry visit → visit.value.steps ≡ 0 → Represents visit.value.state f.state → SweepAt f f.entry pending (record { exit = None; bound = 0 }) f.base
    sweep_start {n_words} pending slots visit many inside start none state = record {
      long = ap length start ∙ length-set (replicate slots None) f.entry (Some visit) ∙ length-replicate slots None ∙ many;
      states = λ t low high. elim (eqb_tells t f.entry) [
        | inl (e, same) ↦ subst (λ (k : ℕ). RepresentsVisit (pending_at pending k) (join_all (incoming f.code A f.entry k))) (sym same) (
            let here : incoming f.code A f.entry f.entry ≡ f.state ∷ [] = idle_before f.entry (omega arith) f.entry ∙ ap (λ (b : Bool). cond b (f.state ∷ []) []) (eq-eqb f.entry f.entry refl) in
            subst (λ (ss : List model.AbstractState). RepresentsVisit (pending_at pending f.entry) (join_all ss)) (sym here)
            (subst (λ (o : Option (Visit n_words)). RepresentsVisit o (Some f.state)) (sym at_entry) state)
            )
        | inr (e, apart) ↦ (
            let here : incoming f.code A f.entry t ≡ [] = idle_before f.entry (omega arith) t ∙ ap (λ (b : Bool). cond b (f.state ∷ []) []) e in
            subst (λ (ss : List model.AbstractState). RepresentsVisit (pending_at pending t) (join_all ss)) (sym here)
            (subst (λ (o : Option (Visit n_words)). RepresentsVisit o None) (sym (others t apart)) tt)
            )
      ];
      longest = λ t low high n s before own e less path takes one to. let from = path_from n before s path in absurd (omega (arith, from, less));
      met = λ t low high. elim (eqb_tells t f.entry) [
        | inl (e, same) ↦ subst (λ (o : Option (Visit n_words)). OfSteps (λ count. (n : ℕ) × Path f.code A B n count t) o) (sym (ap (pending_at pending) same ∙ at_entry)) (0, (same, none))
        | inr (e, apart) ↦ subst (λ (o : Option (Visit n_words)). OfSteps (λ count. (n : ℕ) × Path f.code A B n count t) o) (sym (others t apart)) tt
      ];
      right = subst AreRight (sym (visits_before f.entry (omega arith))) tt;
      count = let nil = ap length (visits_before f.entry (omega arith)) in omega (arith, nil);
      exits_are = subst (λ (ss : List model.AbstractState). RepresentsVisit {n = n_words} None (join_all ss)) (sym (exits_before f.entry (omega arith))) tt;
      enough = λ n t before own less path takes. let from = path_from n before t path in absurd (omega (arith, from, less));
      reached = inl (omega arith, refl);
    } where
      at_entry : pending_at pending f.entry ≡ Some visit.value
      at_entry = start_here pending slots f.entry visit inside start

      others : (t : ℕ) → (t ≡ f.entry → ⊥) → pending_at pending t ≡ None
      others = start_elsewhere pending slots f.entry visit start

    -- ---- the end

    pub followed : {n_words : ℕ} → (slot : ℕ) (pending : Pending n_words) (returned : Returned n_words) (visits : ℕ) → SweepAt f slot pending returned visits → slot ≡ length (insns_by_slot f.code) → Followed f returned visits
    followed {n_words} slot pending returned visits p end = record {
      right = subst (λ (n : ℕ). AreRight (visits_below f.code A V n)) end p.right;
      count = p.count ∙ ap (λ (n : ℕ). f.base + length (visits_below f.code A V n)) end;
      exits_are = subst (λ (n : ℕ). RepresentsVisit (visit_in returned.exit) (join_all (exits_below f.code A n))) end p.exits_are;
      bound = record {
        enough = λ n t before own path takes. let less = insn_at_less f.code t takes.insn takes.insn_is in p.enough n t before own (omega (arith, less, end)) path takes;
        met = met p.reached;
      };
    } where
      met : ((slot ≤ f.entry) × (returned.bound ≡ 0)) ⊎ ((n : ℕ) × (t : ℕ) × (before : ℕ) × (own : ℕ) × Path f.code A B n before t × Takes f.code A B t own × (returned.bound ≡ before + own)) → (n : ℕ) × (t : ℕ) × (before : ℕ) × (own : ℕ) × Path f.code A B n before t × Takes f.code A B t own × (returned.bound ≡ before + own)
      met (inl (early, none)) = let less = insn_at_less f.code f.entry is.insn is.begins in absurd (omega (arith, early, less, end))
      met (inr h) = h

    -- ---- a slot

    module _ {n_words : ℕ} (slot : ℕ) (old : Pending n_words) (returned : Returned n_words) (visits : ℕ) (p : SweepAt f slot old returned visits) (inside : slot < length old) where
      longest_here : (o : Option (Visit n_words)) → pending_at old slot ≡ o → (n count : ℕ) → Path f.code A B (suc n) count slot → HasAtLeast o count
      longest_here o e n count (s, d, before, own, path, takes, one, to, sum) =
          let less = (edge_within f.code A s d (is.structured s) one).0 in
          subst (λ (q : Option (Visit n_words)). HasAtLeast q count) e
          (subst (HasAtLeast (pending_at old slot)) (sym sum) (p.longest slot (omega arith) inside n s before own d (omega (arith, less, to)) path takes one to))

      most_here : (v : Visit n_words) → pending_at old slot ≡ Some v → (n count : ℕ) → Path f.code A B n count slot → count ≤ v.steps
      most_here v e zero count path = let none = path.1 in omega (arith, none)
      most_here v e (suc n) count path = longest_here (Some v) e n count path

      path_here : (v : Visit n_words) → pending_at old slot ≡ Some v → (n : ℕ) × Path f.code A B n v.steps slot
      path_here v e = subst (OfSteps (λ count. (n : ℕ) × Path f.code A B n count slot)) e (p.met slot (omega arith) inside)

      -- the state of the slot
      pub state_here : (v : Visit n_words) → pending_at old slot ≡ Some v → (m : model.AbstractState) × (state_at f.code A slot ≡ Some m) × Represents v.state m
      state_here v e = of (state_at f.code A slot) refl (subst (λ (o : Option (Visit n_words)). RepresentsVisit o (state_at f.code A slot)) e (p.states slot (omega arith) inside)) where
        of : (o : Option model.AbstractState) → state_at f.code A slot ≡ o → RepresentsVisit (Some v) (state_at f.code A slot) → (m : model.AbstractState) × (state_at f.code A slot ≡ Some m) × Represents v.state m
        of None q r = absurd (subst (RepresentsVisit (Some v)) q r)
        of (Some m) q r = (m, q, subst (RepresentsVisit (Some v)) q r)

      -- nothing is pending: no edge leads here
      none_here : pending_at old slot ≡ None → state_at f.code A slot ≡ None
      none_here e = nothing (state_at f.code A slot) refl (subst (λ (o : Option (Visit n_words)). RepresentsVisit o (state_at f.code A slot)) e (p.states slot (omega arith) inside)) where
        nothing : (o : Option model.AbstractState) → state_at f.code A slot ≡ o → RepresentsVisit {n = n_words} None (state_at f.code A slot) → state_at f.code A slot ≡ None
        nothing None q r = q
        nothing (Some m) q r = absurd (subst (RepresentsVisit {n = n_words} None) q r)

      -- an instruction begins where something has come to
      pub begins_here : (v : Visit n_words) → pending_at old slot ≡ Some v → (x : Insn) × (insn_at f.code slot ≡ Some x)
      begins_here v e = let path = path_here v e in led path.0 v.steps path.1 where
        led : (n count : ℕ) → Path f.code A B n count slot → (x : Insn) × (insn_at f.code slot ≡ Some x)
        led zero count path = subst (λ (t : ℕ). (x : Insn) × (insn_at f.code t ≡ Some x)) (sym path.0) (is.insn, is.begins)
        led (suc n) count (s, d, before, own, path, takes, one, to, sum) =
            subst (λ (t : ℕ). (x : Insn) × (insn_at f.code t ≡ Some x)) to (edges_lead f.code A s d (is.structured s) one).begins

      no_path_here : pending_at old slot ≡ None → (n count : ℕ) → Path f.code A B n count slot → ⊥
      no_path_here e zero count path =
          let first = enters_below f.code A in
          let both = sym (ap (state_at f.code A) path.0 ∙ first.1) ∙ none_here e in cc
      no_path_here e (suc n) count path = longest_here None e n count path

      -- no instruction begins here: no path leads here
      no_insn_here : insn_at f.code slot ≡ None → (n count : ℕ) → Path f.code A B n count slot → ⊥
      no_insn_here e zero count path = let both = sym e ∙ ap (insn_at f.code) path.0 ∙ is.begins in cc
      no_insn_here e (suc n) count (s, d, before, own, path, takes, one, to, sum) =
          let leads = edges_lead f.code A s d (is.structured s) one in
          let begins = leads.begins in
          let both = sym e ∙ ap (insn_at f.code) (sym to) ∙ begins.1 in cc

      -- what the visit of a slot has done
      pub record Visited (v : Visit n_words) (own : ℕ) (new : Pending n_words) (after : Returned n_words) (count : ℕ) : Type 0 where
        pub takes : Takes f.code A B slot own
        pub flowed : Flowed (edges_at f.code A slot) (v.steps + own) (taken old slot) new
        pub right : AreRight (visits_at f.code A V slot)
        pub count_is : count ≡ visits + length (visits_at f.code A V slot)
        pub exits_are : RepresentsVisit (visit_in after.exit) (join_all (exits_below f.code A slot ++ exit_of (state_at f.code A slot) (insn_at f.code slot)))
        pub most : after.bound ≡ max returned.bound (v.steps + own)

      module _ (v : Visit n_words) (here : pending_at old slot ≡ Some v) (own : ℕ) (new : Pending n_words) (after : Returned n_words) (count : ℕ) (s : Visited v own new after count) where
        long_mid : length (taken old slot) ≡ length old
        long_mid = length-set old slot None

        long_new : length new ≡ length old
        long_new = length_flow (edges_at f.code A slot) (v.steps + own) (taken old slot) new s.flowed ∙ long_mid

        within : (t : ℕ) → t < length new → t < length (taken old slot)
        within t h = omega (arith, h, long_mid, long_new)

        visited_longest : (t : ℕ) → suc slot ≤ t → t < length new → (n k before taken_by : ℕ) (e : Edge) → k < suc slot → Path f.code A B n before k → Takes f.code A B k taken_by → IsOneOf e (edges_at f.code A k) → e.target ≡ t → HasAtLeast (pending_at new t) (before + taken_by)
        visited_longest t low high n k before taken_by e less path takes one to =
            elim (cases_lt k slot) [
              | inl lt ↦ least_flow t (v.steps + own) (edges_at f.code A slot) (taken old slot) new (before + taken_by) (within t high) s.flowed (subst (λ (o : Option (Visit n_words)). HasAtLeast o (before + taken_by)) (sym (taken_others old slot t (omega (arith, low)))) (p.longest t (omega (arith, low)) (omega (arith, high, long_new)) n k before taken_by e lt path takes one to))
              | inr le ↦ (
                  let same : k ≡ slot = omega (arith, less, le) in
                  let most = most_here v here n before (subst (Path f.code A B n before) same path) in
                  let equal = takes_one f.code is.structured A B (one_bound f.code is.structured f.left) slot taken_by own (subst (λ (j : ℕ). Takes f.code A B j taken_by) same takes) s.takes in
                  weaker (pending_at new t) (v.steps + own) (before + taken_by) (omega (arith, most, equal)) (brought t (v.steps + own) (edges_at f.code A slot) (taken old slot) new e (within t high) s.flowed (subst (λ (j : ℕ). IsOneOf e (edges_at f.code A j)) same one) to)
                  )
            ]

        visited_enough : (n t before taken_by : ℕ) → t < suc slot → Path f.code A B n before t → Takes f.code A B t taken_by → before + taken_by ≤ after.bound
        visited_enough n t before taken_by less path takes =
            let bound = s.most in
            elim (cases_lt t slot) [
              | inl lt ↦ let low = p.enough n t before taken_by lt path takes in omega (arith, low, bound)
              | inr le ↦ (
                  let same : t ≡ slot = omega (arith, less, le) in
                  let most = most_here v here n before (subst (Path f.code A B n before) same path) in
                  let equal = takes_one f.code is.structured A B (one_bound f.code is.structured f.left) slot taken_by own (subst (λ (j : ℕ). Takes f.code A B j taken_by) same takes) s.takes in
                  omega (arith, most, equal, bound)
                  )
            ]

        visited_met : ((slot ≤ f.entry) × (returned.bound ≡ 0)) ⊎ ((n : ℕ) × (t : ℕ) × (before : ℕ) × (o : ℕ) × Path f.code A B n before t × Takes f.code A B t o × (returned.bound ≡ before + o)) → (n : ℕ) × (t : ℕ) × (before : ℕ) × (o : ℕ) × Path f.code A B n before t × Takes f.code A B t o × (after.bound ≡ before + o)
        visited_met (inl (early, none)) =
            let path = path_here v here in
            let bound = s.most in
            (path.0, slot, v.steps, own, path.1, s.takes, omega (arith, bound, none))
        visited_met (inr (n, t, before, o, path, takes, met)) =
            let bound = s.most in
            elim (cases_lt returned.bound (v.steps + own)) [
              | inl lt ↦ (let to_here = path_here v here in (to_here.0, slot, v.steps, own, to_here.1, s.takes, omega (arith, bound, lt)))
              | inr le ↦ (n, t, before, o, path, takes, omega (arith, bound, met, le))
            ]

        pub sweep_visited : SweepAt f (suc slot) new after count
        sweep_visited = record {
          long = long_new ∙ p.long;
          states = λ t low high.
              states_flow t (v.steps + own) (edges_at f.code A slot) (taken old slot) new (incoming f.code A slot t) (within t high) s.flowed (subst (λ (o : Option (Visit n_words)). RepresentsVisit o (join_all (incoming f.code A slot t))) (sym (taken_others old slot t (omega (arith, low)))) (p.states t (omega (arith, low)) (omega (arith, high, long_new))));
          longest = visited_longest;
          met = λ t low high.
              let path = path_here v here in
              steps_flow t (v.steps + own) (λ c. (n : ℕ) × Path f.code A B n c t) (edges_at f.code A slot) (taken old slot) new (within t high) s.flowed (λ e one to. (suc path.0, (slot, e, v.steps, own, path.1, s.takes, one, to, refl))) (subst (OfSteps (λ c. (n : ℕ) × Path f.code A B n c t)) (sym (taken_others old slot t (omega (arith, low)))) (p.met t (omega (arith, low)) (omega (arith, high, long_new))));
          right = right_both (visits_below f.code A V slot) (visits_at f.code A V slot) p.right s.right;
          count =
              let before = p.count in
              let more = s.count_is in
              let both = length-append (visits_below f.code A V slot) (visits_at f.code A V slot) in
              omega (arith, before, more, both);
          exits_are = s.exits_are;
          enough = visited_enough;
          reached = inr (visited_met p.reached);
        }

      -- a slot that isn't visited
      unvisited : edges_at f.code A slot ≡ [] → visits_at f.code A V slot ≡ [] → exit_of (state_at f.code A slot) (insn_at f.code slot) ≡ [] → ((n count : ℕ) → Path f.code A B n count slot → ⊥) → SweepAt f (suc slot) (taken old slot) returned visits
      unvisited no_edges no_visits no_exit no_path = record {
        long = length-set old slot None ∙ p.long;
        states = λ t low high.
            let long = length-set old slot None in
            let same : incoming f.code A (suc slot) t ≡ incoming f.code A slot t = ap (λ (es : List Edge). incoming f.code A slot t ++ flows_to t es) no_edges ∙ append-nil (incoming f.code A slot t) in
            subst (λ (ss : List model.AbstractState). RepresentsVisit (pending_at (taken old slot) t) (join_all ss)) (sym same)
            (subst (λ (o : Option (Visit n_words)). RepresentsVisit o (join_all (incoming f.code A slot t))) (sym (taken_others old slot t (omega (arith, low)))) (p.states t (omega (arith, low)) (omega (arith, high, long))));
        longest = λ t low high n k before own e less path takes one to.
            let long = length-set old slot None in
            elim (cases_lt k slot) [
              | inl lt ↦ subst (λ (o : Option (Visit n_words)). HasAtLeast o (before + own)) (sym (taken_others old slot t (omega (arith, low)))) (p.longest t (omega (arith, low)) (omega (arith, high, long)) n k before own e lt path takes one to)
              | inr le ↦ let same : k ≡ slot = omega (arith, less, le) in absurd (no_path n before (subst (Path f.code A B n before) same path))
            ];
        met = λ t low high.
            let long = length-set old slot None in
            subst (OfSteps (λ c. (n : ℕ) × Path f.code A B n c t)) (sym (taken_others old slot t (omega (arith, low)))) (p.met t (omega (arith, low)) (omega (arith, high, long)));
        right = subst (λ (vs : List ModelVisit). AreRight (visits_below f.code A V slot ++ vs)) (sym no_visits) (subst AreRight (sym (append-nil (visits_below f.code A V slot))) p.right);
        count =
            let before = p.count in
            let same = ap length (ap (λ (vs : List ModelVisit). visits_below f.code A V slot ++ vs) no_visits ∙ append-nil (visits_below f.code A V slot)) in
            omega (arith, before, same);
        exits_are = subst (λ (ss : List model.AbstractState). RepresentsVisit (visit_in returned.exit) (join_all (exits_below f.code A slot ++ ss))) (sym no_exit) (subst (λ (ss : List model.AbstractState). RepresentsVisit (visit_in returned.exit) (join_all ss)) (sym (append-nil (exits_below f.code A slot))) p.exits_are);
        enough = λ n t before own less path takes.
            elim (cases_lt t slot) [
              | inl lt ↦ p.enough n t before own lt path takes
              | inr le ↦ let same : t ≡ slot = omega (arith, less, le) in absurd (no_path n before (subst (Path f.code A B n before) same path))
            ];
        reached = later p.reached;
      } where
        later : ((slot ≤ f.entry) × (returned.bound ≡ 0)) ⊎ ((n : ℕ) × (t : ℕ) × (before : ℕ) × (o : ℕ) × Path f.code A B n before t × Takes f.code A B t o × (returned.bound ≡ before + o)) → ((suc slot ≤ f.entry) × (returned.bound ≡ 0)) ⊎ ((n : ℕ) × (t : ℕ) × (before : ℕ) × (o : ℕ) × Path f.code A B n before t × Takes f.code A B t o × (returned.bound ≡ before + o))
        later (inl (early, none)) = elim (cases_lt slot f.entry) [
          | inl lt ↦ inl (omega (arith, lt), none)
          | inr le ↦ let same : slot ≡ f.entry = omega (arith, early, le) in absurd (no_path 0 0 (same, refl))
        ]
        later (inr h) = inr h

      pub sweep_none : pending_at old slot ≡ None → SweepAt f (suc slot) (taken old slot) returned visits
      sweep_none e =
          let none = none_here e in
          unvisited (ap (λ (o : Option model.AbstractState). edges_of A slot o (insn_at f.code slot)) none) (ap (λ (o : Option model.AbstractState). visits_of A V slot o (insn_at f.code slot)) none) (ap (λ (o : Option model.AbstractState). exit_of o (insn_at f.code slot)) none) (no_path_here e)

      pub sweep_gap : insn_at f.code slot ≡ None → SweepAt f (suc slot) (taken old slot) returned visits
      sweep_gap e =
          unvisited (ap (edges_of A slot (state_at f.code A slot)) e ∙ no_edges (state_at f.code A slot)) (ap (visits_of A V slot (state_at f.code A slot)) e ∙ no_visits (state_at f.code A slot)) (ap (exit_of (state_at f.code A slot)) e ∙ no_exit (state_at f.code A slot)) (no_insn_here e) where
            no_edges : (o : Option model.AbstractState) → edges_of A slot o None ≡ []
            no_edges None = refl
            no_edges (Some m) = refl

            no_visits : (o : Option model.AbstractState) → visits_of A V slot o None ≡ []
            no_visits None = refl
            no_visits (Some m) = refl

            no_exit : (o : Option model.AbstractState) → exit_of o None ≡ []
            no_exit None = refl
            no_exit (Some m) = refl

      -- ---- a visit that fails

      -- the visits of the function, those of this slot within
      visits_apart : (n : ℕ) → slot < n → (rest : List ModelVisit) × (visits_below f.code A V n ≡ visits_below f.code A V slot ++ (visits_at f.code A V slot ++ rest))
      visits_apart zero h = absurd (omega (arith, h))
      visits_apart (suc n) h =
          elim (cases_lt slot n) [
            | inl lt ↦ (
                let before = visits_apart n lt in (
                  before.0 ++ visits_at f.code A V n,
                  ap (λ (vs : List ModelVisit). vs ++ visits_at f.code A V n) before.1
                      ∙ append_assoc (visits_below f.code A V slot) (visits_at f.code A V slot ++ before.0) (visits_at f.code A V n)
                      ∙ ap (λ (vs : List ModelVisit). visits_below f.code A V slot ++ vs) (append_assoc (visits_at f.code A V slot) before.0 (visits_at f.code A V n)),
                )
                )
            | inr le ↦ (
                let same : n ≡ slot = omega (arith, h, le) in (
                  [],
                  ap (λ (k : ℕ). visits_below f.code A V (suc k)) same ∙ ap (λ (vs : List ModelVisit). visits_below f.code A V slot ++ vs) (sym (append-nil (visits_at f.code A V slot))),
                )
                )
          ]

      pub fails_own : (v : Visit n_words) (x : Insn) (m : model.AbstractState) (fault : VerifyFault) → insn_at f.code slot ≡ Some x → state_at f.code A slot ≡ Some m → visits ≤ max_visits → visit_fault visits (Some (record { slot = slot; fault = insn_dataflow_fault A.depth m x })) ≡ Some fault → Fails f.base (visits_in f.code (suc f.left) f.entry f.state) fault slot
      fails_own v x m fault x-is known few bad =
          let whole = visits_apart (length (insns_by_slot f.code)) (insn_at_less f.code slot x x-is) in
          let count = p.count in
          record {
            first = visits_below f.code A V slot;
            visit = record { slot = slot; fault = insn_dataflow_fault A.depth m x };
            rest = visits_of_callee A V m (called slot x) ++ whole.0;
            whole = whole.1 ∙ ap (λ (vs : List ModelVisit). visits_below f.code A V slot ++ (vs ++ whole.0)) (visits_here f.code A V slot m x known x-is);
            right = p.right;
            few = omega (arith, count, few);
            fault_is = ap (λ (n : ℕ). visit_fault n (Some (record { slot = slot; fault = insn_dataflow_fault A.depth m x }))) (sym p.count) ∙ bad;
            slot_is = refl;
          }

      pub fails_in_call : (x : Insn) (m : model.AbstractState) (t : ℕ) (fault : VerifyFault) (at : ℕ) → insn_at f.code slot ≡ Some x → state_at f.code A slot ≡ Some m → called slot x ≡ Some t → insn_dataflow_fault A.depth m x ≡ None → Fails (visits + 1) (V t (entered A m)) fault at → Fails f.base (visits_in f.code (suc f.left) f.entry f.state) fault at
      fails_in_call x m t fault at x-is known call right g =
          let whole = visits_apart (length (insns_by_slot f.code)) (insn_at_less f.code slot x x-is) in
          let count = p.count in
          let few = g.few in
          let own : ModelVisit = record { slot = slot; fault = insn_dataflow_fault A.depth m x } in
          let here : visits_at f.code A V slot ≡ own ∷ (g.first ++ g.visit ∷ g.rest) = visits_here f.code A V slot m x known x-is ∙ ap (λ (o : Option ℕ). own ∷ visits_of_callee A V m o) call ∙ ap (λ (vs : List ModelVisit). own ∷ vs) g.whole in
          let longer = length-append (visits_below f.code A V slot) (own ∷ g.first) in
          let same : visits + 1 + length g.first ≡ f.base + length (visits_below f.code A V slot ++ own ∷ g.first) = omega (arith, count, longer) in
          record {
            first = visits_below f.code A V slot ++ own ∷ g.first;
            visit = g.visit;
            rest = g.rest ++ whole.0;
            whole =
                whole.1 ∙ ap (λ (vs : List ModelVisit). visits_below f.code A V slot ++ (vs ++ whole.0)) here
                ∙ ap (λ (vs : List ModelVisit). visits_below f.code A V slot ++ own ∷ vs) (append_assoc g.first (g.visit ∷ g.rest) whole.0)
                ∙ sym (append_assoc (visits_below f.code A V slot) (own ∷ g.first) (g.visit ∷ (g.rest ++ whole.0)));
            right = right_both (visits_below f.code A V slot) (own ∷ g.first) p.right (right, g.right);
            few = omega (arith, few, same);
            fault_is = ap (λ (n : ℕ). visit_fault n (Some g.visit)) (sym same) ∙ g.fault_is;
            slot_is = g.slot_is;
          }

-- what stands at a slot of the code
pub insn_there : (code : List Insn) (slots : List (Option Insn)) (slot : ℕ) (r : Insn) → slots ≡ insns_by_slot code → r ≡ or_exit (get_or slots slot None) → (y : Insn) × (insn_at code slot ≡ Some y) → insn_at code slot ≡ Some r
insn_there code slots slot r same is (y, begins) =
    let less = insn_at_less code slot y begins in
    let long = ap length same in
    let there : get_or slots slot None ≡ Some y = some_there slots slot y (omega (arith, less, long)) (ap (λ (l : List (Option Insn)). option_and_then (λ (insn : Option Insn). insn) (slice_get l slot)) same ∙ begins) in
    begins ∙ ap Some (sym (is ∙ ap or_exit there)) where
      some_there : (l : List (Option Insn)) (k : ℕ) (x : Insn) → k < length l → option_and_then (λ (insn : Option Insn). insn) (slice_get l k) ≡ Some x → get_or l k None ≡ Some x
      some_there [] k x i e = absurd (omega arith)
      some_there (z ∷ zs) zero x i e = e
      some_there (z ∷ zs) (suc k) x i e = some_there zs k x (omega arith) e

-- ---- what is pending at the start

module _ {n_words : ℕ} (pending : Pending n_words) (slots entry : ℕ) (visit : Box (Visit n_words) Global) (inside : entry < slots) (start : IsStart pending slots entry visit) where
  pub long_start : length pending ≡ slots
  long_start = ap length start ∙ length-set (replicate slots None) entry (Some visit) ∙ length-replicate slots None

  pub few_start : (visits : ℕ) → visit.value.steps ≡ 0 → visits ≤ max_visits → AreFew visits visits pending 0
  few_start visits none few = record { pending_few = at; bound_few = omega arith; visits_few = few } where
    nothing : (k t : ℕ) → pending_at {n = n_words} (replicate k None) t ≡ None
    nothing zero t = refl
    nothing (suc k) zero = refl
    nothing (suc k) (suc t) = nothing k t

    at : (t : ℕ) → OfSteps (λ n. visits + n ≤ visits) (pending_at pending t)
    at t =
        elim (eqb_tells t entry) [
          | inl (e, same) ↦ (
              let long = length-replicate {A = Option (Box (Visit n_words) Global)} slots None in
              let here : pending_at pending t ≡ Some visit.value = ap (pending_at pending) same ∙ ap (λ (l : Pending n_words). pending_at l entry) start ∙ ap visit_in (get_or-set_same (replicate slots None) entry (Some visit) None (omega (arith, inside, long))) in
              subst (OfSteps (λ n. visits + n ≤ visits)) (sym here) (omega (arith, none))
              )
          | inr (e, apart) ↦ (
              let gone : pending_at pending t ≡ None = ap (λ (l : Pending n_words). pending_at l t) start ∙ ap visit_in (get_or-set_other (replicate slots None) entry t (Some visit) None apart) ∙ nothing slots t in
              subst (OfSteps (λ n. visits + n ≤ visits)) (sym gone) tt
              )
        ]

-- few of the whole are few
pub few_whole : {n_words : ℕ} → (base visits : ℕ) (pending : Pending n_words) (bound : ℕ) → AreFew base visits pending bound → AreFew 0 visits pending bound
few_whole {n_words} base visits pending bound few = record {
  pending_few = λ t. less (pending_at pending t) (few.pending_few t);
  bound_few = let low = few.bound_few in omega (arith, low);
  visits_few = few.visits_few;
} where
  less : (o : Option (Visit n_words)) → OfSteps (λ n. base + n ≤ visits) o → OfSteps (λ n. 0 + n ≤ visits) o
  less None h = tt
  less (Some v) h = omega (arith, h)

-- the sweep as it starts
pub started : {n_words : ℕ} → (f : Entered) → IsEntered f → (pending : Pending n_words) (slots : List (Option Insn)) (visit : Box (Visit n_words) Global) (entry visits : ℕ) → slots ≡ insns_by_slot f.code → f.entry ≡ entry → f.base ≡ visits → entry < length slots → IsStart pending (length slots) entry visit → visit.value.steps ≡ 0 → Represents visit.value.state f.state → SweepAt f entry pending (record { exit = None; bound = 0 }) visits
started {n_words} f is pending slots visit entry visits at same base inside start none rep =
    subst (λ (k : ℕ). SweepAt f k pending (record { exit = None; bound = 0 }) visits) same
    (subst (λ (k : ℕ). SweepAt f f.entry pending (record { exit = None; bound = 0 }) k) base
    (sweep_start f is pending (length slots) visit (ap length at) (omega (arith, same, inside)) (subst (λ (k : ℕ). IsStart pending (length slots) k visit) (sym same) start) none rep))

-- a list that calls of a closure, which all answered none, have filled
pub all_none : {F X : Type 0} (step : F → Option X → F → Type 0) (n : ℕ) (old new : List (Option X)) (f : F) → old ≡ [] → AppendsResults step old new f → ((p : F) (x : Option X) (q : F) → step p x q → x ≡ None) → length new ≡ n → new ≡ replicate n None
all_none {F} {X} step n old new f empty (ys, last, is, folds) none long =
    let all : new ≡ ys = is ∙ ap (λ (l : List (Option X)). l ++ ys) empty in
    all ∙ each f ys folds ∙ ap (λ (k : ℕ). replicate k None) (ap length (sym all) ∙ long) where
      each : (p : F) (xs : List (Option X)) → FoldsTo step p xs last → xs ≡ replicate (length xs) None
      each p [] h = refl
      each p (x ∷ xs) (q, s, rest) = ap (λ (o : Option X). o ∷ xs) (none p x q s) ∙ ap (λ (l : List (Option X)). None ∷ l) (each q xs rest)
