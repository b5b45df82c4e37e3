-- The visit of a slot: what it makes of the sweep, by what its instruction is, and how it fails.
use Rattle.std.proofs.Common.{◌≡◌, ℕ, suc, ◌+◌, ◌-◌, ◌<◌, ◌≤◌, Bool, false, ◌&&◌, cond, max, List, [], ◌∷◌, ◌++◌, length, set, Option, Some, None, Box, Result, Ok, Err, ℤ, refl, sym, ap, subst, ◌∙◌, arith}
use Rattle.std.specs.Prelude.{nat_le, IfOk, IfErr, IfSome}
use Rattle.std.specs.Option.{option_map}
use Rattle.std.specs.declared.alloc.Global.{Global}
use Rattle.std.proofs.lemmas.Bool.{leb-false}
use Rattle.std.proofs.lemmas.List.{append-nil}
use Rattle.bpf_num.specs.Bind.{◌>>=◌}
use Rattle.bpf_decode.specs.declared.insn.Insn.{Insn}
use Rattle.bpf_decode.specs.declared.insn.Insn.TheVariants as insn
use Rattle.bpf_model.specs.Code.{insns_by_slot, insn_at, target_of}
use Rattle.bpf_model.specs.Machine.{frames}
use Rattle.bpf_model.specs.AbstractState as model
use Rattle.bpf_model.specs.AbstractState.{Edge, start_state, edge_if, edges, after_call, join_all, has_operands, has_accesses, has_bytes}
use Rattle.bpf_model.specs.Dataflow.{called, is_exit, entered, behind, edges_of, state_at, edges_at, exit_of, exits_below, exits, TakesIn, Takes, HasBound}
use Rattle.bpf_model.specs.Verdict.{insn_dataflow_fault, calls_local, visits_of_callee, visits_at, visits_in, visits, visit_fault, max_visits, IsFirstVisit}
use Rattle.bpf_model.specs.declared.fault.VerifyFault.{VerifyFault}
use Rattle.bpf_model.specs.declared.fault.VerifyFault.TheVariants.{UninitRegister, BadAccess, UninitBytes, CallDepth}
use Rattle.bpf_model.proofs.Options.{no_fault_of_four}
use Rattle.bpf_model.proofs.Edges.{stands, called_begins}
use Rattle.bpf_model.proofs.Slots.{first_at}
use Rattle.bpf_model.proofs.Visits.{visits_here, first_visit}
use Rattle.bpf_verifier.specs.declared.dataflow.Visit.{Visit}
use Rattle.bpf_verifier.specs.declared.dataflow.Returned.{Returned}
use Rattle.bpf_verifier.specs.Represents.{Stack, IsStackOf, state_of, Represents}
use Rattle.bpf_verifier.specs.Sweep.{Pending, visit_in, RepresentsVisit, pending_at, VisitJoined, Brings, Flowed, IsStructured, AreRight, Fails, Entered, activation_of, IsEntered, SweepAt, Followed, callee_of, CalledBack, FailsInCall, IsRunning}
use Rattle.bpf_verifier.specs.Observed.{IsActive}
use Rattle.bpf_model.specs.declared.profile.Profile.{Profile}
use Rattle.bpf_model.specs.Profiles.{followed_words}
use Rattle.bpf_verifier.proofs.States.{stack_of, is_stack}
use Rattle.bpf_verifier.proofs.Sweeps.{visit_of, taken, own_stack, own_stack_is}
use Rattle.bpf_verifier.proofs.Functions.{same_state, state_here, sweep_visited, fails_own, fails_in_call}

-- what a fault is found by, for whatever bits the words have
abbrev Finds : {n_words : ℕ} → Visit n_words → Insn → ℕ → Option VerifyFault → Type 0
Finds {n_words} v x d fault = (stack : Stack) → IsStackOf v.state.initialized.words n_words v.state.words.ranges stack → insn_dataflow_fault d (state_of v.state.ranges stack) x ≡ fault

pub at_next : {n_words : ℕ} → (f : Entered) (slot : ℕ) (pending : Pending n_words) (returned : Returned n_words) (visits : ℕ) → SweepAt f (suc slot) pending returned visits → SweepAt f (slot + 1) pending returned visits
at_next {n_words} f slot pending returned visits h =
    let same : suc slot ≡ slot + 1 = omega arith in subst (λ (k : ℕ). SweepAt f k pending returned visits) same h

no_exit : (o : Option model.AbstractState) (x : Insn) → is_exit x ≡ false → exit_of o (Some x) ≡ []
no_exit None x e = refl
no_exit (Some s) x e = ap (λ (b : Bool). cond b (s ∷ []) []) e

-- an instruction that calls no function and is no exit
other_called : (slot : ℕ) (x : Insn) → ((offset : ℤ) → x ≡ insn.CallLocal offset → ⊥) → called slot x ≡ None
other_called slot (insn.CallLocal offset) nc = absurd (nc offset refl)
other_called slot _ nc = refl

other_no_exit : (x : Insn) → (x ≡ insn.Exit → ⊥) → is_exit x ≡ false
other_no_exit insn.Exit ne = absurd (ne refl)
other_no_exit _ ne = refl

-- what a local call's having no fault says
pub call_has_frame : (d : ℕ) (m : model.AbstractState) (offset : ℤ) → insn_dataflow_fault d m (insn.CallLocal offset) ≡ None → d + 1 < frames
call_has_frame d m offset none =
    let sees = no_fault_of_four (has_operands m (insn.CallLocal offset)) (has_accesses d m (insn.CallLocal offset)) (has_bytes m (insn.CallLocal offset)) (calls_local (insn.CallLocal offset) && nat_le frames (d + 1)) UninitRegister BadAccess UninitBytes CallDepth none in
    leb-false frames (d + 1) sees.3

module _ {n_words : ℕ} (f : Entered) (is : IsEntered f) (slot : ℕ) (old : Pending n_words) (returned : Returned n_words) (visits : ℕ) (p : SweepAt f slot old returned visits) (inside : slot < length old) (v : Visit n_words) (here : pending_at old slot ≡ Some v) (x : Insn) (x-is : insn_at f.code slot ≡ Some x) (d : ℕ) (depth : d ≡ (activation_of f).depth) where
  -- the state, and its fault
  pub found_here : (fault : Option VerifyFault) → Finds v x d fault → (m : model.AbstractState) × (state_at f.code (activation_of f) slot ≡ Some m) × Represents v.state m × (insn_dataflow_fault (activation_of f).depth m x ≡ fault)
  found_here fault finds =
      let known = state_here f is slot old returned visits p inside v here in (
        known.0,
        known.1,
        known.2,
        ap (λ (n : ℕ). insn_dataflow_fault n known.0 x) (sym depth) ∙ ap (λ (s : model.AbstractState). insn_dataflow_fault d s x) (sym (same_state v.state known.0 known.2)) ∙ finds (stack_of known.0) (is_stack v.state known.0 known.2),
      )

  pub begin_fails : (fault : VerifyFault) → visits ≤ max_visits → ((stack : Stack) → IsStackOf v.state.initialized.words n_words v.state.words.ranges stack → visit_fault visits (Some (record { slot = slot; fault = insn_dataflow_fault d (state_of v.state.ranges stack) x })) ≡ Some fault) → Fails f.base (visits_in f.code (suc f.left) f.entry f.state) fault slot
  begin_fails fault few bad =
      let known = state_here f is slot old returned visits p inside v here in
      fails_own f is slot old returned visits p inside v x known.0 fault x-is known.1 few
      (ap (λ (n : ℕ). visit_fault visits (Some (record { slot = slot; fault = insn_dataflow_fault n known.0 x }))) (sym depth)
      ∙ ap (λ (s : model.AbstractState). visit_fault visits (Some (record { slot = slot; fault = insn_dataflow_fault d s x }))) (sym (same_state v.state known.0 known.2))
      ∙ bad (stack_of known.0) (is_stack v.state known.0 known.2))

  edges_here : (m : model.AbstractState) → state_at f.code (activation_of f) slot ≡ Some m → edges_at f.code (activation_of f) slot ≡ edges (behind (activation_of f)) slot m x
  edges_here m known =
      ap (λ (o : Option model.AbstractState). edges_of (activation_of f) slot o (insn_at f.code slot)) known ∙ ap (edges_of (activation_of f) slot (Some m)) x-is

  module _ (new : Pending n_words) (after : Returned n_words) (count : ℕ) (finds : Finds v x d None) where
    -- an instruction that calls no function and is no exit
    pub other_visited : ((offset : ℤ) → x ≡ insn.CallLocal offset → ⊥) → (x ≡ insn.Exit → ⊥) → ((b : ℕ → model.AbstractState → Option model.AbstractState) (stack : Stack) → IsStackOf v.state.initialized.words n_words v.state.words.ranges stack → Flowed (edges b slot (state_of v.state.ranges stack) x) (v.steps + 1) (taken old slot) new) → count ≡ visits + 1 → after.exit ≡ returned.exit → after.bound ≡ max returned.bound (v.steps + 1) → SweepAt f (slot + 1) new after count
    other_visited nc ne flows counted same most =
        let m = found_here None finds in
        let none = other_called slot x nc in
        let own : Takes f.code (activation_of f) (HasBound f.code f.left) slot 1 = record { state = m.0; state_is = m.1; insn = x; insn_is = x-is; takes = subst (λ (o : Option ℕ). TakesIn (activation_of f) (HasBound f.code f.left) m.0 o 1) (sym none) refl } in
        let all : visits_at f.code (activation_of f) (visits_in f.code f.left) slot ≡ record { slot = slot; fault = insn_dataflow_fault (activation_of f).depth m.0 x } ∷ [] = visits_here f.code (activation_of f) (visits_in f.code f.left) slot m.0 x m.1 x-is ∙ ap (λ (o : Option ℕ). record { slot = slot; fault = insn_dataflow_fault (activation_of f).depth m.0 x } ∷ visits_of_callee (activation_of f) (visits_in f.code f.left) m.0 o) none in
        let long = ap length all in
        let nothing : exit_of (state_at f.code (activation_of f) slot) (insn_at f.code slot) ≡ [] = ap (exit_of (state_at f.code (activation_of f) slot)) x-is ∙ no_exit (state_at f.code (activation_of f) slot) x (other_no_exit x ne) in
        at_next f slot new after count (sweep_visited f is slot old returned visits p inside v here 1 new after count (record {
          takes = own;
          flowed = subst (λ (es : List Edge). Flowed es (v.steps + 1) (taken old slot) new) (sym (edges_here m.0 m.1)) (subst (λ (s : model.AbstractState). Flowed (edges (behind (activation_of f)) slot s x) (v.steps + 1) (taken old slot) new) (same_state v.state m.0 m.2) (flows (behind (activation_of f)) (stack_of m.0) (is_stack v.state m.0 m.2)));
          right = subst AreRight (sym all) (m.3, tt);
          count_is = omega (arith, counted, long);
          exits_are = subst (λ (o : Option (Box (Visit n_words) Global)). RepresentsVisit (visit_in o) (join_all (exits_below f.code (activation_of f) slot ++ exit_of (state_at f.code (activation_of f) slot) (insn_at f.code slot)))) (sym same) (subst (λ (ss : List model.AbstractState). RepresentsVisit (visit_in returned.exit) (join_all (exits_below f.code (activation_of f) slot ++ ss))) (sym nothing) (subst (λ (ss : List model.AbstractState). RepresentsVisit (visit_in returned.exit) (join_all ss)) (sym (append-nil (exits_below f.code (activation_of f) slot))) p.exits_are));
          most = most;
        }))

    -- an exit
    pub exit_visited : x ≡ insn.Exit → new ≡ taken old slot → ((of : model.AbstractState) → Represents v.state of → VisitJoined (visit_in returned.exit) of (v.steps + 1) (visit_in after.exit)) → count ≡ visits + 1 → after.bound ≡ max returned.bound (v.steps + 1) → SweepAt f (slot + 1) new after count
    exit_visited out still joins counted most =
        let m = found_here None finds in
        let none : called slot x ≡ None = ap (called slot) out in
        let own : Takes f.code (activation_of f) (HasBound f.code f.left) slot 1 = record { state = m.0; state_is = m.1; insn = x; insn_is = x-is; takes = subst (λ (o : Option ℕ). TakesIn (activation_of f) (HasBound f.code f.left) m.0 o 1) (sym none) refl } in
        let all : visits_at f.code (activation_of f) (visits_in f.code f.left) slot ≡ record { slot = slot; fault = insn_dataflow_fault (activation_of f).depth m.0 x } ∷ [] = visits_here f.code (activation_of f) (visits_in f.code f.left) slot m.0 x m.1 x-is ∙ ap (λ (o : Option ℕ). record { slot = slot; fault = insn_dataflow_fault (activation_of f).depth m.0 x } ∷ visits_of_callee (activation_of f) (visits_in f.code f.left) m.0 o) none in
        let long = ap length all in
        let here_exit : exit_of (state_at f.code (activation_of f) slot) (insn_at f.code slot) ≡ m.0 ∷ [] = ap (λ (o : Option model.AbstractState). exit_of o (insn_at f.code slot)) m.1 ∙ ap (exit_of (Some m.0)) (x-is ∙ ap Some out) in
        let no_edges : edges_at f.code (activation_of f) slot ≡ [] = edges_here m.0 m.1 ∙ ap (edges (behind (activation_of f)) slot m.0) out in
        at_next f slot new after count (sweep_visited f is slot old returned visits p inside v here 1 new after count (record {
          takes = own;
          flowed = subst (λ (es : List Edge). Flowed es (v.steps + 1) (taken old slot) new) (sym no_edges) (sym still);
          right = subst AreRight (sym all) (m.3, tt);
          count_is = omega (arith, counted, long);
          exits_are = subst (λ (ss : List model.AbstractState). RepresentsVisit (visit_in after.exit) (join_all (exits_below f.code (activation_of f) slot ++ ss))) (sym here_exit) (visit_of (visit_in returned.exit) m.0 (v.steps + 1) (visit_in after.exit) (exits_below f.code (activation_of f) slot) (joins m.0 m.2) p.exits_are);
          most = most;
        }))

    -- a local call whose callee was followed
    pub call_visited : (offset : ℤ) → x ≡ insn.CallLocal offset → (back : Returned n_words) → ((m : model.AbstractState) → Represents v.state m → insn_dataflow_fault (activation_of f).depth m (insn.CallLocal offset) ≡ None → CalledBack f slot offset m (visits + 1) (Some back) count) → ((of : model.AbstractState) (gone : Option model.AbstractState) → Represents v.state of → RepresentsVisit (visit_in back.exit) gone → Flowed (edge_if (Some (slot + 1)) (option_map (after_call (d + 1) of) gone)) (v.steps + (1 + back.bound)) (taken old slot) new) → after.exit ≡ returned.exit → after.bound ≡ max returned.bound (v.steps + (1 + back.bound)) → SweepAt f (slot + 1) new after count
    call_visited offset call back calls resumes same most =
        let m = found_here None finds in
        let none : insn_dataflow_fault (activation_of f).depth m.0 (insn.CallLocal offset) ≡ None = ap (insn_dataflow_fault (activation_of f).depth m.0) (sym call) ∙ m.3 in
        let r = calls m.0 m.2 none in
        let t = r.0 in
        let l = r.1 in
        let leads : called slot x ≡ Some t = ap (called slot) call ∙ r.2 in
        let s = entered (activation_of f) m.0 in
        let g : Followed (callee_of f m.0 t l (visits + 1)) back count = r.4 in
        let bound : HasBound f.code f.left t s back.bound = subst (λ (n : ℕ). HasBound f.code n t s back.bound) (sym r.3) g.bound in
        let own : Takes f.code (activation_of f) (HasBound f.code f.left) slot (1 + back.bound) = record { state = m.0; state_is = m.1; insn = x; insn_is = x-is; takes = subst (λ (o : Option ℕ). TakesIn (activation_of f) (HasBound f.code f.left) m.0 o (1 + back.bound)) (sym leads) (back.bound, bound, refl) } in
        let all : visits_at f.code (activation_of f) (visits_in f.code f.left) slot ≡ record { slot = slot; fault = insn_dataflow_fault (activation_of f).depth m.0 x } ∷ visits_in f.code (suc l) t s = visits_here f.code (activation_of f) (visits_in f.code f.left) slot m.0 x m.1 x-is ∙ ap (λ (o : Option ℕ). record { slot = slot; fault = insn_dataflow_fault (activation_of f).depth m.0 x } ∷ visits_of_callee (activation_of f) (visits_in f.code f.left) m.0 o) leads ∙ ap (λ (n : ℕ). record { slot = slot; fault = insn_dataflow_fault (activation_of f).depth m.0 x } ∷ visits_in f.code n t s) r.3 in
        let long = ap length all in
        let counted = g.count in
        let gone : RepresentsVisit (visit_in back.exit) (join_all (exits f.code f.left t s)) = subst (λ (n : ℕ). RepresentsVisit (visit_in back.exit) (join_all (exits f.code n t s))) (sym r.3) g.exits_are in
        let edges_are : edges_at f.code (activation_of f) slot ≡ edge_if (Some (slot + 1)) (option_map (after_call (d + 1) m.0) (join_all (exits f.code f.left t s))) = edges_here m.0 m.1 ∙ ap (edges (behind (activation_of f)) slot m.0) call ∙ ap (λ (o : Option ℕ). edge_if (Some (slot + 1)) (o >>= λ u. behind (activation_of f) u m.0)) r.2 ∙ ap (λ (n : ℕ). edge_if (Some (slot + 1)) (option_map (after_call (n + 1) m.0) (join_all (exits f.code f.left t s)))) (sym depth) in
        let nothing : exit_of (state_at f.code (activation_of f) slot) (insn_at f.code slot) ≡ [] = ap (exit_of (state_at f.code (activation_of f) slot)) x-is ∙ no_exit (state_at f.code (activation_of f) slot) x (ap is_exit call) in
        at_next f slot new after count (sweep_visited f is slot old returned visits p inside v here (1 + back.bound) new after count (record {
          takes = own;
          flowed = subst (λ (es : List Edge). Flowed es (v.steps + (1 + back.bound)) (taken old slot) new) (sym edges_are) (resumes m.0 (join_all (exits f.code f.left t s)) m.2 gone);
          right = subst AreRight (sym all) (m.3, g.right);
          count_is = omega (arith, counted, long);
          exits_are = subst (λ (o : Option (Box (Visit n_words) Global)). RepresentsVisit (visit_in o) (join_all (exits_below f.code (activation_of f) slot ++ exit_of (state_at f.code (activation_of f) slot) (insn_at f.code slot)))) (sym same) (subst (λ (ss : List model.AbstractState). RepresentsVisit (visit_in returned.exit) (join_all (exits_below f.code (activation_of f) slot ++ ss))) (sym nothing) (subst (λ (ss : List model.AbstractState). RepresentsVisit (visit_in returned.exit) (join_all ss)) (sym (append-nil (exits_below f.code (activation_of f) slot))) p.exits_are));
          most = most;
        }))

    -- a local call that can't be followed
    pub call_lands : (offset : ℤ) → x ≡ insn.CallLocal offset → ((m : model.AbstractState) → Represents v.state m → insn_dataflow_fault (activation_of f).depth m (insn.CallLocal offset) ≡ None → CalledBack {n = n_words} f slot offset m (visits + 1) None count) → ⊥
    call_lands offset call calls =
        let m = found_here None finds in
        calls m.0 m.2 (ap (insn_dataflow_fault (activation_of f).depth m.0) (sym call) ∙ m.3)

  -- a local call that has a visit that fails
  pub call_fails : (offset : ℤ) → x ≡ insn.CallLocal offset → Finds v x d None → (fault : VerifyFault) (at : ℕ) → ((m : model.AbstractState) → Represents v.state m → insn_dataflow_fault (activation_of f).depth m (insn.CallLocal offset) ≡ None → FailsInCall f slot offset m (visits + 1) fault at) → Fails f.base (visits_in f.code (suc f.left) f.entry f.state) fault at
  call_fails offset call finds fault at fails =
      let m = found_here None finds in
      let g = fails m.0 m.2 (ap (insn_dataflow_fault (activation_of f).depth m.0) (sym call) ∙ m.3) in
      fails_in_call f is slot old returned visits p inside x m.0 g.0 fault at x-is m.1 (ap (called slot) call ∙ g.2) m.3 (subst (λ (n : ℕ). Fails (visits + 1) (visits_in f.code n g.0 (entered (activation_of f) m.0)) fault at) (sym g.3) g.4)

-- ---- a call

-- the callee of a local call begins at an instruction
pub is_callee : (f : Entered) → IsEntered f → (slot : ℕ) (offset : ℤ) (m : model.AbstractState) (t l visits : ℕ) → insn_at f.code slot ≡ Some (insn.CallLocal offset) → target_of slot offset ≡ Some t → IsEntered (callee_of f m t l visits)
is_callee f is slot offset m t l visits x-is leads =
    let begins = called_begins f.code slot (insn.CallLocal offset) t (stands f.code slot (insn.CallLocal offset) (is.structured slot) x-is) leads in
    record { structured = is.structured; insn = begins.0; begins = begins.1 }

-- and runs one deeper
pub callee_running : (words : ℕ) (slots : List (Option Insn)) (before left slot t : ℕ) (offset : ℤ) (visits : ℕ) (f : Entered) (m : model.AbstractState) → IsRunning words slots before f → state_at f.code (activation_of f) slot ≡ Some m → insn_at f.code slot ≡ Some (insn.CallLocal offset) → target_of slot offset ≡ Some t → before ≡ suc left → before < 8 → IsRunning words slots left (callee_of f m t left visits)
callee_running words slots before left slot t offset visits f m running known x-is leads one deep =
    let deeper : suc (7 - before) ≡ 7 - left = omega (arith, one, deep) in
    let within : left + suc (7 - before) ≡ frames - 1 = omega (arith, one, deep) in
    record {
      slots_are = running.slots_are;
      left_is = refl;
      entered = is_callee f running.entered slot offset m t left visits x-is leads;
      profile = running.profile;
      follows = running.follows;
      active = subst (λ (d : ℕ). IsActive running.profile f.code d (activation_of (callee_of f m t left visits))) deeper (activation_of f, slot, m, insn.CallLocal offset, t, left, running.active, known, x-is, leads, within, refl);
    }

-- ---- a state for what the arrays hold

pub own_state : {n_words : ℕ} → (v : Visit n_words) → (m : model.AbstractState) × Represents v.state m
own_state {n_words} v =
    (state_of v.state.ranges (own_stack v.state), record { ranges_are = λ r. refl; initialized_are = (own_stack_is v.state).initialized_are; words_are = (own_stack_is v.state).words_are })

pub own_exit : {n_words : ℕ} → (o : Option (Box (Visit n_words) Global)) → (gone : Option model.AbstractState) × RepresentsVisit (visit_in o) gone
own_exit {n_words} None = (None, tt)
own_exit {n_words} (Some b) = let m = own_state b.value in (Some m.0, m.1)

-- a fault that is found of a copy
pub finds_same : {n_words : ℕ} → (v w : Visit n_words) (x : Insn) (d : ℕ) (fault : Option VerifyFault) → v ≡ w → ((stack : Stack) → IsStackOf v.state.initialized.words n_words v.state.words.ranges stack → insn_dataflow_fault d (state_of v.state.ranges stack) x ≡ fault) → (stack : Stack) → IsStackOf w.state.initialized.words n_words w.state.words.ranges stack → insn_dataflow_fault d (state_of w.state.ranges stack) x ≡ fault
finds_same {n_words} v w x d fault e finds =
    subst (λ (u : Visit n_words). (stack : Stack) → IsStackOf u.state.initialized.words n_words u.state.words.ranges stack → insn_dataflow_fault d (state_of u.state.ranges stack) x ≡ fault) e finds

-- an error that is handed on
pub handed_on : {X E : Type 0} (r : Result X E) (x : E) (P : E → Type 0) → IfErr r (λ e. e ≡ x) → P x → IfErr r P
handed_on (Ok y) x P same h = tt
handed_on (Err e) x P same h = subst P (sym same) h

-- what a call that was followed counts
pub called_few : {n_words : ℕ} → (o : Option (Returned n_words)) (back : Returned n_words) (left before after : ℕ) → o ≡ Some back → IfSome o (λ b. (0 < left) × (before + b.bound ≤ after) × (after ≤ max_visits)) → (0 < left) × (before + back.bound ≤ after) × (after ≤ max_visits)
called_few {n_words} o back left before after e h =
    subst (λ (q : Option (Returned n_words)). IfSome q (λ b. (0 < left) × (before + b.bound ≤ after) × (after ≤ max_visits))) e h

-- what flowed behind a visit that was taken out, in the terms of the visit
pub flowed_from : {n_words : ℕ} → (es : List Edge) (steps counted : ℕ) (old new : Pending n_words) (slot : ℕ) (z : Option (Box (Visit n_words) Global)) → z ≡ None → steps ≡ counted → Flowed es steps (set old slot z) new → Flowed es counted (taken old slot) new
flowed_from {n_words} es steps counted old new slot z gone same h =
    subst (λ (q : Option (Box (Visit n_words) Global)). Flowed es counted (set old slot q) new) gone (subst (λ (n : ℕ). Flowed es n (set old slot z) new) same h)

pub is_none_of : {n_words : ℕ} → (o : Option (Returned n_words)) → ((back : Returned n_words) → o ≡ Some back → ⊥) → o ≡ None
is_none_of {n_words} None h = refl
is_none_of {n_words} (Some back) h = absurd (h back refl)

-- behind a call whose callee returns
pub resumed_brings : {n_words : ℕ} → (d : ℕ) (e b : Box (Visit n_words) Global) (before : Visit n_words) (steps : ℕ) → ((of exit : model.AbstractState) → Represents before.state of → Represents e.value.state exit → Represents b.value.state (after_call d of exit)) → b.value.steps ≡ steps → (of : model.AbstractState) (gone : Option model.AbstractState) → Represents before.state of → RepresentsVisit (visit_in (Some e)) gone → Brings (Some b) (option_map (after_call d of) gone) steps
resumed_brings {n_words} d e b before steps makes same of None rep out = absurd out
resumed_brings {n_words} d e b before steps makes same of (Some exit) rep out = (makes of exit rep out, same)

-- where it doesn't
pub not_resumed : (n_words : ℕ) → (d steps : ℕ) (of : model.AbstractState) (gone : Option model.AbstractState) → RepresentsVisit {n = n_words} None gone → Brings {n = n_words} None (option_map (after_call d of) gone) steps
not_resumed n_words d steps of None out = tt
not_resumed n_words d steps of (Some exit) out = absurd out

-- what a result says, said otherwise
pub if_ok : {X E : Type 0} (r : Result X E) (P Q : X → Type 0) → IfOk r P → ((x : X) → P x → Q x) → IfOk r Q
if_ok (Ok x) P Q h f = f x h
if_ok (Err e) P Q h f = tt

pub if_err : {X E : Type 0} (r : Result X E) (P Q : E → Type 0) → IfErr r P → ((e : E) → P e → Q e) → IfErr r Q
if_err (Ok x) P Q h f = tt
if_err (Err e) P Q h f = f e h

-- ---- the whole code

-- the function that begins at slot 0, as a call begins
abbrev pub main_of : Profile → List Insn → Entered
main_of profile code = record { code = code; left = 7; entry = 0; state = start_state profile; base = 0 }

pub is_main : (profile : Profile) (code : List Insn) → IsStructured code → 0 < length (insns_by_slot code) → IsEntered (main_of profile code)
is_main profile code structured some =
    let first = first_at code some in record { structured = structured; insn = first.0; begins = first.1 }

pub main_running : (profile : Profile) (words : ℕ) (slots : List (Option Insn)) (code : List Insn) → followed_words profile ≡ words → slots ≡ insns_by_slot code → IsStructured code → 0 < length slots → IsRunning words slots 7 (main_of profile code)
main_running profile words slots code follows same structured some = record {
  slots_are = same;
  left_is = refl;
  entered = is_main profile code structured (subst (λ (l : List (Option Insn)). 0 < length l) same some);
  profile = profile;
  follows = follows;
  active = refl;
}

-- the first visit that fails is the verdict's
pub fails_first : (profile : Profile) (code : List Insn) (fault : VerifyFault) (slot : ℕ) → Fails 0 (visits profile code) fault slot → IsFirstVisit profile code fault slot
fails_first profile code fault slot f =
    first_visit profile code fault slot f.first f.visit f.rest f.whole f.right f.few f.fault_is f.slot_is
