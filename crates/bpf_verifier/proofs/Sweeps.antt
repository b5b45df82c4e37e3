-- The sweep: what each edge brings to its target, and what that makes of the slots.
use Rattle.std.proofs.Common.{◌≡◌, ◌≢◌, ◌⊎◌, ℕ, ◌+◌, ◌-◌, ◌<◌, ◌≤◌, Bool, true, false, eqb, max, List, [], ◌∷◌, ◌++◌, length, get_or, set, Option, Some, None, Box, ℤ, refl, sym, ap, subst, ◌∙◌, arith, inl, inr}
use Rattle.std.specs.Prelude.{fold, Result, Ok, Err, IfOk}
use Rattle.std.specs.declared.alloc.Global.{Global}
use Rattle.std.proofs.lemmas.Bool.{cases_lt}
use Rattle.std.proofs.lemmas.Bool.Decides.{eqb_tells}
use Rattle.std.proofs.lemmas.List.{get_or-set_same, get_or-set_other, get_or_past, get_or_default, length-set, append-nil, append_assoc}
use Rattle.bpf_num.specs.declared.jump.Test.{Test}
use Rattle.bpf_decode.specs.declared.insn.Insn.{Insn}
use Rattle.bpf_decode.specs.declared.insn.Insn.TheVariants as insn
use Rattle.bpf_decode.specs.declared.insn.Reg.{Reg}
use Rattle.bpf_decode.specs.declared.insn.Source.{Source}
use Rattle.bpf_model.specs.Code.{slots_of}
use Rattle.bpf_model.specs.Machine.{frame_start}
use Rattle.bpf_model.specs.AbstractState as model
use Rattle.bpf_model.specs.AbstractState.{Edge, edge, edge_if, edges, join_all, IsOneOf, after_insn}
use Rattle.bpf_model.specs.Dataflow.{flows_to}
use Rattle.bpf_model.specs.Verdict.{max_visits}
use Rattle.bpf_verifier.specs.declared.abstract_state.AbstractState.{AbstractState}
use Rattle.bpf_verifier.specs.declared.dataflow.Visit.{Visit}
use Rattle.bpf_verifier.specs.FrameBytes.{has_byte, AreBitsOf}
use Rattle.bpf_verifier.proofs.States.{represents_same}
use Rattle.bpf_verifier.specs.Represents.{Stack, IsStackOf, state_of, Represents, join_with}
use Rattle.bpf_verifier.specs.StackWords.{word_range}
use Rattle.bpf_verifier.specs.Sweep.{Pending, visit_in, RepresentsVisit, Brings, pending_at, VisitJoined, Pushed, Flowed, HasAtLeast, OfSteps, AreFew}

-- ---- one edge

pub pushed : {n_words : ℕ} → (old : Pending n_words) (e : Edge) (steps : ℕ) (b : Option (Box (Visit n_words) Global)) → VisitJoined (pending_at old e.target) e.state steps (visit_in b) → e.target < length old → Pushed e steps old (set old e.target b)
pushed {n_words} old e steps b is inside = record {
  length_is = length-set old e.target b;
  others = λ t apart. ap visit_in (get_or-set_other old e.target t b None apart);
  joined = λ h. subst (VisitJoined (pending_at old e.target) e.state steps) (sym (ap visit_in (get_or-set_same old e.target b None inside))) is;
}

pub not_pushed : {n_words : ℕ} → (old : Pending n_words) (e : Edge) (steps : ℕ) → length old ≤ e.target → Pushed e steps old old
not_pushed {n_words} old e steps past = record {
  length_is = refl;
  others = λ t apart. refl;
  joined = λ h. absurd (omega (arith, h, past));
}

pub flowed-append : {n_words : ℕ} → (es fs : List Edge) (steps : ℕ) (old mid new : Pending n_words) → Flowed es steps old mid → Flowed fs steps mid new → Flowed (es ++ fs) steps old new
flowed-append {n_words} [] fs steps old mid new h k = subst (λ (l : Pending n_words). Flowed fs steps l new) (sym h) k
flowed-append {n_words} (e ∷ es) fs steps old mid new (m, p, h) k = (m, p, flowed-append es fs steps m mid new h k)

-- ---- the states

join_more : (xs : List model.AbstractState) (s : model.AbstractState) → join_all (xs ++ s ∷ []) ≡ Some (join_with (join_all xs) s)
join_more [] s = refl
join_more (x ∷ xs) s = ap Some (folds xs x) where
  folds : (ys : List model.AbstractState) (z : model.AbstractState) → fold model.join z (ys ++ s ∷ []) ≡ model.join (fold model.join z ys) s
  folds [] z = refl
  folds (y ∷ ys) z = folds ys (model.join z y)

pub visit_of : {n_words : ℕ} → (before : Option (Visit n_words)) (s : model.AbstractState) (steps : ℕ) (after : Option (Visit n_words)) (xs : List model.AbstractState) → VisitJoined before s steps after → RepresentsVisit before (join_all xs) → RepresentsVisit after (join_all (xs ++ s ∷ []))
visit_of {n_words} before s steps None xs h r = absurd h
visit_of {n_words} before s steps (Some v) xs h r =
    subst (λ (o : Option model.AbstractState). RepresentsVisit (Some v) o) (sym (join_more xs s)) (h.0 (join_all xs) r)

flows_one : (t : ℕ) (e : Edge) (es : List Edge) (xs : List model.AbstractState) → eqb e.target t ≡ true → xs ++ flows_to t (e ∷ es) ≡ (xs ++ e.state ∷ []) ++ flows_to t es
flows_one t e es xs is = rw is (sym (append_assoc xs (e.state ∷ []) (flows_to t es)))

flows_past : (t : ℕ) (e : Edge) (es : List Edge) (xs : List model.AbstractState) → eqb e.target t ≡ false → xs ++ flows_to t (e ∷ es) ≡ xs ++ flows_to t es
flows_past t e es xs is = rw is refl

-- what edges bring to slot t
module _ {n_words : ℕ} (t steps : ℕ) where
  -- what one edge to it makes of it
  joined_here : (e : Edge) (old mid : Pending n_words) → Pushed e steps old mid → e.target ≡ t → t < length old → VisitJoined (pending_at old t) e.state steps (pending_at mid t)
  joined_here e old mid p same inside =
      subst (λ (k : ℕ). VisitJoined (pending_at old k) e.state steps (pending_at mid k)) same (p.joined (subst (λ (k : ℕ). k < length old) (sym same) inside))

  not_here : (e : Edge) (old mid : Pending n_words) → Pushed e steps old mid → e.target ≢ t → pending_at mid t ≡ pending_at old t
  not_here e old mid p apart = p.others t (λ same. apart (sym same))

  still_inside : (e : Edge) (old mid : Pending n_words) → Pushed e steps old mid → t < length old → t < length mid
  still_inside e old mid p inside = subst (λ (n : ℕ). t < n) (sym p.length_is) inside

  pub states_flow : (es : List Edge) (old new : Pending n_words) (xs : List model.AbstractState) → t < length old → Flowed es steps old new → RepresentsVisit (pending_at old t) (join_all xs) → RepresentsVisit (pending_at new t) (join_all (xs ++ flows_to t es))
  states_flow [] old new xs inside flowed h =
      subst (λ (l : List model.AbstractState). RepresentsVisit (pending_at new t) (join_all l)) (sym (append-nil xs))
      (subst (λ (l : Pending n_words). RepresentsVisit (pending_at l t) (join_all xs)) flowed h)
  states_flow (e ∷ es) old new xs inside (mid, p, flowed) h =
      elim (eqb_tells e.target t) [
        | inl (is, same) ↦
            let here = visit_of (pending_at old t) e.state steps (pending_at mid t) xs (joined_here e old mid p same inside) h in
            subst (λ (l : List model.AbstractState). RepresentsVisit (pending_at new t) (join_all l)) (sym (flows_one t e es xs is))
            (states_flow es mid new (xs ++ e.state ∷ []) (still_inside e old mid p inside) flowed here)
        | inr (is, apart) ↦
            let here = subst (λ (o : Option (Visit n_words)). RepresentsVisit o (join_all xs)) (sym (not_here e old mid p apart)) h in
            subst (λ (l : List model.AbstractState). RepresentsVisit (pending_at new t) (join_all l)) (sym (flows_past t e es xs is))
            (states_flow es mid new xs (still_inside e old mid p inside) flowed here)
      ]

  joined_least : (before : Option (Visit n_words)) (s : model.AbstractState) (after : Option (Visit n_words)) (n : ℕ) → VisitJoined before s steps after → HasAtLeast before n → HasAtLeast after n
  joined_least before s None n h k = absurd h
  joined_least None s (Some v) n h k = absurd k
  joined_least (Some b) s (Some v) n h k = let is = h.1 in omega (arith, is, k)

  joined_steps : (before : Option (Visit n_words)) (s : model.AbstractState) (after : Option (Visit n_words)) → VisitJoined before s steps after → HasAtLeast after steps
  joined_steps before s None h = absurd h
  joined_steps None s (Some v) h = let is = h.1 in omega (arith, is)
  joined_steps (Some b) s (Some v) h = let is = h.1 in omega (arith, is)

  pub least_flow : (es : List Edge) (old new : Pending n_words) (n : ℕ) → t < length old → Flowed es steps old new → HasAtLeast (pending_at old t) n → HasAtLeast (pending_at new t) n
  least_flow [] old new n inside flowed h = subst (λ (l : Pending n_words). HasAtLeast (pending_at l t) n) flowed h
  least_flow (e ∷ es) old new n inside (mid, p, flowed) h =
      least_flow es mid new n (still_inside e old mid p inside) flowed
      (elim (eqb_tells e.target t) [
        | inl (is, same) ↦ joined_least (pending_at old t) e.state (pending_at mid t) n (joined_here e old mid p same inside) h
        | inr (is, apart) ↦ subst (λ (o : Option (Visit n_words)). HasAtLeast o n) (sym (not_here e old mid p apart)) h
      ])

  pub brought : (es : List Edge) (old new : Pending n_words) (d : Edge) → t < length old → Flowed es steps old new → IsOneOf d es → d.target ≡ t → HasAtLeast (pending_at new t) steps
  brought [] old new d inside flowed one same = absurd one
  brought (e ∷ es) old new d inside (mid, p, flowed) (inl is) same =
      let to : e.target ≡ t = ap (λ (c : Edge). c.target) (sym is) ∙ same in
      least_flow es mid new steps (still_inside e old mid p inside) flowed (joined_steps (pending_at old t) e.state (pending_at mid t) (joined_here e old mid p to inside))
  brought (e ∷ es) old new d inside (mid, p, flowed) (inr one) same =
      brought es mid new d (still_inside e old mid p inside) flowed one same

  joined_of : (P : ℕ → Type 0) (before : Option (Visit n_words)) (s : model.AbstractState) (after : Option (Visit n_words)) → VisitJoined before s steps after → OfSteps P before → P steps → OfSteps P after
  joined_of P before s None h b k = absurd h
  joined_of P None s (Some v) h b k = subst P (sym h.1) k
  joined_of P (Some before) s (Some v) h b k =
      elim (cases_lt before.steps steps) [
        | inl lt ↦ let is = h.1 in let same : steps ≡ v.steps = omega (arith, is, lt) in subst P same k
        | inr le ↦ let is = h.1 in let same : before.steps ≡ v.steps = omega (arith, is, le) in subst P same b
      ]

  pub steps_flow : (P : ℕ → Type 0) (es : List Edge) (old new : Pending n_words) → t < length old → Flowed es steps old new → ((e : Edge) → IsOneOf e es → e.target ≡ t → P steps) → OfSteps P (pending_at old t) → OfSteps P (pending_at new t)
  steps_flow P [] old new inside flowed brings h = subst (λ (l : Pending n_words). OfSteps P (pending_at l t)) flowed h
  steps_flow P (e ∷ es) old new inside (mid, p, flowed) brings h =
      steps_flow P es mid new (still_inside e old mid p inside) flowed (λ d one same. brings d (inr one) same)
      (elim (eqb_tells e.target t) [
        | inl (is, same) ↦ joined_of P (pending_at old t) e.state (pending_at mid t) (joined_here e old mid p same inside) h (brings e (inl refl) same)
        | inr (is, apart) ↦ subst (OfSteps P) (sym (not_here e old mid p apart)) h
      ])

pub length_flow : {n_words : ℕ} → (es : List Edge) (steps : ℕ) (old new : Pending n_words) → Flowed es steps old new → length new ≡ length old
length_flow {n_words} [] steps old new flowed = ap length (sym flowed)
length_flow {n_words} (e ∷ es) steps old new (mid, p, flowed) = length_flow es steps mid new flowed ∙ p.length_is

-- ---- few steps

OfSteps-weaker : {n_words : ℕ} → (P Q : ℕ → Type 0) → ((n : ℕ) → P n → Q n) → (o : Option (Visit n_words)) → OfSteps P o → OfSteps Q o
OfSteps-weaker {n_words} P Q f None h = tt
OfSteps-weaker {n_words} P Q f (Some v) h = f v.steps h

-- what is pending once the visit of a slot is taken out
abbrev pub taken : {n_words : ℕ} → Pending n_words → ℕ → (Pending n_words)
taken {n_words} old slot = set old slot None

pub taken_others : {n_words : ℕ} → (old : Pending n_words) (slot t : ℕ) → slot < t → pending_at (taken old slot) t ≡ pending_at old t
taken_others {n_words} old slot t less = ap visit_in (get_or-set_other old slot t None None (λ e. absurd (omega (arith, less, e))))

few_taken : {n_words : ℕ} → (base visits slot : ℕ) (old : Pending n_words) → ((t : ℕ) → OfSteps (λ n. base + n ≤ visits) (pending_at old t)) → (t : ℕ) → OfSteps (λ n. base + n ≤ visits) (pending_at (taken old slot) t)
few_taken {n_words} base visits slot old few t =
    elim (eqb_tells t slot) [
      | inl (is, same) ↦ subst (OfSteps (λ n. base + n ≤ visits)) (sym (ap visit_in (nothing (cases_lt slot (length old)) t same))) tt
      | inr (is, apart) ↦ subst (OfSteps (λ n. base + n ≤ visits)) (sym (ap visit_in (get_or-set_other old slot t None None apart))) (few t)
    ] where
      nothing : (slot < length old) ⊎ (length old ≤ slot) → (t : ℕ) → t ≡ slot → get_or (set old slot None) t None ≡ None
      nothing (inl inside) t same = ap (λ (k : ℕ). get_or (set old slot None) k None) same ∙ get_or-set_same old slot None None inside
      nothing (inr past) t same =
          let long = length-set old slot None in
          get_or_past (set old slot None) t None (omega (arith, past, long, same))

-- nothing was visited
pub few_idle : {n_words : ℕ} → (base visits slot : ℕ) (old : Pending n_words) (bound : ℕ) → AreFew base visits old bound → AreFew base visits (taken old slot) bound
few_idle {n_words} base visits slot old bound few = record {
  pending_few = few_taken base visits slot old few.pending_few;
  bound_few = few.bound_few;
  visits_few = few.visits_few;
}

pub steps_few : {n_words : ℕ} → (base visits slot : ℕ) (old : Pending n_words) (bound : ℕ) (v : Visit n_words) → AreFew base visits old bound → pending_at old slot ≡ Some v → base + v.steps ≤ visits
steps_few {n_words} base visits slot old bound v few e = subst (OfSteps (λ n. base + n ≤ visits)) e (few.pending_few slot)

-- a visit that takes so many, of which there are no more than visits since
pub few_visited : {n_words : ℕ} → (base visits after slot : ℕ) (old new : Pending n_words) (bound more own : ℕ) (v : Visit n_words) (es : List Edge) → AreFew base visits old bound → pending_at old slot ≡ Some v → visits + own ≤ after → after ≤ max_visits → more ≡ max bound (v.steps + own) → Flowed es (v.steps + own) (taken old slot) new → AreFew base after new more
few_visited {n_words} base visits after slot old new bound more own v es few e counted small most flowed =
    let short : base + v.steps ≤ visits = steps_few base visits slot old bound v few e in
    let low = few.bound_few in
    record {
      pending_few = λ t.
          elim (cases_lt t (length (taken old slot))) [
            | inl inside ↦ steps_flow t (v.steps + own) (λ n. base + n ≤ after) es (taken old slot) new inside flowed (λ d one same. omega (arith, short, counted)) (OfSteps-weaker (λ n. base + n ≤ visits) (λ n. base + n ≤ after) (λ n k. omega (arith, k, counted)) (pending_at (taken old slot) t) (few_taken base visits slot old few.pending_few t))
            | inr past ↦
                let long = length_flow es (v.steps + own) (taken old slot) new flowed in
                let none : pending_at new t ≡ None = ap visit_in (get_or_past new t None (omega (arith, past, long))) in
                subst (OfSteps (λ n. base + n ≤ after)) (sym none) tt
          ];
      bound_few = greater (cases_lt bound (v.steps + own));
      visits_few = small;
    } where
      greater : (bound < v.steps + own) ⊎ (v.steps + own ≤ bound) → base + more ≤ after
      greater (inl lt) = let short : base + v.steps ≤ visits = steps_few base visits slot old bound v few e in omega (arith, lt, most, short, counted)
      greater (inr le) = let low = few.bound_few in omega (arith, le, most, low, counted)

-- the bytes whose bits the words have
unfoldable pub own_bytes : List ℕ → ℕ → Bool
own_bytes words a = has_byte words (a - frame_start 0)

pub own_bytes_are : (words : List ℕ) → AreBitsOf words (own_bytes words)
unfolding own_bytes
own_bytes_are words i h = let same : i ≡ frame_start 0 + i - frame_start 0 = omega arith in ap (has_byte words) same

-- the stack that a state has
abbrev pub own_stack : {n_words : ℕ} → AbstractState n_words → Stack
own_stack {n_words} v = record {
  initialized = own_bytes v.initialized.words;
  words = record { followed = n_words; ranges = word_range v.words.ranges };
}

pub own_stack_is : {n_words : ℕ} → (v : AbstractState n_words) → IsStackOf v.initialized.words n_words v.words.ranges (own_stack v)
own_stack_is {n_words} v = record {
  initialized_are = own_bytes_are v.initialized.words;
  words_are = record { followed_is = refl; ranges_are = λ w h. refl };
}

-- ---- the code's steps

-- a visit has come to a slot: what is pending there now is the join of both
pub push_flows : {n_words : ℕ} → (old : Pending n_words) (t : ℕ) (v : Box (Visit n_words) Global) (d after : Option (Box (Visit n_words) Global)) → ((of : model.AbstractState) → Represents v.value.state of → VisitJoined (visit_in (get_or old t d)) of v.value.steps (visit_in after)) → t < length old → (target : Option ℕ) → target ≡ Some t → (visit : Option (Box (Visit n_words) Global)) → visit ≡ Some v → (of : Option model.AbstractState) (steps : ℕ) → Brings visit of steps → Flowed (edge_if target of) steps old (set old t after)
push_flows {n_words} old t v d after joins inside target te visit ve of steps r =
    subst (λ (q : Option ℕ). Flowed (edge_if q of) steps old (set old t after)) (sym te) (there of (subst (λ (q : Option (Box (Visit n_words) Global)). Brings q of steps) ve r)) where
      there : (o : Option model.AbstractState) → Brings (Some v) o steps → Flowed (edge_if (Some t) o) steps old (set old t after)
      there None h = absurd h
      there (Some m) h =
          (set old t after, pushed old (edge t m) steps after (subst (λ (q : Option (Box (Visit n_words) Global)). VisitJoined (visit_in q) m steps (visit_in after)) (get_or_default old t d None inside) (subst (λ (n : ℕ). VisitJoined (visit_in (get_or old t d)) m n (visit_in after)) h.1 (joins m h.0))) inside, refl)

-- the edge to the slot behind an instruction that is no jump, no test, no local call and no exit
pub onward_is : {n_words : ℕ} → (b : ℕ → model.AbstractState → Option model.AbstractState) (slot : ℕ) (m : model.AbstractState) (x : Insn) (n steps : ℕ) (old new : Pending n_words) → ((offset : ℤ) → x ≡ insn.Jump offset → ⊥) → ((offset : ℤ) → x ≡ insn.JumpLong offset → ⊥) → ((narrow : Bool) (test : Test) (dst : Reg) (src : Source) (offset : ℤ) → x ≡ insn.Test narrow test dst src offset → ⊥) → ((offset : ℤ) → x ≡ insn.CallLocal offset → ⊥) → (x ≡ insn.Exit → ⊥) → n ≡ slots_of x → Flowed (edge_if (Some (slot + n)) (Some (after_insn m x))) steps old new → Flowed (edges b slot m x) steps old new
onward_is {n_words} b slot m x n steps old new nj nl nt nc ne is h = at x nj nl nt nc ne (subst (λ (k : ℕ). Flowed (edge_if (Some (slot + k)) (Some (after_insn m x))) steps old new) is h) where
  at : (y : Insn) → ((offset : ℤ) → y ≡ insn.Jump offset → ⊥) → ((offset : ℤ) → y ≡ insn.JumpLong offset → ⊥) → ((narrow : Bool) (test : Test) (dst : Reg) (src : Source) (offset : ℤ) → y ≡ insn.Test narrow test dst src offset → ⊥) → ((offset : ℤ) → y ≡ insn.CallLocal offset → ⊥) → (y ≡ insn.Exit → ⊥) → Flowed (edge_if (Some (slot + slots_of y)) (Some (after_insn m y))) steps old new → Flowed (edges b slot m y) steps old new
  at (insn.Alu width op dst src) nj nl nt nc ne h = h
  at (insn.Swap kind width dst) nj nl nt nc ne h = h
  at (insn.LoadImm dst value) nj nl nt nc ne h = h
  at (insn.Load size signed dst base offset) nj nl nt nc ne h = h
  at (insn.StoreImm size base offset imm) nj nl nt nc ne h = h
  at (insn.Store size base offset src) nj nl nt nc ne h = h
  at (insn.Jump offset) nj nl nt nc ne h = absurd (nj offset refl)
  at (insn.JumpLong offset) nj nl nt nc ne h = absurd (nl offset refl)
  at (insn.Test narrow test dst src offset) nj nl nt nc ne h = absurd (nt narrow test dst src offset refl)
  at (insn.CallHelper number) nj nl nt nc ne h = h
  at (insn.CallLocal offset) nj nl nt nc ne h = absurd (nc offset refl)
  at insn.Exit nj nl nt nc ne h = absurd (ne refl)

pub pending_is : {n_words : ℕ} → (pending : Pending n_words) (slot : ℕ) (r d o : Option (Box (Visit n_words) Global)) → r ≡ get_or pending slot d → slot < length pending → r ≡ o → pending_at pending slot ≡ visit_in o
pending_is {n_words} pending slot r d o is inside e = ap visit_in (sym (get_or_default pending slot d None inside) ∙ sym is ∙ e)

-- the same of visits that are the same
pub joined_same : {n_words : ℕ} → (b v before visit after : Visit n_words) → b ≡ before → v ≡ visit → ((of : model.AbstractState) → Represents v.state of → VisitJoined (Some b) of v.steps (Some after)) → (of : model.AbstractState) → Represents visit.state of → VisitJoined (Some before) of visit.steps (Some after)
joined_same {n_words} b v before visit after be ve joins =
    subst (λ (x : Visit n_words). (of : model.AbstractState) → Represents visit.state of → VisitJoined (Some x) of visit.steps (Some after)) be
    (subst (λ (x : Visit n_words). (of : model.AbstractState) → Represents x.state of → VisitJoined (Some b) of x.steps (Some after)) ve joins)

pub onward_same : {n_words : ℕ} → (v visit : Visit n_words) (x : Insn) (after : AbstractState n_words) → v ≡ visit → ((stack : Stack) → IsStackOf v.state.initialized.words n_words v.state.words.ranges stack → Represents after (after_insn (state_of v.state.ranges stack) x)) → (stack : Stack) → IsStackOf visit.state.initialized.words n_words visit.state.words.ranges stack → Represents after (after_insn (state_of visit.state.ranges stack) x) × (v.steps ≡ visit.steps)
onward_same {n_words} v visit x after e is stack bits =
    (subst (λ (w : Visit n_words). (stack : Stack) → IsStackOf w.state.initialized.words n_words w.state.words.ranges stack → Represents after (after_insn (state_of w.state.ranges stack) x)) e is stack bits, ap (λ (w : Visit n_words). w.steps) e)

-- what a state represents, a copy of it represents
pub copied_state : {n_words : ℕ} → {E : Type 0} (r : Result (Box (Visit n_words) Global) E) (s : AbstractState n_words) (P : model.AbstractState → Type 0) (f : model.AbstractState → model.AbstractState) → IfOk r (λ copy. copy.value.state.ranges ≡ s.ranges) → IfOk r (λ copy. copy.value.state.initialized.words ≡ s.initialized.words) → IfOk r (λ copy. (w : ℕ) → w < n_words → word_range copy.value.state.words.ranges w ≡ word_range s.words.ranges w) → ((of : model.AbstractState) → P of → Represents s (f of)) → IfOk r (λ copy. (of : model.AbstractState) → P of → Represents copy.value.state (f of))
copied_state {n_words} (Ok copy) s P f ranges bits words is = λ of h. represents_same copy.value.state s (f of) ranges bits words (is of h)
copied_state {n_words} (Err e) s P f ranges bits words is = tt
