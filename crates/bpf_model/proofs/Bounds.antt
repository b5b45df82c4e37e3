-- Each function has one bound, and it isn't above the number of its visits.
use Rattle.std.proofs.Common.{◌≡◌, ◌⊎◌, ℕ, zero, suc, ◌+◌, ◌<◌, ◌≤◌, List, [], ◌∷◌, length, Option, Some, None, refl, sym, ap, subst, ◌∙◌, arith, inl, inr}
use Rattle.std.proofs.lemmas.Bool.{cases_lt}
use Rattle.std.proofs.lemmas.Bool.Decides.{eqb_tells}
use Rattle.std.proofs.lemmas.List.{length-append}
use Rattle.bpf_decode.specs.declared.insn.Insn.{Insn}
use Rattle.bpf_model.specs.Code.{insns_by_slot, insn_at}
use Rattle.bpf_model.specs.AbstractState.{AbstractState, Edge, IsOneOf}
use Rattle.bpf_model.specs.Dataflow.{Activation, activation, called, entered, state_at, edges_at, exits, Bounds, TakesIn, Takes, Path, IsLongest, HasBound}
use Rattle.bpf_model.specs.Verdict.{structure_fault, Visit, Visits, visits_of, visits_of_callee, visits_at, visits_below, visits_in}
use Rattle.bpf_model.proofs.Options.{some_is}
use Rattle.bpf_model.proofs.Slots.{insn_at_less}
use Rattle.bpf_model.proofs.Joins.{arrives, enters_below}
use Rattle.bpf_model.proofs.Edges.{BeginsAt, stands, edge_from, edge_within, edges_lead, called_begins}

-- it holds, or it doesn't
abbrev pub Decided : Type 0 → Type 0
Decided P = P ⊎ (P → ⊥)

edge_to : (es : List Edge) (t : ℕ) → Decided ((e : Edge) × IsOneOf e es × (e.target ≡ t))
edge_to [] t = inr (λ found. absurd found.1)
edge_to (d ∷ ds) t =
    elim (eqb_tells d.target t) [
      | inl (e, same) ↦ inl (d, inl refl, same)
      | inr (e, other) ↦ elim (edge_to ds t) [
        | inl (f, one, lands) ↦ inl (f, inr one, lands)
        | inr none ↦ inr (λ found. not_here d ds t other none found.0 found.1 found.2)
      ]
    ] where
      not_here : (d : Edge) (ds : List Edge) (t : ℕ) → (d.target ≡ t → ⊥) → (((e : Edge) × IsOneOf e ds × (e.target ≡ t)) → ⊥) → (e : Edge) → IsOneOf e (d ∷ ds) → e.target ≡ t → ⊥
      not_here d ds t other none e (inl is) lands = other (ap (λ (x : Edge). x.target) (sym is) ∙ lands)
      not_here d ds t other none e (inr one) lands = none (e, one, lands)

-- ---- the greatest number with a property

abbrev Best : (ℕ → Type 0) → Type 0
Best P = ((c : ℕ) → P c → ⊥) ⊎ ((c : ℕ) × P c × ((k : ℕ) → P k → k ≤ c))

best_or : (P Q R : ℕ → Type 0) → ((c : ℕ) → P c → R c) → ((c : ℕ) → Q c → R c) → ((c : ℕ) → R c → P c ⊎ Q c) → Best P → Best Q → Best R
best_or P Q R l r apart (inl no_p) (inl no_q) =
    inl (λ c h. elim (apart c h) [ inl p ↦ no_p c p | inr q ↦ no_q c q ])
best_or P Q R l r apart (inl no_p) (inr (c, q, most)) =
    inr (c, r c q, λ k h. elim (apart k h) [ inl p ↦ absurd (no_p k p) | inr q ↦ most k q ])
best_or P Q R l r apart (inr (c, p, most)) (inl no_q) =
    inr (c, l c p, λ k h. elim (apart k h) [ inl p ↦ most k p | inr q ↦ absurd (no_q k q) ])
best_or P Q R l r apart (inr (c, p, most)) (inr (d, q, more)) =
    elim (cases_lt c d) [
      | inl lt ↦ inr (d, r d q, λ k h. elim (apart k h) [ inl p ↦ (let low = most k p in omega (arith, low, lt)) | inr q ↦ more k q ])
      | inr le ↦ inr (c, l c p, λ k h. elim (apart k h) [ inl p ↦ most k p | inr q ↦ (let low = more k q in omega (arith, low, le)) ])
    ]

-- ---- one function

module _ (code : List Insn) (structure : (slot : ℕ) → structure_fault code slot ≡ None) (a : Activation) (B : Bounds) (one_bound : (entry : ℕ) (state : AbstractState) (x y : ℕ) → B entry state x → B entry state y → x ≡ y) where
  takes_in_one : (state : AbstractState) (o : Option ℕ) (x y : ℕ) → TakesIn a B state o x → TakesIn a B state o y → x ≡ y
  takes_in_one state None x y p q = p ∙ sym q
  takes_in_one state (Some target) x y (b, hb, p) (c, hc, q) =
      p ∙ ap (λ (n : ℕ). 1 + n) (one_bound target (entered a state) b c hb hc) ∙ sym q

  pub takes_one : (t x y : ℕ) → Takes code a B t x → Takes code a B t y → x ≡ y
  takes_one t x y p q =
      let state : p.state ≡ q.state = some_is p.state q.state (sym p.state_is ∙ q.state_is) in
      let insn : p.insn ≡ q.insn = some_is p.insn q.insn (sym p.insn_is ∙ q.insn_is) in
      let there : TakesIn a B q.state (called t q.insn) x = subst (λ (s : AbstractState). TakesIn a B s (called t q.insn) x) state (subst (λ (i : Insn). TakesIn a B p.state (called t i) x) insn p.takes) in
      takes_in_one q.state (called t q.insn) x y there q.takes

  -- a path to a slot
  abbrev To : ℕ → ℕ → Type 0
  To t count = (n : ℕ) × Path code a B n count t

  -- one whose last edge comes from one of the first j slots
  abbrev Into : ℕ → ℕ → ℕ → Type 0
  Into t j count =
      ((t ≡ a.entry) × (count ≡ 0))
      ⊎ ((s : ℕ) × (e : Edge) × (before : ℕ) × (own : ℕ) × (s < j) × To s before × Takes code a B s own × IsOneOf e (edges_at code a s) × (e.target ≡ t) × (count ≡ before + own))

  -- one whose last edge comes from this slot
  abbrev From : ℕ → ℕ → ℕ → Type 0
  From t s count =
      (e : Edge) × (before : ℕ) × (own : ℕ) × To s before × Takes code a B s own × IsOneOf e (edges_at code a s) × (e.target ≡ t) × (count ≡ before + own)

  to_into : (t count : ℕ) → To t count → Into t t count
  to_into t count (zero, path) = inl path
  to_into t count (suc n, (s, e, before, own, path, takes, one, to, is)) =
      let within = edge_within code a s e (structure s) one in
      let less = within.0 in
      inr (s, e, before, own, omega (arith, less, to), (n, path), takes, one, to, is)

  into_to : (t j count : ℕ) → Into t j count → To t count
  into_to t j count (inl h) = (0, h)
  into_to t j count (inr (s, e, before, own, less, (n, path), takes, one, to, is)) =
      (suc n, (s, e, before, own, path, takes, one, to, is))

  apart : (t j count : ℕ) → Into t (suc j) count → Into t j count ⊎ From t j count
  apart t j count (inl h) = inl (inl h)
  apart t j count (inr (s, e, before, own, less, path, takes, one, to, is)) =
      elim (cases_lt s j) [
        | inl lt ↦ inl (inr (s, e, before, own, lt, path, takes, one, to, is))
        | inr le ↦
            let same : s ≡ j = omega (arith, less, le) in
            inr (subst (λ (k : ℕ). From t k count) same (e, before, own, path, takes, one, to, is))
      ]

  into_more : (t j count : ℕ) → Into t j count → Into t (suc j) count
  into_more t j count (inl h) = inl h
  into_more t j count (inr (s, e, before, own, less, path, takes, one, to, is)) =
      inr (s, e, before, own, omega (arith, less), path, takes, one, to, is)

  from_more : (t j count : ℕ) → From t j count → Into t (suc j) count
  from_more t j count (e, before, own, path, takes, one, to, is) = inr (j, e, before, own, omega arith, path, takes, one, to, is)

  -- what an instruction takes, where an edge leads out of it
  abbrev Taken : Type 0
  Taken = (t : ℕ) (state : AbstractState) (x : Insn) → state_at code a t ≡ Some state → insn_at code t ≡ Some x → (own : ℕ) × Takes code a B t own

  best_from : Taken → (t s : ℕ) → Best (To s) → Best (From t s)
  best_from taken t s (inl none) = inl (λ c h. none h.1 h.3)
  best_from taken t s (inr (c, path, most)) =
      elim (edge_to (edges_at code a s) t) [
        | inl (e, one, to) ↦ (
            let from = edge_from a s (state_at code a s) (insn_at code s) e one in
            let own = taken s from.0 from.1 from.2 from.3 in
            inr (
              c + own.0,
              (e, c, own.0, path, own.1, one, to, refl),
              λ k h.
                  let low = most h.1 h.3 in
                  let same = takes_one s h.2 own.0 h.4 own.1 in
                  let is = h.7 in
                  omega (arith, low, same, is),
            )
            )
        | inr none ↦ inl (λ k h. none (h.0, h.5, h.6))
      ]

  best_into : Taken → (t j : ℕ) → ((s : ℕ) → s < j → Best (To s)) → Best (Into t j)
  best_into taken t zero all =
      elim (eqb_tells t a.entry) [
        | inl (e, same) ↦ inr (0, inl (same, refl), λ k h. none_before k h)
        | inr (e, other) ↦ inl (λ k h. elim h [ inl (same, is) ↦ other same | inr far ↦ (let less = far.4 in absurd (omega (arith, less))) ])
      ] where
        none_before : (k : ℕ) → Into t 0 k → k ≤ 0
        none_before k (inl (same, is)) = omega (arith, is)
        none_before k (inr far) = let less = far.4 in absurd (omega (arith, less))
  best_into taken t (suc j) all =
      best_or (Into t j) (From t j) (Into t (suc j)) (into_more t j) (from_more t j) (apart t j) (best_into taken t j (λ s h. all s (omega (arith, h)))) (best_from taken t j (all j (omega arith)))

  best_as : (t : ℕ) → Best (Into t t) → Best (To t)
  best_as t (inl none) = inl (λ c h. none c (to_into t c h))
  best_as t (inr (c, h, most)) = inr (c, into_to t t c h, λ k p. most k (to_into t k p))

  best_below : Taken → (m t : ℕ) → t < m → Best (To t)
  best_below taken zero t h = absurd (omega (arith, h))
  best_below taken (suc m) t h =
      best_as t (best_into taken t t (λ s less. best_below taken m s (omega (arith, less, h))))

  -- a path with its last slot
  abbrev Total : ℕ → ℕ → Type 0
  Total t count = (before : ℕ) × (own : ℕ) × To t before × Takes code a B t own × (count ≡ before + own)

  abbrev TotalBelow : ℕ → ℕ → Type 0
  TotalBelow j count = (t : ℕ) × (t < j) × Total t count

  -- a path leads to an instruction that is visited
  path_lands : BeginsAt code a.entry → (n count t : ℕ) → Path code a B n count t → BeginsAt code t
  path_lands begins zero count t path = subst (BeginsAt code) (sym path.0) begins
  path_lands begins (suc n) count t (s, e, before, own, path, takes, one, to, is) =
      subst (BeginsAt code) to (edges_lead code a s e (structure s) one).begins

  best_total : BeginsAt code a.entry → Taken → ((t : ℕ) → Best (To t)) → ((n count t : ℕ) → Path code a B n count t → (state : AbstractState) × (state_at code a t ≡ Some state)) → (t : ℕ) → Best (Total t)
  best_total begins taken paths visited t = of (paths t) where
    of : Best (To t) → Best (Total t)
    of (inl none) = inl (λ c h. none h.0 h.2)
    of (inr (c, (n, path), most)) =
        let known = visited n c t path in
        let begin = path_lands begins n c t path in
        let own = taken t known.0 begin.0 known.1 begin.1 in
        inr (
          c + own.0,
          (c, own.0, (n, path), own.1, refl),
          λ k h.
              let low = most h.0 h.2 in
              let same = takes_one t h.1 own.0 h.3 own.1 in
              let is = h.4 in
              omega (arith, low, same, is),
        )

  best_of_all : ((t : ℕ) → Best (Total t)) → (j : ℕ) → Best (TotalBelow j)
  best_of_all all zero = inl (λ c h. let less = h.1 in absurd (omega (arith, less)))
  best_of_all all (suc j) =
      best_or (TotalBelow j) (Total j) (TotalBelow (suc j)) (λ c h. let less = h.1 in (h.0, omega (arith, less), h.2)) (λ c h. (j, omega arith, h)) split (best_of_all all j) (all j) where
        split : (c : ℕ) → TotalBelow (suc j) c → TotalBelow j c ⊎ Total j c
        split c (t, less, h) =
            elim (cases_lt t j) [
              | inl lt ↦ inl (t, lt, h)
              | inr le ↦ let same : t ≡ j = omega (arith, less, le) in inr (subst (λ (k : ℕ). Total k c) same h)
            ]

  -- an edge's target is visited
  pub path_visited : (n count t : ℕ) → Path code a B n count t → (state : AbstractState) × (state_at code a t ≡ Some state)
  path_visited zero count t path =
      let first = enters_below code a in
      (first.0, ap (state_at code a) path.0 ∙ first.1)
  path_visited (suc n) count t (s, e, before, own, path, takes, one, to, is) =
      let less = (edge_within code a s e (structure s) one).0 in
      let there = arrives code a s e one less in
      (there.0, ap (state_at code a) (sym to) ∙ there.1)

  pub longest : BeginsAt code a.entry → Taken → (bound : ℕ) × IsLongest code a B bound
  longest begins taken =
      of (best_of_all (λ t. best_total begins taken (λ t. best_below taken (suc t) t (omega arith)) path_visited t) (length (insns_by_slot code))) where
        inside : (n count t : ℕ) → Path code a B n count t → t < length (insns_by_slot code)
        inside n count t path = let begin = path_lands begins n count t path in insn_at_less code t begin.0 begin.1

        of : Best (TotalBelow (length (insns_by_slot code))) → (bound : ℕ) × IsLongest code a B bound
        of (inl none) =
            let first = enters_below code a in
            let own = taken a.entry first.0 begins.0 first.1 begins.1 in
            absurd (none (0 + own.0) (a.entry, insn_at_less code a.entry begins.0 begins.1, (0, own.0, (0, (refl, refl)), own.1, refl)))
        of (inr (c, (t, less, (before, own, (n, path), takes, is)), most)) = (
          c,
          record {
            enough = λ k s b o p q. most (b + o) (s, inside k b s p, (b, o, (k, p), q, refl));
            met = (n, t, before, own, path, takes, is);
          },
        )

-- ---- all functions

pub one_bound : (code : List Insn) → ((slot : ℕ) → structure_fault code slot ≡ None) → (left entry : ℕ) (state : AbstractState) (x y : ℕ) → HasBound code left entry state x → HasBound code left entry state y → x ≡ y
one_bound code structure zero entry state x y p q = p ∙ sym q
one_bound code structure (suc left) entry state x y p q =
    let pm = p.met in
    let qm = q.met in
    let low = q.enough pm.0 pm.1 pm.2 pm.3 pm.4 pm.5 in
    let high = p.enough qm.0 qm.1 qm.2 qm.3 qm.4 qm.5 in
    let pe = pm.6 in
    let qe = qm.6 in
    omega (arith, low, high, pe, qe)

-- what an instruction takes, given that each function has a bound where one frame fewer is left
module _ (code : List Insn) (structure : (slot : ℕ) → structure_fault code slot ≡ None) (left entry : ℕ) (state : AbstractState) (bounds : (target : ℕ) (s : AbstractState) → BeginsAt code target → (bound : ℕ) × HasBound code left target s bound) where
  in_callee : (s : AbstractState) (o : Option ℕ) → ((t : ℕ) → o ≡ Some t → BeginsAt code t) → (own : ℕ) × TakesIn (activation left (exits code left) entry state) (HasBound code left) s o own
  in_callee s None all = (1, refl)
  in_callee s (Some target) all =
      let b = bounds target (entered (activation left (exits code left) entry state) s) (all target refl) in
      (1 + b.0, (b.0, b.1, refl))

  taken_somehow : (t : ℕ) (s : AbstractState) (x : Insn) → state_at code (activation left (exits code left) entry state) t ≡ Some s → insn_at code t ≡ Some x → (own : ℕ) × Takes code (activation left (exits code left) entry state) (HasBound code left) t own
  taken_somehow t s x known is =
      let own = in_callee s (called t x) (λ u e. called_begins code t x u (stands code t x (structure t) is) e) in
      (own.0, record { state = s; state_is = known; insn = x; insn_is = is; takes = own.1 })

pub some_bound : (code : List Insn) → ((slot : ℕ) → structure_fault code slot ≡ None) → (left entry : ℕ) (state : AbstractState) → BeginsAt code entry → (bound : ℕ) × HasBound code left entry state bound
some_bound code structure zero entry state begins = (0, refl)
some_bound code structure (suc left) entry state begins =
    longest code structure (activation left (exits code left) entry state) (HasBound code left) (one_bound code structure left) begins (taken_somehow code structure left entry state (some_bound code structure left))

-- ---- the bound and the visits

module _ (code : List Insn) (structure : (slot : ℕ) → structure_fault code slot ≡ None) (a : Activation) (B : Bounds) (V : Visits) (few : (entry : ℕ) (state : AbstractState) (bound : ℕ) → B entry state bound → bound ≤ length (V entry state)) where
  taken_in_few : (slot : ℕ) (state : AbstractState) (x : Insn) (o : Option ℕ) (own : ℕ) → TakesIn a B state o own → own ≤ 1 + length (visits_of_callee a V state o)
  taken_in_few slot state x None own h = omega (arith, h)
  taken_in_few slot state x (Some target) own (b, h, is) = let low = few target (entered a state) b h in omega (arith, is, low)

  taken_few : (t own : ℕ) → Takes code a B t own → own ≤ length (visits_at code a V t)
  taken_few t own h =
      let are : length (visits_at code a V t) ≡ 1 + length (visits_of_callee a V h.state (called t h.insn)) = ap (λ (o : Option AbstractState). length (visits_of a V t o (insn_at code t))) h.state_is ∙ ap (λ (o : Option Insn). length (visits_of a V t (Some h.state) o)) h.insn_is ∙ one_more (visits_of_callee a V h.state (called t h.insn)) in
      let low = taken_in_few t h.state h.insn (called t h.insn) own h.takes in
      omega (arith, are, low) where
        one_more : (vs : List Visit) → suc (length vs) ≡ 1 + length vs
        one_more vs = omega arith

  below_more : (s t : ℕ) → s ≤ t → length (visits_below code a V s) ≤ length (visits_below code a V t)
  below_more zero t h = omega arith
  below_more (suc s) zero h = absurd (omega (arith, h))
  below_more (suc s) (suc t) h =
      elim (cases_lt s t) [
        | inl lt ↦
            let low = below_more (suc s) t (omega (arith, lt)) in
            let more = length-append (visits_below code a V t) (visits_at code a V t) in
            omega (arith, low, more)
        | inr le ↦
            let same : suc s ≡ suc t = omega (arith, h, le) in
            let e = ap (λ (n : ℕ). length (visits_below code a V n)) same in omega (arith, e)
      ]

  path_few : (n count t : ℕ) → Path code a B n count t → count ≤ length (visits_below code a V t)
  path_few zero count t path = let is = path.1 in omega (arith, is)
  path_few (suc n) count t (s, e, before, own, path, takes, one, to, is) =
      let low = path_few n before s path in
      let more = taken_few s own takes in
      let both = length-append (visits_below code a V s) (visits_at code a V s) in
      let less = (edge_within code a s e (structure s) one).0 in
      let rest = below_more (suc s) t (omega (arith, less, to)) in
      omega (arith, low, more, both, rest, is)

  longest_few : (bound : ℕ) → IsLongest code a B bound → bound ≤ length (visits_below code a V (length (insns_by_slot code)))
  longest_few bound l =
      let m = l.met in
      let low = path_few m.0 m.2 m.1 m.4 in
      let more = taken_few m.1 m.3 m.5 in
      let both = length-append (visits_below code a V m.1) (visits_at code a V m.1) in
      let less = insn_at_less code m.1 m.5.insn m.5.insn_is in
      let rest = below_more (suc m.1) (length (insns_by_slot code)) (omega (arith, less)) in
      let is = m.6 in
      omega (arith, low, more, both, rest, is)

-- a bound is at most the number of visits
pub bound_few : (code : List Insn) → ((slot : ℕ) → structure_fault code slot ≡ None) → (left entry : ℕ) (state : AbstractState) (bound : ℕ) → HasBound code left entry state bound → bound ≤ length (visits_in code left entry state)
bound_few code structure zero entry state bound h = omega (arith, h)
bound_few code structure (suc left) entry state bound h =
    longest_few code structure (activation left (exits code left) entry state) (HasBound code left) (visits_in code left) (bound_few code structure left) bound h
