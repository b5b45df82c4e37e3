-- The last replies that the service keeps: where each was answered, and that their times don't fall.
use Rattle.std.proofs.Common.{◌≡◌, ◌⊎◌, ℕ, ◌+◌, ◌<◌, ◌≤◌, inl, inr, Bool, true, false, cond, eqb, List, [], ◌∷◌, ◌++◌, length, map, find, Option, Some, None, refl, sym, ap, subst, ◌∙◌, arith}
use Rattle.std.specs.Prelude.{MatchBool, MatchOption, nat_lt, nat_eq, is_some, option_and_then}
use Rattle.std.specs.Cmp.{nat_cmp_total, unsigned_tied}
use Rattle.std.specs.FinMap as finite
use Rattle.std.specs.Ordering.{nat_cmp}
use Rattle.std.proofs.lemmas.Bool.{cases_order, eq-eqb, eqb-true, false≢true, lt-ltb, true≢false}
use Rattle.std.proofs.lemmas.Option.{same_Some}
use Rattle.host_types.specs.declared.TenantId.{TenantId}
use Rattle.host_types.specs.declared.config.ClientEntry.{ClientEntry}
use Rattle.host_types.specs.declared.request.Reply.{Reply}
use Rattle.host_types.specs.declared.request.Request.{Request}
use Rattle.host_types.specs.Configuration.{Configuration, entry_of, tenants_of}
use Rattle.service_model.specs.declared.outcome.Outcome.{Outcome}
use Rattle.service_model.specs.Steps.{Executes, Follows, IsStep, IsTenantStep, TakesRequest, reply_to}
use Rattle.service_model.specs.TenantStates.{Service, TenantState, empty_tenant, genesis_of, last_reply_of, tenant_at, tenant_of, with_tenant}

-- ---- options

opened : {X Y : Type 0} (f : X → Option Y) (o : Option X) (y : Y) → option_and_then f o ≡ Some y → (x : X) × (o ≡ Some x) × (f x ≡ Some y)
opened f None y is = absurd (false≢true (ap is_some is))
opened f (Some x) y is = (x, refl, is)

joined : {X Y : Type 0} (f : X → Option Y) (o : Option X) (x : X) (p : Option Y) → o ≡ Some x → f x ≡ p → option_and_then f o ≡ p
joined f o x p is here = ap (option_and_then f) is ∙ here

-- ---- a tenant's part among parts with one changed

tenant_found : (xs : List TenantState) (tenant : ℕ) (p : TenantState) → tenant_at xs tenant ≡ Some p → p.tenant ≡ tenant
tenant_found [] tenant p is = absurd (false≢true (ap is_some is))
tenant_found (x ∷ xs) tenant p is = split (eqb x.tenant tenant) refl is (tenant_found xs tenant p) where
  split : (b : Bool) → eqb x.tenant tenant ≡ b → cond b (Some x) (tenant_at xs tenant) ≡ Some p → (tenant_at xs tenant ≡ Some p → p.tenant ≡ tenant) → p.tenant ≡ tenant
  split true same h rest = ap (λ (y : TenantState). y.tenant) (sym (same_Some _ _ h)) ∙ eqb-true x.tenant tenant same
  split false other h rest = rest h

module _ (changed : TenantState) (tenant : ℕ) where
  abbrev IsOrWas : List TenantState → TenantState → Type 0
  IsOrWas xs p = ((p ≡ changed) × (tenant ≡ changed.tenant)) ⊎ (tenant_at xs tenant ≡ Some p)

  behind : (x : TenantState) (xs : List TenantState) (p : TenantState) → eqb x.tenant tenant ≡ false → tenant_at xs tenant ≡ Some p → tenant_at (x ∷ xs) tenant ≡ Some p
  behind x xs p other is = ap (λ (b : Bool). cond b (Some x) (tenant_at xs tenant)) other ∙ is

  at_it : (x : TenantState) (xs : List TenantState) (p : TenantState) → x.tenant ≡ changed.tenant → (b : Bool) → eqb changed.tenant tenant ≡ b → cond b (Some changed) (tenant_at xs tenant) ≡ Some p → IsOrWas (x ∷ xs) p
  at_it x xs p same true e h = inl (sym (same_Some _ _ h), sym (eqb-true changed.tenant tenant e))
  at_it x xs p same false e h = inr (behind x xs p (ap (λ (n : ℕ). eqb n tenant) same ∙ e) h)

  found_with : (xs : List TenantState) (p : TenantState) → tenant_at (with_tenant changed xs) tenant ≡ Some p → IsOrWas xs p
  found_with [] p is = absurd (false≢true (ap is_some is))
  found_with (x ∷ xs) p is = split (eqb x.tenant changed.tenant) refl is (found_with xs p) where
    past : (tenant_at (with_tenant changed xs) tenant ≡ Some p → IsOrWas xs p) → (b : Bool) → eqb x.tenant tenant ≡ b → cond b (Some x) (tenant_at (with_tenant changed xs) tenant) ≡ Some p → IsOrWas (x ∷ xs) p
    past rest true e h = inr (ap (λ (b : Bool). cond b (Some x) (tenant_at xs tenant)) e ∙ h)
    past rest false e h = elim (rest h) [ inl new ↦ inl new | inr old ↦ inr (behind x xs p e old) ]

    split : (b : Bool) → eqb x.tenant changed.tenant ≡ b → tenant_at (cond b (changed ∷ xs) (x ∷ with_tenant changed xs)) tenant ≡ Some p
        → (tenant_at (with_tenant changed xs) tenant ≡ Some p → IsOrWas xs p) → IsOrWas (x ∷ xs) p
    split true same h rest = at_it x xs p (eqb-true x.tenant changed.tenant same) (eqb changed.tenant tenant) refl h
    split false other h rest = past rest (eqb x.tenant tenant) refl h

  abbrev StaysOrIs : List TenantState → TenantState → Type 0
  StaysOrIs ys p = (tenant_at ys tenant ≡ Some p) ⊎ ((tenant ≡ changed.tenant) × (tenant_at ys tenant ≡ Some changed))

  kept_with : (xs : List TenantState) (p : TenantState) → tenant_at xs tenant ≡ Some p → StaysOrIs (with_tenant changed xs) p
  kept_with [] p is = absurd (false≢true (ap is_some is))
  kept_with (x ∷ xs) p is = split (eqb x.tenant changed.tenant) refl (kept_with xs p) where
    here : x.tenant ≡ changed.tenant → (b : Bool) → eqb changed.tenant tenant ≡ b → StaysOrIs (changed ∷ xs) p
    here same true e = inr (sym (eqb-true changed.tenant tenant e), ap (λ (b : Bool). cond b (Some changed) (tenant_at xs tenant)) e)
    here same false e =
        let other : eqb x.tenant tenant ≡ false = ap (λ (n : ℕ). eqb n tenant) same ∙ e in
        inl (behind changed xs p e (sym (ap (λ (b : Bool). cond b (Some x) (tenant_at xs tenant)) other) ∙ is))

    past : (tenant_at xs tenant ≡ Some p → StaysOrIs (with_tenant changed xs) p) → (b : Bool) → eqb x.tenant tenant ≡ b → StaysOrIs (x ∷ with_tenant changed xs) p
    past rest true e =
        inl (ap (λ (b : Bool). cond b (Some x) (tenant_at (with_tenant changed xs) tenant)) e ∙ sym (ap (λ (b : Bool). cond b (Some x) (tenant_at xs tenant)) e) ∙ is)
    past rest false e = elim (rest (sym (ap (λ (b : Bool). cond b (Some x) (tenant_at xs tenant)) e) ∙ is)) [
      | inl stays ↦ inl (behind x (with_tenant changed xs) p e stays)
      | inr new ↦ inr (new.0, behind x (with_tenant changed xs) changed e new.1)
    ]

    split : (b : Bool) → eqb x.tenant changed.tenant ≡ b → (tenant_at xs tenant ≡ Some p → StaysOrIs (with_tenant changed xs) p) → StaysOrIs (cond b (changed ∷ xs) (x ∷ with_tenant changed xs)) p
    split true same rest = here (eqb-true x.tenant changed.tenant same) (eqb changed.tenant tenant) refl
    split false other rest = past rest (eqb x.tenant tenant) refl

-- ---- a tenant's step

-- The part stays, or the operation is done: its time is above that of the client's last reply.
record IsDone (n : ℕ) (x : TenantState) (request : Request) (after : TenantState) (reply : Option Reply) : Type 0 where
  kept : Bool
  executes : Executes n x request after reply kept
  later : (last : Reply) → finite.get x.last_replies request.client.0 ≡ Some last → last.time < request.time

strictly_later : (a b : ℕ) → nat_lt a b ≡ false → nat_eq a b ≡ false → b < a
strictly_later a b not_less other = elim (cases_order a b) [
  | inl same ↦ absurd (true≢false (sym (eq-eqb a b same) ∙ other))
  | inr (inl less) ↦ absurd (true≢false (sym (lt-ltb a b less) ∙ not_less))
  | inr (inr more) ↦ more
]

stays_or_done : (n : ℕ) (x : TenantState) (request : Request) (after : TenantState) (reply : Option Reply) (kept : Bool) → IsTenantStep n x request after reply kept
    → (after ≡ x) ⊎ IsDone n x request after reply
stays_or_done n x request after reply kept h = by_last (finite.get x.last_replies request.client.0) refl h where
  by_time : (last : Reply) → finite.get x.last_replies request.client.0 ≡ Some last → (b d : Bool) → nat_lt request.time last.time ≡ b → nat_eq request.time last.time ≡ d
      → MatchBool b ((after ≡ x) × (reply ≡ None) × (kept ≡ false)) (MatchBool d ((after ≡ x) × (reply ≡ Some last) × (kept ≡ true)) (Executes n x request after reply kept))
      → (after ≡ x) ⊎ IsDone n x request after reply
  by_time last is true d less same w = inl w.0
  by_time last is false true less same w = inl w.0
  by_time last is false false less same w =
      inr (record { kept = kept; executes = w; later = λ last' is'. subst (λ (r : Reply). r.time < request.time) (same_Some _ _ (sym is ∙ is')) (strictly_later request.time last.time less same) })

  by_last : (o : Option Reply) → finite.get x.last_replies request.client.0 ≡ o
      → MatchOption o (Executes n x request after reply kept)
      (λ last. MatchBool (nat_lt request.time last.time) ((after ≡ x) × (reply ≡ None) × (kept ≡ false))
      (MatchBool (nat_eq request.time last.time) ((after ≡ x) × (reply ≡ Some last) × (kept ≡ true)) (Executes n x request after reply kept)))
      → (after ≡ x) ⊎ IsDone n x request after reply
  by_last None is w = inr (record { kept = kept; executes = w; later = λ last is'. absurd (false≢true (ap is_some (sym is ∙ is'))) })
  by_last (Some last) is w = by_time last is (nat_lt request.time last.time) (nat_eq request.time last.time) refl refl w

get_after : (n : ℕ) (x : TenantState) (request : Request) (after : TenantState) (reply : Option Reply) (d : IsDone n x request after reply) (client : ℕ)
    → finite.get after.last_replies client ≡ cond (eqb client request.client.0) (Some (reply_to request n d.executes.result)) (finite.get x.last_replies client)
get_after n x request after reply d client =
    let new = reply_to request n d.executes.result in
    ap (λ (p : TenantState). finite.get p.last_replies client) d.executes.part_is
    ∙ finite.get-insert nat_cmp_total x.last_replies request.client.0 new client
    ∙ ap (λ (b : Bool). cond b (Some new) (finite.get x.last_replies client)) (unsigned_tied client request.client.0)

-- ---- one step of the service

-- The step answers a client's request with this reply, for the first time.
pub record Answers (s : Service) (q : Option Request) (o : Outcome) (client : ℕ) (r : Reply) : Type 0 where
  pub request : Request
  pub is_request : q ≡ Some request
  pub client_is : request.client.0 ≡ client
  pub result : List ℕ
  pub reply_is : r ≡ reply_to request (s.number + 1) result
  pub answered : o.reply ≡ Some r
  pub later : (last : Reply) → last_reply_of s client ≡ Some last → last.time < request.time

module _ (s : Service) (request : Request) (t : Service) (o : Outcome) (h : TakesRequest s request t o) where
  n : ℕ
  n = s.number + 1

  -- the part that the step changes is that of its tenant
  part_at : (tenant : ℕ) → tenant ≡ h.part.tenant → tenant_at s.tenants tenant ≡ Some h.part
  part_at tenant same =
      let w = opened (λ (e : ClientEntry). tenant_at s.tenants e.tenant.0) (entry_of s.config.clients request.client.0) h.part h.is_part in
      subst (λ (k : ℕ). tenant_at s.tenants k ≡ Some h.part) (sym (same ∙ tenant_found s.tenants w.0.tenant.0 h.part w.2)) w.2

  same_tenant : (after : TenantState) → (after ≡ h.part) ⊎ IsDone (s.number + 1) h.part request after o.reply → after.tenant ≡ h.part.tenant
  same_tenant after (inl same) = ap (λ (p : TenantState). p.tenant) same
  same_tenant after (inr d) = ap (λ (p : TenantState). p.tenant) d.executes.part_is

  step_is : (h.changed ≡ h.part) ⊎ IsDone (s.number + 1) h.part request h.changed o.reply
  step_is = stays_or_done (s.number + 1) h.part request h.changed o.reply o.kept h.step

  last_after : (client : ℕ) (r : Reply) → last_reply_of t client ≡ Some r
      → (e : ClientEntry) × (entry_of s.config.clients client ≡ Some e) × ((p : TenantState) × (tenant_at (with_tenant h.changed s.tenants) e.tenant.0 ≡ Some p) × (finite.get p.last_replies client ≡ Some r))
  last_after client r is =
      let w = opened (λ (p : TenantState). finite.get p.last_replies client)
      (option_and_then (λ (e : ClientEntry). tenant_at (with_tenant h.changed s.tenants) e.tenant.0) (entry_of s.config.clients client)) r (sym (ap (λ (u : Service). last_reply_of u client) h.state_is) ∙ is) in
      let e = opened (λ (e : ClientEntry). tenant_at (with_tenant h.changed s.tenants) e.tenant.0) (entry_of s.config.clients client) w.0 w.1 in
      (e.0, e.1, (w.0, e.2, w.2))

  last_before : (client : ℕ) (e : ClientEntry) (p : TenantState) (r : Option Reply) → entry_of s.config.clients client ≡ Some e → tenant_at s.tenants e.tenant.0 ≡ Some p → finite.get p.last_replies client ≡ r
      → last_reply_of s client ≡ r
  last_before client e p r listed at is =
      joined (λ (p : TenantState). finite.get p.last_replies client) (tenant_of s client) p r (joined (λ (e : ClientEntry). tenant_at s.tenants e.tenant.0) (entry_of s.config.clients client) e (Some p) listed at) is

  -- the last reply to the request's client is that in the part
  own_last : (last : Reply) → last_reply_of s request.client.0 ≡ Some last → finite.get h.part.last_replies request.client.0 ≡ Some last
  own_last last is = sym (joined (λ (p : TenantState). finite.get p.last_replies request.client.0) (tenant_of s request.client.0) h.part _ h.is_part refl) ∙ is

  new_or_old : (client : ℕ) (r : Reply) → last_reply_of t client ≡ Some r → (last_reply_of s client ≡ Some r) ⊎ Answers s (Some request) o client r
  new_or_old client r is = let w = last_after client r is in elim (found_with h.changed w.0.tenant.0 s.tenants w.2.0 w.2.1) [
    | inr old ↦ inl (last_before client w.0 w.2.0 (Some r) w.1 old w.2.2)
    | inl new ↦ by step_is w.0 w.1 new.1 (ap (λ (p : TenantState). finite.get p.last_replies client) (sym new.0) ∙ w.2.2)
  ] where
    done : (d : IsDone (s.number + 1) h.part request h.changed o.reply) (e : ClientEntry) → entry_of s.config.clients client ≡ Some e → e.tenant.0 ≡ h.part.tenant
        → (b : Bool) → eqb client request.client.0 ≡ b → cond b (Some (reply_to request (s.number + 1) d.executes.result)) (finite.get h.part.last_replies client) ≡ Some r
        → (last_reply_of s client ≡ Some r) ⊎ Answers s (Some request) o client r
    done d e listed there true same got =
        let mine : request.client.0 ≡ client = sym (eqb-true client request.client.0 same) in
        let reply = sym (same_Some _ _ got) in
        inr (record {
          request = request;
          is_request = refl;
          client_is = mine;
          result = d.executes.result;
          reply_is = reply;
          answered = d.executes.reply_is ∙ ap Some (sym reply);
          later = λ last before. d.later last (own_last last (subst (λ (k : ℕ). last_reply_of s k ≡ Some last) (sym mine) before));
        })
    done d e listed there false other got = inl (last_before client e h.part (Some r) listed (part_at e.tenant.0 there) got)

    by : (h.changed ≡ h.part) ⊎ IsDone (s.number + 1) h.part request h.changed o.reply → (e : ClientEntry) → entry_of s.config.clients client ≡ Some e → e.tenant.0 ≡ h.changed.tenant
        → finite.get h.changed.last_replies client ≡ Some r → (last_reply_of s client ≡ Some r) ⊎ Answers s (Some request) o client r
    by (inl same) e listed there got =
        inl (last_before client e h.part (Some r) listed (part_at e.tenant.0 (there ∙ ap (λ (p : TenantState). p.tenant) same)) (ap (λ (p : TenantState). finite.get p.last_replies client) (sym same) ∙ got))
    by (inr d) e listed there got =
        done d e listed (there ∙ same_tenant h.changed (inr d)) (eqb client request.client.0) refl (sym (get_after (s.number + 1) h.part request h.changed o.reply d client) ∙ got)

  abbrev Later : ℕ → Reply → Type 0
  Later client r = (r' : Reply) × (last_reply_of t client ≡ Some r') × (r.time ≤ r'.time)

  after_is : (client : ℕ) (e : ClientEntry) (p : TenantState) (r : Option Reply) → entry_of s.config.clients client ≡ Some e → tenant_at (with_tenant h.changed s.tenants) e.tenant.0 ≡ Some p
      → finite.get p.last_replies client ≡ r → last_reply_of t client ≡ r
  after_is client e p r listed at is =
      ap (λ (u : Service). last_reply_of u client) h.state_is
      ∙ joined (λ (p : TenantState). finite.get p.last_replies client) (option_and_then (λ (e : ClientEntry). tenant_at (with_tenant h.changed s.tenants) e.tenant.0) (entry_of s.config.clients client)) p r
      (joined (λ (e : ClientEntry). tenant_at (with_tenant h.changed s.tenants) e.tenant.0) (entry_of s.config.clients client) e (Some p) listed at) is

  times_step : (client : ℕ) (r : Reply) → last_reply_of s client ≡ Some r → Later client r
  times_step client r is =
      let w = opened (λ (p : TenantState). finite.get p.last_replies client) (tenant_of s client) r is in
      let e = opened (λ (e : ClientEntry). tenant_at s.tenants e.tenant.0) (entry_of s.config.clients client) w.0 w.1 in
      elim (kept_with h.changed e.0.tenant.0 s.tenants w.0 e.2) [
        | inl stays ↦ (r, after_is client e.0 w.0 (Some r) e.1 stays w.2, omega arith)
        | inr new ↦
            let part : w.0 ≡ h.part = same_Some _ _ (sym e.2 ∙ part_at e.0.tenant.0 (new.0 ∙ same_tenant h.changed step_is)) in
            by step_is e.0 e.1 new.1 (ap (λ (p : TenantState). finite.get p.last_replies client) (sym part) ∙ w.2)
      ] where
        done : (d : IsDone (s.number + 1) h.part request h.changed o.reply) (e : ClientEntry) → entry_of s.config.clients client ≡ Some e → tenant_at (with_tenant h.changed s.tenants) e.tenant.0 ≡ Some h.changed
            → finite.get h.part.last_replies client ≡ Some r → (b : Bool) → eqb client request.client.0 ≡ b
            → finite.get h.changed.last_replies client ≡ cond b (Some (reply_to request (s.number + 1) d.executes.result)) (finite.get h.part.last_replies client) → Later client r
        done d e listed at was true same got =
            let less : r.time < request.time = d.later r (subst (λ (k : ℕ). finite.get h.part.last_replies k ≡ Some r) (eqb-true client request.client.0 same) was) in
            (reply_to request (s.number + 1) d.executes.result, after_is client e h.changed _ listed at got, omega (arith, less))
        done d e listed at was false other got = (r, after_is client e h.changed (Some r) listed at (got ∙ was), omega arith)

        by : (h.changed ≡ h.part) ⊎ IsDone (s.number + 1) h.part request h.changed o.reply → (e : ClientEntry) → entry_of s.config.clients client ≡ Some e
            → tenant_at (with_tenant h.changed s.tenants) e.tenant.0 ≡ Some h.changed → finite.get h.part.last_replies client ≡ Some r → Later client r
        by (inl same) e listed at was = (r, after_is client e h.changed (Some r) listed at (ap (λ (p : TenantState). finite.get p.last_replies client) same ∙ was), omega arith)
        by (inr d) e listed at was = done d e listed at was (eqb client request.client.0) refl (get_after (s.number + 1) h.part request h.changed o.reply d client)

step_new : (s : Service) (q : Option Request) (t : Service) (o : Outcome) (client : ℕ) (r : Reply) → IsStep s q t o → last_reply_of t client ≡ Some r → (last_reply_of s client ≡ Some r) ⊎ Answers s q o client r
step_new s None t o client r step is = inl (sym (ap (λ (u : Service). last_reply_of u client) step.0) ∙ is)
step_new s (Some request) t o client r step is = new_or_old s request t o step client r is

step_times : (s : Service) (q : Option Request) (t : Service) (o : Outcome) (client : ℕ) (r : Reply) → IsStep s q t o → last_reply_of s client ≡ Some r → (r' : Reply) × (last_reply_of t client ≡ Some r') × (r.time ≤ r'.time)
step_times s None t o client r step is = (r, ap (λ (u : Service). last_reply_of u client) step.0 ∙ is, omega arith)
step_times s (Some request) t o client r step is = times_step s request t o step client r is

step_number : (s : Service) (q : Option Request) (t : Service) (o : Outcome) → IsStep s q t o → t.number ≡ s.number + 1
step_number s None t o step = ap (λ (u : Service). u.number) step.0
step_number s (Some request) t o step = ap (λ (u : Service). u.number) step.state_is

-- ---- many steps

pub numbers_follow : (s : Service) (qs : List (Option Request)) (t : Service) (os : List Outcome) → Follows s qs t os → t.number ≡ s.number + length qs
numbers_follow s [] t os w = let same : t.number ≡ s.number = ap (λ (u : Service). u.number) w.0 in omega (arith, same)
numbers_follow s (q ∷ qs) t os (mid, o, others, step, rest, is) =
    let first = step_number s q mid o step in
    let more = numbers_follow mid qs t others rest in omega (arith, first, more)

pub times_follow : (s : Service) (qs : List (Option Request)) (t : Service) (os : List Outcome) (client : ℕ) (r : Reply) → Follows s qs t os → last_reply_of s client ≡ Some r
    → (r' : Reply) × (last_reply_of t client ≡ Some r') × (r.time ≤ r'.time)
times_follow s [] t os client r w is = (r, ap (λ (u : Service). last_reply_of u client) w.0 ∙ is, omega arith)
times_follow s (q ∷ qs) t os client r (mid, o, others, step, rest, is_os) is =
    let first = step_times s q mid o client r step is in
    let more = times_follow mid qs t others client first.0 rest first.1 in
    let low = first.2 in
    let high = more.2 in (more.0, more.1, omega (arith, low, high))

-- a step among others that answers with the reply
pub record Point (s : Service) (qs : List (Option Request)) (client : ℕ) (r : Reply) : Type 0 where
  pub before : List (Option Request)
  pub q : Option Request
  pub after : List (Option Request)
  pub splits : qs ≡ before ++ q ∷ after
  pub mid : Service
  pub earlier : List Outcome
  pub first : Follows s before mid earlier
  pub then : Service
  pub outcome : Outcome
  pub step : IsStep mid q then outcome
  pub answers : Answers mid q outcome client r

pub answered_in : (s : Service) (qs : List (Option Request)) (t : Service) (os : List Outcome) (client : ℕ) (r : Reply) → Follows s qs t os → last_reply_of t client ≡ Some r
    → (last_reply_of s client ≡ Some r) ⊎ Point s qs client r
answered_in s [] t os client r w is = inl (sym (ap (λ (u : Service). last_reply_of u client) w.0) ∙ is)
answered_in s (q ∷ qs) t os client r (mid, o, others, step, rest, is_os) is = elim (answered_in mid qs t others client r rest is) [
  | inl old ↦ elim (step_new s q mid o client r step old) [
    | inl older ↦ inl older
    | inr new ↦ inr (record { before = []; q = q; after = qs; splits = refl; mid = s; earlier = []; first = (refl, refl); then = mid; outcome = o; step = step; answers = new })
  ]
  | inr p ↦
      inr (record {
        before = q ∷ p.before;
        q = p.q;
        after = p.after;
        splits = ap (λ (xs : List (Option Request)). q ∷ xs) p.splits;
        mid = p.mid;
        earlier = o ∷ p.earlier;
        first = (mid, o, p.earlier, step, p.first, refl);
        then = p.then;
        outcome = p.outcome;
        step = p.step;
        answers = p.answers;
      })
]

-- the service keeps no reply before its first request
empty_found : (ts : List TenantId) (p : TenantState → Bool) (x : TenantState) → find p (map (λ (t : TenantId). empty_tenant t.0) ts) ≡ Some x → (t : TenantId) × (x ≡ empty_tenant t.0)
empty_found [] p x is = absurd (false≢true (ap is_some is))
empty_found (t ∷ ts) p x is = split (p (empty_tenant t.0)) is (empty_found ts p x) where
  split : (b : Bool) → cond b (Some (empty_tenant t.0)) (find p (map (λ (t : TenantId). empty_tenant t.0) ts)) ≡ Some x
      → (find p (map (λ (t : TenantId). empty_tenant t.0) ts) ≡ Some x → (t : TenantId) × (x ≡ empty_tenant t.0)) → (t : TenantId) × (x ≡ empty_tenant t.0)
  split true h rest = (t, sym (same_Some _ _ h))
  split false h rest = rest h

pub none_at_first : (config : Configuration) (client : ℕ) (r : Reply) → last_reply_of (genesis_of config) client ≡ Some r → ⊥
none_at_first config client r is =
    let w = opened (λ (p : TenantState). finite.get p.last_replies client) (tenant_of (genesis_of config) client) r is in
    let e = opened (λ (e : ClientEntry). tenant_at (genesis_of config).tenants e.tenant.0) (entry_of config.clients client) w.0 w.1 in
    let x = empty_found (tenants_of config.clients) (λ (p : TenantState). eqb p.tenant e.0.tenant.0) w.0 e.2 in
    let none : finite.get w.0.last_replies client ≡ None = ap (λ (p : TenantState). finite.get p.last_replies client) x.1 ∙ finite.get-empty nat_cmp client in
    false≢true (ap is_some (sym none ∙ w.2))
