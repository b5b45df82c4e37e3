-- A request that is new after a step of the service was new before it.
use Rattle.std.proofs.Common.{◌≡◌, ℕ, ◌+◌, ◌<◌, Bool, true, false, cond, eqb, List, [], ◌∷◌, Option, Some, None, refl, sym, ap, subst, ◌∙◌, arith, inl, inr}
use Rattle.std.specs.Prelude.{MatchBool, MatchOption, nat_lt, nat_eq, option_and_then}
use Rattle.std.specs.Ordering.{nat_cmp, eq_by_cmp}
use Rattle.std.specs.Cmp.{nat_cmp_total, unsigned_tied}
use Rattle.std.specs.FinMap as finite
use Rattle.std.proofs.lemmas.Bool.{true≢false, cases_eq, cases_lt, eqb-true, eq-eqb, lt-ltb, ltb-true}
use Rattle.std.proofs.lemmas.Option.{same_Some}
use Rattle.host_types.specs.declared.config.ClientEntry.{ClientEntry}
use Rattle.host_types.specs.Configuration.{entry_of}
use Rattle.service_model.specs.TenantStates.{TenantState, tenant_at, with_tenant}
use Rattle.service_model.specs.Steps.{Executes, IsTenantStep, reply_to}
use Rattle.pbft_model.specs.Words.{Signed, RequestBody, Request, Reply}
use Rattle.pbft_model.specs.Sequential.{Service, Outcome, IsStep}
use Rattle.pbft_model.specs.Core.{is_later, is_new}
use Rattle.pbft_model.proofs.Found.{no_some}

-- what is later than the second is later than the first
abbrev Rises : Option Reply → Option Reply → Type 0
Rises before after = (m : Signed RequestBody) → is_later m after ≡ true → is_later m before ≡ true

rises_alike : (o p : Option Reply) → p ≡ o → Rises o p
rises_alike o p same m e = subst (λ (x : Option Reply). is_later m x ≡ true) same e

rises_some : (o : Option Reply) (new : Reply) → ((last : Reply) → o ≡ Some last → last.time < new.time) → Rises o (Some new)
rises_some None new h m e = refl
rises_some (Some last) new h m e =
    let less = h last refl in
    let below = ltb-true new.time m.body.time e in
    lt-ltb last.time m.body.time (omega (arith, less, below))

-- the replies of the tenant's part rise
part_rises : (n : ℕ) (x after : TenantState) (request : Request) (reply : Option Reply) (kept : Bool) (q : ℕ) → IsTenantStep n x request after reply kept
    → Rises (finite.get x.last_replies q) (finite.get after.last_replies q)
part_rises n x after request reply kept q h = cases (finite.get x.last_replies request.client.0) refl h where
  alike : after ≡ x → Rises (finite.get x.last_replies q) (finite.get after.last_replies q)
  alike same = rises_alike (finite.get x.last_replies q) (finite.get after.last_replies q) (ap (λ (p : TenantState). finite.get p.last_replies q) same)

  done : ((last : Reply) → finite.get x.last_replies request.client.0 ≡ Some last → last.time < request.time) → Executes n x request after reply kept
      → Rises (finite.get x.last_replies q) (finite.get after.last_replies q)
  done later e = at (eq_by_cmp nat_cmp q request.client.0) refl where
    new : Reply
    new = reply_to request n e.result

    after_is : finite.get after.last_replies q ≡ cond (eq_by_cmp nat_cmp q request.client.0) (Some new) (finite.get x.last_replies q)
    after_is = ap (λ (p : TenantState). finite.get p.last_replies q) e.part_is ∙ finite.get-insert nat_cmp_total x.last_replies request.client.0 new q

    at : (b : Bool) → eq_by_cmp nat_cmp q request.client.0 ≡ b → Rises (finite.get x.last_replies q) (finite.get after.last_replies q)
    at true is =
        let same : q ≡ request.client.0 = eqb-true q request.client.0 (sym (unsigned_tied q request.client.0) ∙ is) in
        subst (λ (o : Option Reply). Rises (finite.get x.last_replies q) o) (sym (after_is ∙ ap (λ (b : Bool). cond b (Some new) (finite.get x.last_replies q)) is))
        (rises_some (finite.get x.last_replies q) new (λ last found. later last (ap (finite.get x.last_replies) (sym same) ∙ found)))
    at false is = rises_alike (finite.get x.last_replies q) (finite.get after.last_replies q) (after_is ∙ ap (λ (b : Bool). cond b (Some new) (finite.get x.last_replies q)) is)

  Goal : Type 0
  Goal = Rises (finite.get x.last_replies q) (finite.get after.last_replies q)

  cases : (o : Option Reply) → finite.get x.last_replies request.client.0 ≡ o
      → MatchOption o (Executes n x request after reply kept)
      (λ last. MatchBool (nat_lt request.time last.time) ((after ≡ x) × (reply ≡ None) × (kept ≡ false))
      (MatchBool (nat_eq request.time last.time) ((after ≡ x) × (reply ≡ Some last) × (kept ≡ true)) (Executes n x request after reply kept)))
      → Goal
  cases None e k = done (λ last found. no_some last (sym e ∙ found)) k
  cases (Some last) e k = lower (nat_lt request.time last.time) refl k where
    equal : (b : Bool) → nat_eq request.time last.time ≡ b → nat_lt request.time last.time ≡ false
        → MatchBool b ((after ≡ x) × (reply ≡ Some last) × (kept ≡ true)) (Executes n x request after reply kept) → Goal
    equal true is not_less w = alike w.0
    equal false is not_less w = done (λ other found. subst (λ (r : Reply). r.time < request.time) (same_Some last other (sym e ∙ found)) (above is not_less)) w where
      above : nat_eq request.time last.time ≡ false → nat_lt request.time last.time ≡ false → last.time < request.time
      above differs not_less = elim (cases_lt last.time request.time) [
        | inl less ↦ less
        | inr no_less ↦ elim (cases_eq request.time last.time) [
          | inl same ↦ absurd (true≢false (sym (eq-eqb request.time last.time same) ∙ differs))
          | inr other ↦ absurd (true≢false (sym (lt-ltb request.time last.time (elim (cases_lt request.time last.time) [ inl lower ↦ lower | inr higher ↦ absurd (other (omega (arith, no_less, higher))) ])) ∙ not_less))
        ]
      ]

    lower : (b : Bool) → nat_lt request.time last.time ≡ b
        → MatchBool b ((after ≡ x) × (reply ≡ None) × (kept ≡ false)) (MatchBool (nat_eq request.time last.time) ((after ≡ x) × (reply ≡ Some last) × (kept ≡ true)) (Executes n x request after reply kept))
        → Goal
    lower true is w = alike w.0
    lower false is w = equal (nat_eq request.time last.time) refl is w

step_tenant : (n : ℕ) (x after : TenantState) (request : Request) (reply : Option Reply) (kept : Bool) → IsTenantStep n x request after reply kept → after.tenant ≡ x.tenant
step_tenant n x after request reply kept h = cases (finite.get x.last_replies request.client.0) h where
  cases : (o : Option Reply) → MatchOption o (Executes n x request after reply kept)
      (λ last. MatchBool (nat_lt request.time last.time) ((after ≡ x) × (reply ≡ None) × (kept ≡ false))
      (MatchBool (nat_eq request.time last.time) ((after ≡ x) × (reply ≡ Some last) × (kept ≡ true)) (Executes n x request after reply kept)))
      → after.tenant ≡ x.tenant
  cases None k = ap (λ (p : TenantState). p.tenant) k.part_is
  cases (Some last) k = lower (nat_lt request.time last.time) (nat_eq request.time last.time) k where
    lower : (b d : Bool) → MatchBool b ((after ≡ x) × (reply ≡ None) × (kept ≡ false)) (MatchBool d ((after ≡ x) × (reply ≡ Some last) × (kept ≡ true)) (Executes n x request after reply kept)) → after.tenant ≡ x.tenant
    lower true d w = ap (λ (p : TenantState). p.tenant) w.0
    lower false true w = ap (λ (p : TenantState). p.tenant) w.0
    lower false false w = ap (λ (p : TenantState). p.tenant) w.part_is

-- the parts after a change of one
abbrev replies_at : ℕ → Option TenantState → Option Reply
replies_at q part = option_and_then (λ p. finite.get p.last_replies q) part

parts_rise : (xs : List TenantState) (part changed : TenantState) (n q : ℕ) → changed.tenant ≡ part.tenant → tenant_at xs part.tenant ≡ Some part
    → Rises (finite.get part.last_replies q) (finite.get changed.last_replies q) → Rises (replies_at q (tenant_at xs n)) (replies_at q (tenant_at (with_tenant changed xs) n))
parts_rise [] part changed n q same found h = λ m e. e
parts_rise (x ∷ xs) part changed n q same found h =
    here (eqb x.tenant changed.tenant) refl (parts_rise xs part changed n q same) where
      here : (b : Bool) → eqb x.tenant changed.tenant ≡ b
          → (tenant_at xs part.tenant ≡ Some part → Rises (finite.get part.last_replies q) (finite.get changed.last_replies q) → Rises (replies_at q (tenant_at xs n)) (replies_at q (tenant_at (with_tenant changed xs) n)))
          → Rises (replies_at q (tenant_at (x ∷ xs) n)) (replies_at q (tenant_at (cond b (changed ∷ xs) (x ∷ with_tenant changed xs)) n))
      here true is rest =
          let tenant : x.tenant ≡ part.tenant = eqb-true x.tenant changed.tenant is ∙ same in
          let x_is : x ≡ part = same_Some x part (sym (ap (λ (b : Bool). cond b (Some x) (tenant_at xs part.tenant)) (eq-eqb x.tenant part.tenant tenant)) ∙ found) in
          let P : ℕ → Type 0 = λ k. Rises (replies_at q (cond (eqb x.tenant n) (Some x) (tenant_at xs n))) (replies_at q (cond (eqb k n) (Some changed) (tenant_at xs n))) in
          subst P (tenant ∙ sym same) (chosen (eqb x.tenant n) x_is) where
            chosen : (b : Bool) → x ≡ part → Rises (replies_at q (cond b (Some x) (tenant_at xs n))) (replies_at q (cond b (Some changed) (tenant_at xs n)))
            chosen true x_is = subst (λ (p : TenantState). Rises (finite.get p.last_replies q) (finite.get changed.last_replies q)) (sym x_is) h
            chosen false x_is = λ m e. e
      here false is rest =
          let other : eqb x.tenant part.tenant ≡ false = ap (eqb x.tenant) (sym same) ∙ is in
          let further : tenant_at xs part.tenant ≡ Some part = sym (ap (λ (b : Bool). cond b (Some x) (tenant_at xs part.tenant)) other) ∙ found in
          skipped (eqb x.tenant n) (rest further h) where
            skipped : (b : Bool) → Rises (replies_at q (tenant_at xs n)) (replies_at q (tenant_at (with_tenant changed xs) n))
                → Rises (replies_at q (cond b (Some x) (tenant_at xs n))) (replies_at q (cond b (Some x) (tenant_at (with_tenant changed xs) n)))
            skipped true k = λ m e. e
            skipped false k = k

-- the tenant of a client, found by its own id
found_own : (xs : List TenantState) (n : ℕ) (part : TenantState) → tenant_at xs n ≡ Some part → tenant_at xs part.tenant ≡ Some part
found_own xs n part e = subst (λ (k : ℕ). tenant_at xs k ≡ Some part) (sym (found_is xs e)) e where
  found_is : (ys : List TenantState) → tenant_at ys n ≡ Some part → part.tenant ≡ n
  found_is [] e = no_some part e
  found_is (y ∷ ys) e = split (eqb y.tenant n) refl e (found_is ys) where
    split : (b : Bool) → eqb y.tenant n ≡ b → cond b (Some y) (tenant_at ys n) ≡ Some part → (tenant_at ys n ≡ Some part → part.tenant ≡ n) → part.tenant ≡ n
    split true is e rest = subst (λ (p : TenantState). p.tenant ≡ n) (same_Some y part e) (eqb-true y.tenant n is)
    split false is e rest = rest e

-- the tenant's part of a request, found by its own id
part_found : (xs : List TenantState) (entry : Option ClientEntry) (part : TenantState) → option_and_then (λ e. tenant_at xs e.tenant.0) entry ≡ Some part → tenant_at xs part.tenant ≡ Some part
part_found xs None part e = no_some part e
part_found xs (Some entry) part e = found_own xs entry.tenant.0 part e

pub new_before : (s : Service) (request : Option Request) (t : Service) (o : Outcome) → IsStep s request t o → (m : Signed RequestBody) → is_new t m ≡ true → is_new s m ≡ true
new_before s None t o h m e = subst (λ (x : Service). is_new x m ≡ true) h.0 e
new_before s (Some request) t o h m e =
    let moved = subst (λ (x : Service). is_new x m ≡ true) h.state_is e in
    let found = part_found s.tenants (entry_of s.config.clients request.client.0) h.part h.is_part in
    let same = step_tenant (s.number + 1) h.part h.changed request o.reply o.kept h.step in
    client (entry_of s.config.clients m.id) found same moved where
      client : (entry : Option ClientEntry) → tenant_at s.tenants h.part.tenant ≡ Some h.part → h.changed.tenant ≡ h.part.tenant
          → is_later m (replies_at m.id (option_and_then (λ x. tenant_at (with_tenant h.changed s.tenants) x.tenant.0) entry)) ≡ true
          → is_later m (replies_at m.id (option_and_then (λ x. tenant_at s.tenants x.tenant.0) entry)) ≡ true
      client None found same k = k
      client (Some entry) found same k =
          parts_rise s.tenants h.part h.changed entry.tenant.0 m.id same found (part_rises (s.number + 1) h.part h.changed request o.reply o.kept m.id h.step) m k
