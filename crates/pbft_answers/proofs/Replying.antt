-- The service's last replies: they are of requests that it took, and a request that it took is new no more.
use Rattle.std.proofs.Common.{◌≡◌, ◌⊎◌, ℕ, ◌+◌, ◌<◌, ◌≤◌, Bool, true, false, cond, eqb, List, [], ◌∷◌, Option, Some, None, refl, sym, ap, subst, ◌∙◌, arith, inl, inr}
use Rattle.std.specs.Prelude.{MatchBool, MatchOption, nat_lt, nat_eq, option_and_then}
use Rattle.std.specs.Ordering.{nat_cmp, eq_by_cmp}
use Rattle.std.specs.Cmp.{nat_cmp_total, unsigned_tied}
use Rattle.std.specs.FinMap as finite
use Rattle.std.proofs.lemmas.Bool.{true≢false, false≢true, cases_lt, eqb-true, eq-eqb, lt-ltb, ltb-true, false_from_ne_true}
use Rattle.std.proofs.lemmas.Option.{same_Some}
use Rattle.host_types.specs.declared.config.ClientEntry.{ClientEntry}
use Rattle.host_types.specs.Configuration.{entry_of}
use Rattle.service_model.specs.TenantStates.{TenantState, tenant_at, with_tenant}
use Rattle.service_model.specs.Steps.{Executes, IsTenantStep, Follows, reply_to}
use Rattle.service_model.proofs.Bounds.{reply_is_last, step_tenant}
use Rattle.pbft_model.specs.Words.{Signed, RequestBody, Request, Reply}
use Rattle.pbft_model.specs.Sequential.{Service, Outcome, IsStep, last_reply_of}
use Rattle.pbft_model.specs.Setup.{request_in}
use Rattle.pbft_model.specs.Core.{is_later, is_new}
use Rattle.pbft_model.specs.Histories.{IsIn}
use Rattle.pbft_model.proofs.Found.{no_some}
use Rattle.pbft_model.proofs.Later.{new_before}

-- ---- where a last reply comes from

-- The last reply is the one before, or one of this client and time.
abbrev Stems : ℕ → Request → Option Reply → Option Reply → Type 0
Stems q request before after =
    (last : Reply) → after ≡ Some last → (before ≡ Some last) ⊎ ((request.client.0 ≡ q) × (request.time ≡ last.time))

module _ (q : ℕ) (request : Request) where
  stems_alike : (o p : Option Reply) → p ≡ o → Stems q request o p
  stems_alike o p same last e = inl (sym same ∙ e)

  part_stems : (n : ℕ) (x after : TenantState) (reply : Option Reply) (kept : Bool) → IsTenantStep n x request after reply kept → Stems q request (finite.get x.last_replies q) (finite.get after.last_replies q)
  part_stems n x after reply kept h = cases (finite.get x.last_replies request.client.0) h where
    Goal : Type 0
    Goal = Stems q request (finite.get x.last_replies q) (finite.get after.last_replies q)

    alike : after ≡ x → Goal
    alike same = stems_alike (finite.get x.last_replies q) (finite.get after.last_replies q) (ap (λ (p : TenantState). finite.get p.last_replies q) same)

    done : Executes n x request after reply kept → Goal
    done e = at (eq_by_cmp nat_cmp q request.client.0) refl where
      new : Reply
      new = reply_to request n e.result

      after_is : finite.get after.last_replies q ≡ cond (eq_by_cmp nat_cmp q request.client.0) (Some new) (finite.get x.last_replies q)
      after_is = ap (λ (p : TenantState). finite.get p.last_replies q) e.part_is ∙ finite.get-insert nat_cmp_total x.last_replies request.client.0 new q

      at : (b : Bool) → eq_by_cmp nat_cmp q request.client.0 ≡ b → Goal
      at true is last found =
          let same : q ≡ request.client.0 = eqb-true q request.client.0 (sym (unsigned_tied q request.client.0) ∙ is) in
          let new_is : Some new ≡ Some last = sym (after_is ∙ ap (λ (b : Bool). cond b (Some new) (finite.get x.last_replies q)) is) ∙ found in
          inr (sym same, ap (λ (r : Reply). r.time) (same_Some new last new_is))
      at false is last found = inl (sym (after_is ∙ ap (λ (b : Bool). cond b (Some new) (finite.get x.last_replies q)) is) ∙ found)

    cases : (o : Option Reply)
        → MatchOption o (Executes n x request after reply kept)
        (λ last. MatchBool (nat_lt request.time last.time) ((after ≡ x) × (reply ≡ None) × (kept ≡ false))
        (MatchBool (nat_eq request.time last.time) ((after ≡ x) × (reply ≡ Some last) × (kept ≡ true)) (Executes n x request after reply kept)))
        → Goal
    cases None k = done k
    cases (Some last) k = lower (nat_lt request.time last.time) (nat_eq request.time last.time) k where
      lower : (b d : Bool) → MatchBool b ((after ≡ x) × (reply ≡ None) × (kept ≡ false)) (MatchBool d ((after ≡ x) × (reply ≡ Some last) × (kept ≡ true)) (Executes n x request after reply kept)) → Goal
      lower true d w = alike w.0
      lower false true w = alike w.0
      lower false false w = done w

  abbrev replies_at : Option TenantState → Option Reply
  replies_at part = option_and_then (λ p. finite.get p.last_replies q) part

  parts_stem : (xs : List TenantState) (part changed : TenantState) (n : ℕ) → changed.tenant ≡ part.tenant → tenant_at xs part.tenant ≡ Some part
      → Stems q request (finite.get part.last_replies q) (finite.get changed.last_replies q) → Stems q request (replies_at (tenant_at xs n)) (replies_at (tenant_at (with_tenant changed xs) n))
  parts_stem [] part changed n same found h = λ last e. inl e
  parts_stem (x ∷ xs) part changed n same found h =
      here (eqb x.tenant changed.tenant) refl (parts_stem xs part changed n same) where
        here : (b : Bool) → eqb x.tenant changed.tenant ≡ b
            → (tenant_at xs part.tenant ≡ Some part → Stems q request (finite.get part.last_replies q) (finite.get changed.last_replies q) → Stems q request (replies_at (tenant_at xs n)) (replies_at (tenant_at (with_tenant changed xs) n)))
            → Stems q request (replies_at (tenant_at (x ∷ xs) n)) (replies_at (tenant_at (cond b (changed ∷ xs) (x ∷ with_tenant changed xs)) n))
        here true is rest =
            let tenant : x.tenant ≡ part.tenant = eqb-true x.tenant changed.tenant is ∙ same in
            let x_is : x ≡ part = same_Some x part (sym (ap (λ (b : Bool). cond b (Some x) (tenant_at xs part.tenant)) (eq-eqb x.tenant part.tenant tenant)) ∙ found) in
            let P : ℕ → Type 0 = λ k. Stems q request (replies_at (cond (eqb x.tenant n) (Some x) (tenant_at xs n))) (replies_at (cond (eqb k n) (Some changed) (tenant_at xs n))) in
            subst P (tenant ∙ sym same) (chosen (eqb x.tenant n) x_is) where
              chosen : (b : Bool) → x ≡ part → Stems q request (replies_at (cond b (Some x) (tenant_at xs n))) (replies_at (cond b (Some changed) (tenant_at xs n)))
              chosen true x_is = subst (λ (p : TenantState). Stems q request (finite.get p.last_replies q) (finite.get changed.last_replies q)) (sym x_is) h
              chosen false x_is = λ last e. inl e
        here false is rest =
            let other : eqb x.tenant part.tenant ≡ false = ap (eqb x.tenant) (sym same) ∙ is in
            let further : tenant_at xs part.tenant ≡ Some part = sym (ap (λ (b : Bool). cond b (Some x) (tenant_at xs part.tenant)) other) ∙ found in
            skipped (eqb x.tenant n) (rest further h) where
              skipped : (b : Bool) → Stems q request (replies_at (tenant_at xs n)) (replies_at (tenant_at (with_tenant changed xs) n))
                  → Stems q request (replies_at (cond b (Some x) (tenant_at xs n))) (replies_at (cond b (Some x) (tenant_at (with_tenant changed xs) n)))
              skipped true k = λ last e. inl e
              skipped false k = k

-- the tenant of a client, found by its own id
found_own : (xs : List TenantState) (n : ℕ) (part : TenantState) → tenant_at xs n ≡ Some part → tenant_at xs part.tenant ≡ Some part
found_own xs n part e = subst (λ (k : ℕ). tenant_at xs k ≡ Some part) (sym (found_is xs e)) e where
  found_is : (ys : List TenantState) → tenant_at ys n ≡ Some part → part.tenant ≡ n
  found_is [] e = no_some part e
  found_is (y ∷ ys) e = split (eqb y.tenant n) refl e (found_is ys) where
    split : (b : Bool) → eqb y.tenant n ≡ b → cond b (Some y) (tenant_at ys n) ≡ Some part → (tenant_at ys n ≡ Some part → part.tenant ≡ n) → part.tenant ≡ n
    split true is e rest = subst (λ (p : TenantState). p.tenant ≡ n) (same_Some y part e) (eqb-true y.tenant n is)
    split false is e rest = rest e

part_found : (xs : List TenantState) (entry : Option ClientEntry) (part : TenantState) → option_and_then (λ e. tenant_at xs e.tenant.0) entry ≡ Some part → tenant_at xs part.tenant ≡ Some part
part_found xs None part e = no_some part e
part_found xs (Some entry) part e = found_own xs entry.tenant.0 part e

step_stems : (s : Service) (request : Request) (t : Service) (o : Outcome) (q : ℕ) → IsStep s (Some request) t o → Stems q request (last_reply_of s q) (last_reply_of t q)
step_stems s request t o q h last e =
    let moved : last_reply_of (record { config = s.config; number = s.number + 1; tenants = with_tenant h.changed s.tenants }) q ≡ Some last = sym (ap (λ (x : Service). last_reply_of x q) h.state_is) ∙ e in
    let found = part_found s.tenants (entry_of s.config.clients request.client.0) h.part h.is_part in
    let same = step_tenant (s.number + 1) h.part request h.changed o.reply o.kept h.step in
    client (entry_of s.config.clients q) found same moved where
      client : (entry : Option ClientEntry) → tenant_at s.tenants h.part.tenant ≡ Some h.part → h.changed.tenant ≡ h.part.tenant
          → replies_at q request (option_and_then (λ x. tenant_at (with_tenant h.changed s.tenants) x.tenant.0) entry) ≡ Some last
          → (replies_at q request (option_and_then (λ x. tenant_at s.tenants x.tenant.0) entry) ≡ Some last) ⊎ ((request.client.0 ≡ q) × (request.time ≡ last.time))
      client None found same k = inl k
      client (Some entry) found same k =
          parts_stem q request s.tenants h.part h.changed entry.tenant.0 same found (part_stems q request (s.number + 1) h.part h.changed o.reply o.kept h.step) last k

-- Behind a list of requests a client's last reply is the one before, or of one of them.
pub replies_stem : (s : Service) (requests : List (Option Request)) (t : Service) (os : List Outcome) (q : ℕ) (last : Reply) → Follows s requests t os → last_reply_of t q ≡ Some last
    → (last_reply_of s q ≡ Some last) ⊎ ((request : Request) × IsIn (Some request) requests × (request.client.0 ≡ q) × (request.time ≡ last.time))
replies_stem s [] t os q last (same, none) e = inl (ap (λ (x : Service). last_reply_of x q) (sym same) ∙ e)
replies_stem s (None ∷ requests) t os q last (mid, o, others, step, rest, is) e = elim (replies_stem mid requests t others q last rest e) [
  | inl before ↦ inl (ap (λ (x : Service). last_reply_of x q) (sym step.0) ∙ before)
  | inr w ↦ inr (w.0, inr w.1, w.2, w.3)
]
replies_stem s (Some request ∷ requests) t os q last (mid, o, others, step, rest, is) e = elim (replies_stem mid requests t others q last rest e) [
  | inl before ↦ elim (step_stems s request mid o q step last before) [
    | inl older ↦ inl older
    | inr w ↦ inr (request, inl refl, w.0, w.1)
  ]
  | inr w ↦ inr (w.0, inr w.1, w.2, w.3)
]

-- ---- what was taken is new no more

-- what is new before is done, and answered with its own time
answers_new : (n : ℕ) (x after : TenantState) (request : Request) (reply : Option Reply) (kept : Bool) → IsTenantStep n x request after reply kept
    → (last : Option Reply) → finite.get x.last_replies request.client.0 ≡ last → ((r : Reply) → last ≡ Some r → r.time < request.time) → (y : Reply) × (reply ≡ Some y) × (y.time ≡ request.time)
answers_new n x after request reply kept h last found later =
    cases last later (subst (λ (o : Option Reply). MatchOption o (Executes n x request after reply kept)
    (λ last. MatchBool (nat_lt request.time last.time) ((after ≡ x) × (reply ≡ None) × (kept ≡ false))
    (MatchBool (nat_eq request.time last.time) ((after ≡ x) × (reply ≡ Some last) × (kept ≡ true)) (Executes n x request after reply kept)))) found h) where
      Goal : Type 0
      Goal = (y : Reply) × (reply ≡ Some y) × (y.time ≡ request.time)

      done : Executes n x request after reply kept → Goal
      done e = (reply_to request n e.result, e.reply_is, refl)

      cases : (o : Option Reply) → ((r : Reply) → o ≡ Some r → r.time < request.time)
          → MatchOption o (Executes n x request after reply kept)
          (λ last. MatchBool (nat_lt request.time last.time) ((after ≡ x) × (reply ≡ None) × (kept ≡ false))
          (MatchBool (nat_eq request.time last.time) ((after ≡ x) × (reply ≡ Some last) × (kept ≡ true)) (Executes n x request after reply kept)))
          → Goal
      cases None later k = done k
      cases (Some r) later k = lower (nat_lt request.time r.time) (nat_eq request.time r.time) refl refl k where
        less : r.time < request.time
        less = later r refl

        lower : (b d : Bool) → nat_lt request.time r.time ≡ b → nat_eq request.time r.time ≡ d
            → MatchBool b ((after ≡ x) × (reply ≡ None) × (kept ≡ false)) (MatchBool d ((after ≡ x) × (reply ≡ Some r) × (kept ≡ true)) (Executes n x request after reply kept)) → Goal
        lower true d e f w = let more = ltb-true request.time r.time e in absurd (omega (arith, less, more))
        lower false true e f w = let same = eqb-true request.time r.time f in absurd (omega (arith, less, same))
        lower false false e f w = done w

pub later_than : (m : Signed RequestBody) (o : Option Reply) → is_later m o ≡ true → (r : Reply) → o ≡ Some r → r.time < m.body.time
later_than m None e r is = no_some r is
later_than m (Some last) e r is = subst (λ (x : Reply). x.time < m.body.time) (same_Some last r is) (ltb-true last.time m.body.time e)

step_old : (s : Service) (t : Service) (o : Outcome) (m : Signed RequestBody) → IsStep s (Some (request_in m)) t o → is_new t m ≡ false
step_old s t o m step = cases (is_new s m) refl where
  cases : (b : Bool) → is_new s m ≡ b → is_new t m ≡ false
  cases false old = false_from_ne_true (is_new t m) (λ e. true≢false (sym (new_before s (Some (request_in m)) t o step m e) ∙ old))
  cases true new =
      let part = step.is_part in
      let last_is : last_reply_of s m.id ≡ finite.get step.part.last_replies m.id = ap (option_and_then (λ (p : TenantState). finite.get p.last_replies m.id)) part in
      let y = answers_new (s.number + 1) step.part step.changed (request_in m) o.reply o.kept step.step (finite.get step.part.last_replies m.id) refl
      (λ r is. later_than m (last_reply_of s m.id) new r (last_is ∙ is)) in
      let last = reply_is_last s (request_in m) t o y.0 step y.1 in
      let same : y.0.time ≡ m.body.time = y.2 in
      false_from_ne_true (is_new t m) (λ e. let less = later_than m (last_reply_of t m.id) e y.0 last in absurd (omega (arith, less, same)))

still_old : (s : Service) (requests : List (Option Request)) (t : Service) (os : List Outcome) (m : Signed RequestBody) → Follows s requests t os → is_new s m ≡ false → is_new t m ≡ false
still_old s [] t os m (same, none) old = subst (λ (x : Service). is_new x m ≡ false) (sym same) old
still_old s (request ∷ requests) t os m (mid, o, others, step, rest, is) old =
    still_old mid requests t others m rest (false_from_ne_true (is_new mid m) (λ e. true≢false (sym (new_before s request mid o step m e) ∙ old)))

-- A request of the list is new no more behind it.
pub taken_old : (s : Service) (requests : List (Option Request)) (t : Service) (os : List Outcome) (m : Signed RequestBody) → Follows s requests t os → IsIn (Some (request_in m)) requests → is_new t m ≡ false
taken_old s [] t os m h none = absurd none
taken_old s (request ∷ requests) t os m (mid, o, others, step, rest, is) (inl same) =
    still_old mid requests t others m rest (step_old s mid o m (subst (λ (r : Option Request). IsStep s r mid o) (sym same) step))
taken_old s (request ∷ requests) t os m (mid, o, others, step, rest, is) (inr later) = taken_old mid requests t others m rest later
