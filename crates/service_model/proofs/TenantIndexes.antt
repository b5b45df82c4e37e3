-- Where the part of a client's tenant stands.
use Rattle.std.proofs.Common.{◌≡◌, ℕ, zero, suc, Bool, true, false, cond, ◌||◌, eqb, List, [], ◌∷◌, get_or, set, map, find, Option, Some, None, refl, sym, ap, ◌∙◌}
use Rattle.std.specs.Prelude.{IsSome, option_and_then}
use Rattle.std.specs.List.{list_any}
use Rattle.std.specs.FinMap as finite
use Rattle.host_types.specs.declared.TenantId.{TenantId}
use Rattle.host_types.specs.declared.config.ClientEntry.{ClientEntry}
use Rattle.host_types.specs.declared.request.Reply.{Reply}
use Rattle.host_types.specs.Configuration.{tenants_of}
use Rattle.host_types.proofs.AscendingLemmas.{tenants_by_client}
use Rattle.std.proofs.lemmas.Bool.{eq-eqb}
use Rattle.service_model.specs.TenantStates.{TenantState, tenant_at, tenant_index, empty_tenant}
use Rattle.service_model.proofs.Found.{tenant_at_index, tenant_at_no_index}

-- the part of the entry's tenant, and its index
abbrev pub part_for : List TenantState → Option ClientEntry → Option TenantState
part_for parts entry = option_and_then (λ e. tenant_at parts e.tenant.0) entry

abbrev pub index_for : List TenantState → Option ClientEntry → Option ℕ
index_for parts entry = option_and_then (λ e. tenant_index parts e.tenant.0) entry

pub tenant_for_index : (parts : List TenantState) (entry : Option ClientEntry) (index : ℕ) (d : TenantState) → index_for parts entry ≡ Some index → part_for parts entry ≡ Some (get_or parts index d)
tenant_for_index parts None index d e = absurd (cc)
tenant_for_index parts (Some entry) index d e = (tenant_at_index parts entry.tenant.0 index d e).1

pub tenant_for_no_index : (parts : List TenantState) (entry : Option ClientEntry) → index_for parts entry ≡ None → part_for parts entry ≡ None
tenant_for_no_index parts None e = refl
tenant_for_no_index parts (Some entry) e = tenant_at_no_index parts entry.tenant.0 e

-- the last reply in that part
pub last_reply_at : (parts : List TenantState) (entry : Option ClientEntry) (index client : ℕ) (part : TenantState) → index_for parts entry ≡ Some index → part ≡ get_or parts index part
    → option_and_then (λ p. finite.get p.last_replies client) (part_for parts entry) ≡ finite.get part.last_replies client
last_reply_at parts entry index client part e is =
    ap (option_and_then (λ (p : TenantState). finite.get p.last_replies client)) (tenant_for_index parts entry index part e) ∙ ap (λ (p : TenantState). finite.get p.last_replies client) (sym is)

pub no_last_reply : (parts : List TenantState) (entry : Option ClientEntry) (client : ℕ) → index_for parts entry ≡ None
    → let none : Option Reply = None in option_and_then (λ p. finite.get p.last_replies client) (part_for parts entry) ≡ none
no_last_reply parts entry client e = ap (option_and_then (λ (p : TenantState). finite.get p.last_replies client)) (tenant_for_no_index parts entry e)

any_map : {X : Type 0} (p : ℕ → Bool) (f : X → ℕ) (xs : List X) → list_any p (map f xs) ≡ list_any (λ x. p (f x)) xs
any_map p f [] = refl
any_map p f (x ∷ xs) = ap (λ (b : Bool). p (f x) || b) (any_map p f xs)

-- where none is found, none passes
none_found : {X : Type 0} (p : X → Bool) (xs : List X) → find p xs ≡ None → list_any p xs ≡ false
none_found p [] e = refl
none_found p (x ∷ xs) e = cases (p x) (none_found p xs) e where
  cases : (b : Bool) → (find p xs ≡ None → list_any p xs ≡ false) → cond b (Some x) (find p xs) ≡ None → (b || list_any p xs) ≡ false
  cases true rest e = absurd (cc)
  cases false rest e = rest e

-- a client that is found has a tenant that some client has
found_tenant : (p : ClientEntry → Bool) (clients : List ClientEntry) (entry : ClientEntry) → find p clients ≡ Some entry → list_any (λ client. eqb client.tenant.0 entry.tenant.0) clients ≡ true
found_tenant p [] entry e = absurd (cc)
found_tenant p (client ∷ clients) entry e = cases (p client) (found_tenant p clients entry) e where
  or_true : (a b : Bool) → b ≡ true → (a || b) ≡ true
  or_true true b h = refl
  or_true false b h = h

  cases : (b : Bool) → (find p clients ≡ Some entry → list_any (λ c. eqb c.tenant.0 entry.tenant.0) clients ≡ true) → cond b (Some client) (find p clients) ≡ Some entry
      → (eqb client.tenant.0 entry.tenant.0 || list_any (λ c. eqb c.tenant.0 entry.tenant.0) clients) ≡ true
  cases true rest e = let same : client ≡ entry = cc in ap (λ (b : Bool). b || list_any (λ c. eqb c.tenant.0 entry.tenant.0) clients) (eq-eqb client.tenant.0 entry.tenant.0 (ap (λ (c : ClientEntry). c.tenant.0) same))
  cases false rest e = or_true (eqb client.tenant.0 entry.tenant.0) _ (rest e)

-- a listed client's tenant has a part
pub listed_has_index : (parts : List TenantState) (clients : List ClientEntry) (p : ClientEntry → Bool) → map (λ part. part.tenant) parts ≡ map (λ tenant. tenant.0) (tenants_of clients)
    → IsSome (find p clients) → index_for parts (find p clients) ≡ None → ⊥
listed_has_index parts clients p same some none = cases (find p clients) refl some none where
  cases : (entry : Option ClientEntry) → find p clients ≡ entry → IsSome entry → index_for parts entry ≡ None → ⊥
  cases None e some none = absurd (cc)
  cases (Some entry) e some none =
      let q = entry.tenant.0 in
      let here : list_any (λ (part : TenantState). eqb part.tenant q) parts ≡ false = none_found (λ (part : TenantState). eqb part.tenant q) parts (tenant_at_no_index parts q none) in
      let there : list_any (λ (tenant : TenantId). eqb tenant.0 q) (tenants_of clients) ≡ true = tenants_by_client clients q ∙ found_tenant p clients entry e in
      let both : list_any (λ (part : TenantState). eqb part.tenant q) parts ≡ list_any (λ (tenant : TenantId). eqb tenant.0 q) (tenants_of clients) =
      sym (any_map (λ (k : ℕ). eqb k q) (λ (part : TenantState). part.tenant) parts) ∙ ap (list_any (λ (k : ℕ). eqb k q)) same ∙ any_map (λ (k : ℕ). eqb k q) (λ (tenant : TenantId). tenant.0) (tenants_of clients) in
      cc

-- a change of one part keeps its tenant's name in its index
pub tenants-set : (parts : List TenantState) (index : ℕ) (part changed : TenantState) → part ≡ get_or parts index part → changed.tenant ≡ part.tenant
    → map (λ p. p.tenant) (set parts index changed) ≡ map (λ p. p.tenant) parts
tenants-set [] index part changed is same = refl
tenants-set (p ∷ parts) zero part changed is same = ap (λ (k : ℕ). k ∷ map (λ (q : TenantState). q.tenant) parts) (same ∙ ap (λ (q : TenantState). q.tenant) is)
tenants-set (p ∷ parts) (suc index) part changed is same = ap (λ (ks : List ℕ). p.tenant ∷ ks) (tenants-set parts index part changed is same)

-- the tenants of parts that have nothing
pub empty_tenants : (tenants : List TenantId) → map (λ part. part.tenant) (map (λ tenant. empty_tenant tenant.0) tenants) ≡ map (λ tenant. tenant.0) tenants
empty_tenants [] = refl
empty_tenants (tenant ∷ tenants) = ap (λ (ks : List ℕ). tenant.0 ∷ ks) (empty_tenants tenants)
