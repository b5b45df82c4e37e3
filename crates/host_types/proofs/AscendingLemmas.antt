-- Tenants are in ascending order, each by a client.
use Rattle.std.proofs.Common.{◌≡◌, ℕ, suc, ◌<◌, Bool, true, false, ◌||◌, eqb, List, [], ◌∷◌, refl, sym, ap, subst, ◌∙◌, arith, inl, inr}
use Rattle.std.specs.Prelude.{All, fold}
use Rattle.std.specs.List.{list_any}
use Rattle.std.proofs.lemmas.Bool.{cases_order}
use Rattle.std.proofs.lemmas.List.Elements.{All-cons}
use Rattle.std.proofs.lemmas.List.Kept.{AllPairs-cons}
use Rattle.host_types.specs.declared.TenantId.{TenantId}
use Rattle.host_types.specs.declared.config.ClientEntry.{ClientEntry}
use Rattle.host_types.specs.Configuration.{insert_sorted, tenants_of, IsAscending}
use Rattle.host_types.proofs.InsertSorted.{insert_sorted_before, insert_sorted_here, insert_sorted_after}

abbrev number : TenantId → ℕ
number tenant = tenant.0

tail_all : (P : TenantId → Type 0) (u : TenantId) (us : List TenantId) → All P (u ∷ us) → All P us
tail_all P u us all = λ k d h. all (suc k) d (omega arith)

head_less : (u : TenantId) (us : List TenantId) → IsAscending (u ∷ us) → All (λ v. u.0 < v.0) us
head_less u us up = λ k d h. up 0 (suc k) d (omega arith) (omega arith)

tail_ascending : (u : TenantId) (us : List TenantId) → IsAscending (u ∷ us) → IsAscending us
tail_ascending u us up = λ i j d lt h. up (suc i) (suc j) d (omega arith) (omega arith)

all_with_tenant : (P : TenantId → Type 0) (t : TenantId) (us : List TenantId) → P t → All P us → All P (insert_sorted number t us)
all_with_tenant P t [] p all = All-cons P t [] p all
all_with_tenant P t (u ∷ us) p all = elim (cases_order t.0 u.0) [
  | inl e ↦ subst (All P) (sym (insert_sorted_here number t u us e)) all
  | inr other ↦ elim other [
    | inl lt ↦ subst (All P) (sym (insert_sorted_before number t u us lt)) (All-cons P t (u ∷ us) p all)
    | inr gt ↦ subst (All P) (sym (insert_sorted_after number t u us gt)) (All-cons P u (insert_sorted number t us) (all 0 u (omega arith)) (all_with_tenant P t us p (tail_all P u us all)))
  ]
]

ascending_with_tenant : (t : TenantId) (us : List TenantId) → IsAscending us → IsAscending (insert_sorted number t us)
ascending_with_tenant t [] up = AllPairs-cons (λ one later. one.0 < later.0) t [] (λ k d h. absurd (omega arith)) up
ascending_with_tenant t (u ∷ us) up = elim (cases_order t.0 u.0) [
  | inl e ↦ subst IsAscending (sym (insert_sorted_here number t u us e)) up
  | inr other ↦ elim other [
    | inl lt ↦
        let later = head_less u us up in
        subst IsAscending (sym (insert_sorted_before number t u us lt)) (AllPairs-cons (λ one later. one.0 < later.0) t (u ∷ us) (All-cons (λ v. t.0 < v.0) u us lt (λ k d h. omega (arith, later k d h))) up)
    | inr gt ↦
        subst IsAscending (sym (insert_sorted_after number t u us gt)) (AllPairs-cons (λ one later. one.0 < later.0) u (insert_sorted number t us) (all_with_tenant (λ v. u.0 < v.0) t us gt (head_less u us up)) (ascending_with_tenant t us (tail_ascending u us up)))
  ]
]

ascending_fold : (us : List TenantId) (clients : List ClientEntry) → IsAscending us → IsAscending (fold (λ tenants client. insert_sorted number client.tenant tenants) us clients)
ascending_fold us [] up = up
ascending_fold us (client ∷ clients) up = ascending_fold (insert_sorted number client.tenant us) clients (ascending_with_tenant client.tenant us up)

pub tenants_ascending : (clients : List ClientEntry) → IsAscending (tenants_of clients)
tenants_ascending clients = ascending_fold [] clients (λ i j d lt h. absurd (omega arith))

again : (a b : Bool) → (a || b) ≡ (a || (a || b))
again true b = refl
again false b = refl

swapped : (a b c : Bool) → (a || (b || c)) ≡ (b || (a || c))
swapped true true c = refl
swapped true false c = refl
swapped false b c = refl

turned : (a b c : Bool) → (a || (b || c)) ≡ ((b || a) || c)
turned true true c = refl
turned true false c = refl
turned false true c = refl
turned false false c = refl

any_with_tenant : (t : TenantId) (us : List TenantId) (q : ℕ) → list_any (λ u. eqb u.0 q) (insert_sorted number t us) ≡ (eqb t.0 q || list_any (λ u. eqb u.0 q) us)
any_with_tenant t [] q = refl
any_with_tenant t (u ∷ us) q = elim (cases_order t.0 u.0) [
  | inl e ↦
      ap (list_any (λ v. eqb v.0 q)) (insert_sorted_here number t u us e) ∙ again (eqb u.0 q) (list_any (λ v. eqb v.0 q) us)
      ∙ ap (λ (k : ℕ). eqb k q || (eqb u.0 q || list_any (λ v. eqb v.0 q) us)) (sym e)
  | inr other ↦ elim other [
    | inl lt ↦ ap (list_any (λ v. eqb v.0 q)) (insert_sorted_before number t u us lt)
    | inr gt ↦
        ap (list_any (λ v. eqb v.0 q)) (insert_sorted_after number t u us gt)
        ∙ ap (λ (b : Bool). eqb u.0 q || b) (any_with_tenant t us q) ∙ swapped (eqb u.0 q) (eqb t.0 q) (list_any (λ v. eqb v.0 q) us)
  ]
]

any_fold : (us : List TenantId) (clients : List ClientEntry) (q : ℕ) → list_any (λ u. eqb u.0 q) (fold (λ tenants client. insert_sorted number client.tenant tenants) us clients) ≡ (list_any (λ client. eqb client.tenant.0 q) clients || list_any (λ u. eqb u.0 q) us)
any_fold us [] q = refl
any_fold us (client ∷ clients) q =
    any_fold (insert_sorted number client.tenant us) clients q
    ∙ ap (λ (b : Bool). list_any (λ other. eqb other.tenant.0 q) clients || b) (any_with_tenant client.tenant us q)
    ∙ turned (list_any (λ other. eqb other.tenant.0 q) clients) (eqb client.tenant.0 q) (list_any (λ u. eqb u.0 q) us)

-- a tenant is there exactly if a client has it
pub tenants_by_client : (clients : List ClientEntry) (q : ℕ) → list_any (λ tenant. eqb tenant.0 q) (tenants_of clients) ≡ list_any (λ client. eqb client.tenant.0 q) clients
tenants_by_client clients q = any_fold [] clients q ∙ or-false (list_any (λ client. eqb client.tenant.0 q) clients) where
  or-false : (b : Bool) → (b || false) ≡ b
  or-false true = refl
  or-false false = refl
