-- What is found in a list, and where.
use Rattle.std.proofs.Common.{◌≡◌, ℕ, zero, suc, ◌<◌, Bool, true, false, cond, eqb, ltb, List, [], ◌∷◌, length, get_or, set, find, Some, None, refl, sym, ap, ◌∙◌, arith}
use Rattle.std.specs.Prelude.{position, slice_get, option_and_then}
use Rattle.std.specs.List.{position_or_len}
use Rattle.std.proofs.lemmas.Bool.{ltb-false, eqb-true, eq-eqb}
use Rattle.std.proofs.lemmas.Option.{slice_get_past, slice_get-get_or}
use Rattle.std.proofs.lemmas.List.Folds.{find_at}
use Rattle.std.proofs.lemmas.List.Quantifiers.{position-Some}
use Rattle.service_model.specs.TenantStates.{TenantState, tenant_at, with_tenant, tenant_index}

-- the first that passes is at the first index that does
pub find_by_position : {X : Type 0} (p : X → Bool) (xs : List X) → find p xs ≡ option_and_then (slice_get xs) (position p xs)
find_by_position p xs = find_at p xs ∙ cases (ltb (position_or_len p xs) (length xs)) refl where
  cases : (b : Bool) → ltb (position_or_len p xs) (length xs) ≡ b → slice_get xs (position_or_len p xs) ≡ option_and_then (slice_get xs) (cond b (Some (position_or_len p xs)) None)
  cases true e = refl
  cases false e = slice_get_past xs (position_or_len p xs) (ltb-false _ _ e)

-- the parts after the first one of a tenant was changed
with_part_set : (parts : List TenantState) (i : ℕ) (changed d : TenantState) → i < length parts → (get_or parts i d).tenant ≡ changed.tenant
    → ((k : ℕ) → k < i → eqb (get_or parts k d).tenant changed.tenant ≡ false) → with_tenant changed parts ≡ set parts i changed
with_part_set [] i changed d h is first = absurd (omega arith)
with_part_set (part ∷ parts) zero changed d h is first = ap (λ (b : Bool). cond b (changed ∷ parts) (part ∷ with_tenant changed parts)) (eq-eqb part.tenant changed.tenant is)
with_part_set (part ∷ parts) (suc i) changed d h is first =
    ap (λ (b : Bool). cond b (changed ∷ parts) (part ∷ with_tenant changed parts)) (first 0 (omega arith))
    ∙ ap (λ (rest : List TenantState). part ∷ rest) (with_part_set parts i changed d (omega arith) is (λ k lt. first (suc k) (omega arith)))

pub with_tenant_at : (parts : List TenantState) (tenant i : ℕ) (changed : TenantState) → tenant_index parts tenant ≡ Some i → changed.tenant ≡ tenant → with_tenant changed parts ≡ set parts i changed
with_tenant_at parts tenant i changed e is =
    let found = position-Some (λ (part : TenantState). eqb part.tenant tenant) parts i changed e in
    with_part_set parts i changed changed found.0 (eqb-true _ _ found.1 ∙ sym is) (λ k lt. ap (eqb (get_or parts k changed).tenant) is ∙ found.2 k lt)

-- the part at its index
pub tenant_at_index : (parts : List TenantState) (tenant i : ℕ) (d : TenantState) → tenant_index parts tenant ≡ Some i → (i < length parts) × (tenant_at parts tenant ≡ Some (get_or parts i d))
tenant_at_index parts tenant i d e =
    let found = position-Some (λ (part : TenantState). eqb part.tenant tenant) parts i d e in (
      found.0,
      find_by_position (λ (part : TenantState). eqb part.tenant tenant) parts ∙ ap (option_and_then (slice_get parts)) e ∙ slice_get-get_or parts i d found.0,
    )

pub tenant_at_no_index : (parts : List TenantState) (tenant : ℕ) → tenant_index parts tenant ≡ None → tenant_at parts tenant ≡ None
tenant_at_no_index parts tenant e = find_by_position (λ (part : TenantState). eqb part.tenant tenant) parts ∙ ap (option_and_then (slice_get parts)) e
