-- A state whose encoding is a list of bytes has bytes for keys and values.
use Rattle.std.proofs.Common.{ℕ, ◌<◌, List, [], ◌∷◌, ◌++◌, length, get_or, map}
use Rattle.std.specs.Prelude.{All, flat_map}
use Rattle.std.specs.FinMap as finite
use Rattle.std.proofs.lemmas.List.Elements.{All-cons, All-head, All-tail, All-nil, All-map}
use Rattle.tenant_maps.specs.Entries.{IsTenantMap}
use Rattle.service_model.specs.declared.version.Version.TheVariants.{Second}
use Rattle.service_model.specs.Words.{u32_bytes, u64_bytes}
use Rattle.service_model.specs.TenantStates.{TenantState, Service}
use Rattle.service_model.specs.Encoding.{encoded, encoded_tenant, encoded_procedures, encoded_entries, encoded_replies, last_replies_of}
use Rattle.service_model.specs.Bounded.{IsBoundedTenant, IsBounded}
use Rattle.service_model.specs.Asked.{HasTenantMaps}

abbrev AreBytes : List ℕ → Type 0
AreBytes bytes = All (λ byte. byte < 256) bytes

-- the parts of a list of bytes are bytes
pub left_bytes : (xs ys : List ℕ) → AreBytes (xs ++ ys) → AreBytes xs
left_bytes [] ys all = All-nil (λ byte. byte < 256)
left_bytes (x ∷ xs) ys all = All-cons (λ byte. byte < 256) x xs (All-head (λ byte. byte < 256) x (xs ++ ys) all) (left_bytes xs ys (All-tail (λ byte. byte < 256) x (xs ++ ys) all))

pub right_bytes : (xs ys : List ℕ) → AreBytes (xs ++ ys) → AreBytes ys
right_bytes [] ys all = all
right_bytes (x ∷ xs) ys all = right_bytes xs ys (All-tail (λ byte. byte < 256) x (xs ++ ys) all)

each_bytes : {X : Type 0} (f : X → List ℕ) (xs : List X) → AreBytes (flat_map f xs) → All (λ x. AreBytes (f x)) xs
each_bytes f [] all = All-nil (λ x. AreBytes (f x))
each_bytes f (x ∷ xs) all = All-cons (λ y. AreBytes (f y)) x xs (left_bytes (f x) (flat_map f xs) all) (each_bytes f xs (right_bytes (f x) (flat_map f xs) all))

tenant_map : (number : ℕ) (part : TenantState) → IsBoundedTenant number part → AreBytes (encoded_tenant Second part) → IsTenantMap part.entries
tenant_map number part bounded all = record {
  keys = λ k d lt. (bounded.entries_in_range.keys k d lt, keys k d lt);
  values = λ k d lt. (bounded.entries_in_range.values k d lt, values k d lt);
  count = bounded.entries_in_range.count;
} where
  es : List (List ℕ × List ℕ)
  es = finite.entries part.entries

  both : All (λ (e : List ℕ × List ℕ). AreBytes (e.0 ++ e.1)) es
  both = each_bytes (λ (e : List ℕ × List ℕ). e.0 ++ e.1) es (right_bytes (u32_bytes (finite.len part.entries)) _ (right_bytes (u32_bytes part.tenant ++ encoded_procedures Second part.procedures) (encoded_entries part.entries) all))

  keys : All AreBytes (map (λ e. e.0) es)
  keys = All-map AreBytes (λ (e : List ℕ × List ℕ). e.0) es (λ k d lt. left_bytes (get_or es k d).0 (get_or es k d).1 (both k d lt))

  values : All AreBytes (map (λ e. e.1) es)
  values = All-map AreBytes (λ (e : List ℕ × List ℕ). e.1) es (λ k d lt. right_bytes (get_or es k d).0 (get_or es k d).1 (both k d lt))

pub read_maps : (s : Service) → IsBounded s → AreBytes (encoded s) → HasTenantMaps s
read_maps s b all =
    let before : List ℕ = ((2 ∷ [] ++ u64_bytes s.number) ++ encoded_replies (last_replies_of s)) ++ u32_bytes (length s.tenants) in
    let parts = each_bytes (encoded_tenant Second) s.tenants (right_bytes before (flat_map (encoded_tenant Second) s.tenants) all) in
    λ k d lt. tenant_map s.number (get_or s.tenants k d) (b.tenants_in_range k d lt) (parts k d lt)
