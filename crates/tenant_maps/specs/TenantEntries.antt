-- Internal: entries together with the fact that they are a tenant's map, which contracts see of a `TenantMap`.
use Rattle.std.specs.Prelude.{ℕ, ◌≡◌, ◌<◌, List, length, All}
use Rattle.std.specs.Coded.{Coded, coded_ℕ, coded_list, Coded-set, ×_prop, Π_prop, →_prop, le_prop}
use Rattle.std.specs.FinMap as map
use Rattle.std.specs.BTreeMap.{BTreeMap}
use base.Stored.{coded_via}
use mathlib.Core.HLevel.{Σ_prop_path}
use Rattle.tenant_maps.specs.Entries.{Entries, IsTenantMap}

-- The entries, and that they are a tenant's map.
pub record TenantEntries : Type 0 where
  pub entries : Entries
  pub bounded : IsTenantMap entries

bytes_prop : (n : ℕ) (bytes : List ℕ) → IsProp ((length bytes ≡ n) × All (λ byte. byte < 256) bytes)
bytes_prop n bytes = ×_prop (Coded-set coded_ℕ _ _) (Π_prop (λ k. Π_prop (λ d. →_prop le_prop)))

all_prop : {X : Type 0} (P : X → Type 0) → ((x : X) → IsProp (P x)) → (xs : List X) → IsProp (All P xs)
all_prop P one xs = Π_prop (λ k. Π_prop (λ d. →_prop (one _)))

-- A map is a tenant's in one way.
pub IsTenantMap-prop : (entries : Entries) → IsProp (IsTenantMap entries)
IsTenantMap-prop entries p q = λ i. record {
  keys = all_prop _ (bytes_prop 16) (map.keys entries) p.keys q.keys i;
  values = all_prop _ (bytes_prop 32) (map.values entries) p.values q.values i;
  count = le_prop p.count q.count i;
}

-- So two are equal where their entries are.
pub same_tenant_entries : (a b : TenantEntries) → a.entries ≡ b.entries → a ≡ b
same_tenant_entries a b e =
    let pairs : ◌≡◌ {A = (entries : Entries) × IsTenantMap entries} (a.entries, a.bounded) (b.entries, b.bounded) =
    Σ_prop_path IsTenantMap-prop e in
    λ i. record { entries = (pairs i).0; bounded = (pairs i).1 }

abbrev pub tenant_entries_code : Coded TenantEntries
tenant_entries_code = coded_via (map.code (coded_list coded_ℕ) (coded_list coded_ℕ)) (λ a. a.entries) same_tenant_entries

-- What an ordered map of keys and values means.
abbrev pub meaning : BTreeMap (List ℕ) (List ℕ) → Entries
meaning m = map.from_sorted m.entries
