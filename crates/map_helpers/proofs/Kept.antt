-- What each helper's effect keeps: the answer within its limit, keys and values what they were, bytes bytes.
use Rattle.std.proofs.Common.{◌≡◌, ℕ, suc, ◌+◌, ◌^◌, ◌<◌, ◌≤◌, Bool, true, false, ◌&&◌, cond, leb, List, [], ◌∷◌, ◌++◌, length, take, drop, Option, Some, None, All, IfSome, map as each, refl, sym, ap, subst, ◌∙◌, arith}
use Rattle.std.specs.List.{list_all}
use Rattle.std.specs.FinMap as map
use Rattle.std.specs.Cmp.Lexicographic.{nat_list_cmp_total}
use Rattle.std.proofs.lemmas.Bool.{leb-true}
use Rattle.std.proofs.lemmas.List.{length-append, length-replicate, append-nil}
use Rattle.std.proofs.lemmas.List.Elements.{All-nil, All-replicate}
use Rattle.tenant_maps.specs.Entries.{Entries, IsKey, IsValue, IsTenantMap, has_room, put, next_key}
use Rattle.tenant_maps.proofs.EntriesLemmas.{All-keys-put, All-values-put, All-map-where, count_stays, count_falls, entries-remove, IsValue-get, IsKey-next_key}
use Rattle.map_helpers.specs.declared.helper.Access.{Access}
use Rattle.map_helpers.specs.declared.helper.Extent.TheVariants.{Fixed}
use Rattle.map_helpers.specs.declared.helper.Helper.{Helper}
use Rattle.map_helpers.specs.declared.helper.Helper.TheVariants.{Get, Put, Del, Len, Next, Emit, Caller}
use Rattle.map_helpers.specs.Helpers.{arguments_of, reads, writes, max_answer}
use Rattle.map_helpers.specs.Effects.{Context, Effect, HasExtent, effect_of, lookup_effect, emit_effect}
use Rattle.map_helpers.proofs.BytesRead.{key_first, value_second}

-- numbers of 8 bits
abbrev pub AreBytes : List ℕ → Type 0
AreBytes bytes = All (λ byte. byte < 256) bytes

-- ---- keys and values

-- keys and values that have these properties, and few
pub record AllEntries (K V : List ℕ → Type 0) (entries : Entries) : Type 0 where
  pub keys : All K (map.keys entries)
  pub values : All V (map.values entries)
  pub count : map.len entries ≤ 4096

-- what a put reads has them
abbrev pub IsPutOf : (K V : List ℕ → Type 0) → Helper → List ℕ → Type 0
IsPutOf K V Put bytes = K (take 16 bytes) × V (drop 16 bytes)
IsPutOf K V _ bytes = Unit {0}

module _ (K V : List ℕ → Type 0) where
  inserted : (entries : Entries) (key value : List ℕ) → AllEntries K V entries → K key → V value → has_room entries key ≡ true → AllEntries K V (map.insert entries key value)
  inserted entries key value all k v room = record {
    keys = subst (λ es. All K (each (λ e. e.0) es)) (sym (map.entries-insert nat_list_cmp_total entries key value)) (All-keys-put K key value _ k all.keys);
    values = subst (λ es. All V (each (λ e. e.1) es)) (sym (map.entries-insert nat_list_cmp_total entries key value)) (All-values-put V key value _ v all.values);
    count = count_stays (map.contains_key entries key) _ (map.len entries) _ room refl all.count (map.len-insert nat_list_cmp_total entries key value);
  }

  after_put : (entries : Entries) (key value : List ℕ) → AllEntries K V entries → K key → V value → AllEntries K V (put entries key value)
  after_put entries key value all k v = cases (has_room entries key) refl where
    cases : (b : Bool) → has_room entries key ≡ b → AllEntries K V (cond b (map.insert entries key value) entries)
    cases true room = inserted entries key value all k v room
    cases false full = all

  after_remove : (entries : Entries) (key : List ℕ) → AllEntries K V entries → AllEntries K V (map.remove entries key)
  after_remove entries key all = record {
    keys = subst (λ es. All K (each (λ e. e.0) es)) (sym (entries-remove entries key)) (All-map-where (λ e. e.0) K _ _ all.keys);
    values = subst (λ es. All V (each (λ e. e.1) es)) (sym (entries-remove entries key)) (All-map-where (λ e. e.1) V _ _ all.values);
    count = count_falls (map.contains_key entries key) (map.len entries) _ all.count (map.len-remove nat_list_cmp_total entries key);
  }

  after_lookup : (c : Context) (size : ℕ) (found : Option (List ℕ)) → AllEntries K V c.entries → AllEntries K V (lookup_effect c size found).entries
  after_lookup c size None all = all
  after_lookup c size (Some bytes) all = all

  after_emit : (c : Context) (bytes : List ℕ) → AllEntries K V c.entries → AllEntries K V (emit_effect c bytes).entries
  after_emit c bytes all = cases (leb (length c.output + length bytes) 256) where
    cases : (b : Bool) → AllEntries K V (cond {A = Effect} b (record { answer = 0; written = []; entries = c.entries; output = c.output ++ bytes }) (record { answer = 1; written = []; entries = c.entries; output = c.output })).entries
    cases true = all
    cases false = all

  -- a helper keeps them
  pub entries_kept : (helper : Helper) (c : Context) (bytes : List ℕ) → AllEntries K V c.entries → IsPutOf K V helper bytes → AllEntries K V (effect_of helper c bytes).entries
  entries_kept Get c bytes all puts = after_lookup c 32 (map.get c.entries bytes) all
  entries_kept Put c bytes all puts = after_put c.entries (take 16 bytes) (drop 16 bytes) all puts.0 puts.1
  entries_kept Del c bytes all puts = after_remove c.entries bytes all
  entries_kept Len c bytes all puts = all
  entries_kept Next c bytes all puts = after_lookup c 16 (next_key c.entries bytes) all
  entries_kept Emit c bytes all puts = after_emit c bytes all
  entries_kept Caller c bytes all puts = all

-- a tenant's map stays one
pub tenant_map_kept : (helper : Helper) (c : Context) (bytes : List ℕ) → IsTenantMap c.entries → IsPutOf IsKey IsValue helper bytes → IsTenantMap (effect_of helper c bytes).entries
tenant_map_kept helper c bytes is puts =
    let all = entries_kept IsKey IsValue helper c bytes (record { keys = is.keys; values = is.values; count = is.count }) puts in
    record { keys = all.keys; values = all.values; count = all.count }

-- ---- what is read

-- what was read by these accesses, one behind the other
abbrev pub IsReadBy : List Access → List ℕ → Type 0
IsReadBy [] bytes = bytes ≡ []
IsReadBy (access ∷ accesses) bytes =
    (first : List ℕ) × (rest : List ℕ) × HasExtent access.size first × AreBytes first × IsReadBy accesses rest × (bytes ≡ first ++ rest)

-- so a put reads a key and a value
pub reads_put : (helper : Helper) (bytes : List ℕ) → IsReadBy (reads helper) bytes → IsPutOf IsKey IsValue helper bytes
reads_put Get bytes read = tt
reads_put Put bytes (key, rest, key_long, key_bytes, (value, none, value_long, value_bytes, nothing, rest_is), bytes_is) =
    let value_is : rest ≡ value = rest_is ∙ ap (λ (ys : List ℕ). value ++ ys) nothing ∙ append-nil value in
    let first : take 16 bytes ≡ key = ap (take 16) bytes_is ∙ key_first key rest key_long in
    let second : drop 16 bytes ≡ value = ap (drop 16) bytes_is ∙ value_second key rest key_long ∙ value_is in
    (subst IsKey (sym first) (key_long, key_bytes), subst IsValue (sym second) (value_long, value_bytes))
reads_put Del bytes read = tt
reads_put Len bytes read = tt
reads_put Next bytes read = tt
reads_put Emit bytes read = tt
reads_put Caller bytes read = tt

-- ---- what is written

-- bytes that these accesses write: one at most, which is no empty one
abbrev pub AreWrittenBy : List Access → List ℕ → Type 0
AreWrittenBy [] bytes = bytes ≡ []
AreWrittenBy (access ∷ []) bytes = (n : ℕ) × (access.size ≡ Fixed (suc n)) × (length bytes ≡ suc n)
AreWrittenBy (a ∷ b ∷ rest) bytes = ⊥

pub record Writes (helper : Helper) (bytes : List ℕ) : Type 0 where
  pub long : AreWrittenBy (writes helper) bytes
  pub small : AreBytes bytes

looked_up : (c : Context) (size : ℕ) (found : Option (List ℕ)) → IfSome found (λ bytes. (length bytes ≡ size) × AreBytes bytes) → (length (lookup_effect c size found).written ≡ size) × AreBytes (lookup_effect c size found).written
looked_up c size (Some bytes) is = is
looked_up c size None is =
    (length-replicate {A = ℕ} size 0, All-replicate (λ byte. byte < 256) size 0 (omega arith))

nothing_written : (c : Context) (bytes : List ℕ) → (emit_effect c bytes).written ≡ []
nothing_written c bytes = cases (leb (length c.output + length bytes) 256) where
  cases : (b : Bool) → (cond {A = Effect} b (record { answer = 0; written = []; entries = c.entries; output = c.output ++ bytes }) (record { answer = 1; written = []; entries = c.entries; output = c.output })).written ≡ []
  cases true = refl
  cases false = refl

pub writes_kept : (helper : Helper) (c : Context) (bytes : List ℕ) → IsTenantMap c.entries → Writes helper (effect_of helper c bytes).written
writes_kept Get c bytes is =
    let l = looked_up c 32 (map.get c.entries bytes) (IsValue-get c.entries bytes is) in record { long = (31, refl, l.0); small = l.1 }
writes_kept Next c bytes is =
    let l = looked_up c 16 (next_key c.entries bytes) (IsKey-next_key c.entries bytes is) in record { long = (15, refl, l.0); small = l.1 }
writes_kept Emit c bytes is =
    record { long = nothing_written c bytes; small = subst AreBytes (sym (nothing_written c bytes)) (All-nil (λ byte. byte < 256)) }
writes_kept _ c bytes is = record { long = refl; small = All-nil (λ byte. byte < 256) }

-- ---- the answer

small : (b : Bool) → cond b 0 1 ≤ 1
small true = omega arith
small false = omega arith

lookup_small : (c : Context) (size : ℕ) (found : Option (List ℕ)) → (lookup_effect c size found).answer ≤ 1
lookup_small c size None = omega arith
lookup_small c size (Some bytes) = omega arith

emit_small : (c : Context) (bytes : List ℕ) → (emit_effect c bytes).answer ≤ 1
emit_small c bytes = cases (leb (length c.output + length bytes) 256) where
  cases : (b : Bool) → (cond {A = Effect} b (record { answer = 0; written = []; entries = c.entries; output = c.output ++ bytes }) (record { answer = 1; written = []; entries = c.entries; output = c.output })).answer ≤ 1
  cases true = omega arith
  cases false = omega arith

pub answer_at_most : (helper : Helper) (c : Context) (bytes : List ℕ) → map.len c.entries ≤ 4096 → c.client < 2 ^ 32 → (effect_of helper c bytes).answer ≤ max_answer helper
answer_at_most Get c bytes few client = lookup_small c 32 (map.get c.entries bytes)
answer_at_most Put c bytes few client = small (has_room c.entries (take 16 bytes))
answer_at_most Del c bytes few client = small (map.contains_key c.entries bytes)
answer_at_most Len c bytes few client = few
answer_at_most Next c bytes few client = lookup_small c 16 (next_key c.entries bytes)
answer_at_most Emit c bytes few client = emit_small c bytes
answer_at_most Caller c bytes few client = omega (arith, client)

-- ---- the output

lookup_output : (c : Context) (size : ℕ) (found : Option (List ℕ)) → (lookup_effect c size found).output ≡ c.output
lookup_output c size None = refl
lookup_output c size (Some bytes) = refl

-- it stays within 256 bytes
pub output_short : (helper : Helper) (c : Context) (bytes : List ℕ) → length c.output ≤ 256 → length (effect_of helper c bytes).output ≤ 256
output_short Get c bytes short = subst (λ (xs : List ℕ). length xs ≤ 256) (sym (lookup_output c 32 (map.get c.entries bytes))) short
output_short Next c bytes short = subst (λ (xs : List ℕ). length xs ≤ 256) (sym (lookup_output c 16 (next_key c.entries bytes))) short
output_short Emit c bytes short = cases (leb (length c.output + length bytes) 256) refl where
  cases : (b : Bool) → leb (length c.output + length bytes) 256 ≡ b → length (cond {A = Effect} b (record { answer = 0; written = []; entries = c.entries; output = c.output ++ bytes }) (record { answer = 1; written = []; entries = c.entries; output = c.output })).output ≤ 256
  cases true fits = omega (arith, leb-true _ _ fits, length-append c.output bytes)
  cases false full = short
output_short _ c bytes short = short

-- ---- registers

-- of an access that reads, and one that writes
both_known : (p q : Bool) → (p && (q && true)) ≡ true → ((p && true) ≡ true) × ((q && true) ≡ true)
both_known true true h = (refl, refl)
both_known true false h = absurd cc
both_known false q h = absurd cc

-- the registers by which a helper reads and writes are among its arguments
pub accesses_known : (known : ℕ → Bool) (helper : Helper) → list_all known (arguments_of helper) ≡ true → (list_all (λ (access : Access). known access.register) (reads helper) ≡ true) × (list_all (λ (access : Access). known access.register) (writes helper) ≡ true)
accesses_known known Get h = both_known (known 1) (known 2) h
accesses_known known Put h = (h, refl)
accesses_known known Del h = (h, refl)
accesses_known known Len h = (refl, refl)
accesses_known known Next h = both_known (known 1) (known 2) h
accesses_known known Emit h = ((both_known (known 1) (known 2) h).0, refl)
accesses_known known Caller h = (refl, refl)
