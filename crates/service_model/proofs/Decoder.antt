-- A decoder of states: of the bytes of a bounded and sound state it gives that state.
use Rattle.std.proofs.Common.{◌≡◌, ℕ, zero, suc, ◌^◌, ◌<◌, Bool, true, false, cond, ◌||◌, eqb, List, [], ◌∷◌, ◌++◌, length, map, take, drop, filter, Option, Some, None, refl, sym, ap, ◌∙◌, append_assoc, arith}
use Rattle.std.specs.Prelude.{flat_map, All, IfSome}
use Rattle.std.specs.List.{filter_map, cons_option}
use Rattle.std.specs.Int.{w32, w64, from_be_bytes}
use Rattle.std.specs.Ordering.{nat_cmp, eq_by_cmp}
use Rattle.std.specs.Cmp.{nat_cmp_total, unsigned_tied, nat_eq_equiv}
use Rattle.std.specs.Cmp.Lexicographic.{slice_cmp}
use Rattle.std.specs.FinMap as finite
use Rattle.std.proofs.lemmas.Bool.{eqb-true}
use Rattle.std.proofs.lemmas.Nat.{from_be_bytes-to_be_bytes_4, from_be_bytes-to_be_bytes_8}
use Rattle.std.proofs.lemmas.List.Elements.{All-head, All-tail}
use Rattle.host_types.specs.declared.ClientId.{ClientId}
use Rattle.host_types.specs.declared.config.ClientEntry.{ClientEntry}
use Rattle.host_types.specs.declared.request.Reply.{Reply}
use Rattle.host_types.specs.Configuration.{entry_of}
use Rattle.tenant_maps.specs.Entries.{Entries}
use Rattle.bpf_model.specs.declared.profile.Profile.{Profile}
use Rattle.bpf_model.specs.declared.profile.Profile.TheVariants.{One, Two}
use Rattle.service_model.specs.declared.version.Version.{Version}
use Rattle.service_model.specs.declared.version.Version.TheVariants.{First, Second}
use Rattle.service_model.specs.Words.{u32_bytes, u64_bytes}
use Rattle.service_model.specs.Versions.{encoded_profile, IsTold}
use Rattle.service_model.specs.TenantStates.{Procedure, TenantState, replies_of}
use Rattle.service_model.specs.Encoding.{encoded_reply, encoded_tenant, encoded_procedure, encoded_procedures, encoded_entries, length_prefixed}
use Rattle.service_model.specs.Bounded.{IsSizedMap, IsBoundedTenant}
use Rattle.service_model.specs.Decoding.{IsToldIn}
use Rattle.service_model.proofs.Bounds.{four_short}
use Rattle.service_model.proofs.Clients.{OwnReplies, has}
use Rattle.service_model.proofs.Injective.{entry_lengths, procedures_fit}
use Rattle.service_model.proofs.PrefixFree.{FieldsInRange, FitsIn}

-- ---- readers of values from the front of bytes

take_front : (xs ys : List ℕ) (n : ℕ) → length xs ≡ n → take n (xs ++ ys) ≡ xs
take_front [] ys zero e = refl
take_front [] ys (suc n) e = absurd (omega (arith, e))
take_front (x ∷ xs) ys zero e = absurd (omega (arith, e))
take_front (x ∷ xs) ys (suc n) e = ap (λ (zs : List ℕ). x ∷ zs) (take_front xs ys n (omega (arith, e)))

pub drop_front : (xs ys : List ℕ) (n : ℕ) → length xs ≡ n → drop n (xs ++ ys) ≡ ys
drop_front [] ys zero e = refl
drop_front [] ys (suc n) e = absurd (omega (arith, e))
drop_front (x ∷ xs) ys zero e = absurd (omega (arith, e))
drop_front (x ∷ xs) ys (suc n) e = drop_front xs ys n (omega (arith, e))

abbrev pub Reader : Type 0 → Type 0
Reader A = List ℕ → A × List ℕ

-- What the reader gives of an encoded value, whatever follows, is what is seen of the value.
abbrev Reads : {A B : Type 0} → (A → List ℕ) → (A → Type 0) → (A → B) → Reader B → Type 0
Reads {A} s F view g = (x : A) (r : List ℕ) → F x → g (s x ++ r) ≡ (view x, r)

bytes_of : ℕ → Reader (List ℕ)
bytes_of n bytes = (take n bytes, drop n bytes)

reads_bytes : (n : ℕ) → Reads (λ (bytes : List ℕ). bytes) (λ bytes. length bytes ≡ n) (λ bytes. bytes) (bytes_of n)
unfolding bytes_of
reads_bytes n x r e = λ i. (take_front x r n e i, drop_front x r n e i)

four : Reader ℕ
four bytes = (from_be_bytes w32 (take 4 bytes), drop 4 bytes)

reads_four : Reads u32_bytes (λ n. n < 2 ^ 32) (λ n. n) four
unfolding four u32_bytes
reads_four n r below =
    λ i. ((ap (from_be_bytes w32) (take_front (u32_bytes n) r 4 refl) ∙ from_be_bytes-to_be_bytes_4 n below) i, drop_front (u32_bytes n) r 4 refl i)

pub eight : Reader ℕ
eight bytes = (from_be_bytes w64 (take 8 bytes), drop 8 bytes)

pub reads_eight : Reads u64_bytes (λ n. n < 2 ^ 64) (λ n. n) eight
unfolding eight u64_bytes
reads_eight n r below =
    λ i. ((ap (from_be_bytes w64) (take_front (u64_bytes n) r 8 refl) ∙ from_be_bytes-to_be_bytes_8 n below) i, drop_front (u64_bytes n) r 8 refl i)

prefixed : Reader (List ℕ)
prefixed bytes = let n = four bytes in bytes_of n.0 n.1

reads_prefixed : Reads length_prefixed (λ bytes. length bytes < 2 ^ 32) (λ bytes. bytes) prefixed
unfolding prefixed
reads_prefixed x r below =
    let first = ap four (append_assoc (u32_bytes (length x)) x r) ∙ reads_four (length x) (x ++ r) below in
    ap (λ (n : ℕ × List ℕ). bytes_of n.0 n.1) first ∙ reads_bytes (length x) x r refl

-- so many values
items : {A : Type 0} → Reader A → ℕ → Reader (List A)
items g zero bytes = ([], bytes)
items g (suc n) bytes = let x = g bytes in let xs = items g n x.1 in (x.0 ∷ xs.0, xs.1)

reads_items : {A B : Type 0} (s : A → List ℕ) (F : A → Type 0) (view : A → B) (g : Reader B) → Reads s F view g → (xs : List A) (r : List ℕ) → All F xs
    → items g (length xs) (flat_map s xs ++ r) ≡ (map view xs, r)
unfolding items
reads_items s F view g reads [] r all = refl
reads_items s F view g reads (x ∷ xs) r all =
    let first = ap g (append_assoc (s x) (flat_map s xs) r) ∙ reads x (flat_map s xs ++ r) (All-head F x xs all) in
    let rest = reads_items s F view g reads xs r (All-tail F x xs all) in
    ap (λ (y : _ × List ℕ). (y.0 ∷ (items g (length xs) y.1).0, (items g (length xs) y.1).1)) first
    ∙ ap (λ (ys : List _ × List ℕ). (view x ∷ ys.0, ys.1)) rest

-- values after their count
pub counted : {A : Type 0} → Reader A → Reader (List A)
counted g bytes = let n = four bytes in items g n.0 n.1

pub reads_counted : {A B : Type 0} (s : A → List ℕ) (F : A → Type 0) (view : A → B) (g : Reader B) → Reads s F view g → (xs : List A) (r : List ℕ) → length xs < 2 ^ 32 → All F xs
    → counted g ((u32_bytes (length xs) ++ flat_map s xs) ++ r) ≡ (map view xs, r)
unfolding counted
reads_counted s F view g reads xs r few all =
    let first = ap four (append_assoc (u32_bytes (length xs)) (flat_map s xs) r) ∙ reads_four (length xs) (flat_map s xs ++ r) few in
    ap (λ (n : ℕ × List ℕ). items g n.0 n.1) first ∙ reads_items s F view g reads xs r all

pub same_list : {A : Type 0} (xs : List A) → map (λ x. x) xs ≡ xs
same_list [] = refl
same_list (x ∷ xs) = ap (λ (ys : List _). x ∷ ys) (same_list xs)

-- ---- replies

pub reply : Reader Reply
reply bytes =
    let client = four bytes in
    let time = eight client.1 in
    let number = eight time.1 in
    let result = prefixed number.1 in
    (record { client = record { 0 = client.0 }; time = time.0; number = record { 0 = number.0 }; result = result.0 }, result.1)

regrouped : (a b c d r : List ℕ) → (((a ++ b) ++ c) ++ d) ++ r ≡ a ++ (b ++ (c ++ (d ++ r)))
regrouped a b c d r = simp append_assoc

pub reads_reply : Reads encoded_reply FieldsInRange (λ x. x) reply
unfolding reply
reads_reply x r fits =
    let behind = length_prefixed x.result ++ r in
    let client = ap four (regrouped (u32_bytes x.client.0) (u64_bytes x.time) (u64_bytes x.number.0) (length_prefixed x.result) r) ∙ reads_four x.client.0 _ fits.client in
    let time = reads_eight x.time (u64_bytes x.number.0 ++ behind) fits.time in
    let number = reads_eight x.number.0 behind fits.number in
    let result = reads_prefixed x.result r fits.result in
    ap with_client client ∙ ap (with_time x.client.0) time ∙ ap (with_number x.client.0 x.time) number ∙ ap (with_result x.client.0 x.time x.number.0) result where
      with_result : ℕ → ℕ → ℕ → List ℕ × List ℕ → Reply × List ℕ
      with_result c t n result = (record { client = record { 0 = c }; time = t; number = record { 0 = n }; result = result.0 }, result.1)

      with_number : ℕ → ℕ → ℕ × List ℕ → Reply × List ℕ
      with_number c t n = with_result c t n.0 (prefixed n.1)

      with_time : ℕ → ℕ × List ℕ → Reply × List ℕ
      with_time c t = with_number c t.0 (eight t.1)

      with_client : ℕ × List ℕ → Reply × List ℕ
      with_client c = with_time c.0 (eight c.1)

-- ---- a tenant's procedures and entries

profile : Version → Reader Profile
profile First bytes = (One, bytes)
profile Second [] = (One, [])
profile Second (number ∷ bytes) = (cond (eqb number 1) One Two, bytes)

reads_profile : (version : Version) → Reads (encoded_profile version) (IsTold version) (λ p. p) (profile version)
unfolding profile
reads_profile First p r told = λ i. (sym told i, r)
reads_profile Second One r told = refl
reads_profile Second Two r told = refl

procedure : Version → Reader Procedure
procedure version bytes =
    let p = profile version bytes in
    let code = prefixed p.1 in
    (record { profile = p.0; code = code.0 }, code.1)

reads_procedure : (version : Version) → Reads (encoded_procedure version) (FitsIn version) (λ p. p) (procedure version)
unfolding procedure
reads_procedure version x r fits =
    let first = ap (profile version) (append_assoc (encoded_profile version x.profile) (length_prefixed x.code) r) ∙ reads_profile version x.profile (length_prefixed x.code ++ r) fits.1 in
    let code = reads_prefixed x.code r fits.0 in
    ap with_profile first ∙ ap (with_code x.profile) code where
      with_code : Profile → List ℕ × List ℕ → Procedure × List ℕ
      with_code p code = (record { profile = p; code = code.0 }, code.1)

      with_profile : Profile × List ℕ → Procedure × List ℕ
      with_profile p = with_code p.0 (prefixed p.1)

abbrev Entry : Type 0
Entry = List ℕ × List ℕ

entry : Reader Entry
entry bytes = let key = bytes_of 16 bytes in let value = bytes_of 32 key.1 in ((key.0, value.0), value.1)

reads_entry : Reads (λ (e : Entry). e.0 ++ e.1) (λ e. (length e.0 ≡ 16) × (length e.1 ≡ 32)) (λ e. e) entry
unfolding entry
reads_entry e r fits =
    let key = ap (bytes_of 16) (append_assoc e.0 e.1 r) ∙ reads_bytes 16 e.0 (e.1 ++ r) fits.0 in
    let value = reads_bytes 32 e.1 r fits.1 in
    ap with_key key ∙ ap (with_value e.0) value where
      with_value : List ℕ → List ℕ × List ℕ → Entry × List ℕ
      with_value k v = ((k, v.0), v.1)

      with_key : List ℕ × List ℕ → Entry × List ℕ
      with_key k = with_value k.0 (bytes_of 32 k.1)

abbrev map_of : List Entry → Entries
map_of es = finite.from_sorted es

map_of_entries : (m : Entries) → map_of (finite.entries m) ≡ m
map_of_entries m = finite.same_entries_map (map_of (finite.entries m)) m (finite.entries-from_sorted (slice_cmp nat_cmp) (finite.entries m) (finite.entries_sorted m))

entries : Reader Entries
entries bytes = let es = counted entry bytes in (map_of es.0, es.1)

reads_entries : Reads encoded_entries IsSizedMap (λ m. m) entries
unfolding entries
reads_entries m r fits =
    let es = finite.entries m in
    let few : length es < 2 ^ 32 = omega (arith, finite.len-entries m, fits.count) in
    let start : encoded_entries m ++ r ≡ (u32_bytes (length es) ++ flat_map (λ (e : Entry). e.0 ++ e.1) es) ++ r
    = ap (λ (n : ℕ). (u32_bytes n ++ flat_map (λ (e : Entry). e.0 ++ e.1) es) ++ r) (finite.len-entries m) in
    let read = ap (counted entry) start ∙ reads_counted (λ (e : Entry). e.0 ++ e.1) (λ e. (length e.0 ≡ 16) × (length e.1 ≡ 32)) (λ e. e) entry reads_entry es r few (entry_lengths es fits.keys fits.values) in
    ap (λ (x : List Entry × List ℕ). (map_of x.0, x.1)) read ∙ (λ i. ((ap map_of (same_list es) ∙ map_of_entries m) i, r))

-- A part without its last replies.
abbrev pub stripped : TenantState → TenantState
stripped x = record { tenant = x.tenant; procedures = x.procedures; entries = x.entries; last_replies = finite.empty }

-- The part of this tenant: its id is passed over.
part : Version → ℕ → Reader TenantState
part version tenant bytes =
    let procedures = counted (procedure version) (drop 4 bytes) in
    let map = entries procedures.1 in
    (record { tenant = tenant; procedures = procedures.0; entries = map.0; last_replies = finite.empty }, map.1)

regrouped_part : (a b c r : List ℕ) → ((a ++ b) ++ c) ++ r ≡ a ++ (b ++ (c ++ r))
regrouped_part a b c r = simp append_assoc

reads_part : (version : Version) (number : ℕ) (x : TenantState) (r : List ℕ) → IsBoundedTenant number x → IsToldIn version x → part version x.tenant (encoded_tenant version x ++ r) ≡ (stripped x, r)
unfolding part
reads_part version number x r fits told =
    let id = ap (drop 4) (regrouped_part (u32_bytes x.tenant) (encoded_procedures version x.procedures) (encoded_entries x.entries) r) ∙ drop_front (u32_bytes x.tenant) _ 4 (four_short x.tenant) in
    let few : length x.procedures < 2 ^ 32 = omega (arith, fits.procedures_in_range) in
    let procedures = reads_counted (encoded_procedure version) (FitsIn version) (λ p. p) (procedure version) (reads_procedure version) x.procedures (encoded_entries x.entries ++ r) few (procedures_fit version x.procedures fits.codes_in_range told) in
    let map_is = reads_entries x.entries r fits.entries_in_range in
    ap (λ (bytes : List ℕ). with_procedures (counted (procedure version) bytes)) id ∙ ap with_procedures procedures
    ∙ ap (λ (ps : List Procedure). with_map ps (entries (encoded_entries x.entries ++ r))) (same_list x.procedures)
    ∙ ap (with_map x.procedures) map_is where
      with_map : List Procedure → Entries × List ℕ → TenantState × List ℕ
      with_map ps m = (record { tenant = x.tenant; procedures = ps; entries = m.0; last_replies = finite.empty }, m.1)

      with_procedures : List Procedure × List ℕ → TenantState × List ℕ
      with_procedures ps = with_map ps.0 (entries ps.1)

-- the parts of these tenants
pub parts : Version → List ℕ → Reader (List TenantState)
parts version [] bytes = ([], bytes)
parts version (tenant ∷ tenants) bytes = let x = part version tenant bytes in let xs = parts version tenants x.1 in (x.0 ∷ xs.0, xs.1)

pub reads_parts : (version : Version) (number : ℕ) (xs : List TenantState) (r : List ℕ) → All (IsBoundedTenant number) xs → All (IsToldIn version) xs
    → parts version (map (λ x. x.tenant) xs) (flat_map (encoded_tenant version) xs ++ r) ≡ (map stripped xs, r)
unfolding parts
reads_parts version number [] r all told = refl
reads_parts version number (x ∷ xs) r all told =
    let first = ap (part version x.tenant) (append_assoc (encoded_tenant version x) (flat_map (encoded_tenant version) xs) r)
    ∙ reads_part version number x (flat_map (encoded_tenant version) xs ++ r) (All-head (IsBoundedTenant number) x xs all) (All-head (IsToldIn version) x xs told) in
    let rest = reads_parts version number xs r (All-tail (IsBoundedTenant number) x xs all) (All-tail (IsToldIn version) x xs told) in
    ap (λ (y : TenantState × List ℕ). (y.0 ∷ (parts version (map (λ x. x.tenant) xs) y.1).0, (parts version (map (λ x. x.tenant) xs) y.1).1)) first
    ∙ ap (λ (ys : List TenantState × List ℕ). (stripped x ∷ ys.0, ys.1)) rest

-- ---- last replies go to the parts of their clients' tenants

abbrev pub belongs_to : ℕ → Option ClientEntry → Bool
belongs_to tenant None = false
belongs_to tenant (Some entry) = eqb entry.tenant.0 tenant

abbrev pub belongs : List ClientEntry → ℕ → ℕ → Bool
belongs clients tenant client = belongs_to tenant (entry_of clients client)

abbrev pub own_replies : List ClientEntry → ℕ → List Reply → List Reply
own_replies clients tenant replies = filter (λ reply. belongs clients tenant reply.client.0) replies

abbrev pub with_replies : List ClientEntry → List Reply → TenantState → TenantState
with_replies clients replies x = record x { last_replies = replies_of (own_replies clients x.tenant replies) }

turned : (q k : ℕ) → eq_by_cmp nat_cmp q k ≡ eqb k q
turned q k = unsigned_tied q k ∙ nat_eq_equiv.symm q k

-- what the replies of a list answer for a client
pub get_more : (reply : Reply) (replies : List Reply) (q : ℕ) → finite.get (replies_of (reply ∷ replies)) q ≡ cond (eqb reply.client.0 q) (Some reply) (finite.get (replies_of replies) q)
get_more reply replies q =
    finite.get-insert nat_cmp_total (replies_of replies) reply.client.0 reply q
    ∙ ap (λ (b : Bool). cond b (Some reply) (finite.get (replies_of replies) q)) (turned q reply.client.0)

pub get_filtered : (p : ℕ → Bool) (replies : List Reply) (q : ℕ) → finite.get (replies_of (filter (λ reply. p reply.client.0) replies)) q ≡ cond (p q) (finite.get (replies_of replies) q) None
get_filtered p [] q = cases (p q) where
  cases : (b : Bool) → finite.get (replies_of []) q ≡ cond b (finite.get (replies_of []) q) None
  cases true = refl
  cases false = finite.get-empty nat_cmp q
get_filtered p (reply ∷ replies) q = cases (p reply.client.0) (eqb reply.client.0 q) refl refl (get_filtered p replies q) ∙ ap (λ (o : Option Reply). cond (p q) o None) (sym (get_more reply replies q)) where
  rest : List Reply
  rest = filter (λ r. p r.client.0) replies

  same : eqb reply.client.0 q ≡ true → p reply.client.0 ≡ p q
  same e = ap p (eqb-true reply.client.0 q e)

  cases : (b c : Bool) → p reply.client.0 ≡ b → eqb reply.client.0 q ≡ c → finite.get (replies_of rest) q ≡ cond (p q) (finite.get (replies_of replies) q) None
      → finite.get (replies_of (cond b (reply ∷ rest) rest)) q ≡ cond (p q) (cond (eqb reply.client.0 q) (Some reply) (finite.get (replies_of replies) q)) None
  cases true true kept is more =
      get_more reply rest q ∙ ap (λ (c : Bool). cond c (Some reply) (finite.get (replies_of rest) q)) is
      ∙ sym (ap (λ (b : Bool). cond b (cond (eqb reply.client.0 q) (Some reply) (finite.get (replies_of replies) q)) None) (sym (same is) ∙ kept)
      ∙ ap (λ (c : Bool). cond c (Some reply) (finite.get (replies_of replies) q)) is)
  cases true false kept is more =
      get_more reply rest q ∙ ap (λ (c : Bool). cond c (Some reply) (finite.get (replies_of rest) q)) is ∙ more
      ∙ ap (λ (c : Bool). cond (p q) (cond c (Some reply) (finite.get (replies_of replies) q)) None) (sym is)
  cases false true dropped is more =
      more ∙ ap (λ (b : Bool). cond b (finite.get (replies_of replies) q) None) (sym (same is) ∙ dropped)
      ∙ sym (ap (λ (b : Bool). cond b (cond (eqb reply.client.0 q) (Some reply) (finite.get (replies_of replies) q)) None) (sym (same is) ∙ dropped))
  cases false false dropped is more = more ∙ ap (λ (c : Bool). cond (p q) (cond c (Some reply) (finite.get (replies_of replies) q)) None) (sym is)

pub get_found : (f : ℕ → Option Reply) → OwnReplies f → (ids : List ClientId) (q : ℕ) → finite.get (replies_of (filter_map (λ id. f id.0) ids)) q ≡ cond (has q ids) (f q) None
get_found f own [] q = finite.get-empty nat_cmp q
get_found f own (id ∷ ids) q = cases (f id.0) (eqb id.0 q) refl refl (own id.0) (get_found f own ids q) where
  found : List Reply
  found = filter_map (λ id. f id.0) ids

  both : (b : Bool) → f q ≡ None → cond b (f q) None ≡ f q
  both true none = refl
  both false none = sym none

  cases : (o : Option Reply) (b : Bool) → f id.0 ≡ o → eqb id.0 q ≡ b → IfSome o (λ reply. reply.client.0 ≡ id.0) → finite.get (replies_of found) q ≡ cond (has q ids) (f q) None
      → finite.get (replies_of (cons_option o found)) q ≡ cond (eqb id.0 q || has q ids) (f q) None
  cases None true none is mine rest =
      rest ∙ both (has q ids) (ap f (sym (eqb-true id.0 q is)) ∙ none) ∙ sym (ap (λ (b : Bool). cond (b || has q ids) (f q) None) is)
  cases None false none is mine rest = rest ∙ ap (λ (b : Bool). cond (b || has q ids) (f q) None) (sym is)
  cases (Some reply) true some is mine rest =
      get_more reply found q ∙ ap (λ (k : ℕ). cond (eqb k q) (Some reply) (finite.get (replies_of found) q)) mine ∙ ap (λ (b : Bool). cond b (Some reply) (finite.get (replies_of found) q)) is
      ∙ sym some ∙ ap f (eqb-true id.0 q is) ∙ sym (ap (λ (b : Bool). cond (b || has q ids) (f q) None) is)
  cases (Some reply) false some is mine rest =
      get_more reply found q ∙ ap (λ (k : ℕ). cond (eqb k q) (Some reply) (finite.get (replies_of found) q)) mine ∙ ap (λ (b : Bool). cond b (Some reply) (finite.get (replies_of found) q)) is
      ∙ rest ∙ ap (λ (b : Bool). cond (b || has q ids) (f q) None) (sym is)
