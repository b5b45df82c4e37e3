-- A bounded, sound state is determined by its bytes.
use Rattle.std.proofs.Common.{◌≡◌, ℕ, suc, ◌+◌, ◌^◌, ◌<◌, ◌≤◌, Bool, true, false, eqb, List, [], ◌∷◌, ◌++◌, length, map, Option, Some, None, refl, sym, ap, subst, ◌∙◌, append_assoc, arith}
use Rattle.std.specs.Prelude.{flat_map, find, fold, cond, nat_lt, option_and_then, All, IsSome, IsSomeAnd}
use Rattle.std.specs.Prelude.{IfSome}
use Rattle.std.specs.Cmp.{nat_cmp_total}
use Rattle.std.specs.Cmp.Lexicographic.{nat_list_cmp_total}
use Rattle.std.specs.List.{filter_map, cons_option}
use Rattle.std.specs.FinMap as finite
use Rattle.std.proofs.lemmas.Bool.{eq-eqb, ne_eqb}
use Rattle.std.proofs.lemmas.List.{length-map}
use Rattle.std.proofs.lemmas.List.Elements.{All-head, All-tail, All-cons, All-nil}
use Rattle.host_types.specs.declared.TenantId.{TenantId}
use Rattle.host_types.specs.declared.ClientId.{ClientId}
use Rattle.host_types.specs.declared.config.ClientEntry.{ClientEntry}
use Rattle.host_types.specs.declared.request.Reply.{Reply}
use Rattle.host_types.specs.Configuration.{Configuration, insert_sorted, client_ids_of, tenants_of, entry_of, IsAscending}
use Rattle.host_types.proofs.AscendingLemmas.{tenants_ascending}
use Rattle.tenant_maps.specs.Entries.{Entries}
use Rattle.tenant_maps.proofs.EntriesLemmas.{order, order_tells}
use Rattle.service_model.specs.declared.version.Version.{Version}
use Rattle.service_model.specs.declared.version.Version.TheVariants.{First, Second}
use Rattle.service_model.specs.Words.{u32_bytes, u64_bytes}
use Rattle.service_model.specs.Versions.{version_number, IsTold}
use Rattle.service_model.specs.TenantStates.{Procedure, Replies, TenantState, Service, tenant_at, last_reply_of}
use Rattle.service_model.specs.Encoding.{encoded, encoded_in, encoded_reply, encoded_replies, encoded_tenant, encoded_procedure, encoded_procedures, encoded_entries, last_replies_of}
use Rattle.service_model.specs.Sound.{IsSoundTenant, IsSound}
use Rattle.service_model.specs.Bounded.{IsSizedMap, IsBoundedReply, IsBoundedTenant, IsBounded}
use Rattle.service_model.specs.Decoding.{IsToldIn, EncodesIn, Decodes}
use Rattle.service_model.proofs.PrefixFree.{FieldsInRange, FitsIn, same_length, free_bytes, free_eight, free_procedure, free_list, free_reply}
use Rattle.service_model.proofs.Clients.{Each, Ascends, OwnReplies, listed, client_ids_ascend, same_found}

-- ---- a tenant's procedures and entries

pub free_entry : (x y : List ℕ × List ℕ) (r t : List ℕ) → (length x.0 ≡ 16) × (length x.1 ≡ 32) → (length y.0 ≡ 16) × (length y.1 ≡ 32)
    → (x.0 ++ x.1) ++ r ≡ (y.0 ++ y.1) ++ t → (x ≡ y) × (r ≡ t)
free_entry x y r t p q h =
    let key = free_bytes 16 x.0 y.0 (x.1 ++ r) (y.1 ++ t) p.0 q.0 (sym (append_assoc x.0 x.1 r) ∙ h ∙ append_assoc y.0 y.1 t) in
    let value = free_bytes 32 x.1 y.1 r t p.1 q.1 key.1 in
    (λ i. (key.0 i, value.0 i), value.1)

pub entry_lengths : (es : List (List ℕ × List ℕ)) → All (λ key. length key ≡ 16) (map (λ e. e.0) es) → All (λ value. length value ≡ 32) (map (λ e. e.1) es) → All (λ e. (length e.0 ≡ 16) × (length e.1 ≡ 32)) es
entry_lengths [] k v = All-nil (λ (e : List ℕ × List ℕ). (length e.0 ≡ 16) × (length e.1 ≡ 32))
entry_lengths (e ∷ es) k v =
    All-cons (λ (x : List ℕ × List ℕ). (length x.0 ≡ 16) × (length x.1 ≡ 32)) e es
    (All-head (λ (key : List ℕ). length key ≡ 16) e.0 (map (λ x. x.0) es) k, All-head (λ (value : List ℕ). length value ≡ 32) e.1 (map (λ x. x.1) es) v)
    (entry_lengths es (All-tail (λ (key : List ℕ). length key ≡ 16) e.0 (map (λ x. x.0) es) k) (All-tail (λ (value : List ℕ). length value ≡ 32) e.1 (map (λ x. x.1) es) v))

-- two maps with the same entries are the same
same_entries : (a b : Entries) → finite.entries a ≡ finite.entries b → a ≡ b
same_entries a b e =
    finite.same_map nat_list_cmp_total order_tells a b (λ q. finite.get-entries a q ∙ ap (λ es. finite.find order q es) e ∙ sym (finite.get-entries b q))

small : (n m : ℕ) → n ≤ m → m < 2 ^ 32 → n < 2 ^ 32
small n m le lt = omega (arith, le, lt)

-- procedures of at most 1,024 slots, whose profiles the version tells
abbrev pub AreShort : List Procedure → Type 0
AreShort procedures = All (λ procedure. length procedure.code ≤ 8192) procedures

abbrev pub AreTold : Version → List Procedure → Type 0
AreTold version procedures = All (λ procedure. IsTold version procedure.profile) procedures

pub procedures_fit : (version : Version) (procedures : List Procedure) → AreShort procedures → AreTold version procedures → All (FitsIn version) procedures
procedures_fit version procedures all told = λ k d h. (small _ 8192 (all k d h) (omega arith), told k d h)

pub procedures_free : (version : Version) (xs ys : List Procedure) (r t : List ℕ) → length xs ≤ 64 → length ys ≤ 64 → AreShort xs → AreShort ys → AreTold version xs → AreTold version ys
    → encoded_procedures version xs ++ r ≡ encoded_procedures version ys ++ t → (xs ≡ ys) × (r ≡ t)
procedures_free version xs ys r t fx fy cx cy tx ty h =
    free_list (encoded_procedure version) (FitsIn version) (free_procedure version) xs ys r t (small _ 64 fx (omega arith), procedures_fit version xs cx tx) (small _ 64 fy (omega arith), procedures_fit version ys cy ty) h

pub entries_free : (a b : Entries) (r t : List ℕ) → IsSizedMap a → IsSizedMap b → encoded_entries a ++ r ≡ encoded_entries b ++ t → (a ≡ b) × (r ≡ t)
entries_free a b r t fa fb h =
    let count : (m : Entries) → u32_bytes (finite.len m) ≡ u32_bytes (length (finite.entries m)) = λ m. ap u32_bytes (finite.len-entries m) in
    let spread : (m : Entries) → List ℕ = λ m. flat_map (λ entry. entry.0 ++ entry.1) (finite.entries m) in
    let few : (m : Entries) → IsSizedMap m → length (finite.entries m) < 2 ^ 32 = λ m is. omega (arith, finite.len-entries m, is.count) in
    let both = free_list (λ (entry : List ℕ × List ℕ). entry.0 ++ entry.1) (λ e. (length e.0 ≡ 16) × (length e.1 ≡ 32)) free_entry (finite.entries a) (finite.entries b) r t
    (few a fa, entry_lengths (finite.entries a) fa.keys fa.values) (few b fb, entry_lengths (finite.entries b) fb.keys fb.values)
    (ap (λ (c : List ℕ). (c ++ spread a) ++ r) (sym (count a)) ∙ h ∙ ap (λ (c : List ℕ). (c ++ spread b) ++ t) (count b)) in
    (same_entries a b both.0, both.1)

-- ---- the tenants, but for their clients' replies

abbrev pub SameTenants : List TenantState → List TenantState → Type 0
SameTenants [] [] = Unit {0}
SameTenants [] (y ∷ ys) = ⊥
SameTenants (x ∷ xs) [] = ⊥
SameTenants (x ∷ xs) (y ∷ ys) = (x.tenant ≡ y.tenant) × (x.procedures ≡ y.procedures) × (x.entries ≡ y.entries) × SameTenants xs ys

regrouped : (a b c r : List ℕ) → ((a ++ b) ++ c) ++ r ≡ a ++ (b ++ (c ++ r))
regrouped a b c r = simp append_assoc

pub four_long : (n m : ℕ) → length (u32_bytes n) ≡ length (u32_bytes m)
unfolding u32_bytes
four_long n m = refl

tenant_free : (version : Version) (n m : ℕ) (x y : TenantState) (r t : List ℕ) → x.tenant ≡ y.tenant → IsBoundedTenant n x → IsBoundedTenant m y → IsToldIn version x → IsToldIn version y → encoded_tenant version x ++ r ≡ encoded_tenant version y ++ t
    → (x.procedures ≡ y.procedures) × (x.entries ≡ y.entries) × (r ≡ t)
tenant_free version n m x y r t same fx fy tx ty h =
    let id = same_length (u32_bytes x.tenant) (u32_bytes y.tenant) (encoded_procedures version x.procedures ++ (encoded_entries x.entries ++ r)) (encoded_procedures version y.procedures ++ (encoded_entries y.entries ++ t)) (four_long x.tenant y.tenant)
    (sym (regrouped (u32_bytes x.tenant) (encoded_procedures version x.procedures) (encoded_entries x.entries) r) ∙ h ∙ regrouped (u32_bytes y.tenant) (encoded_procedures version y.procedures) (encoded_entries y.entries) t) in
    let procedures = procedures_free version x.procedures y.procedures (encoded_entries x.entries ++ r) (encoded_entries y.entries ++ t) fx.procedures_in_range fy.procedures_in_range fx.codes_in_range fy.codes_in_range tx ty id.1 in
    let entries = entries_free x.entries y.entries r t fx.entries_in_range fy.entries_in_range procedures.1 in
    (procedures.0, entries.0, entries.1)

tenants_free : (version : Version) (n m : ℕ) (xs ys : List TenantState) → map (λ x. x.tenant) xs ≡ map (λ y. y.tenant) ys → All (IsBoundedTenant n) xs → All (IsBoundedTenant m) ys
    → All (IsToldIn version) xs → All (IsToldIn version) ys → flat_map (encoded_tenant version) xs ≡ flat_map (encoded_tenant version) ys → SameTenants xs ys
tenants_free version n m [] [] same fx fy tx ty h = tt
tenants_free version n m [] (y ∷ ys) same fx fy tx ty h = absurd (cc)
tenants_free version n m (x ∷ xs) [] same fx fy tx ty h = absurd (cc)
tenants_free version n m (x ∷ xs) (y ∷ ys) same fx fy tx ty h =
    let one : x.tenant ≡ y.tenant = cc in
    let others : map (λ z. z.tenant) xs ≡ map (λ z. z.tenant) ys = cc in
    let first = tenant_free version n m x y (flat_map (encoded_tenant version) xs) (flat_map (encoded_tenant version) ys) one (All-head (IsBoundedTenant n) x xs fx) (All-head (IsBoundedTenant m) y ys fy)
    (All-head (IsToldIn version) x xs tx) (All-head (IsToldIn version) y ys ty) h in
    (one, first.0, first.1, tenants_free version n m xs ys others (All-tail (IsBoundedTenant n) x xs fx) (All-tail (IsBoundedTenant m) y ys fy) (All-tail (IsToldIn version) x xs tx) (All-tail (IsToldIn version) y ys ty) first.2)

-- ---- each tenant is found by its id

abbrev id_of : TenantState → ℕ
id_of x = x.tenant

each_after : (n : ℕ) (us : List TenantId) (xs : List TenantState) → All (λ v. n < v.0) us → map (λ x. x.tenant) xs ≡ map (λ u. u.0) us → Each (λ x. n < x.tenant) xs
each_after n [] [] all e = tt
each_after n [] (x ∷ xs) all e = absurd (cc)
each_after n (u ∷ us) [] all e = absurd (cc)
each_after n (u ∷ us) (x ∷ xs) all e =
    let one : x.tenant ≡ u.0 = cc in
    let rest : map (λ z. z.tenant) xs ≡ map (λ v. v.0) us = cc in
    (subst (λ (k : ℕ). n < k) (sym one) (all 0 u (omega arith)), each_after n us xs (λ k d h. all (suc k) d (omega (arith, h))) rest)

pub ascends_like : (us : List TenantId) (xs : List TenantState) → IsAscending us → map (λ x. x.tenant) xs ≡ map (λ u. u.0) us → Ascends id_of xs
ascends_like [] [] up e = tt
ascends_like [] (x ∷ xs) up e = absurd (cc)
ascends_like (u ∷ us) [] up e = absurd (cc)
ascends_like (u ∷ us) (x ∷ xs) up e =
    let one : x.tenant ≡ u.0 = cc in
    let rest : map (λ z. z.tenant) xs ≡ map (λ v. v.0) us = cc in
    let after : All (λ (v : TenantId). u.0 < v.0) us = λ k d h. up 0 (suc k) d (omega arith) (omega (arith, h)) in (
      each_after x.tenant us xs (subst (λ (k : ℕ). All (λ (v : TenantId). k < v.0) us) (sym one) after) rest,
      ascends_like us xs (λ i j d lt h. up (suc i) (suc j) d (omega (arith, lt)) (omega (arith, h))) rest,
    )

Found : List TenantState → TenantState → Type 0
Found all x = tenant_at all x.tenant ≡ Some x

found_more : (y : TenantState) (all xs : List TenantState) → Each (λ x. y.tenant < x.tenant) xs → Each (λ x. tenant_at all x.tenant ≡ Some x) xs → Each (λ x. tenant_at (y ∷ all) x.tenant ≡ Some x) xs
found_more y all [] above found = tt
found_more y all (x ∷ xs) above found =
    (ap (λ (b : Bool). cond b (Some y) (tenant_at all x.tenant)) (ne_eqb y.tenant x.tenant (λ e. omega (arith, above.0, e))) ∙ found.0, found_more y all xs above.1 found.1)

pub found_each : (xs : List TenantState) → Ascends id_of xs → Each (λ x. tenant_at xs x.tenant ≡ Some x) xs
found_each [] up = tt
found_each (x ∷ xs) up =
    (ap (λ (b : Bool). cond b (Some x) (tenant_at xs x.tenant)) (eq-eqb x.tenant x.tenant refl), found_more x xs xs up.0 (found_each xs up.1))

-- ---- last replies

-- a reply that a part has is the last one to its client
part_reply : (clients : List ClientEntry) (all : List TenantState) (x : TenantState) (q : ℕ) (reply : Reply) → tenant_at all x.tenant ≡ Some x → IsSoundTenant clients x
    → finite.get x.last_replies q ≡ Some reply
    → IsSome (entry_of clients q) × (option_and_then (λ part. finite.get part.last_replies q) (option_and_then (λ entry. tenant_at all entry.tenant.0) (entry_of clients q)) ≡ finite.get x.last_replies q)
part_reply clients all x q reply found sound is = cases (entry_of clients q) (sound.own q (subst IsSome (sym is) refl)) where
  cases : (o : Option ClientEntry) → IsSomeAnd o (λ entry. entry.tenant.0 ≡ x.tenant)
      → IsSome o × (option_and_then (λ part. finite.get part.last_replies q) (option_and_then (λ entry. tenant_at all entry.tenant.0) o) ≡ finite.get x.last_replies q)
  cases None h = absurd h
  cases (Some entry) h = (refl, ap (option_and_then (λ (part : TenantState). finite.get part.last_replies q)) (ap (tenant_at all) h ∙ found))

-- the same of the tenant at its index in another state, where the ids are alike
part_of_other : (clients : List ClientEntry) (all : List TenantState) (x y : TenantState) (q : ℕ) (reply : Reply) → x.tenant ≡ y.tenant → tenant_at all y.tenant ≡ Some y → IsSoundTenant clients x
    → finite.get x.last_replies q ≡ Some reply
    → option_and_then (λ part. finite.get part.last_replies q) (option_and_then (λ entry. tenant_at all entry.tenant.0) (entry_of clients q)) ≡ finite.get y.last_replies q
part_of_other clients all x y q reply same found sound is = cases (entry_of clients q) (sound.own q (subst IsSome (sym is) refl)) where
  cases : (o : Option ClientEntry) → IsSomeAnd o (λ entry. entry.tenant.0 ≡ x.tenant)
      → option_and_then (λ part. finite.get part.last_replies q) (option_and_then (λ entry. tenant_at all entry.tenant.0) o) ≡ finite.get y.last_replies q
  cases None h = absurd h
  cases (Some entry) h = ap (option_and_then (λ (part : TenantState). finite.get part.last_replies q)) (ap (tenant_at all) (h ∙ same) ∙ found)

option_cases : {X : Type 0} (a b : Option X) → ((x : X) → a ≡ Some x → a ≡ b) → ((x : X) → b ≡ Some x → a ≡ b) → a ≡ b
option_cases None None left right = refl
option_cases None (Some y) left right = right y refl
option_cases (Some x) b left right = left x refl

pub same_replies : (a b : Replies) → ((q : ℕ) → finite.get a q ≡ finite.get b q) → a ≡ b
same_replies a b e = finite.same_map nat_cmp_total finite.nat_cmp-IsAntisymmetric a b e

-- the tenants of two states whose last replies agree
same_tenants : (clients : List ClientEntry) (all all' xs ys : List TenantState) → SameTenants xs ys
    → Each (λ x. tenant_at all x.tenant ≡ Some x) xs → Each (λ y. tenant_at all' y.tenant ≡ Some y) ys
    → All (IsSoundTenant clients) xs → All (IsSoundTenant clients) ys
    → ((q : ℕ) → IsSome (entry_of clients q)
    → option_and_then (λ part. finite.get part.last_replies q) (option_and_then (λ entry. tenant_at all entry.tenant.0) (entry_of clients q))
    ≡ option_and_then (λ part. finite.get part.last_replies q) (option_and_then (λ entry. tenant_at all' entry.tenant.0) (entry_of clients q)))
    → xs ≡ ys
same_tenants clients all all' [] [] same found found' sound sound' agree = refl
same_tenants clients all all' [] (y ∷ ys) same found found' sound sound' agree = absurd same
same_tenants clients all all' (x ∷ xs) [] same found found' sound sound' agree = absurd same
same_tenants clients all all' (x ∷ xs) (y ∷ ys) same found found' sound sound' agree =
    let rest = same_tenants clients all all' xs ys same.3 found.1 found'.1 (All-tail (IsSoundTenant clients) x xs sound) (All-tail (IsSoundTenant clients) y ys sound') agree in
    λ i. one i ∷ rest i where
      mine : IsSoundTenant clients x
      mine = All-head (IsSoundTenant clients) x xs sound

      other : IsSoundTenant clients y
      other = All-head (IsSoundTenant clients) y ys sound'

      replies : (q : ℕ) → finite.get x.last_replies q ≡ finite.get y.last_replies q
      replies q = option_cases (finite.get x.last_replies q) (finite.get y.last_replies q)
          (λ reply is. let here = part_reply clients all x q reply found.0 mine is in sym here.1 ∙ agree q here.0 ∙ part_of_other clients all' x y q reply same.0 found'.0 mine is)
          (λ reply is. let there = part_reply clients all' y q reply found'.0 other is in sym (part_of_other clients all y x q reply (sym same.0) found.0 other is) ∙ agree q there.0 ∙ there.1)

      kept : x.last_replies ≡ y.last_replies
      kept = same_replies x.last_replies y.last_replies replies

      one : x ≡ y
      one = λ i. record { tenant = same.0 i; procedures = same.1 i; entries = same.2 i; last_replies = kept i }

-- what is found in a list has what all in it have
pub found_has : {X : Type 0} (P : X → Type 0) (p : X → Bool) (xs : List X) → All P xs → IfSome (find p xs) P
found_has P p [] all = tt
found_has {X} P p (x ∷ xs) all = cases (p x) (found_has P p xs (All-tail P x xs all)) where
  cases : (b : Bool) → IfSome (find p xs) P → IfSome (cond b (Some x) (find p xs)) P
  cases true rest = All-head P x xs all
  cases false rest = rest

-- the last reply to a client is bounded
pub last_bounded : (s : Service) → IsBounded s → (q : ℕ) → IfSome (last_reply_of s q) (IsBoundedReply s.number q)
last_bounded s bounded q = entry (entry_of s.config.clients q) where
  part : (o : Option TenantState) → IfSome o (IsBoundedTenant s.number) → IfSome (option_and_then (λ p. finite.get p.last_replies q) o) (IsBoundedReply s.number q)
  part None h = tt
  part (Some p) h = h.replies_in_range q

  entry : (o : Option ClientEntry) → IfSome (option_and_then (λ p. finite.get p.last_replies q) (option_and_then (λ e. tenant_at s.tenants e.tenant.0) o)) (IsBoundedReply s.number q)
  entry None = tt
  entry (Some e) = part (tenant_at s.tenants e.tenant.0) (found_has (IsBoundedTenant s.number) (λ p. eqb p.tenant e.tenant.0) s.tenants bounded.tenants_in_range)

pub own_of : (s : Service) → IsBounded s → OwnReplies (last_reply_of s)
own_of s bounded q = cases (last_reply_of s q) (last_bounded s bounded q) where
  cases : (o : Option Reply) → IfSome o (IsBoundedReply s.number q) → IfSome o (λ reply. reply.client.0 ≡ q)
  cases None h = tt
  cases (Some reply) h = h.own

-- the replies that stand in a state's bytes are in range
pub replies_in_range : (s : Service) → IsBounded s → (ids : List ClientId) → All FieldsInRange (filter_map (λ id. last_reply_of s id.0) ids)
replies_in_range s bounded [] = All-nil FieldsInRange
replies_in_range s bounded (id ∷ ids) = cases (last_reply_of s id.0) (last_bounded s bounded id.0) (replies_in_range s bounded ids) where
  in_range : (reply : Reply) → IsBoundedReply s.number id.0 reply → FieldsInRange reply
  in_range reply h = record {
    client = subst (λ (k : ℕ). k < 2 ^ 32) (sym h.own) h.client_in_range;
    time = h.time_in_range;
    number = omega (arith, h.not_later, bounded.number_in_range);
    result = omega (arith, h.result_in_range);
  }

  cases : (o : Option Reply) → IfSome o (IsBoundedReply s.number id.0) → All FieldsInRange (filter_map (λ i. last_reply_of s i.0) ids) → All FieldsInRange (cons_option o (filter_map (λ i. last_reply_of s i.0) ids))
  cases None h rest = rest
  cases (Some reply) h rest = All-cons FieldsInRange reply _ (in_range reply h) rest

found_at_most : {X Y : Type 0} (f : X → Option Y) (xs : List X) → length (filter_map f xs) ≤ length xs
found_at_most f [] = omega arith
found_at_most {X} {Y} f (x ∷ xs) = cases (f x) (found_at_most f xs) where
  cases : (o : Option Y) → length (filter_map f xs) ≤ length xs → length (cons_option o (filter_map f xs)) ≤ suc (length xs)
  cases None h = omega (arith, h)
  cases (Some y) h = omega (arith, h)

inserted_at_most : (x : ClientId) (ids : List ClientId) → length (insert_sorted (λ (id : ClientId). id.0) x ids) ≤ suc (length ids)
inserted_at_most x [] = omega arith
inserted_at_most x (y ∷ ys) = first (nat_lt x.0 y.0) (inserted_at_most x ys) where
  second : (b : Bool) → length (insert_sorted (λ (id : ClientId). id.0) x ys) ≤ suc (length ys) → length (cond b (y ∷ ys) (y ∷ insert_sorted (λ (id : ClientId). id.0) x ys)) ≤ suc (suc (length ys))
  second true h = omega arith
  second false h = omega (arith, h)

  first : (b : Bool) → length (insert_sorted (λ (id : ClientId). id.0) x ys) ≤ suc (length ys) → length (cond b (x ∷ y ∷ ys) (cond (eqb x.0 y.0) (y ∷ ys) (y ∷ insert_sorted (λ (id : ClientId). id.0) x ys))) ≤ suc (suc (length ys))
  first true h = omega arith
  first false h = second (eqb x.0 y.0) h

ids_at_most : (clients : List ClientEntry) (ids : List ClientId) → length (fold (λ is client. insert_sorted (λ id. id.0) client.id is) ids clients) ≤ length clients + length ids
ids_at_most [] ids = omega arith
ids_at_most (client ∷ clients) ids = omega (arith, ids_at_most clients (insert_sorted (λ id. id.0) client.id ids), inserted_at_most client.id ids)

pub few_replies_found : (s : Service) → IsBounded s → length (last_replies_of s) ≤ 64
few_replies_found s bounded =
    omega (arith, found_at_most (λ (id : ClientId). last_reply_of s id.0) (client_ids_of s.config.clients), ids_at_most s.config.clients [], bounded.is_configuration.clients)

pub few_replies : (s : Service) → IsBounded s → length (last_replies_of s) < 2 ^ 32
few_replies s bounded = omega (arith, few_replies_found s bounded)

short_found : (s : Service) → IsBounded s → (ids : List ClientId) → All (λ reply. length reply.result ≤ 265) (filter_map (λ id. last_reply_of s id.0) ids)
short_found s bounded [] = All-nil (λ (reply : Reply). length reply.result ≤ 265)
short_found s bounded (id ∷ ids) = cases (last_reply_of s id.0) (last_bounded s bounded id.0) (short_found s bounded ids) where
  cases : (o : Option Reply) → IfSome o (IsBoundedReply s.number id.0) → All (λ (reply : Reply). length reply.result ≤ 265) (filter_map (λ i. last_reply_of s i.0) ids)
      → All (λ (reply : Reply). length reply.result ≤ 265) (cons_option o (filter_map (λ i. last_reply_of s i.0) ids))
  cases None h rest = rest
  cases (Some reply) h rest = All-cons (λ (r : Reply). length r.result ≤ 265) reply _ h.result_in_range rest

pub replies_are_short : (s : Service) → IsBounded s → All (λ reply. length reply.result ≤ 265) (last_replies_of s)
replies_are_short s bounded = short_found s bounded (client_ids_of s.config.clients)

-- ---- the whole state

regrouped_state : (a b c d e : List ℕ) → (((a ++ b) ++ c) ++ d) ++ e ≡ a ++ (b ++ (c ++ (d ++ e)))
regrouped_state a b c d e = simp append_assoc

same_state_in : (version : Version) (s t : Service) → IsBounded s → IsBounded t → IsSound s → IsSound t → All (IsToldIn version) s.tenants → All (IsToldIn version) t.tenants
    → s.config ≡ t.config → encoded_in version s ≡ encoded_in version t → s ≡ t
same_state_in version s t bounded bounded' sound sound' told told' config e = λ i. record { config = config i; number = number.0 i; tenants = tenants i } where
  clients : List ClientEntry
  clients = t.config.clients

  rest_of : Service → List ℕ
  rest_of u = u32_bytes (length u.tenants) ++ flat_map (encoded_tenant version) u.tenants

  spread : (u : Service) → encoded_in version u ≡ version_number version ∷ (u64_bytes u.number ++ (encoded_replies (last_replies_of u) ++ rest_of u))
  spread u = regrouped_state (version_number version ∷ []) (u64_bytes u.number) (encoded_replies (last_replies_of u)) (u32_bytes (length u.tenants)) (flat_map (encoded_tenant version) u.tenants)

  below : (n : ℕ) → n < 2 ^ 48 → n < 2 ^ 64
  below n lt = omega (arith, lt)

  number : (s.number ≡ t.number) × (encoded_replies (last_replies_of s) ++ rest_of s ≡ encoded_replies (last_replies_of t) ++ rest_of t)
  number =
      let version = same_length (version_number version ∷ []) (version_number version ∷ []) _ _ refl (sym (spread s) ∙ e ∙ spread t) in
      free_eight s.number t.number _ _ (below s.number bounded.number_in_range) (below t.number bounded'.number_in_range) version.1

  replies : (last_replies_of s ≡ last_replies_of t) × (rest_of s ≡ rest_of t)
  replies = free_list encoded_reply FieldsInRange free_reply (last_replies_of s) (last_replies_of t) (rest_of s) (rest_of t)
      (few_replies s bounded, replies_in_range s bounded (client_ids_of s.config.clients)) (few_replies t bounded', replies_in_range t bounded' (client_ids_of t.config.clients)) number.1

  same_ids : map (λ x. x.tenant) s.tenants ≡ map (λ y. y.tenant) t.tenants
  same_ids = bounded.same_tenants ∙ ap (λ (c : Configuration). map (λ u. u.0) (tenants_of c.clients)) config ∙ sym bounded'.same_tenants

  same_count : length s.tenants ≡ length t.tenants
  same_count = sym (length-map s.tenants (λ x. x.tenant)) ∙ ap length same_ids ∙ length-map t.tenants (λ y. y.tenant)

  parts : flat_map (encoded_tenant version) s.tenants ≡ flat_map (encoded_tenant version) t.tenants
  parts = (same_length (u32_bytes (length s.tenants)) (u32_bytes (length t.tenants)) _ _ (ap (λ (k : ℕ). length (u32_bytes k)) same_count) replies.1).1

  same : SameTenants s.tenants t.tenants
  same = tenants_free version s.number t.number s.tenants t.tenants same_ids bounded.tenants_in_range bounded'.tenants_in_range told told' parts

  agree : (q : ℕ) → IsSome (entry_of clients q) → last_reply_of s q ≡ last_reply_of t q
  agree q some = same_found (last_reply_of s) (last_reply_of t) (own_of s bounded) (own_of t bounded') (client_ids_of clients) (client_ids_ascend clients)
      (ap (λ (c : Configuration). filter_map (λ id. last_reply_of s id.0) (client_ids_of c.clients)) (sym config) ∙ replies.0) q (listed clients q some)

  same_config : (q : ℕ) → option_and_then (λ part. finite.get part.last_replies q) (option_and_then (λ entry. tenant_at s.tenants entry.tenant.0) (entry_of clients q)) ≡ last_reply_of s q
  same_config q = ap (λ (c : Configuration). option_and_then (λ part. finite.get part.last_replies q) (option_and_then (λ entry. tenant_at s.tenants entry.tenant.0) (entry_of c.clients q))) (sym config)

  tenants : s.tenants ≡ t.tenants
  tenants = same_tenants clients s.tenants t.tenants s.tenants t.tenants same
      (found_each s.tenants (ascends_like (tenants_of s.config.clients) s.tenants (tenants_ascending s.config.clients) bounded.same_tenants))
      (found_each t.tenants (ascends_like (tenants_of clients) t.tenants (tenants_ascending clients) bounded'.same_tenants))
      (subst (λ (c : Configuration). All (IsSoundTenant c.clients) s.tenants) config sound) sound'
      (λ q some. same_config q ∙ agree q some)

-- version 2 tells each profile
pub all_told : (parts : List TenantState) → All (IsToldIn Second) parts
all_told parts = λ k part lt. λ i procedure below. tt

pub same_state : (s t : Service) → IsBounded s → IsBounded t → IsSound s → IsSound t → s.config ≡ t.config → encoded s ≡ encoded t → s ≡ t
same_state s t bounded bounded' sound sound' config e = same_state_in Second s t bounded bounded' sound sound' (all_told s.tenants) (all_told t.tenants) config e

-- ---- bytes are an encoding of one state at most

-- they tell their version
pub one_version : (v w : Version) (r t : List ℕ) → version_number v ∷ r ≡ version_number w ∷ t → v ≡ w
one_version First First r t e = refl
one_version First Second r t e = let number : version_number First ≡ version_number Second = cc in absurd (omega (arith, number))
one_version Second First r t e = let number : version_number Second ≡ version_number First = cc in absurd (omega (arith, number))
one_version Second Second r t e = refl

pub begins_with : (version : Version) (u : Service) → (rest : List ℕ) × (encoded_in version u ≡ version_number version ∷ rest)
begins_with version u = (_, regrouped_state (version_number version ∷ []) (u64_bytes u.number) (encoded_replies (last_replies_of u)) (u32_bytes (length u.tenants)) (flat_map (encoded_tenant version) u.tenants))

pub same_decoded : (config : Configuration) (bytes : List ℕ) (s t : Service) → Decodes config bytes s → Decodes config bytes t → s ≡ t
same_decoded config bytes s t (v, is) (w, is') =
    let first = begins_with v s in
    let other = begins_with w t in
    let same : w ≡ v = one_version w v other.0 first.0 (sym other.1 ∙ is'.encodes ∙ sym is.encodes ∙ first.1) in
    let here : EncodesIn v config bytes t = subst (λ (x : Version). EncodesIn x config bytes t) same is' in
    same_state_in v s t is.bounded here.bounded is.sound here.sound is.told here.told (is.config_is ∙ sym here.config_is) (is.encodes ∙ sym here.encodes)
