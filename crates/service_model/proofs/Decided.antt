-- Whether bytes encode a state is decided.
use Rattle.std.proofs.Common.{◌≡◌, ◌≢◌, ◌⊎◌, ℕ, suc, ◌^◌, ◌<◌, ◌≤◌, Bool, true, false, cond, ◌||◌, eqb, List, [], ◌∷◌, ◌++◌, length, get_or, map, drop, Option, Some, None, refl, sym, ap, subst, ◌∙◌, append_assoc, arith, inl, inr}
use Rattle.std.specs.Prelude.{flat_map, bytes_eq, nat_lt, All, AllPairs, IsSome, IsSomeAnd, IfSome, option_and_then}
use Rattle.std.specs.List.{list_any}
use Rattle.std.specs.Ordering.{nat_cmp}
use Rattle.std.specs.FinMap as finite
use Rattle.std.proofs.lemmas.Bool.{cases_lt, cases_eq, eq-eqb, ltb-true, ne_eqb, true≢false}
use Rattle.std.proofs.lemmas.List.Elements.{All-cons, All-head, All-tail, All-nil}
use Rattle.std.proofs.lemmas.Slice.Eq.{bytes_eq-Decides}
use Rattle.host_types.specs.declared.config.ClientEntry.{ClientEntry}
use Rattle.host_types.specs.declared.request.Reply.{Reply}
use Rattle.host_types.specs.Configuration.{Configuration, IsConfiguration, client_ids_of, tenants_of, entry_of, replicas_for, too_many, some_client_twice}
use Rattle.host_types.proofs.AscendingLemmas.{tenants_ascending}
use Rattle.host_types.proofs.ClientLemmas.{legal}
use Rattle.tenant_maps.specs.Entries.{Entries}
use Rattle.bpf_model.specs.declared.profile.Profile.{Profile}
use Rattle.bpf_model.specs.declared.profile.Profile.TheVariants.{One, Two}
use Rattle.service_model.specs.declared.version.Version.{Version}
use Rattle.service_model.specs.declared.version.Version.TheVariants.{First, Second}
use Rattle.service_model.specs.Words.{u32_bytes, u64_bytes}
use Rattle.service_model.specs.Versions.{version_number, IsTold}
use Rattle.service_model.specs.TenantStates.{Procedure, TenantState, Service, replies_of, tenant_at, last_reply_of}
use Rattle.service_model.specs.Encoding.{encoded_in, encoded_reply, encoded_replies, encoded_tenant, last_replies_of}
use Rattle.service_model.specs.Sound.{IsAcceptedProcedure, IsSoundTenant, IsSound}
use Rattle.service_model.specs.Bounded.{IsSizedMap, IsBoundedReply, IsBoundedTenant, IsBounded}
use Rattle.service_model.specs.Decoding.{IsToldIn, EncodesIn}
use Rattle.service_model.proofs.Bounds.{four_short}
use Rattle.service_model.proofs.Clients.{Each, has, listed, or_cases}
use Rattle.service_model.proofs.CodeBytes.{code_is_bytes}
use Rattle.service_model.proofs.Decoder.{drop_front, eight, reads_eight, counted, reads_counted, reply, reads_reply, same_list, stripped, parts, reads_parts, belongs, belongs_to, own_replies, with_replies, get_more, get_filtered, get_found}
use Rattle.service_model.proofs.Existing.{verdict_decided}
use Rattle.service_model.proofs.Injective.{ascends_like, found_each, own_of, few_replies, replies_in_range, same_replies}
use Rattle.service_model.proofs.PrefixFree.{FieldsInRange}

abbrev AreBytes : List ℕ → Type 0
AreBytes bytes = All (λ byte. byte < 256) bytes

-- ---- the state that a decoder finds

pub decoded : Version → Configuration → List ℕ → Service
decoded version config bytes =
    let number = eight (drop 1 bytes) in
    let replies = counted reply number.1 in
    let tenants = parts version (map (λ tenant. tenant.0) (tenants_of config.clients)) (drop 4 replies.1) in
    record { config = config; number = number.0; tenants = map (with_replies config.clients replies.0) tenants.0 }

with_nothing : (xs : List ℕ) → xs ++ [] ≡ xs
with_nothing [] = refl
with_nothing (x ∷ xs) = ap (λ (ys : List ℕ). x ∷ ys) (with_nothing xs)

regrouped_state : (a b c d e : List ℕ) → (((a ++ b) ++ c) ++ d) ++ e ≡ a ++ (b ++ (c ++ (d ++ e)))
regrouped_state a b c d e = simp append_assoc

module _ (s : Service) (bounded : IsBounded s) (sound : IsSound s) where
  abbrev clients : List ClientEntry
  clients = s.config.clients

  abbrev replies : List Reply
  replies = last_replies_of s

  no_reply : {X : Type 0} (o : Option X) → (IsSome o → ⊥) → o ≡ None
  no_reply None h = refl
  no_reply (Some x) h = absurd (h refl)

  -- the last reply to a listed client
  abbrev reply_to_listed : ℕ → Option Reply
  reply_to_listed q = cond (has q (client_ids_of clients)) (last_reply_of s q) None

  -- a part's last replies are those of its clients
  replies_agree : (x : TenantState) → IsSoundTenant clients x → tenant_at s.tenants x.tenant ≡ Some x → (q : ℕ)
      → finite.get (replies_of (own_replies clients x.tenant replies)) q ≡ finite.get x.last_replies q
  replies_agree x mine found q =
      get_filtered (belongs clients x.tenant) replies q
      ∙ ap (λ (o : Option Reply). cond (belongs clients x.tenant q) o None) (get_found (last_reply_of s) (own_of s bounded) (client_ids_of clients) q)
      ∙ cases (entry_of clients q) refl where
        there : (entry : ClientEntry) → entry_of clients q ≡ Some entry → entry.tenant.0 ≡ x.tenant → reply_to_listed q ≡ finite.get x.last_replies q
        there entry is same =
            ap (λ (b : Bool). cond b (last_reply_of s q) None) (listed clients q (subst IsSome (sym is) refl))
            ∙ ap (λ (o : Option ClientEntry). option_and_then (λ part. finite.get part.last_replies q) (option_and_then (λ e. tenant_at s.tenants e.tenant.0) o)) is
            ∙ ap (option_and_then (λ (part : TenantState). finite.get part.last_replies q)) (ap (tenant_at s.tenants) same ∙ found)

        of_other : (o : Option ClientEntry) → entry_of clients q ≡ o → (IsSomeAnd o (λ entry. entry.tenant.0 ≡ x.tenant) → ⊥) → None ≡ finite.get x.last_replies q
        of_other o is none = sym (no_reply (finite.get x.last_replies q) (λ some. none (subst (λ (e : Option ClientEntry). IsSomeAnd e (λ entry. entry.tenant.0 ≡ x.tenant)) is (mine.own q some))))

        tenants : (entry : ClientEntry) → entry_of clients q ≡ Some entry → (entry.tenant.0 ≡ x.tenant) ⊎ (entry.tenant.0 ≡ x.tenant → ⊥)
            → cond (eqb entry.tenant.0 x.tenant) (reply_to_listed q) None ≡ finite.get x.last_replies q
        tenants entry is (inl same) = ap (λ (b : Bool). cond b (reply_to_listed q) None) (eq-eqb entry.tenant.0 x.tenant same) ∙ there entry is same
        tenants entry is (inr other) = ap (λ (b : Bool). cond b (reply_to_listed q) None) (ne_eqb entry.tenant.0 x.tenant other) ∙ of_other (Some entry) is other

        cases : (o : Option ClientEntry) → entry_of clients q ≡ o → cond (belongs clients x.tenant q) (reply_to_listed q) None ≡ finite.get x.last_replies q
        cases None is = ap (λ (o : Option ClientEntry). cond (belongs_to x.tenant o) (reply_to_listed q) None) is ∙ of_other None is (λ h. h)
        cases (Some entry) is = ap (λ (o : Option ClientEntry). cond (belongs_to x.tenant o) (reply_to_listed q) None) is ∙ tenants entry is (cases_eq entry.tenant.0 x.tenant)

  part_is : (x : TenantState) → IsSoundTenant clients x → tenant_at s.tenants x.tenant ≡ Some x → with_replies clients replies (stripped x) ≡ x
  part_is x mine found = λ i. record { tenant = x.tenant; procedures = x.procedures; entries = x.entries; last_replies = kept i } where
    kept : replies_of (own_replies clients x.tenant replies) ≡ x.last_replies
    kept = same_replies (replies_of (own_replies clients x.tenant replies)) x.last_replies (replies_agree x mine found)

  parts_are : (xs : List TenantState) → All (IsSoundTenant clients) xs → Each (λ x. tenant_at s.tenants x.tenant ≡ Some x) xs → map (with_replies clients replies) (map stripped xs) ≡ xs
  parts_are [] all found = refl
  parts_are (x ∷ xs) all found =
      let one = part_is x (All-head (IsSoundTenant clients) x xs all) found.0 in
      let rest = parts_are xs (All-tail (IsSoundTenant clients) x xs all) found.1 in
      λ i. one i ∷ rest i

  pub decoded_is : (version : Version) → All (IsToldIn version) s.tenants → decoded version s.config (encoded_in version s) ≡ s
  unfolding decoded
  decoded_is version told =
      let tail : List ℕ = flat_map (encoded_tenant version) s.tenants in
      let count : List ℕ = u32_bytes (length s.tenants) in
      let spread = regrouped_state (version_number version ∷ []) (u64_bytes s.number) (encoded_replies replies) count tail in
      let number : eight (drop 1 (encoded_in version s)) ≡ (s.number, encoded_replies replies ++ (count ++ tail))
      = ap (λ (bytes : List ℕ). eight (drop 1 bytes)) spread ∙ reads_eight s.number (encoded_replies replies ++ (count ++ tail)) (omega (arith, bounded.number_in_range)) in
      let found : counted reply (encoded_replies replies ++ (count ++ tail)) ≡ (replies, count ++ tail)
      = reads_counted encoded_reply FieldsInRange (λ x. x) reply reads_reply replies (count ++ tail) (few_replies s bounded) (replies_in_range s bounded (client_ids_of clients))
      ∙ ap (λ (rs : List Reply). (rs, count ++ tail)) (same_list replies) in
      let ids : List ℕ = map (λ tenant. tenant.0) (tenants_of clients) in
      let tenants : parts version ids (drop 4 (count ++ tail)) ≡ (map stripped s.tenants, [])
      = ap (parts version ids) (drop_front count tail 4 (four_short (length s.tenants)) ∙ sym (with_nothing tail))
      ∙ ap (λ (ids : List ℕ). parts version ids (tail ++ [])) (sym bounded.same_tenants) ∙ reads_parts version s.number s.tenants [] bounded.tenants_in_range told in
      let all = parts_are s.tenants sound (found_each s.tenants (ascends_like (tenants_of clients) s.tenants (tenants_ascending clients) bounded.same_tenants)) in
      ap from_number number ∙ ap (from_replies s.number) found ∙ ap (from_tenants s.number replies) tenants ∙ (λ i. record { config = s.config; number = s.number; tenants = all i }) where
        from_tenants : ℕ → List Reply → List TenantState × List ℕ → Service
        from_tenants n rs ts = record { config = s.config; number = n; tenants = map (with_replies clients rs) ts.0 }

        from_replies : ℕ → List Reply × List ℕ → Service
        from_replies n rs = from_tenants n rs.0 (parts version (map (λ tenant. tenant.0) (tenants_of clients)) (drop 4 rs.1))

        from_number : ℕ × List ℕ → Service
        from_number n = from_replies n.0 (counted reply n.1)

-- ---- decisions

abbrev Decided : Type 0 → Type 0
Decided P = P ⊎ (P → ⊥)

both : {P Q : Type 0} → Decided P → Decided Q → Decided (P × Q)
both (inl p) (inl q) = inl (p, q)
both (inl p) (inr never) = inr (λ h. never h.1)
both (inr never) d = inr (λ h. never h.0)

alike : {P Q : Type 0} → (P → Q) → (Q → P) → Decided P → Decided Q
alike to from (inl p) = inl (to p)
alike to from (inr never) = inr (λ q. never (from q))

at_most : (n m : ℕ) → Decided (n ≤ m)
at_most n m = elim (cases_lt m n) [ inl lt ↦ inr (λ le. absurd (omega (arith, lt, le))) | inr le ↦ inl le ]

below : (n m : ℕ) → Decided (n < m)
below n m = elim (cases_lt n m) [ inl lt ↦ inl lt | inr le ↦ inr (λ lt. absurd (omega (arith, lt, le))) ]

same_bytes : (xs ys : List ℕ) → Decided (xs ≡ ys)
same_bytes xs ys = cases (bytes_eq xs ys) refl where
  cases : (b : Bool) → bytes_eq xs ys ≡ b → Decided (xs ≡ ys)
  cases true e = inl ((bytes_eq-Decides xs ys).0 e)
  cases false e = inr (λ is. true≢false (sym ((bytes_eq-Decides xs ys).1 is) ∙ e))

-- of each of a list
each : {X : Type 0} (P : X → Type 0) → ((x : X) → Decided (P x)) → (xs : List X) → Decided (All P xs)
each P decide [] = inl (All-nil P)
each P decide (x ∷ xs) = alike (λ h. All-cons P x xs h.0 h.1) (λ h. (All-head P x xs h, All-tail P x xs h)) (both (decide x) (each P decide xs))

each_made : {X Y : Type 0} (f : X → Y) (P : Y → Type 0) → ((x : X) → Decided (P (f x))) → (xs : List X) → Decided (All P (map f xs))
each_made f P decide [] = inl (All-nil P)
each_made f P decide (x ∷ xs) =
    alike (λ h. All-cons P (f x) (map f xs) h.0 h.1) (λ h. (All-head P (f x) (map f xs) h, All-tail P (f x) (map f xs) h)) (both (decide x) (each_made f P decide xs))

-- ---- of the last reply to each client, but those that are passed over

module _ (P : ℕ → Reply → Type 0) (decide : (q : ℕ) (r : Reply) → Decided (P q r)) where
  abbrev EachReply : (ℕ → Bool) → List Reply → Type 0
  EachReply skip rs = (q : ℕ) → skip q ≡ false → IfSome (finite.get (replies_of rs) q) (P q)

  abbrev skipping : ℕ → (ℕ → Bool) → ℕ → Bool
  skipping client skip q = eqb client q || skip q

  or_false : (a b : Bool) → (a || b) ≡ false → (a ≡ false) × (b ≡ false)
  or_false true b e = absurd (true≢false e)
  or_false false b e = (refl, e)

  none_over : (a b : Bool) → a ≡ false → b ≡ false → (a || b) ≡ false
  none_over a b e f = ap (λ (x : Bool). x || b) e ∙ f

  -- what is answered where the first reply is another client's
  here : (r : Reply) (rs : List Reply) (q : ℕ) → eqb r.client.0 q ≡ false → IfSome (finite.get (replies_of rs) q) (P q) → IfSome (finite.get (replies_of (r ∷ rs)) q) (P q)
  here r rs q other h = subst (λ (o : Option Reply). IfSome o (P q)) (sym (get_more r rs q ∙ ap (λ (b : Bool). cond b (Some r) (finite.get (replies_of rs) q)) other)) h

  later : (r : Reply) (rs : List Reply) (q : ℕ) → eqb r.client.0 q ≡ false → IfSome (finite.get (replies_of (r ∷ rs)) q) (P q) → IfSome (finite.get (replies_of rs) q) (P q)
  later r rs q other h = subst (λ (o : Option Reply). IfSome o (P q)) (get_more r rs q ∙ ap (λ (b : Bool). cond b (Some r) (finite.get (replies_of rs) q)) other) h

  own : (r : Reply) (rs : List Reply) (q : ℕ) → eqb r.client.0 q ≡ true → finite.get (replies_of (r ∷ rs)) q ≡ Some r
  own r rs q same = get_more r rs q ∙ ap (λ (b : Bool). cond b (Some r) (finite.get (replies_of rs) q)) same

  passed_over : (skip : ℕ → Bool) (r : Reply) (q : ℕ) → skip r.client.0 ≡ true → skip q ≡ false → eqb r.client.0 q ≡ false
  passed_over skip r q over kept = cases (cases_eq r.client.0 q) where
    cases : (r.client.0 ≡ q) ⊎ (r.client.0 ≡ q → ⊥) → eqb r.client.0 q ≡ false
    cases (inl same) = absurd (true≢false (sym over ∙ ap skip same ∙ kept))
    cases (inr other) = ne_eqb r.client.0 q other

  replies_decided : (rs : List Reply) (skip : ℕ → Bool) → Decided (EachReply skip rs)
  replies_decided [] skip = inl (λ q kept. subst (λ (o : Option Reply). IfSome o (P q)) (sym (finite.get-empty nat_cmp q)) tt)
  replies_decided (r ∷ rs) skip = cases (skip r.client.0) refl (replies_decided rs) where
    counted_here : skip r.client.0 ≡ false → Decided (P r.client.0 r) → Decided (EachReply (skipping r.client.0 skip) rs) → Decided (EachReply skip (r ∷ rs))
    counted_here kept (inr never) rest = inr (λ all. never (subst (λ (o : Option Reply). IfSome o (P r.client.0)) (own r rs r.client.0 (eq-eqb r.client.0 r.client.0 refl)) (all r.client.0 kept)))
    counted_here kept (inl p) (inr never) = inr (λ all. never (λ q over. let parts = or_false (eqb r.client.0 q) (skip q) over in later r rs q parts.0 (all q parts.1)))
    counted_here kept (inl p) (inl rest) = inl (λ q kept'. each_one q kept' (cases_eq r.client.0 q)) where
      each_one : (q : ℕ) → skip q ≡ false → (r.client.0 ≡ q) ⊎ (r.client.0 ≡ q → ⊥) → IfSome (finite.get (replies_of (r ∷ rs)) q) (P q)
      each_one q kept' (inl same) = subst (λ (o : Option Reply). IfSome o (P q)) (sym (own r rs q (eq-eqb r.client.0 q same))) (subst (λ (k : ℕ). P k r) same p)
      each_one q kept' (inr other) = let differs = ne_eqb r.client.0 q other in here r rs q differs (rest q (none_over (eqb r.client.0 q) (skip q) differs kept'))

    cases : (b : Bool) → skip r.client.0 ≡ b → ((skip : ℕ → Bool) → Decided (EachReply skip rs)) → Decided (EachReply skip (r ∷ rs))
    cases true over rest =
        alike (λ all q kept. here r rs q (passed_over skip r q over kept) (all q kept)) (λ all q kept. later r rs q (passed_over skip r q over kept) (all q kept)) (rest skip)
    cases false kept rest = counted_here kept (decide r.client.0 r) (rest (skipping r.client.0 skip))

  pub each_reply : (rs : List Reply) → Decided ((q : ℕ) → IfSome (finite.get (replies_of rs) q) (P q))
  each_reply rs = alike (λ all q. all q refl) (λ all q kept. all q) (replies_decided rs (λ q. false))

-- ---- of the parts of a state

bounded_reply : (taken client : ℕ) (r : Reply) → Decided (IsBoundedReply taken client r)
bounded_reply taken client r =
    alike (λ h. record { own = h.0; client_in_range = h.1.0; time_in_range = h.1.1.0; not_null = h.1.1.1.0; not_later = h.1.1.1.1.0; result_in_range = h.1.1.1.1.1 })
    (λ h. (h.own, (h.client_in_range, (h.time_in_range, (h.not_null, (h.not_later, h.result_in_range))))))
    (both (cases_eq r.client.0 client) (both (below client (2 ^ 32)) (both (below r.time (2 ^ 64)) (both (at_most 1 r.number.0) (both (at_most r.number.0 taken) (at_most (length r.result) 265))))))

sized_map : (m : Entries) → Decided (IsSizedMap m)
sized_map m =
    alike (λ h. record { keys = h.0; values = h.1.0; count = h.1.1 }) (λ h. (h.keys, (h.values, h.count)))
    (both (each (λ (key : List ℕ). length key ≡ 16) (λ key. cases_eq (length key) 16) (finite.keys m))
    (both (each (λ (value : List ℕ). length value ≡ 32) (λ value. cases_eq (length value) 32) (finite.values m)) (at_most (finite.len m) 4096)))

bounded_tenant : (clients : List ClientEntry) (rs : List Reply) (taken : ℕ) (x : TenantState) → Decided (IsBoundedTenant taken (with_replies clients rs x))
bounded_tenant clients rs taken x =
    alike (λ h. record { procedures_in_range = h.0; codes_in_range = h.1.0; entries_in_range = h.1.1.0; replies_in_range = h.1.1.1 })
    (λ h. (h.procedures_in_range, (h.codes_in_range, (h.entries_in_range, h.replies_in_range))))
    (both (at_most (length x.procedures) 64) (both (each (λ (procedure : Procedure). length procedure.code ≤ 8192) (λ procedure. at_most (length procedure.code) 8192) x.procedures)
    (both (sized_map x.entries) (each_reply (IsBoundedReply taken) (bounded_reply taken) (own_replies clients x.tenant rs)))))

of_tenant : (clients : List ClientEntry) (tenant q : ℕ) → Decided (IsSomeAnd (entry_of clients q) (λ entry. entry.tenant.0 ≡ tenant))
of_tenant clients tenant q = cases (entry_of clients q) where
  cases : (o : Option ClientEntry) → Decided (IsSomeAnd o (λ entry. entry.tenant.0 ≡ tenant))
  cases None = inr (λ h. h)
  cases (Some entry) = cases_eq entry.tenant.0 tenant

if_some : (P : Type 0) (o : Option Reply) → (IsSome o → P) → IfSome o (λ r. P)
if_some P None h = tt
if_some P (Some r) h = h refl

from_some : (P : Type 0) (o : Option Reply) → IfSome o (λ r. P) → IsSome o → P
from_some P None h some = absurd (true≢false (sym some))
from_some P (Some r) h some = h

byte_list : (xs : List ℕ) → Decided (AreBytes xs)
byte_list xs = each (λ byte. byte < 256) (λ byte. below byte 256) xs

accepted : (procedure : Procedure) → Decided (IsAcceptedProcedure procedure)
accepted procedure = elim (byte_list procedure.code) [
  | inl all ↦ elim (verdict_decided procedure.profile procedure.code all) [ inl good ↦ inl good | inr never ↦ inr (λ h. never h.0 h.1) ]
  | inr never ↦ inr (λ h. never (code_is_bytes procedure.code h.1.0 h.1.1))
]

is_told : (version : Version) (profile : Profile) → Decided (IsTold version profile)
is_told First One = inl refl
is_told First Two = inr (λ (e : Two ≡ One). cc)
is_told Second profile = inl tt

told_in : (version : Version) (x : TenantState) → Decided (IsToldIn version x)
told_in version x = each (λ (procedure : Procedure). IsTold version procedure.profile) (λ procedure. is_told version procedure.profile) x.procedures

sound_tenant : (clients : List ClientEntry) (rs : List Reply) (x : TenantState) → Decided (IsSoundTenant clients (with_replies clients rs x))
sound_tenant clients rs x =
    alike (λ h. record { accepted = h.0; own = λ q. from_some _ (finite.get (replies_of (own_replies clients x.tenant rs)) q) (h.1 q) })
    (λ h. (h.accepted, λ q. if_some _ (finite.get (replies_of (own_replies clients x.tenant rs)) q) (h.own q)))
    (both (each IsAcceptedProcedure accepted x.procedures)
    (each_reply (λ q r. IsSomeAnd (entry_of clients q) (λ entry. entry.tenant.0 ≡ x.tenant)) (λ q r. of_tenant clients x.tenant q) (own_replies clients x.tenant rs)))

-- ---- of a configuration

some_fails : {X : Type 0} (p : X → Bool) (xs : List X) → list_any p xs ≡ true → All (λ x. p x ≡ false) xs → ⊥
some_fails p [] t all = true≢false (sym t)
some_fails p (x ∷ xs) t all =
    or_cases (p x) (list_any p xs) ⊥ (λ here. true≢false (sym here ∙ All-head (λ y. p y ≡ false) x xs all)) (λ later. some_fails p xs later (All-tail (λ y. p y ≡ false) x xs all)) t

twice_fails : (clients : List ClientEntry) → some_client_twice clients ≡ true → AllPairs (λ one other. one.id.0 ≢ other.id.0) clients → ⊥
twice_fails [] t different = true≢false (sym t)
twice_fails (client ∷ others) t different =
    or_cases (list_any (λ other. eqb other.id.0 client.id.0) others) (some_client_twice others) ⊥
    (λ here. some_fails (λ other. eqb other.id.0 client.id.0) others here (λ k d lt. ne_eqb (get_or others k d).id.0 client.id.0 (λ same. different 0 (suc k) d (omega arith) (omega (arith, lt)) (sym same))))
    (λ later. twice_fails others later (λ i j d lt h. different (suc i) (suc j) d (omega (arith, lt)) (omega (arith, h)))) t

too_many_fails : (c : Configuration) → too_many c.clients ≡ true → IsConfiguration c → ⊥
too_many_fails c t is =
    or_cases (nat_lt 64 (length c.clients)) (nat_lt 8 (length (tenants_of c.clients)) || list_any (λ client. nat_lt client.id.0 16) c.clients) ⊥
    (λ many. absurd (omega (arith, ltb-true 64 (length c.clients) many, is.clients)))
    (λ more. or_cases (nat_lt 8 (length (tenants_of c.clients))) (list_any (λ client. nat_lt client.id.0 16) c.clients) ⊥
    (λ many. absurd (omega (arith, ltb-true 8 (length (tenants_of c.clients)) many, is.tenants)))
    (λ low. some_fails (λ client. nat_lt client.id.0 16) c.clients low (λ k d lt. not_less (get_or c.clients k d).id.0 (is.client_ids k d lt))) more) t where
      not_less : (n : ℕ) → 16 ≤ n → nat_lt n 16 ≡ false
      not_less n le = cases (nat_lt n 16) refl where
        cases : (b : Bool) → nat_lt n 16 ≡ b → nat_lt n 16 ≡ false
        cases false e = e
        cases true e = absurd (omega (arith, ltb-true n 16 e, le))

is_test : (b : Bool) → Decided (b ≡ false)
is_test false = inl refl
is_test true = inr (λ e. true≢false e)

legal_configuration : (c : Configuration) → Decided (IsConfiguration c)
legal_configuration c =
    alike (λ h. legal c h.0 h.1.0 h.1.1.0 h.1.1.1.0 h.1.1.1.1.0 h.1.1.1.1.1.0 h.1.1.1.1.1.1)
    (λ h. (h.min_faulty, (h.max_faulty, (h.a_key_each, (h.min_interval, (h.max_interval, (few h, once h)))))))
    (both (at_most 1 c.f) (both (at_most c.f 3) (both (cases_eq (length c.keys) (replicas_for c.f)) (both (at_most 1 c.k) (both (at_most c.k 8) (both (is_test (too_many c.clients)) (is_test (some_client_twice c.clients)))))))) where
      few : IsConfiguration c → too_many c.clients ≡ false
      few h = cases (too_many c.clients) refl where
        cases : (b : Bool) → too_many c.clients ≡ b → too_many c.clients ≡ false
        cases false e = e
        cases true e = absurd (too_many_fails c e h)

      once : IsConfiguration c → some_client_twice c.clients ≡ false
      once h = cases (some_client_twice c.clients) refl where
        cases : (b : Bool) → some_client_twice c.clients ≡ b → some_client_twice c.clients ≡ false
        cases false e = e
        cases true e = absurd (twice_fails c.clients e h.different_clients)

-- ---- of a state

module _ (version : Version) (config : Configuration) (bytes : List ℕ) where
  abbrev number : ℕ × List ℕ
  number = eight (drop 1 bytes)

  abbrev found : List Reply × List ℕ
  found = counted reply number.1

  abbrev tenants : List TenantState
  tenants = (parts version (map (λ tenant. tenant.0) (tenants_of config.clients)) (drop 4 found.1)).0

  abbrev state : Service
  state = record { config = config; number = number.0; tenants = map (with_replies config.clients found.0) tenants }

  -- a state that they encode is the one that is decoded
  is_decoded : (t : Service) → EncodesIn version config bytes t → state ≡ t
  unfolding decoded
  is_decoded t e = (λ i. decoded version (sym e.config_is i) (sym e.encodes i)) ∙ decoded_is t e.bounded e.sound version e.told

  is_bounded : Decided (IsBounded state)
  is_bounded =
      alike (λ h. record { is_configuration = h.0; number_in_range = h.1.0; same_tenants = h.1.1.0; tenants_in_range = h.1.1.1 })
      (λ h. (h.is_configuration, (h.number_in_range, (h.same_tenants, h.tenants_in_range))))
      (both (legal_configuration config) (both (below number.0 (2 ^ 48)) (both (same_bytes (map (λ x. x.tenant) state.tenants) (map (λ tenant. tenant.0) (tenants_of config.clients)))
      (each_made (with_replies config.clients found.0) (IsBoundedTenant number.0) (bounded_tenant config.clients found.0 number.0) tenants))))

  is_sound : Decided (IsSound state)
  is_sound = each_made (with_replies config.clients found.0) (IsSoundTenant config.clients) (sound_tenant config.clients found.0) tenants

  all_told : Decided (All (IsToldIn version) state.tenants)
  all_told = each_made (with_replies config.clients found.0) (IsToldIn version) (λ x. told_in version x) tenants

  pub decided : ((t : Service) × EncodesIn version config bytes t) ⊎ ((t : Service) → EncodesIn version config bytes t → ⊥)
  decided = same (same_bytes (encoded_in version state) bytes) where
    whole : encoded_in version state ≡ bytes → Decided (IsBounded state × (IsSound state × All (IsToldIn version) state.tenants)) → ((t : Service) × EncodesIn version config bytes t) ⊎ ((t : Service) → EncodesIn version config bytes t → ⊥)
    whole e (inl h) = inl (state, record { config_is = refl; encodes = e; bounded = h.0; sound = h.1.0; told = h.1.1 })
    whole e (inr never) = inr (λ t is. never (subst (λ (u : Service). IsBounded u × (IsSound u × All (IsToldIn version) u.tenants)) (sym (is_decoded t is)) (is.bounded, (is.sound, is.told))))

    same : Decided (encoded_in version state ≡ bytes) → ((t : Service) × EncodesIn version config bytes t) ⊎ ((t : Service) → EncodesIn version config bytes t → ⊥)
    same (inl e) = whole e (both is_bounded (both is_sound all_told))
    same (inr never) = inr (λ t is. never (ap (encoded_in version) (is_decoded t is) ∙ is.encodes))
