-- The state that was read is the one that its bytes encode, and there is none where reading failed.
use Rattle.std.proofs.Common.{◌≡◌, ℕ, ◌^◌, ◌<◌, Bool, true, false, cond, ◌||◌, eqb, List, [], ◌∷◌, ◌++◌, length, get_or, find, map, Option, Some, None, refl, sym, ap, subst, ◌∙◌, true≢false, inl, inr, append_assoc, arith}
use Rattle.std.specs.Prelude.{IfSome, IsSome, is_some, fold, flat_map, option_and_then}
use Rattle.std.specs.List.{filter_map, cons_option}
use Rattle.std.specs.FinMap as finite
use Rattle.std.proofs.lemmas.Bool.{cases_order, eq-eqb, eqb-true}
use Rattle.std.proofs.lemmas.List.{append-nil}
use Rattle.host_types.specs.declared.ClientId.{ClientId}
use Rattle.host_types.specs.declared.config.ClientEntry.{ClientEntry}
use Rattle.host_types.specs.declared.request.Reply.{Reply}
use Rattle.host_types.specs.Configuration.{Configuration, IsConfiguration, insert_sorted, client_ids_of, tenants_of, entry_of}
use Rattle.host_types.proofs.InsertSorted.{insert_sorted_before, insert_sorted_here, insert_sorted_after}
use Rattle.service_model.specs.declared.version.Version.{Version}
use Rattle.service_model.specs.Words.{u32_bytes, u64_bytes}
use Rattle.service_model.specs.Versions.{version_number}
use Rattle.service_model.specs.TenantStates.{Replies, TenantState, Service, empty_tenant, tenant_at, tenant_index, last_reply_of}
use Rattle.service_model.specs.Encoding.{encoded_tenant, encoded_replies, encoded_reply, last_replies_of}
use Rattle.service_model.specs.Sound.{IsSoundTenant}
use Rattle.service_model.specs.Bounded.{IsBoundedReply, IsBoundedTenant}
use Rattle.service_model.specs.Decoding.{IsToldIn, EncodesIn, Decodes}
use Rattle.service_core.specs.Readings.{Begins, encoded_head, AreLastReplies, ArePartsOf, HaveReplies, is_of, replies_to_tenant}
use Rattle.service_model.proofs.Clients.{Each, has, client_ids_ascend, or_left, or_right, or_cases}
use Rattle.tenant_parts.proofs.LastReplies.{to, get-replies_of}
use Rattle.service_model.proofs.TenantIndexes.{index_for, listed_has_index}
use Rattle.service_model.proofs.Found.{tenant_at_index}
use Rattle.service_model.proofs.PrefixFree.{same_length, free_eight, free_list}
use Rattle.service_core.proofs.Replies.{IsFit, free_fit}
use Rattle.service_core.proofs.RepliesInTurn.{last_replies_fit, turn_found, tenant_replies_found, found_passes, tenant_replies_bounded, tenant_replies_sound}
use Rattle.service_model.proofs.Injective.{four_long, one_version, begins_with}
use Rattle.service_core.proofs.Parts.{ids_of, number, free_parts}

-- ---- the clients' ids are those that are listed

was_there : (q : ℕ) (x : ClientId) (ids : List ClientId) → has q (insert_sorted (λ id. id.0) x ids) ≡ true → (eqb x.0 q || has q ids) ≡ true
was_there q x [] h = h
was_there q x (y ∷ ys) h = elim (cases_order x.0 y.0) [
  | inl e ↦ or_right (eqb x.0 q) (has q (y ∷ ys)) (subst (λ (ids : List ClientId). has q ids ≡ true) (insert_sorted_here (λ (id : ClientId). id.0) x y ys e) h)
  | inr other ↦ elim other [
    | inl lt ↦ subst (λ (ids : List ClientId). has q ids ≡ true) (insert_sorted_before (λ (id : ClientId). id.0) x y ys lt) h
    | inr gt ↦ or_cases (eqb y.0 q) (has q (insert_sorted (λ (id : ClientId). id.0) x ys)) ((eqb x.0 q || has q (y ∷ ys)) ≡ true)
        (λ here. or_right (eqb x.0 q) (has q (y ∷ ys)) (or_left (eqb y.0 q) (has q ys) here))
        (λ there. or_cases (eqb x.0 q) (has q ys) ((eqb x.0 q || has q (y ∷ ys)) ≡ true) (λ same. or_left (eqb x.0 q) (has q (y ∷ ys)) same) (λ later. or_right (eqb x.0 q) (has q (y ∷ ys)) (or_right (eqb y.0 q) (has q ys) later)) (was_there q x ys there))
        (subst (λ (ids : List ClientId). has q ids ≡ true) (insert_sorted_after (λ (id : ClientId). id.0) x y ys gt) h)
  ]
]

found_later : (q : ℕ) (client : ClientEntry) (clients : List ClientEntry) → is_some (find (λ c. eqb c.id.0 q) clients) ≡ true → is_some (find (λ c. eqb c.id.0 q) (client ∷ clients)) ≡ true
found_later q client clients h = cases (eqb client.id.0 q) where
  cases : (b : Bool) → is_some (cond b (Some client) (find (λ c. eqb c.id.0 q) clients)) ≡ true
  cases true = refl
  cases false = h

was_listed : (q : ℕ) (clients : List ClientEntry) (ids : List ClientId) → has q (fold (λ is client. insert_sorted (λ id. id.0) client.id is) ids clients) ≡ true → (has q ids || is_some (find (λ client. eqb client.id.0 q) clients)) ≡ true
was_listed q [] ids h = or_left (has q ids) false h
was_listed q (client ∷ clients) ids h =
    or_cases (has q (insert_sorted (λ (id : ClientId). id.0) client.id ids)) (is_some (find (λ (c : ClientEntry). eqb c.id.0 q) clients)) ((has q ids || is_some (find (λ (c : ClientEntry). eqb c.id.0 q) (client ∷ clients))) ≡ true)
    (λ here. or_cases (eqb client.id.0 q) (has q ids) ((has q ids || is_some (find (λ (c : ClientEntry). eqb c.id.0 q) (client ∷ clients))) ≡ true)
    (λ same. or_right (has q ids) _ (ap (λ (b : Bool). is_some (cond b (Some client) (find (λ (c : ClientEntry). eqb c.id.0 q) clients))) same)) (λ before. or_left (has q ids) _ before) (was_there q client.id ids here))
    (λ later. or_right (has q ids) _ (found_later q client clients later)) (was_listed q clients (insert_sorted (λ (id : ClientId). id.0) client.id ids) h)

has_entry : (clients : List ClientEntry) (q : ℕ) → has q (client_ids_of clients) ≡ true → IsSome (entry_of clients q)
has_entry clients q h = was_listed q clients [] h

each_in : (all ids : List ClientId) → ((q : ℕ) → has q ids ≡ true → has q all ≡ true) → Each (λ id. has id.0 all ≡ true) ids
each_in all [] inside = tt
each_in all (id ∷ ids) inside = (inside id.0 (or_left (eqb id.0 id.0) (has id.0 ids) (eq-eqb id.0 id.0 refl)), each_in all ids (λ q h. inside q (or_right (eqb id.0 q) (has q ids) h)))

-- ---- the last replies of the state that was read

part_keeps : (clients : List ClientEntry) (replies : List Reply) (parts : List TenantState) (q : ℕ) → ids_of parts ≡ map number (tenants_of clients) → HaveReplies clients replies parts → IsSome (entry_of clients q)
    → option_and_then (λ part. finite.get part.last_replies q) (option_and_then (λ entry. tenant_at parts entry.tenant.0) (entry_of clients q)) ≡ find (to q) replies
part_keeps clients replies parts q same keeps some = cases (entry_of clients q) refl some where
  by_index : (entry : ClientEntry) → entry_of clients q ≡ Some entry → (o : Option ℕ) → tenant_index parts entry.tenant.0 ≡ o → option_and_then (λ part. finite.get part.last_replies q) (tenant_at parts entry.tenant.0) ≡ find (to q) replies
  by_index entry e None none = absurd (listed_has_index parts clients (λ (c : ClientEntry). eqb c.id.0 q) same some (ap (index_for parts) e ∙ none))
  by_index entry e (Some i) at =
      let d = empty_tenant 0 in
      let part = get_or parts i d in
      let found = tenant_at_index parts entry.tenant.0 i d at in
      let id : eqb part.tenant entry.tenant.0 ≡ true = subst (λ (o : Option TenantState). IfSome o (λ p. eqb p.tenant entry.tenant.0 ≡ true)) found.1 (found_passes (λ (p : TenantState). eqb p.tenant entry.tenant.0) parts) in
      let mine : is_of part.tenant (entry_of clients q) ≡ true = ap (is_of part.tenant) e ∙ eq-eqb entry.tenant.0 part.tenant (sym (eqb-true part.tenant entry.tenant.0 id)) in
      ap (option_and_then (λ (p : TenantState). finite.get p.last_replies q)) found.1 ∙ ap (λ m. finite.get m q) (keeps i d found.0) ∙ get-replies_of (replies_to_tenant clients part.tenant replies) q
      ∙ tenant_replies_found clients part.tenant q replies mine

  cases : (o : Option ClientEntry) → entry_of clients q ≡ o → IsSome o → option_and_then (λ part. finite.get part.last_replies q) (option_and_then (λ entry. tenant_at parts entry.tenant.0) o) ≡ find (to q) replies
  cases None e h = absurd (true≢false (sym h))
  cases (Some entry) e h = by_index entry e (tenant_index parts entry.tenant.0) refl

same_filter : (f g : ℕ → Option Reply) (ids : List ClientId) → Each (λ id. f id.0 ≡ g id.0) ids → filter_map (λ id. f id.0) ids ≡ filter_map (λ id. g id.0) ids
same_filter f g [] same = refl
same_filter f g (id ∷ ids) same = ap (λ (o : Option Reply). cons_option o (filter_map (λ (i : ClientId). f i.0) ids)) same.0 ∙ ap (cons_option (g id.0)) (same_filter f g ids same.1)

each_keeps : (f g : ℕ → Option Reply) (all ids : List ClientId) → Each (λ id. has id.0 all ≡ true) ids → ((q : ℕ) → has q all ≡ true → f q ≡ g q) → Each (λ id. f id.0 ≡ g id.0) ids
each_keeps f g all [] inside same = tt
each_keeps f g all (id ∷ ids) inside same = (same id.0 inside.0, each_keeps f g all ids inside.1 same)

-- ---- the whole state

abbrev rest_of : Version → List TenantState → List ℕ
rest_of version parts = u32_bytes (length parts) ++ flat_map (encoded_tenant version) parts

regrouped : (a b c d e : List ℕ) → (((a ++ b) ++ c) ++ d) ++ e ≡ (a ++ b) ++ (c ++ (d ++ e))
regrouped a b c d e = simp append_assoc

module _ (version : Version) (config : Configuration) (n : ℕ) (replies : List Reply) (parts : List TenantState) (legal : IsConfiguration config) (below : n < 2 ^ 48) (turn : AreLastReplies config.clients n replies) (are : ArePartsOf version (tenants_of config.clients) parts)
    (keeps : HaveReplies config.clients replies parts) where
  abbrev state : Service
  state = record { config = config; number = n; tenants = parts }

  same_last : last_replies_of state ≡ replies
  same_last =
      let ids = client_ids_of config.clients in
      same_filter (last_reply_of state) (λ q. find (to q) replies) ids
      (each_keeps (last_reply_of state) (λ q. find (to q) replies) ids ids (each_in ids ids (λ q h. h)) (λ q h. part_keeps config.clients replies parts q are.0 keeps (has_entry config.clients q h)))
      ∙ turn_found ids replies (client_ids_ascend config.clients) turn.1

  bounded_part : (k : ℕ) (d : TenantState) → k < length parts → IsBoundedTenant n (get_or parts k d)
  bounded_part k d lt = record {
    procedures_in_range = (are.1 k d lt).0.0;
    codes_in_range = λ i c below. ((are.1 k d lt).0.1 i c below).0;
    entries_in_range = (are.1 k d lt).1;
    replies_in_range = λ q. subst (λ (m : Replies). IfSome (finite.get m q) (IsBoundedReply n q)) (sym (keeps k d lt)) (tenant_replies_bounded n config.clients (get_or parts k d).tenant q replies turn.0.1);
  }

  sound_part : (k : ℕ) (d : TenantState) → k < length parts → IsSoundTenant config.clients (get_or parts k d)
  sound_part k d lt = record {
    accepted = λ i c below. ((are.1 k d lt).0.1 i c below).1;
    own = λ q some. tenant_replies_sound config.clients (get_or parts k d).tenant q replies (subst (λ (m : Replies). IsSome (finite.get m q)) (keeps k d lt) some);
  }

  told_part : (k : ℕ) (d : TenantState) → k < length parts → IsToldIn version (get_or parts k d)
  told_part k d lt = λ i c below. ((are.1 k d lt).0.1 i c below).2

  pub is_encoded : (bytes r1 r2 r3 : List ℕ) → bytes ≡ (version_number version ∷ [] ++ u64_bytes n) ++ r1 → r1 ≡ encoded_replies replies ++ r2 → r2 ≡ (u32_bytes (length parts) ++ flat_map (encoded_tenant version) parts) ++ r3 → r3 ≡ []
      → EncodesIn version config bytes (record { config = config; number = n; tenants = parts })
  is_encoded bytes r1 r2 r3 e1 e2 e3 e4 = record {
    config_is = refl;
    encodes = regrouped (version_number version ∷ []) (u64_bytes n) (encoded_replies (last_replies_of state)) (u32_bytes (length parts)) (flat_map (encoded_tenant version) parts)
        ∙ ap (λ (rs : List Reply). (version_number version ∷ [] ++ u64_bytes n) ++ (encoded_replies rs ++ rest_of version parts)) same_last
        ∙ sym (e1 ∙ ap (λ (r : List ℕ). (version_number version ∷ [] ++ u64_bytes n) ++ r) (e2 ∙ ap (λ (r : List ℕ). encoded_replies replies ++ r) (e3 ∙ ap (λ (r : List ℕ). rest_of version parts ++ r) e4 ∙ append-nil (rest_of version parts))));
    bounded = record { is_configuration = legal; number_in_range = below; same_tenants = are.0; tenants_in_range = bounded_part };
    sound = sound_part;
    told = told_part;
  }

-- ---- no state

-- bytes that encode a state encode it in the version that was read
pub in_version : (version : Version) (config : Configuration) (bytes : List ℕ) (s : Service) (rest : List ℕ) → bytes ≡ version_number version ∷ rest → Decodes config bytes s → EncodesIn version config bytes s
in_version version config bytes s rest e (v, is) =
    let begun = begins_with v s in
    subst (λ (w : Version). EncodesIn w config bytes s) (one_version v version begun.0 rest (sym begun.1 ∙ is.encodes ∙ e)) is

-- what a state's bytes begin with
pub behind_head : (version : Version) (config : Configuration) (bytes : List ℕ) (s : Service) → EncodesIn version config bytes s → bytes ≡ (version_number version ∷ [] ++ u64_bytes s.number) ++ (encoded_replies (last_replies_of s) ++ (u32_bytes (length s.tenants) ++ flat_map (encoded_tenant version) s.tenants))
behind_head version config bytes s is = sym is.encodes ∙ regrouped (version_number version ∷ []) (u64_bytes s.number) (encoded_replies (last_replies_of s)) (u32_bytes (length s.tenants)) (flat_map (encoded_tenant version) s.tenants)

pub begins_head : (config : Configuration) (bytes : List ℕ) (s : Service) → Decodes config bytes s → Begins encoded_head (λ head. head.1 < 2 ^ 48) bytes
begins_head config bytes s (version, is) =
    ((version, s.number), encoded_replies (last_replies_of s) ++ (u32_bytes (length s.tenants) ++ flat_map (encoded_tenant version) s.tenants), is.bounded.number_in_range, behind_head version config bytes s is)

-- the number, and what is behind it
number_determined : (version : Version) (config : Configuration) (bytes : List ℕ) (s : Service) → EncodesIn version config bytes s → (n : ℕ) (r1 : List ℕ) → n < 2 ^ 48 → bytes ≡ (version_number version ∷ [] ++ u64_bytes n) ++ r1
    → (n ≡ s.number) × (r1 ≡ encoded_replies (last_replies_of s) ++ (u32_bytes (length s.tenants) ++ flat_map (encoded_tenant version) s.tenants))
number_determined version config bytes s is n r1 below e =
    let last = encoded_replies (last_replies_of s) ++ (u32_bytes (length s.tenants) ++ flat_map (encoded_tenant version) s.tenants) in
    let version = same_length (version_number version ∷ []) (version_number version ∷ []) (u64_bytes n ++ r1) (u64_bytes s.number ++ last) refl
    (sym (append_assoc (version_number version ∷ []) (u64_bytes n) r1) ∙ sym e ∙ behind_head version config bytes s is ∙ append_assoc (version_number version ∷ []) (u64_bytes s.number) last) in
    free_eight n s.number r1 last (omega (arith, below)) (omega (arith, is.bounded.number_in_range)) version.1

fit_replies : (version : Version) (config : Configuration) (bytes : List ℕ) (s : Service) → EncodesIn version config bytes s → (n : ℕ) → n ≡ s.number → AreLastReplies config.clients n (last_replies_of s)
fit_replies version config bytes s is n same =
    subst (λ (k : ℕ). AreLastReplies config.clients k (last_replies_of s)) (sym same) (subst (λ (c : Configuration). AreLastReplies c.clients s.number (last_replies_of s)) is.config_is (last_replies_fit s is.bounded))

pub begins_replies : (version : Version) (config : Configuration) (bytes : List ℕ) (s : Service) → EncodesIn version config bytes s → (n : ℕ) (r1 : List ℕ) → n < 2 ^ 48 → bytes ≡ (version_number version ∷ [] ++ u64_bytes n) ++ r1 → Begins encoded_replies (AreLastReplies config.clients n) r1
begins_replies version config bytes s is n r1 below e =
    let determined = number_determined version config bytes s is n r1 below e in
    (last_replies_of s, u32_bytes (length s.tenants) ++ flat_map (encoded_tenant version) s.tenants, fit_replies version config bytes s is n determined.0, determined.1)

-- the replies, and what is behind them
replies_determined : (version : Version) (config : Configuration) (bytes : List ℕ) (s : Service) → EncodesIn version config bytes s → (n : ℕ) (replies : List Reply) (r1 r2 : List ℕ) → n < 2 ^ 48 → bytes ≡ (version_number version ∷ [] ++ u64_bytes n) ++ r1
    → AreLastReplies config.clients n replies → r1 ≡ encoded_replies replies ++ r2 → r2 ≡ u32_bytes (length s.tenants) ++ flat_map (encoded_tenant version) s.tenants
replies_determined version config bytes s is n replies r1 r2 below e fits text =
    let determined = number_determined version config bytes s is n r1 below e in
    let mine = fit_replies version config bytes s is n determined.0 in
    (free_list encoded_reply (IsFit n) (free_fit n (omega (arith, below))) replies (last_replies_of s) r2 (u32_bytes (length s.tenants) ++ flat_map (encoded_tenant version) s.tenants)
    (omega (arith, fits.0.0), fits.0.1) (omega (arith, mine.0.0), mine.0.1) (sym text ∙ determined.1)).1

parts_of : (version : Version) (config : Configuration) (bytes : List ℕ) (s : Service) → EncodesIn version config bytes s → ArePartsOf version (tenants_of config.clients) s.tenants
parts_of version config bytes s is = subst (λ (c : Configuration). ArePartsOf version (tenants_of c.clients) s.tenants) is.config_is (
  is.bounded.same_tenants,
  λ k d lt. (
    ((is.bounded.tenants_in_range k d lt).procedures_in_range, λ i c below. ((is.bounded.tenants_in_range k d lt).codes_in_range i c below, (is.sound k d lt).accepted i c below, is.told k d lt i c below)),
    (is.bounded.tenants_in_range k d lt).entries_in_range,
  ),
)

pub begins_parts : (version : Version) (config : Configuration) (bytes : List ℕ) (s : Service) → EncodesIn version config bytes s → (n : ℕ) (replies : List Reply) (r1 r2 : List ℕ) → n < 2 ^ 48 → bytes ≡ (version_number version ∷ [] ++ u64_bytes n) ++ r1
    → AreLastReplies config.clients n replies → r1 ≡ encoded_replies replies ++ r2 → Begins (λ parts. u32_bytes (length parts) ++ flat_map (encoded_tenant version) parts) (ArePartsOf version (tenants_of config.clients)) r2
begins_parts version config bytes s is n replies r1 r2 below e fits text =
    (s.tenants, [], parts_of version config bytes s is, replies_determined version config bytes s is n replies r1 r2 below e fits text ∙ sym (append-nil (u32_bytes (length s.tenants) ++ flat_map (encoded_tenant version) s.tenants)))

-- nothing is behind the parts
pub ends : (version : Version) (config : Configuration) (bytes : List ℕ) (s : Service) → EncodesIn version config bytes s → (n : ℕ) (replies : List Reply) (parts : List TenantState) (r1 r2 r3 : List ℕ) → n < 2 ^ 48 → bytes ≡ (version_number version ∷ [] ++ u64_bytes n) ++ r1
    → AreLastReplies config.clients n replies → r1 ≡ encoded_replies replies ++ r2 → ArePartsOf version (tenants_of config.clients) parts → r2 ≡ (u32_bytes (length parts) ++ flat_map (encoded_tenant version) parts) ++ r3 → r3 ≡ []
ends version config bytes s is n replies parts r1 r2 r3 below e fits text are here =
    let mine = parts_of version config bytes s is in
    let determined = replies_determined version config bytes s is n replies r1 r2 below e fits text in
    let behind = same_length (u32_bytes (length parts)) (u32_bytes (length s.tenants)) (flat_map (encoded_tenant version) parts ++ r3) (flat_map (encoded_tenant version) s.tenants) (four_long (length parts) (length s.tenants))
    (sym (append_assoc (u32_bytes (length parts)) (flat_map (encoded_tenant version) parts) r3) ∙ sym here ∙ determined) in
    free_parts version parts s.tenants r3 [] (are.0 ∙ sym mine.0) are.1 mine.1 (behind.1 ∙ sym (append-nil (flat_map (encoded_tenant version) s.tenants)))
