-- What stands in the bytes of a tenant, and in those of several.
use Rattle.std.proofs.Common.{◌≡◌, ℕ, ◌+◌, ◌^◌, ◌<◌, ◌≤◌, List, [], ◌∷◌, ◌++◌, length, take, drop, get_or, map, Result, Ok, Err, refl, sym, ap, subst, ◌∙◌, append_assoc, arith}
use Rattle.std.specs.Prelude.{flat_map, All}
use Rattle.std.proofs.lemmas.List.{append-nil, take_more, take_all, map-append, drop_more, take-append-drop, length-map}
use Rattle.std.proofs.lemmas.List.Elements.{All-head, All-tail, All-nil, All-cons, All-append}
use Rattle.std.proofs.lemmas.Grind.{flat_map-append}
use Rattle.host_types.specs.declared.TenantId.{TenantId}
use Rattle.host_types.specs.declared.config.ClientEntry.{ClientEntry}
use Rattle.host_types.specs.declared.request.Reply.{Reply}
use Rattle.service_core.specs.declared.state_fault.StateFault.{StateFault}
use Rattle.service_core.specs.declared.state_fault.StateFault.TheVariants.{BadState, Memory}
use Rattle.service_model.specs.declared.version.Version.{Version}
use Rattle.service_model.specs.Words.{u32_bytes}
use Rattle.service_model.specs.TenantStates.{Procedure, TenantState, replies_of}
use Rattle.service_model.specs.Encoding.{encoded_procedure, encoded_procedures, encoded_entries, encoded_tenant}
use Rattle.service_core.specs.Readings.{Begins, Reads, IsProcedureIn, AreProcedures, Contents, AreContents, encoded_contents, ArePartsOf, HaveReplies, replies_to_tenant}
use Rattle.service_model.proofs.PrefixFree.{same_length, free_four, free_list}
use Rattle.service_model.proofs.Injective.{four_long, entries_free}
use Rattle.service_core.proofs.ProceduresRead.{free_in}

regrouped : (a b c r : List ℕ) → ((a ++ b) ++ c) ++ r ≡ a ++ (b ++ (c ++ r))
regrouped a b c r = simp append_assoc

free_procedures : (version : Version) (xs ys : List Procedure) (r t : List ℕ) → AreProcedures version xs → AreProcedures version ys → encoded_procedures version xs ++ r ≡ encoded_procedures version ys ++ t → (xs ≡ ys) × (r ≡ t)
free_procedures version xs ys r t fx fy h = free_list (encoded_procedure version) (IsProcedureIn version) (free_in version) xs ys r t (omega (arith, fx.0), fx.1) (omega (arith, fy.0), fy.1) h

-- the rest of a tenant's bytes behind its id, and behind its procedures
abbrev pub BehindId : Version → List ℕ → Type 0
BehindId version rest = (x : Contents) × (more : List ℕ) × AreContents version x × (rest ≡ encoded_procedures version x.0 ++ (encoded_entries x.1 ++ more))

pub behind_id : (version : Version) (tenant id : ℕ) (bytes rest : List ℕ) → tenant < 2 ^ 32 → id < 2 ^ 32 → bytes ≡ u32_bytes id ++ rest → Begins (encoded_contents version tenant) (AreContents version) bytes → (id ≡ tenant) × BehindId version rest
behind_id version tenant id bytes rest few lt e (x, more, fits, h) =
    let one = free_four id tenant rest _ lt few (sym e ∙ h ∙ regrouped (u32_bytes tenant) (encoded_procedures version x.0) (encoded_entries x.1) more) in
    (one.0, (x, more, fits, one.1))

pub begins_procedures : (version : Version) (rest : List ℕ) → BehindId version rest → Begins (encoded_procedures version) (AreProcedures version) rest
begins_procedures version rest (x, more, fits, e) = (x.0, encoded_entries x.1 ++ more, fits.0, e)

pub begins_entries : (version : Version) (rest after : List ℕ) (procedures : List Procedure) → AreProcedures version procedures → rest ≡ encoded_procedures version procedures ++ after → (y : BehindId version rest) → after ≡ encoded_entries y.0.1 ++ y.1
begins_entries version rest after procedures fits e y = (free_procedures version procedures y.0.0 after _ fits y.2.0 (sym e ∙ y.3)).1

-- what is behind the bytes of one tenant
pub free_part : (version : Version) (x y : TenantState) (r t : List ℕ) → x.tenant ≡ y.tenant → AreContents version (x.procedures, x.entries) → AreContents version (y.procedures, y.entries) → encoded_tenant version x ++ r ≡ encoded_tenant version y ++ t → r ≡ t
free_part version x y r t same fx fy h =
    let id = same_length (u32_bytes x.tenant) (u32_bytes y.tenant) (encoded_procedures version x.procedures ++ (encoded_entries x.entries ++ r)) (encoded_procedures version y.procedures ++ (encoded_entries y.entries ++ t)) (four_long x.tenant y.tenant)
    (sym (regrouped (u32_bytes x.tenant) (encoded_procedures version x.procedures) (encoded_entries x.entries) r) ∙ h ∙ regrouped (u32_bytes y.tenant) (encoded_procedures version y.procedures) (encoded_entries y.entries) t) in
    let procedures = free_procedures version x.procedures y.procedures (encoded_entries x.entries ++ r) (encoded_entries y.entries ++ t) fx.0 fy.0 id.1 in
    (entries_free x.entries y.entries r t fx.1 fy.1 procedures.1).1

abbrev pub IsPart : Version → TenantState → Type 0
IsPart version part = AreContents version (part.procedures, part.entries)

abbrev pub ids_of : List TenantState → List ℕ
ids_of parts = map (λ part. part.tenant) parts

-- where one tenant more is to come, the rest begins with it
next_part : (version : Version) (xs ys : List TenantState) (tenant : ℕ) (others : List ℕ) (rest more : List ℕ) → ids_of ys ≡ ids_of xs ++ tenant ∷ others → All (IsPart version) xs → All (IsPart version) ys
    → flat_map (encoded_tenant version) xs ++ rest ≡ flat_map (encoded_tenant version) ys ++ more → Begins (encoded_contents version tenant) (AreContents version) rest
next_part version [] [] tenant others rest more ids fx fy h = absurd cc
next_part version [] (y ∷ ys) tenant others rest more ids fx fy h =
    let one : y.tenant ≡ tenant = cc in
    ((y.procedures, y.entries), flat_map (encoded_tenant version) ys ++ more, All-head (IsPart version) y ys fy, h ∙ append_assoc (encoded_tenant version y) (flat_map (encoded_tenant version) ys) more ∙ ap (λ (id : ℕ). encoded_contents version id (y.procedures, y.entries) ++ (flat_map (encoded_tenant version) ys ++ more)) one)
next_part version (x ∷ xs) [] tenant others rest more ids fx fy h = absurd cc
next_part version (x ∷ xs) (y ∷ ys) tenant others rest more ids fx fy h =
    let one : x.tenant ≡ y.tenant = cc in
    let later : ids_of ys ≡ ids_of xs ++ tenant ∷ others = cc in
    let behind = free_part version x y (flat_map (encoded_tenant version) xs ++ rest) (flat_map (encoded_tenant version) ys ++ more) one (All-head (IsPart version) x xs fx) (All-head (IsPart version) y ys fy)
    (sym (append_assoc (encoded_tenant version x) (flat_map (encoded_tenant version) xs) rest) ∙ h ∙ append_assoc (encoded_tenant version y) (flat_map (encoded_tenant version) ys) more) in
    next_part version xs ys tenant others rest more later (All-tail (IsPart version) x xs fx) (All-tail (IsPart version) y ys fy) behind

-- what is behind the bytes of all tenants
pub free_parts : (version : Version) (xs ys : List TenantState) (rest more : List ℕ) → ids_of xs ≡ ids_of ys → All (IsPart version) xs → All (IsPart version) ys → flat_map (encoded_tenant version) xs ++ rest ≡ flat_map (encoded_tenant version) ys ++ more → rest ≡ more
free_parts version [] [] rest more ids fx fy h = h
free_parts version [] (y ∷ ys) rest more ids fx fy h = absurd cc
free_parts version (x ∷ xs) [] rest more ids fx fy h = absurd cc
free_parts version (x ∷ xs) (y ∷ ys) rest more ids fx fy h =
    let one : x.tenant ≡ y.tenant = cc in
    let later : ids_of xs ≡ ids_of ys = cc in
    let behind = free_part version x y (flat_map (encoded_tenant version) xs ++ rest) (flat_map (encoded_tenant version) ys ++ more) one (All-head (IsPart version) x xs fx) (All-head (IsPart version) y ys fy)
    (sym (append_assoc (encoded_tenant version x) (flat_map (encoded_tenant version) xs) rest) ∙ h ∙ append_assoc (encoded_tenant version y) (flat_map (encoded_tenant version) ys) more) in
    free_parts version xs ys rest more later (All-tail (IsPart version) x xs fx) (All-tail (IsPart version) y ys fy) behind

-- ---- part after part

abbrev pub Keeps : List ClientEntry → List Reply → TenantState → Type 0
Keeps clients replies part = part.last_replies ≡ replies_of (replies_to_tenant clients part.tenant replies)

abbrev pub number : TenantId → ℕ
number tenant = tenant.0

-- the parts of the first tenants were read
pub record PartsRead (version : Version) (clients : List ClientEntry) (replies : List Reply) (tenants : List TenantId) (bytes : List ℕ) (parts : List TenantState) (index : ℕ) (rest : List ℕ) : Type 0 where
  pub text : bytes ≡ flat_map (encoded_tenant version) parts ++ rest
  pub ids : ids_of parts ≡ map number (take index tenants)
  pub fits : All (IsPart version) parts
  pub keeps : HaveReplies clients replies parts

module _ (version : Version) (clients : List ClientEntry) (replies : List Reply) (tenants : List TenantId) (bytes : List ℕ) where
  pub parts_none : (parts : List TenantState) → parts ≡ [] → PartsRead version clients replies tenants bytes parts 0 bytes
  parts_none parts e = subst (λ (ps : List TenantState). PartsRead version clients replies tenants bytes ps 0 bytes) (sym e)
      (record { text = refl; ids = refl; fits = All-nil (IsPart version); keeps = All-nil (Keeps clients replies) })

  module _ (parts : List TenantState) (index : ℕ) (rest : List ℕ) (h : PartsRead version clients replies tenants bytes parts index rest) (d : TenantId) (lt : index < length tenants) where
    pub parts_more : (more : List TenantState) (part : TenantState) (after : List ℕ) → more ≡ parts ++ part ∷ [] → part.tenant ≡ (get_or tenants index d).0 → AreContents version (part.procedures, part.entries)
        → rest ≡ encoded_contents version (get_or tenants index d).0 (part.procedures, part.entries) ++ after → Keeps clients replies part → PartsRead version clients replies tenants bytes more (index + 1) after
    parts_more more part after e same fits text keeps = subst (λ (ps : List TenantState). PartsRead version clients replies tenants bytes ps (index + 1) after) (sym e) (record {
      text = h.text ∙ ap (λ (r : List ℕ). flat_map (encoded_tenant version) parts ++ r) (text ∙ ap (λ (id : ℕ). encoded_contents version id (part.procedures, part.entries) ++ after) (sym same)) ∙ sym (append_assoc (flat_map (encoded_tenant version) parts) (encoded_tenant version part) after)
          ∙ ap (λ (t : List ℕ). t ++ after) (ap (λ (t : List ℕ). flat_map (encoded_tenant version) parts ++ t) (sym (append-nil (encoded_tenant version part))) ∙ sym (flat_map-append (encoded_tenant version) parts (part ∷ [])));
      ids = map-append (λ (p : TenantState). p.tenant) parts (part ∷ []) ∙ ap (λ (ns : List ℕ). ns ++ part.tenant ∷ []) h.ids ∙ ap (λ (n : ℕ). map number (take index tenants) ++ n ∷ []) same
          ∙ sym (ap (map number) (take_more tenants index d lt) ∙ map-append number (take index tenants) (get_or tenants index d ∷ []));
      fits = All-append (IsPart version) parts (part ∷ []) h.fits (All-cons (IsPart version) part [] fits (All-nil (IsPart version)));
      keeps = All-append (Keeps clients replies) parts (part ∷ []) h.keeps (All-cons (Keeps clients replies) part [] keeps (All-nil (Keeps clients replies)));
    })

    pub parts_begin : Begins (flat_map (encoded_tenant version)) (ArePartsOf version tenants) bytes → Begins (encoded_contents version (get_or tenants index d).0) (AreContents version) rest
    parts_begin (ys, more, fits, e) =
        next_part version parts ys (get_or tenants index d).0 (map number (drop (index + 1) tenants)) rest more (
        fits.0 ∙ ap (map number) (sym (take-append-drop index tenants) ∙ ap (λ (us : List TenantId). take index tenants ++ us) (drop_more tenants index d lt))
        ∙ map-append number (take index tenants) (get_or tenants index d ∷ drop (index + 1) tenants)
        ∙ ap (λ (ns : List ℕ). ns ++ (get_or tenants index d).0 ∷ map number (drop (index + 1) tenants)) (sym h.ids)
        ) h.fits fits.1 (sym h.text ∙ e)

  pub parts_all : (parts : List TenantState) (index : ℕ) (rest : List ℕ) → PartsRead version clients replies tenants bytes parts index rest → length tenants ≤ index → ArePartsOf version tenants parts × (bytes ≡ flat_map (encoded_tenant version) parts ++ rest)
  parts_all parts index rest h over = ((h.ids ∙ ap (map number) (take_all index tenants over), h.fits), h.text)

-- all parts after their count
pub length_prefixed_parts : {R : Type 0} (view : R → List TenantState × List ℕ) (version : Version) (tenants : List TenantId) (count : ℕ) (bytes rest : List ℕ) (result : Result R StateFault) → count < 2 ^ 32 → count ≡ length tenants → bytes ≡ u32_bytes count ++ rest
    → Reads view (flat_map (encoded_tenant version)) (ArePartsOf version tenants) rest result → Reads view (λ parts. u32_bytes (length parts) ++ flat_map (encoded_tenant version) parts) (ArePartsOf version tenants) bytes result
length_prefixed_parts view version tenants count bytes rest (Ok r) few same e h =
    let parts = (view r).0 in
    let all : count ≡ length parts = same ∙ many tenants parts h.0.0 in
    (h.0, e ∙ ap (λ (t : List ℕ). u32_bytes count ++ t) h.1 ∙ sym (append_assoc (u32_bytes count) (flat_map (encoded_tenant version) parts) (view r).1) ∙ ap (λ (k : ℕ). (u32_bytes k ++ flat_map (encoded_tenant version) parts) ++ (view r).1) all) where
      many : (us : List TenantId) (ps : List TenantState) → ids_of ps ≡ map number us → length us ≡ length ps
      many us ps h = sym (sym (length-map ps (λ (p : TenantState). p.tenant)) ∙ ap length h ∙ length-map us number)
length_prefixed_parts view version tenants count bytes rest (Err BadState) few same e h = λ begins.
    let parts = begins.0 in
    let one = same_length (u32_bytes count) (u32_bytes (length parts)) rest (flat_map (encoded_tenant version) parts ++ begins.1) (four_long count (length parts)) (sym e ∙ begins.3 ∙ append_assoc (u32_bytes (length parts)) (flat_map (encoded_tenant version) parts) begins.1) in
    h (parts, begins.1, begins.2, one.1)
length_prefixed_parts view version tenants count bytes rest (Err Memory) few same e h = tt

-- another count is none of them
pub other_count : (version : Version) (tenants : List TenantId) (count : ℕ) (bytes rest : List ℕ) → count < 2 ^ 32 → length tenants < 2 ^ 32 → (count ≡ length tenants → ⊥) → bytes ≡ u32_bytes count ++ rest
    → Begins (λ parts. u32_bytes (length parts) ++ flat_map (encoded_tenant version) parts) (ArePartsOf version tenants) bytes → ⊥
other_count version tenants count bytes rest lt few differs e (parts, more, fits, h) =
    let many : length parts ≡ length tenants = sym (length-map parts (λ (p : TenantState). p.tenant)) ∙ ap length fits.0 ∙ length-map tenants number in
    let one = free_four count (length parts) rest (flat_map (encoded_tenant version) parts ++ more) lt (omega (arith, many, few)) (sym e ∙ h ∙ append_assoc (u32_bytes (length parts)) (flat_map (encoded_tenant version) parts) more) in
    differs (one.0 ∙ many)
