-- Steps keep a state's bounds.
use Rattle.std.proofs.Common.{inl, inr, ◌≡◌, ◌⊎◌, ℕ, zero, suc, ◌+◌, ◌*◌, ◌%◌, ◌^◌, ◌<◌, ◌≤◌, Bool, true, false, cond, not, eqb, List, [], ◌∷◌, ◌++◌, length, take, drop, map, find, Option, Some, None, refl, sym, ap, subst, ◌∙◌, arith}
use Rattle.std.specs.Prelude.{MatchBool, MatchOption, All, IfSome, nat_le, nat_lt, nat_eq, option_and_then, ℤ}
use Rattle.std.specs.Int.{w32, w64}
use Rattle.std.specs.Ordering.{nat_cmp, eq_by_cmp}
use Rattle.std.specs.Cmp.{nat_cmp_total, unsigned_tied}
use Rattle.std.specs.Cmp.Lexicographic.{slice_cmp}
use Rattle.std.specs.FinMap as finite
use Rattle.std.proofs.lemmas.Bool.{eqb-true, eq-eqb, ltb-false, leb-false}
use Rattle.std.proofs.lemmas.List.{length-append, append-nil}
use Rattle.std.proofs.lemmas.List.Elements.{All-cons, All-head, All-tail, All-nil, All-push}
use Rattle.host_types.specs.declared.TenantId.{TenantId}
use Rattle.host_types.specs.declared.config.ClientEntry.{ClientEntry}
use Rattle.host_types.specs.declared.request.Request.{Request}
use Rattle.host_types.specs.declared.request.Reply.{Reply}
use Rattle.host_types.specs.Configuration.{Configuration, IsConfiguration, tenants_of, entry_of}
use Rattle.tenant_maps.specs.Entries.{Entries}
use Rattle.bpf_model.specs.Insn.{Insn}
use Rattle.bpf_model.specs.Helper.{Helper}
use Rattle.bpf_model.specs.Helper.TheVariants.{Get, Put, Del, Len, Next, Emit, Caller}
use Rattle.bpf_model.specs.Helpers.{key_at_r1, value_at_r2, reads}
use Rattle.bpf_model.specs.Effects.{effect_of}
use Rattle.bpf_model.proofs.BytesRead.{key_first, value_second}
use Rattle.bpf_model.proofs.Kept.{IsPutOf, entries_kept}
use Rattle.bpf_model.specs.Machine.{Machine, Call, start}
use Rattle.bpf_model.specs.HelperCalls.{bytes_read, context}
use Rattle.bpf_model.specs.Run.{Run, Ending, EndsSo}
use Rattle.bpf_model.specs.Verdict.{AcceptsUnder}
use Rattle.bpf_model.specs.declared.profile.Profile.{Profile}
use Rattle.bpf_model.proofs.Effects.{Keeps, step_keeps}
use Rattle.bpf_model.proofs.HelperCalls.{ReadAt, read_at, bytes_length}
use Rattle.bpf_model.proofs.Options.{no_fault, some_is}
use Rattle.service_model.specs.declared.outcome.Outcome.{Outcome}
use Rattle.service_model.specs.Words.{u32_bytes, u64_bytes}
use Rattle.service_model.specs.Operations.{Operation, Install, Call as CallOf, Bad, operation_of, Installs, Runs, Does, installed, called, refused, no_procedure, too_many_procedures, arguments_too_long, bad_operation}
use Rattle.service_model.specs.TenantStates.{Procedure, Replies, TenantState, Service, tenant_at, with_tenant, empty_tenant, genesis_of, last_reply_of}
use Rattle.service_model.specs.Steps.{reply_to, Executes, IsTenantStep, IsStep}
use Rattle.service_model.specs.Bounded.{IsSizedMap, IsBoundedReply, IsBoundedTenant, IsBounded}
use Rattle.service_model.proofs.Soundness.{one_of_bool, one_of_option, found_one, all_with_tenant}
use Rattle.service_model.proofs.TenantIndexes.{empty_tenants}
use Rattle.service_model.proofs.Injective.{found_has, last_bounded}

-- ---- a run keeps the lengths of keys and values, and the output within its limit

abbrev order : List ℕ → List ℕ → Rattle.std.specs.declared.cmp.Ordering.Ordering
order = slice_cmp nat_cmp

-- what a step leaves of the map and of the output
abbrev KeepsSizes : Machine → Machine → Type 0
KeepsSizes m next = Keeps IsSizedMap m next

same_sizes : (m next : Machine) → next.entries ≡ m.entries → next.output ≡ m.output → KeepsSizes m next
same_sizes m next e o = ((λ is. subst IsSizedMap (sym e) is), (λ short. subst (λ (xs : List ℕ). length xs ≤ 256) (sym o) short))

-- a put reads a key and a value of their lengths
puts_sized : (helper : Helper) (m : Machine) (bytes : List ℕ) → bytes_read m (reads helper) ≡ Some bytes → IsPutOf (λ key. length key ≡ 16) (λ value. length value ≡ 32) helper bytes
puts_sized Put m bytes e =
    let at : ReadAt m key_at_r1 (value_at_r2 ∷ []) bytes = read_at m key_at_r1 (value_at_r2 ∷ []) bytes e in
    let behind : ReadAt m value_at_r2 [] at.rest = read_at m value_at_r2 [] at.rest at.rest_is in
    let key : length at.first ≡ 16 = bytes_length m.memory at.address at.size at.first at.first_is ∙ sym (some_is 16 at.size at.size_is) in
    let value : length behind.first ≡ 32 = bytes_length m.memory behind.address behind.size behind.first behind.first_is ∙ sym (some_is 32 behind.size behind.size_is) in
    let none : [] ≡ behind.rest = some_is _ _ behind.rest_is in
    let rest : at.rest ≡ behind.first = behind.bytes_are ∙ ap (λ (xs : List ℕ). behind.first ++ xs) (sym none) ∙ append-nil behind.first in
    let first : take 16 bytes ≡ at.first = ap (take 16) at.bytes_are ∙ key_first at.first at.rest key in
    let second : drop 16 bytes ≡ behind.first = ap (drop 16) at.bytes_are ∙ value_second at.first at.rest key ∙ rest in
    (ap length first ∙ key, ap length second ∙ value)
puts_sized _ m bytes e = tt

answer_sized : (helper : Helper) (m : Machine) (bytes : List ℕ) → bytes_read m (reads helper) ≡ Some bytes → IsSizedMap m.entries → IsSizedMap (effect_of helper (context m) bytes).entries
answer_sized helper m bytes e is =
    let all = entries_kept (λ key. length key ≡ 16) (λ value. length value ≡ 32) helper (context m) bytes (record { keys = is.keys; values = is.values; count = is.count }) (puts_sized helper m bytes e) in
    record { keys = all.keys; values = all.values; count = all.count }

run_keeps : (code : List Insn) (first : Machine) (n : ℕ) (last : Machine) → Run code first n last → KeepsSizes first last
run_keeps code first zero last e = same_sizes first last (ap (λ (k : Machine). k.entries) (sym e)) (ap (λ (k : Machine). k.output) (sym e))
run_keeps code first (suc n) last (mid, run, e) =
    let before = run_keeps code first n mid run in
    let one = step_keeps IsSizedMap answer_sized code mid last e in
    ((λ has_sizes. one.0 (before.0 has_sizes)), (λ short. one.1 (before.1 short)))

ending_sized : (code : List Insn) (call : Call) (ending : Ending) → EndsSo code call ending → IsSizedMap call.entries → IsSizedMap ending.entries × (length ending.output ≤ 256)
ending_sized code call ending e is =
    let kept = run_keeps code (start call) e.before e.last e.run in
    (subst IsSizedMap (sym e.entries) (kept.0 is), subst (λ (xs : List ℕ). length xs ≤ 256) (sym e.output) (kept.1 (omega arith)))

-- ---- operations keep a tenant's bounds, and results are short

pub four_short : (n : ℕ) → length (u32_bytes n) ≡ 4
unfolding u32_bytes
four_short n = refl

pub eight_short : (n : ℕ) → length (u64_bytes n) ≡ 8
unfolding u64_bytes
eight_short n = refl

-- accepted code has at most 1,024 slots
accepted_short : (profile : Profile) (code : List ℕ) (bound : ℕ) → AcceptsUnder profile code bound → length code ≤ 8192
accepted_short profile code bound (insns, is, accepted) =
    let tests = no_fault (eqb (length code) 0) (not (eqb (length code % 8) 0)) (nat_lt (8 * 1024) (length code)) _ _ _ is.length_is in
    ltb-false 8192 (length code) tests.2

-- code of at most 1,024 slots
abbrev IsShort : Procedure → Type 0
IsShort procedure = length procedure.code ≤ 8192

-- what an operation leaves
record Within (procedures : List Procedure) (entries : Entries) (result : List ℕ) : Type 0 where
  few : length procedures ≤ 64
  codes : All IsShort procedures
  has_sizes : IsSizedMap entries
  short : length result ≤ 265

with_result : (procedures : List Procedure) (entries : Entries) (result text : List ℕ) → length procedures ≤ 64 → All IsShort procedures → IsSizedMap entries → result ≡ text → length text ≤ 265
    → Within procedures entries result
with_result procedures entries result text few codes has_sizes e short = record { few = few; codes = codes; has_sizes = has_sizes; short = subst (λ (r : List ℕ). length r ≤ 265) (sym e) short }

installs_within : (procedures : List Procedure) (new : Procedure) (after : List Procedure) (entries : Entries) (result : List ℕ) → length procedures ≤ 64 → All IsShort procedures → IsSizedMap entries
    → Installs procedures new after result → Within after entries result
installs_within procedures new after entries result few codes has_sizes h = cases (nat_le 64 (length procedures)) refl h where
  unchanged : (text : List ℕ) → length text ≤ 265 → after ≡ procedures → result ≡ text → Within after entries result
  unchanged text short a r = subst (λ (ps : List Procedure). Within ps entries result) (sym a) (with_result procedures entries result text few codes has_sizes r short)

  id : List ℕ
  id = installed (length procedures)

  decided : nat_le 64 (length procedures) ≡ false
      → ((bound : ℕ) × AcceptsUnder new.profile new.code bound × (after ≡ procedures ++ new ∷ []) × (result ≡ installed (length procedures))) ⊎ (((bound : ℕ) → AcceptsUnder new.profile new.code bound → ⊥) × (after ≡ procedures) × (result ≡ refused)) → Within after entries result
  decided room (inl x) = subst (λ (ps : List Procedure). Within ps entries result) (sym x.2)
      (with_result (procedures ++ new ∷ []) entries result id
      (omega (arith, length-append procedures (new ∷ []), leb-false 64 (length procedures) room))
      (All-push IsShort procedures new codes (accepted_short new.profile new.code x.0 x.1)) has_sizes x.3 (omega (arith, four_short (length procedures))))
  decided room (inr x) = unchanged refused (omega arith) x.1 x.2

  cases : (b : Bool) → nat_le 64 (length procedures) ≡ b → MatchBool b ((after ≡ procedures) × (result ≡ too_many_procedures))
      (((bound : ℕ) × AcceptsUnder new.profile new.code bound × (after ≡ procedures ++ new ∷ []) × (result ≡ installed (length procedures))) ⊎ (((bound : ℕ) → AcceptsUnder new.profile new.code bound → ⊥) × (after ≡ procedures) × (result ≡ refused))) → Within after entries result
  cases true is x = unchanged too_many_procedures (omega arith) x.0 x.1
  cases false is x = decided is x

runs_within : (client : ℕ) (procedures : List Procedure) (code arguments : List ℕ) (entries after : Entries) (result : List ℕ) → length procedures ≤ 64 → All IsShort procedures → IsSizedMap entries
    → Runs client code arguments entries after result → Within procedures after result
runs_within client procedures code arguments entries after result few codes has_sizes r =
    let kept = ending_sized r.insns (record { arguments = arguments; client = client; entries = entries }) r.ending r.ends has_sizes in
    with_result procedures after result (called r.ending.value r.ending.output) few codes (subst IsSizedMap (sym r.entries_are) kept.0) r.result_is
    (omega (arith, kept.1, eight_short r.ending.value, length-append (u64_bytes r.ending.value) r.ending.output))

does_within : (client : ℕ) (op : Operation) (procedures after : List Procedure) (entries entries' : Entries) (result : List ℕ) → length procedures ≤ 64 → All IsShort procedures → IsSizedMap entries
    → Does client op procedures entries after entries' result → Within after entries' result
does_within client (Install profile code) procedures after entries entries' result few codes has_sizes h =
    subst (λ (es : Entries). Within after es result) (sym h.1) (installs_within procedures (record { profile = profile; code = code }) after entries result few codes has_sizes h.0)
does_within client (CallOf id arguments) procedures after entries entries' result few codes has_sizes h =
    subst (λ (ps : List Procedure). Within ps entries' result) (sym h.1)
    (one_of_option (Rattle.std.specs.Prelude.slice_get procedures id) _ _ _
    (λ (x : (entries' ≡ entries) × (result ≡ no_procedure)). unchanged no_procedure (omega arith) x.0 x.1)
    (λ procedure. one_of_bool (nat_lt 256 (length arguments)) _ _ _
    (λ (x : (entries' ≡ entries) × (result ≡ arguments_too_long)). unchanged arguments_too_long (omega arith) x.0 x.1)
    (runs_within client procedures procedure.code arguments entries entries' result few codes has_sizes)) h.0) where
      unchanged : (text : List ℕ) → length text ≤ 265 → entries' ≡ entries → result ≡ text → Within procedures entries' result
      unchanged text short e r = subst (λ (es : Entries). Within procedures es result) (sym e) (with_result procedures entries result text few codes has_sizes r short)
does_within client Bad procedures after entries entries' result few codes has_sizes h =
    subst (λ (ps : List Procedure). Within ps entries' result) (sym h.0)
    (subst (λ (es : Entries). Within procedures es result) (sym h.1) (with_result procedures entries result bad_operation few codes has_sizes h.2 (omega arith)))

-- ---- a step keeps the bounds

reply_later : (n client : ℕ) (reply : Reply) → IsBoundedReply n client reply → IsBoundedReply (n + 1) client reply
reply_later n client reply b = record {
  own = b.own;
  client_in_range = b.client_in_range;
  time_in_range = b.time_in_range;
  not_null = b.not_null;
  not_later = omega (arith, b.not_later);
  result_in_range = b.result_in_range;
}

replies_later : (n : ℕ) (replies : Replies) → ((client : ℕ) → IfSome (finite.get replies client) (IsBoundedReply n client)) → (client : ℕ) → IfSome (finite.get replies client) (IsBoundedReply (n + 1) client)
replies_later n replies all client = cases (finite.get replies client) (all client) where
  cases : (o : Option Reply) → IfSome o (IsBoundedReply n client) → IfSome o (IsBoundedReply (n + 1) client)
  cases None h = tt
  cases (Some reply) h = reply_later n client reply h

tenant_later : (n : ℕ) (x : TenantState) → IsBoundedTenant n x → IsBoundedTenant (n + 1) x
tenant_later n x b = record {
  procedures_in_range = b.procedures_in_range;
  codes_in_range = b.codes_in_range;
  entries_in_range = b.entries_in_range;
  replies_in_range = replies_later n x.last_replies b.replies_in_range;
}

all_later : (n : ℕ) (xs : List TenantState) → All (IsBoundedTenant n) xs → All (IsBoundedTenant (n + 1)) xs
all_later n [] all = All-nil (IsBoundedTenant (n + 1))
all_later n (x ∷ xs) all =
    All-cons (IsBoundedTenant (n + 1)) x xs (tenant_later n x (All-head (IsBoundedTenant n) x xs all)) (all_later n xs (All-tail (IsBoundedTenant n) x xs all))

-- what a request's fields hold
abbrev pub IsRequestInRange : Request → Type 0
IsRequestInRange r = (r.client.0 < 2 ^ 32) × (r.time < 2 ^ 64)

executes_bounded : (n : ℕ) (x : TenantState) (request : Request) (after : TenantState) (reply : Option Reply) (kept : Bool) → IsRequestInRange request → IsBoundedTenant n x
    → Executes (n + 1) x request after reply kept → IsBoundedTenant (n + 1) after
executes_bounded n x request after reply kept range b e =
    let within = does_within request.client.0 (operation_of request.op) x.procedures e.procedures x.entries e.entries e.result b.procedures_in_range b.codes_in_range b.entries_in_range e.does in
    subst (IsBoundedTenant (n + 1)) (sym e.part_is) (record {
      procedures_in_range = within.few;
      codes_in_range = within.codes;
      entries_in_range = within.has_sizes;
      replies_in_range = replies within.short;
    }) where
      new : Reply
      new = reply_to request (n + 1) e.result

      mine : length e.result ≤ 265 → IsBoundedReply (n + 1) request.client.0 new
      mine short = record { own = refl; client_in_range = range.0; time_in_range = range.1; not_null = omega arith; not_later = omega arith; result_in_range = short }

      at : length e.result ≤ 265 → (q : ℕ) (same : Bool) → eq_by_cmp nat_cmp q request.client.0 ≡ same → IfSome (cond same (Some new) (finite.get x.last_replies q)) (IsBoundedReply (n + 1) q)
      at short q true is = subst (λ (k : ℕ). IsBoundedReply (n + 1) k new) (sym (eqb-true q request.client.0 (sym (unsigned_tied q request.client.0) ∙ is))) (mine short)
      at short q false is = replies_later n x.last_replies b.replies_in_range q

      replies : length e.result ≤ 265 → (q : ℕ) → IfSome (finite.get (finite.insert x.last_replies request.client.0 new) q) (IsBoundedReply (n + 1) q)
      replies short q = subst (λ (o : Option Reply). IfSome o (IsBoundedReply (n + 1) q)) (sym (finite.get-insert nat_cmp_total x.last_replies request.client.0 new q)) (at short q (eq_by_cmp nat_cmp q request.client.0) refl)

tenant_step_bounded : (n : ℕ) (x : TenantState) (request : Request) (after : TenantState) (reply : Option Reply) (kept : Bool) → IsRequestInRange request → IsBoundedTenant n x
    → IsTenantStep (n + 1) x request after reply kept → IsBoundedTenant (n + 1) after
tenant_step_bounded n x request after reply kept range b h =
    let same : after ≡ x → IsBoundedTenant (n + 1) after = λ e. subst (IsBoundedTenant (n + 1)) (sym e) (tenant_later n x b) in
    let done = executes_bounded n x request after reply kept range b in
    one_of_option (finite.get x.last_replies request.client.0) _ _ _ done
    (λ last. one_of_bool (nat_lt request.time last.time) _ _ _
    (λ (e : (after ≡ x) × (reply ≡ None) × (kept ≡ false)). same e.0)
    (one_of_bool (nat_eq request.time last.time) _ _ _ (λ (e : (after ≡ x) × (reply ≡ Some last) × (kept ≡ true)). same e.0) done)) h

-- the tenants' ids after one part was changed
pub ids_with_tenant : (changed : TenantState) (xs : List TenantState) → map (λ x. x.tenant) (with_tenant changed xs) ≡ map (λ x. x.tenant) xs
ids_with_tenant changed [] = refl
ids_with_tenant changed (x ∷ xs) = cases (eqb x.tenant changed.tenant) refl (ids_with_tenant changed xs) where
  cases : (b : Bool) → eqb x.tenant changed.tenant ≡ b → map (λ y. y.tenant) (with_tenant changed xs) ≡ map (λ y. y.tenant) xs
      → map (λ y. y.tenant) (cond b (changed ∷ xs) (x ∷ with_tenant changed xs)) ≡ x.tenant ∷ map (λ y. y.tenant) xs
  cases true e rest = ap (λ (k : ℕ). k ∷ map (λ y. y.tenant) xs) (sym (eqb-true x.tenant changed.tenant e))
  cases false e rest = ap (λ (ks : List ℕ). x.tenant ∷ ks) rest

found_bounded : (n : ℕ) (xs : List TenantState) (entry : Option ClientEntry) (x : TenantState) → All (IsBoundedTenant n) xs → option_and_then (λ e. tenant_at xs e.tenant.0) entry ≡ Some x → IsBoundedTenant n x
found_bounded n xs None x all e = absurd (cc)
found_bounded n xs (Some entry) x all e =
    subst (λ (o : Option TenantState). IfSome o (IsBoundedTenant n)) e (found_has (IsBoundedTenant n) (λ y. eqb y.tenant entry.tenant.0) xs all)

pub step_bounded : (s : Service) (request : Option Request) (t : Service) (o : Outcome) → IsBounded s → s.number + 1 < 2 ^ 48 → IfSome request IsRequestInRange → IsStep s request t o → IsBounded t
step_bounded s None t o b lt range h = subst IsBounded (sym h.0) (record {
  is_configuration = b.is_configuration;
  number_in_range = lt;
  same_tenants = b.same_tenants;
  tenants_in_range = all_later s.number s.tenants b.tenants_in_range;
})
step_bounded s (Some request) t o b lt range h =
    let part = found_bounded s.number s.tenants (entry_of s.config.clients request.client.0) h.part b.tenants_in_range h.is_part in
    let changed = tenant_step_bounded s.number h.part request h.changed o.reply o.kept range part h.step in
    subst IsBounded (sym h.state_is) (record {
      is_configuration = b.is_configuration;
      number_in_range = lt;
      same_tenants = ids_with_tenant h.changed s.tenants ∙ b.same_tenants;
      tenants_in_range = all_with_tenant (IsBoundedTenant (s.number + 1)) h.changed s.tenants changed (all_later s.number s.tenants b.tenants_in_range);
    })

empty_bounded : (tenants : List TenantId) → All (IsBoundedTenant 0) (map (λ tenant. empty_tenant tenant.0) tenants)
empty_bounded [] = All-nil (IsBoundedTenant 0)
empty_bounded (tenant ∷ tenants) = All-cons (IsBoundedTenant 0) (empty_tenant tenant.0) (map (λ u. empty_tenant u.0) tenants) nothing (empty_bounded tenants) where
  no_entries : (es : List (List ℕ × List ℕ)) → length es ≡ 0 → es ≡ []
  no_entries [] e = refl
  no_entries (x ∷ xs) e = absurd (omega (arith, e))

  none : finite.entries (finite.empty {K = List ℕ} {X = List ℕ} {R = order}) ≡ []
  none = no_entries _ (sym (finite.len-entries _) ∙ finite.len-empty order (List ℕ))

  nothing : IsBoundedTenant 0 (empty_tenant tenant.0)
  nothing = record {
    procedures_in_range = omega arith;
    codes_in_range = All-nil IsShort;
    entries_in_range = record {
      keys = subst (λ es. All (λ (key : List ℕ). length key ≡ 16) (map (λ e. e.0) es)) (sym none) (All-nil (λ (key : List ℕ). length key ≡ 16));
      values = subst (λ es. All (λ (value : List ℕ). length value ≡ 32) (map (λ e. e.1) es)) (sym none) (All-nil (λ (value : List ℕ). length value ≡ 32));
      count = omega (arith, finite.len-empty order (List ℕ));
    };
    replies_in_range = λ client. subst (λ (o : Option Reply). IfSome o (IsBoundedReply 0 client)) (sym (finite.get-empty nat_cmp client)) tt;
  }

pub genesis_bounded : (config : Configuration) → IsConfiguration config → IsBounded (genesis_of config)
genesis_bounded config is = record {
  is_configuration = is;
  number_in_range = omega arith;
  same_tenants = empty_tenants (tenants_of config.clients);
  tenants_in_range = empty_bounded (tenants_of config.clients);
}

-- ---- last replies

pub own_reply : (s : Service) → IsBounded s → (client : ℕ) (reply : Reply) → last_reply_of s client ≡ Some reply → reply.client.0 ≡ client
own_reply s b client reply e =
    let bounds = subst (λ (o : Option Reply). IfSome o (IsBoundedReply s.number client)) e (last_bounded s b client) in bounds.own

-- ---- the reply of a step is then the last one

pub step_tenant : (n : ℕ) (x : TenantState) (request : Request) (after : TenantState) (reply : Option Reply) (kept : Bool) → IsTenantStep n x request after reply kept → after.tenant ≡ x.tenant
step_tenant n x request after reply kept h =
    let done : Executes n x request after reply kept → after.tenant ≡ x.tenant = λ e. ap (λ (p : TenantState). p.tenant) e.part_is in
    one_of_option (finite.get x.last_replies request.client.0) _ _ _ done
    (λ last. one_of_bool (nat_lt request.time last.time) _ _ _
    (λ (e : (after ≡ x) × (reply ≡ None) × (kept ≡ false)). ap (λ (p : TenantState). p.tenant) e.0)
    (one_of_bool (nat_eq request.time last.time) _ _ _ (λ (e : (after ≡ x) × (reply ≡ Some last) × (kept ≡ true)). ap (λ (p : TenantState). p.tenant) e.0) done)) h

step_reply : (n : ℕ) (x : TenantState) (request : Request) (after : TenantState) (reply : Option Reply) (kept : Bool) (y : Reply) → IsTenantStep n x request after reply kept → reply ≡ Some y
    → finite.get after.last_replies request.client.0 ≡ Some y
step_reply n x request after reply kept y h is = cases (finite.get x.last_replies request.client.0) refl h where
  done : Executes n x request after reply kept → finite.get after.last_replies request.client.0 ≡ Some y
  done e =
      let new = reply_to request n e.result in
      ap (λ (p : TenantState). finite.get p.last_replies request.client.0) e.part_is
      ∙ finite.get-insert nat_cmp_total x.last_replies request.client.0 new request.client.0
      ∙ ap (λ (b : Bool). cond b (Some new) (finite.get x.last_replies request.client.0)) (unsigned_tied request.client.0 request.client.0 ∙ eq-eqb request.client.0 request.client.0 refl)
      ∙ sym e.reply_is ∙ is

  cases : (o : Option Reply) → finite.get x.last_replies request.client.0 ≡ o
      → MatchOption o (Executes n x request after reply kept)
      (λ last. MatchBool (nat_lt request.time last.time) ((after ≡ x) × (reply ≡ None) × (kept ≡ false))
      (MatchBool (nat_eq request.time last.time) ((after ≡ x) × (reply ≡ Some last) × (kept ≡ true)) (Executes n x request after reply kept)))
      → finite.get after.last_replies request.client.0 ≡ Some y
  cases None e k = done k
  cases (Some last) e k =
      one_of_bool (nat_lt request.time last.time) _ _ _
      (λ (z : (after ≡ x) × (reply ≡ None) × (kept ≡ false)). let bad : None ≡ Some y = sym z.1 ∙ is in absurd (cc))
      (one_of_bool (nat_eq request.time last.time) _ _ _
      (λ (z : (after ≡ x) × (reply ≡ Some last) × (kept ≡ true)). ap (λ (p : TenantState). finite.get p.last_replies request.client.0) z.0 ∙ e ∙ sym z.1 ∙ is) done) k

pub found_changed : (xs : List TenantState) (part changed : TenantState) → tenant_at xs changed.tenant ≡ Some part → tenant_at (with_tenant changed xs) changed.tenant ≡ Some changed
found_changed [] part changed e = absurd (cc)
found_changed (x ∷ xs) part changed e = cases (eqb x.tenant changed.tenant) refl (found_changed xs part changed) e where
  cases : (b : Bool) → eqb x.tenant changed.tenant ≡ b → (tenant_at xs changed.tenant ≡ Some part → tenant_at (with_tenant changed xs) changed.tenant ≡ Some changed)
      → cond b (Some x) (tenant_at xs changed.tenant) ≡ Some part → tenant_at (cond b (changed ∷ xs) (x ∷ with_tenant changed xs)) changed.tenant ≡ Some changed
  cases true is rest h = ap (λ (b : Bool). cond b (Some changed) (tenant_at xs changed.tenant)) (eq-eqb changed.tenant changed.tenant refl)
  cases false is rest h = ap (λ (b : Bool). cond b (Some x) (tenant_at (with_tenant changed xs) changed.tenant)) is ∙ rest h

changed_reply : (xs : List TenantState) (entry : Option ClientEntry) (client : ℕ) (part changed : TenantState) (y : Reply) → option_and_then (λ e. tenant_at xs e.tenant.0) entry ≡ Some part
    → changed.tenant ≡ part.tenant → finite.get changed.last_replies client ≡ Some y
    → option_and_then (λ p. finite.get p.last_replies client) (option_and_then (λ e. tenant_at (with_tenant changed xs) e.tenant.0) entry) ≡ Some y
changed_reply xs None client part changed y found same is = absurd (cc)
changed_reply xs (Some entry) client part changed y found same is =
    let passes : eqb part.tenant entry.tenant.0 ≡ true = found_passes (λ (p : TenantState). eqb p.tenant entry.tenant.0) xs part found in
    let id : changed.tenant ≡ entry.tenant.0 = same ∙ eqb-true part.tenant entry.tenant.0 passes in
    let here : tenant_at (with_tenant changed xs) changed.tenant ≡ Some changed = found_changed xs part changed (ap (tenant_at xs) id ∙ found) in
    ap (λ (o : Option TenantState). option_and_then (λ p. finite.get p.last_replies client) o) (ap (tenant_at (with_tenant changed xs)) (sym id) ∙ here) ∙ is where
      found_passes : (p : TenantState → Bool) (ys : List TenantState) (z : TenantState) → find p ys ≡ Some z → p z ≡ true
      found_passes p ys z e = (found_one (λ (_ : TenantState). Unit {0}) p ys z (λ k d h. tt) e).1

pub reply_is_last : (s : Service) (request : Request) (t : Service) (o : Outcome) (y : Reply) → IsStep s (Some request) t o → o.reply ≡ Some y → last_reply_of t request.client.0 ≡ Some y
reply_is_last s request t o y h is =
    ap (λ (u : Service). last_reply_of u request.client.0) h.state_is
    ∙ changed_reply s.tenants (entry_of s.config.clients request.client.0) request.client.0 h.part h.changed y h.is_part
    (step_tenant (s.number + 1) h.part request h.changed o.reply o.kept h.step) (step_reply (s.number + 1) h.part request h.changed o.reply o.kept y h.step is)
