-- The service's step has one outcome.
use Rattle.std.proofs.Common.{◌≡◌, refl, ◌⊎◌, ℕ, ◌+◌, Bool, true, false, List, [], ◌∷◌, ◌++◌, length, Option, Some, None, sym, ap, subst, ◌∙◌, arith, inl, inr}
use Rattle.std.specs.Prelude.{MatchBool, MatchOption, slice_get, nat_lt, nat_le, nat_eq}
use Rattle.std.specs.FinMap as finite
use Rattle.bpf_model.specs.Insn.{Insn}
use Rattle.bpf_model.proofs.Encodings.{same_code}
use Rattle.bpf_model.specs.Machine.{Machine, Call, start}
use Rattle.bpf_model.specs.Step.{Ends, step}
use Rattle.bpf_model.specs.Run.{Run, Ending, EndsSo}
use Rattle.bpf_model.specs.Verdict.{AcceptsUnder}
use Rattle.bpf_model.proofs.Options.{some_is}
use Rattle.bpf_model.proofs.Runs.{run_within, same_run}
use Rattle.tenant_maps.specs.Entries.{Entries}
use Rattle.host_types.specs.declared.request.Request.{Request}
use Rattle.host_types.specs.declared.request.Reply.{Reply}
use Rattle.service_model.specs.declared.outcome.Outcome.{Outcome}
use Rattle.service_model.specs.Operations.{Operation, Install, Call as CallOf, Bad, operation_of, Installs, Calls, Runs, Does, installed, called, refused, no_procedure, too_many_procedures, arguments_too_long}
use Rattle.service_model.specs.TenantStates.{Procedure, TenantState, Service, with_tenant}
use Rattle.service_model.specs.Steps.{reply_to, Executes, IsTenantStep, IsStep, Follows}

ends_is : (x y : ℕ) → Some (Ends x) ≡ Some (Ends y) → x ≡ y
ends_is x y e = cc

-- a call ends in one way
same_ending : (code : List Insn) (call : Call) (a b : Ending) → EndsSo code call a → EndsSo code call b → a ≡ b
same_ending code call a b ea eb =
    let n : ea.before ≡ eb.before = omega (arith, run_within code call b ea.before ea.last eb ea.run, run_within code call a eb.before eb.last ea eb.run, ea.steps, eb.steps) in
    let last : ea.last ≡ eb.last = same_run code (start call) eb.before ea.last eb.last (subst (λ (k : ℕ). Run code (start call) k ea.last) n ea.run) eb.run in
    let value : a.value ≡ b.value = ends_is a.value b.value (sym ea.exits ∙ ap (step code) last ∙ eb.exits) in
    let output : a.output ≡ b.output = ea.output ∙ ap (λ (m : Machine). m.output) last ∙ sym eb.output in
    let entries : a.entries ≡ b.entries = ea.entries ∙ ap (λ (m : Machine). m.entries) last ∙ sym eb.entries in
    let steps : a.steps ≡ b.steps = ea.steps ∙ ap (λ (k : ℕ). k + 1) n ∙ sym eb.steps in
    λ i. record { value = value i; output = output i; entries = entries i; steps = steps i }

same_runs : (client : ℕ) (code arguments : List ℕ) (entries after after' : Entries) (result result' : List ℕ) → Runs client code arguments entries after result → Runs client code arguments entries after' result'
    → (after ≡ after') × (result ≡ result')
same_runs client code arguments entries after after' result result' a b =
    let call : Call = record { arguments = arguments; client = client; entries = entries } in
    let insns = same_code code a.insns b.insns a.is_code b.is_code in
    let ending = same_ending b.insns call a.ending b.ending (subst (λ (is : List Insn). EndsSo is call a.ending) insns a.ends) b.ends in (
      a.entries_are ∙ ap (λ (e : Ending). e.entries) ending ∙ sym b.entries_are,
      a.result_is ∙ ap (λ (e : Ending). called e.value e.output) ending ∙ sym b.result_is,
    )

zip_bool : (b : Bool) (P P' Q Q' C : Type 0) → (P → P' → C) → (Q → Q' → C) → MatchBool b P Q → MatchBool b P' Q' → C
zip_bool true P P' Q Q' C one two h h' = one h h'
zip_bool false P P' Q Q' C one two h h' = two h h'

zip_option : {X : Type 0} (o : Option X) (P P' C : Type 0) (Q Q' : X → Type 0) → (P → P' → C) → ((x : X) → Q x → Q' x → C) → MatchOption o P Q → MatchOption o P' Q' → C
zip_option None P P' C Q Q' one two h h' = one h h'
zip_option (Some x) P P' C Q Q' one two h h' = two x h h'

same_calls : (client : ℕ) (procedures : List Procedure) (id : ℕ) (arguments : List ℕ) (entries after after' : Entries) (result result' : List ℕ)
    → Calls client procedures id arguments entries after result → Calls client procedures id arguments entries after' result' → (after ≡ after') × (result ≡ result')
same_calls client procedures id arguments entries after after' result result' a b =
    zip_option (slice_get procedures id) _ _ _ _ _
    (λ (x : (after ≡ entries) × (result ≡ no_procedure)) (y : (after' ≡ entries) × (result' ≡ no_procedure)). (x.0 ∙ sym y.0, x.1 ∙ sym y.1))
    (λ procedure. zip_bool (nat_lt 256 (length arguments)) _ _ _ _ _
    (λ (x : (after ≡ entries) × (result ≡ arguments_too_long)) (y : (after' ≡ entries) × (result' ≡ arguments_too_long)). (x.0 ∙ sym y.0, x.1 ∙ sym y.1))
    (same_runs client procedure.code arguments entries after after' result result')) a b

same_installs : (procedures : List Procedure) (new : Procedure) (after after' : List Procedure) (result result' : List ℕ)
    → Installs procedures new after result → Installs procedures new after' result' → (after ≡ after') × (result ≡ result')
same_installs procedures new after after' result result' a b =
    zip_bool (nat_le 64 (length procedures)) _ _ _ _ _
    (λ (x : (after ≡ procedures) × (result ≡ too_many_procedures)) (y : (after' ≡ procedures) × (result' ≡ too_many_procedures)). (x.0 ∙ sym y.0, x.1 ∙ sym y.1))
    cases a b where
      cases : ((bound : ℕ) × AcceptsUnder new.profile new.code bound × (after ≡ procedures ++ new ∷ []) × (result ≡ installed (length procedures))) ⊎ (((bound : ℕ) → AcceptsUnder new.profile new.code bound → ⊥) × (after ≡ procedures) × (result ≡ refused))
          → ((bound : ℕ) × AcceptsUnder new.profile new.code bound × (after' ≡ procedures ++ new ∷ []) × (result' ≡ installed (length procedures))) ⊎ (((bound : ℕ) → AcceptsUnder new.profile new.code bound → ⊥) × (after' ≡ procedures) × (result' ≡ refused))
          → (after ≡ after') × (result ≡ result')
      cases (inl p) (inl q) = (p.2 ∙ sym q.2, p.3 ∙ sym q.3)
      cases (inl p) (inr q) = absurd (q.0 p.0 p.1)
      cases (inr p) (inl q) = absurd (p.0 q.0 q.1)
      cases (inr p) (inr q) = (p.1 ∙ sym q.1, p.2 ∙ sym q.2)

same_does : (client : ℕ) (op : Operation) (procedures : List Procedure) (entries : Entries) (p p' : List Procedure) (e e' : Entries) (result result' : List ℕ)
    → Does client op procedures entries p e result → Does client op procedures entries p' e' result' → (p ≡ p') × (e ≡ e') × (result ≡ result')
same_does client (Install profile code) procedures entries p p' e e' result result' a b =
    let same = same_installs procedures (record { profile = profile; code = code }) p p' result result' a.0 b.0 in
    (same.0, a.1 ∙ sym b.1, same.1)
same_does client (CallOf id arguments) procedures entries p p' e e' result result' a b =
    let same = same_calls client procedures id arguments entries e e' result result' a.0 b.0 in
    (a.1 ∙ sym b.1, same.0, same.1)
same_does client Bad procedures entries p p' e e' result result' a b = (a.0 ∙ sym b.0, a.1 ∙ sym b.1, a.2 ∙ sym b.2)

same_executes : (number : ℕ) (part : TenantState) (request : Request) (after after' : TenantState) (reply reply' : Option Reply) (kept kept' : Bool)
    → Executes number part request after reply kept → Executes number part request after' reply' kept' → (after ≡ after') × (reply ≡ reply') × (kept ≡ kept')
same_executes number part request after after' reply reply' kept kept' a b =
    let same = same_does request.client.0 (operation_of request.op) part.procedures part.entries a.procedures b.procedures a.entries b.entries a.result b.result a.does b.does in
    let made : (ps : List Procedure) (es : Entries) (r : List ℕ) → TenantState = λ ps es r. record { tenant = part.tenant; procedures = ps; entries = es; last_replies = finite.insert part.last_replies request.client.0 (reply_to request number r) } in (
      a.part_is ∙ (λ i. made (same.0 i) (same.1 i) (same.2 i)) ∙ sym b.part_is,
      a.reply_is ∙ ap (λ (r : List ℕ). Some (reply_to request number r)) same.2 ∙ sym b.reply_is,
      a.is_new ∙ sym b.is_new,
    )

pub same_tenant_step : (number : ℕ) (part : TenantState) (request : Request) (after after' : TenantState) (reply reply' : Option Reply) (kept kept' : Bool)
    → IsTenantStep number part request after reply kept → IsTenantStep number part request after' reply' kept' → (after ≡ after') × (reply ≡ reply') × (kept ≡ kept')
same_tenant_step number part request after after' reply reply' kept kept' a b =
    let same = same_executes number part request after after' reply reply' kept kept' in
    zip_option (finite.get part.last_replies request.client.0) _ _ _ _ _ same
    (λ last. zip_bool (nat_lt request.time last.time) _ _ _ _ _
    (λ (x : (after ≡ part) × (reply ≡ None) × (kept ≡ false)) (y : (after' ≡ part) × (reply' ≡ None) × (kept' ≡ false)). (x.0 ∙ sym y.0, x.1 ∙ sym y.1, x.2 ∙ sym y.2))
    (zip_bool (nat_eq request.time last.time) _ _ _ _ _
    (λ (x : (after ≡ part) × (reply ≡ Some last) × (kept ≡ true)) (y : (after' ≡ part) × (reply' ≡ Some last) × (kept' ≡ true)). (x.0 ∙ sym y.0, x.1 ∙ sym y.1, x.2 ∙ sym y.2))
    same)) a b

pub same_step : (state : Service) (request : Option Request) (after after' : Service) (outcome outcome' : Outcome)
    → IsStep state request after outcome → IsStep state request after' outcome' → (after ≡ after') × (outcome ≡ outcome')
same_step state None after after' outcome outcome' a b = (a.0 ∙ sym b.0, a.1 ∙ sym b.1)
same_step state (Some request) after after' outcome outcome' a b =
    let part : a.part ≡ b.part = some_is a.part b.part (sym a.is_part ∙ b.is_part) in
    let same = same_tenant_step (state.number + 1) b.part request a.changed b.changed outcome.reply outcome'.reply outcome.kept outcome'.kept
    (subst (λ (p : TenantState). IsTenantStep (state.number + 1) p request a.changed outcome.reply outcome.kept) part a.step) b.step in
    let number : outcome.number.0 ≡ outcome'.number.0 = a.number_is ∙ sym b.number_is in (
      a.state_is ∙ ap (λ (p : TenantState). let s : Service = record { config = state.config; number = state.number + 1; tenants = with_tenant p state.tenants } in s) same.0 ∙ sym b.state_is,
      λ i. record { number = record { 0 = number i }; reply = same.1 i; kept = same.2 i },
    )

pub same_follows : (state : Service) (requests : List (Option Request)) (after after' : Service) (outcomes outcomes' : List Outcome)
    → Follows state requests after outcomes → Follows state requests after' outcomes' → (after ≡ after') × (outcomes ≡ outcomes')
same_follows state [] after after' outcomes outcomes' a b = (a.0 ∙ sym b.0, a.1 ∙ sym b.1)
same_follows state (request ∷ requests) after after' outcomes outcomes' (mid, o, os, step, rest, is) (mid', o', os', step', rest', is') =
    let first = same_step state request mid mid' o o' step step' in
    let others = same_follows mid' requests after after' os os' (subst (λ (s : Service). Follows s requests after os) first.0 rest) rest' in
    (others.0, is ∙ (λ i. first.1 i ∷ others.1 i) ∙ sym is')

-- a step more
pub follows_more : (state : Service) (requests : List (Option Request)) (mid : Service) (outcomes : List Outcome) (request : Option Request) (after : Service) (outcome : Outcome)
    → Follows state requests mid outcomes → IsStep mid request after outcome → Follows state (requests ++ request ∷ []) after (outcomes ++ outcome ∷ [])
follows_more state [] mid outcomes request after outcome h step =
    (after, outcome, [], subst (λ (s : Service). IsStep s request after outcome) h.0 step, (refl, refl), ap (λ (os : List Outcome). os ++ outcome ∷ []) h.1)
follows_more state (first ∷ requests) mid outcomes request after outcome (next, o, os, one, rest, is) step =
    (next, o, os ++ outcome ∷ [], one, follows_more next requests mid os request after outcome rest step, ap (λ (all : List Outcome). all ++ outcome ∷ []) is)
