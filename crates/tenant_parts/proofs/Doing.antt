-- Operations that are done, case by case.
use Rattle.std.proofs.Common.{◌≡◌, ℕ, ◌<◌, ◌≤◌, Bool, true, false, List, [], ◌∷◌, ◌++◌, length, get_or, map, Option, Some, None, sym, ap, subst, ◌∙◌, arith, inl, inr}
use Rattle.std.specs.Prelude.{MatchBool, MatchOption, slice_get, option_map}
use Rattle.std.proofs.lemmas.Bool.{le-leb, lt-leb, lt-ltb, le-ltb}
use Rattle.std.proofs.lemmas.List.{length-map}
use Rattle.std.proofs.lemmas.Option.{slice_get-map, slice_get-get_or, slice_get_past}
use Rattle.tenant_maps.specs.Entries.{Entries}
use Rattle.bpf_model.specs.Verdict.{AcceptsUnder}
use Rattle.bpf_model.specs.declared.profile.Profile.TheVariants.{One}
use Rattle.bpf_machine.specs.Verified.{Verified}
use Rattle.service_model.proofs.Matches.{match_true, match_false, match_none, match_some}
use Rattle.service_model.specs.TenantStates.{Procedure}
use Rattle.tenant_parts.specs.Procedures.{procedure_of}
use Rattle.service_model.specs.Operations.{Installs, Calls, Runs, installed, refused, no_procedure, too_many_procedures, arguments_too_long}

abbrev pub procedures_of : List Verified → List Procedure
procedures_of procedures = map procedure_of procedures

pub installs_too_many : (procedures after : List Procedure) (new : Procedure) (result : List ℕ) → 64 ≤ length procedures → after ≡ procedures → result ≡ too_many_procedures
    → Installs procedures new after result
installs_too_many procedures after new result h a r = match_true _ _ _ (le-leb 64 (length procedures) h) (a, r)

pub installs_refused : (procedures after : List Procedure) (new : Procedure) (result : List ℕ) → length procedures < 64 → ((bound : ℕ) → AcceptsUnder new.profile new.code bound → ⊥)
    → after ≡ procedures → result ≡ refused → Installs procedures new after result
installs_refused procedures after new result h none a r = match_false _ _ _ (lt-leb 64 (length procedures) h) (inr (none, a, r))

pub installs_accepted : (procedures after : List Procedure) (new : Procedure) (result : List ℕ) (bound : ℕ) → length procedures < 64 → AcceptsUnder new.profile new.code bound
    → after ≡ procedures ++ new ∷ [] → result ≡ installed (length procedures) → Installs procedures new after result
installs_accepted procedures after new result bound h accepts a r = match_false _ _ _ (lt-leb 64 (length procedures) h) (inl (bound, accepts, a, r))

procedure_at : (procedures : List Verified) (id : ℕ) (procedure : Verified) → id < length procedures → procedure ≡ get_or procedures id procedure → slice_get (procedures_of procedures) id ≡ Some (procedure_of procedure)
procedure_at procedures id procedure h is =
    slice_get-map procedure_of procedures id
    ∙ ap (option_map procedure_of) (slice_get-get_or procedures id procedure h)
    ∙ ap (λ (p : Verified). Some (procedure_of p)) (sym is)

pub calls_none : (client : ℕ) (procedures : List Verified) (id : ℕ) (arguments : List ℕ) (entries after : Entries) (result : List ℕ) → length procedures ≤ id
    → after ≡ entries → result ≡ no_procedure → Calls client (procedures_of procedures) id arguments entries after result
calls_none client procedures id arguments entries after result h a r =
    match_none _ _ _ (slice_get_past (procedures_of procedures) id (omega (arith, length-map procedures procedure_of))) (a, r)

pub calls_too_long : (client : ℕ) (procedures : List Verified) (id : ℕ) (arguments : List ℕ) (entries after : Entries) (result : List ℕ) → id < length procedures
    → 256 < length arguments → after ≡ entries → result ≡ arguments_too_long → Calls client (procedures_of procedures) id arguments entries after result
calls_too_long client procedures id arguments entries after result h long a r =
    match_some _ _ _ _ (slice_get-get_or (procedures_of procedures) id (record { profile = One; code = [] }) (omega (arith, length-map procedures procedure_of))) (match_true _ _ _ (lt-ltb 256 (length arguments) long) (a, r))

pub calls_runs : (client : ℕ) (procedures : List Verified) (id : ℕ) (arguments : List ℕ) (entries after : Entries) (result : List ℕ) (procedure : Verified) → id < length procedures
    → procedure ≡ get_or procedures id procedure → length arguments ≤ 256 → Runs client procedure.bytes arguments entries after result
    → Calls client (procedures_of procedures) id arguments entries after result
calls_runs client procedures id arguments entries after result procedure h is short runs =
    match_some _ _ _ _ (procedure_at procedures id procedure h is) (match_false _ _ _ (le-ltb 256 (length arguments) short) runs)
