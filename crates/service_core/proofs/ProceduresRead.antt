-- Procedures at the front of bytes.
use Rattle.std.proofs.Common.{◌≡◌, ℕ, ◌≤◌, ◌++◌, List, length, sym, ap, subst, ◌∙◌, append_assoc, arith}
use Rattle.service_model.specs.Verdict.{AcceptsUnder}
use Rattle.service_model.specs.Profile.{Profile}
use Rattle.service_core.specs.declared.state_fault.StateFault.{StateFault}
use Rattle.service_core.specs.declared.state_fault.StateFault.TheVariants.{BadState, Memory}
use Rattle.service_model.specs.declared.version.Version.{Version}
use Rattle.service_model.specs.Versions.{encoded_profile, IsTold}
use Rattle.service_model.specs.TenantStates.{Procedure}
use Rattle.service_model.specs.Encoding.{length_prefixed, encoded_procedure}
use Rattle.service_model.specs.Sound.{IsAcceptedProcedure}
use Rattle.service_core.specs.Readings.{Begins, Fails, IsProcedureIn}
use Rattle.service_model.proofs.PrefixFree.{IsPrefixFree, free_profile, free_procedure, free_length_prefixed}

pub free_in : (version : Version) → IsPrefixFree (encoded_procedure version) (IsProcedureIn version)
free_in version x y r t p q h = free_procedure version x y r t (omega (arith, p.0), p.2) (omega (arith, q.0), q.2) h

module _ (version : Version) (bytes : List ℕ) where
  -- what stands first is a profile, and code behind it
  pub begins_profile : Begins (encoded_procedure version) (IsProcedureIn version) bytes → Begins (encoded_profile version) (IsTold version) bytes
  begins_profile (x, more, fits, e) = (x.profile, length_prefixed x.code ++ more, fits.2, e ∙ append_assoc (encoded_profile version x.profile) (length_prefixed x.code) more)

  module _ (profile : Profile) (rest : List ℕ) (told : IsTold version profile) (text : bytes ≡ encoded_profile version profile ++ rest) where
    pub begins_code : Begins (encoded_procedure version) (IsProcedureIn version) bytes → Begins length_prefixed (λ code. length code ≤ 8192) rest
    begins_code (x, more, fits, e) =
        let behind = free_profile version profile x.profile rest (length_prefixed x.code ++ more) told fits.2
        (sym text ∙ e ∙ append_assoc (encoded_profile version x.profile) (length_prefixed x.code) more) in
        (x.code, more, fits.0, behind.1)

    -- code that is refused is that of no procedure
    pub refused_code : (code behind : List ℕ) (fault : StateFault) → length code ≤ 8192 → rest ≡ length_prefixed code ++ behind → ((bound : ℕ) → AcceptsUnder profile code bound → fault ≡ Memory)
        → Fails (encoded_procedure version) (IsProcedureIn version) bytes fault
    refused_code code behind BadState short e only = λ begins.
        let mine : Procedure = record { profile = profile; code = code } in
        let one = free_procedure version mine begins.0 behind begins.1 (omega (arith, short), told) (omega (arith, begins.2.0), begins.2.2) (sym whole ∙ begins.3) in
        let accepted : IsAcceptedProcedure mine = subst IsAcceptedProcedure (sym one.0) begins.2.1 in
        let no : BadState ≡ Memory = only accepted.0 accepted.1 in
        cc where
          whole : bytes ≡ encoded_procedure version (record { profile = profile; code = code }) ++ behind
          whole = text ∙ ap (λ (r : List ℕ). encoded_profile version profile ++ r) e ∙ sym (append_assoc (encoded_profile version profile) (length_prefixed code) behind)
    refused_code code behind Memory short e only = tt

    -- code that is accepted is that of a procedure
    pub procedure_read : (code behind : List ℕ) (procedure : Procedure) (bound : ℕ) → length code ≤ 8192 → rest ≡ length_prefixed code ++ behind
        → procedure ≡ record { profile = profile; code = code } → AcceptsUnder profile code bound
        → IsProcedureIn version procedure × (bytes ≡ encoded_procedure version procedure ++ behind)
    procedure_read code behind procedure bound short e is accepts =
        subst (λ (p : Procedure). IsProcedureIn version p × (bytes ≡ encoded_procedure version p ++ behind)) (sym is) (
          (short, (bound, accepts), told),
          text ∙ ap (λ (r : List ℕ). encoded_profile version profile ++ r) e ∙ sym (append_assoc (encoded_profile version profile) (length_prefixed code) behind),
        )
