-- The verdict that the verifier's passes find together.
use Rattle.std.proofs.Common.{◌≡◌, ◌⊎◌, ℕ, Bool, List, Option, None, Result, Ok, Err, refl, sym, ap, subst, ◌∙◌, inl, inr}
use Rattle.std.specs.Prelude.{IfErr, IsErr, MatchResult}
use Rattle.bpf_decode.specs.declared.insn.Insn.{Insn}
use Rattle.bpf_decode.specs.declared.refusal.DecodeFault.{DecodeFault}
use Rattle.bpf_decode.specs.declared.refusal.DecodeFault.TheVariants as decode
use Rattle.bpf_decode.specs.Faults.{IsCode, IsRefused}
use Rattle.bpf_decode.proofs.Encodings.{same_code, refused_is_no_code}
use Rattle.bpf_model.specs.Code.{insns_by_slot}
use Rattle.bpf_model.specs.Dataflow.{IsBound}
use Rattle.bpf_model.specs.Faults.{verify_fault_of}
use Rattle.bpf_model.specs.Run.{IsSafe}
use Rattle.bpf_model.specs.Verdict.{AcceptsUnder, RefusesUnder, IsAccepted, IsFirst, IsFirstVisit, structure_fault, dataflow_fault}
use Rattle.bpf_model.proofs.Totality.{same_bound, not_both}
use Rattle.bpf_model.specs.declared.fault.Refusal.{Refusal}
use Rattle.bpf_model.specs.declared.profile.Profile.{Profile}
use Rattle.bpf_model.specs.declared.fault.VerifyFault.{VerifyFault}
use Rattle.bpf_model.specs.declared.fault.VerifyFault.TheVariants.{Decode, Memory}
use Rattle.bpf_model.proofs.Safety.{safe, bounded}
use Rattle.bpf_verifier.specs.declared.flat.FlatInsn.{FlatInsn}
use Rattle.bpf_verifier.specs.Flat.{IsTable}
use Rattle.bpf_verifier.specs.Verified.{IsProcedure, has_local_calls}
use Rattle.bpf_verifier.specs.Sweep.{IsStructured}

-- what the two passes find together
pub accepted_by : (profile : Profile) (code : List Insn) (slots : List (Option Insn)) (bound : ℕ) → slots ≡ insns_by_slot code → IsStructured code → ((c : List Insn) → slots ≡ insns_by_slot c → IsStructured c → (index : ℕ) → dataflow_fault profile c index ≡ None) → ((c : List Insn) → slots ≡ insns_by_slot c → IsStructured c → IsBound profile c bound) → IsAccepted profile code bound
accepted_by profile code slots bound is structure dataflow longest = record {
  structure = structure;
  dataflow = dataflow code is structure;
  longest = longest code is structure;
}

-- code that was accepted makes a procedure, with its table
pub procedure_of : (profile : Profile) (bytes : List ℕ) (code : List Insn) (table : List FlatInsn) (bound : ℕ) (calls : Bool) → IsCode bytes code → IsTable code table → IsAccepted profile code bound → calls ≡ has_local_calls code → IsProcedure bytes code table bound calls
procedure_of profile bytes code table bound calls is flat accepted same_calls =
    record { is_code = is; is_table = flat; safe = safe profile bytes code bound is accepted; small = bounded profile bytes code bound is accepted; calls_are = same_calls }

pub safe_of : (profile : Profile) (bytes : List ℕ) (code : List Insn) (bound : ℕ) → IsCode bytes code → IsAccepted profile code bound → (insns : List Insn) → IsCode bytes insns → IsSafe insns bound
safe_of profile bytes code bound is accepted insns other =
    subst (λ (c : List Insn). IsSafe c bound) (same_code bytes code insns is other) (safe profile bytes code bound is accepted)

-- ---- the decoder's refusals

decoded : (fault : DecodeFault) → (fault ≡ decode.Memory) ⊎ (verify_fault_of fault ≡ Decode fault)
decoded decode.Memory = inl refl
decoded _ = inr refl

-- a refusal of the decoder's, as the verifier reports it
pub reported : (profile : Profile) (bytes : List ℕ) (reason : DecodeFault) (slot : ℕ) (fault : VerifyFault) (at : ℕ) → fault ≡ verify_fault_of reason → at ≡ slot → (reason ≡ decode.Memory) ⊎ IsRefused bytes reason slot → (fault ≡ Memory) ⊎ RefusesUnder profile bytes fault at
reported profile bytes reason slot fault at e same (inl memory) = inl (e ∙ ap verify_fault_of memory)
reported profile bytes reason slot fault at e same (inr refused) =
    elim (decoded reason) [
      | inl memory ↦ inl (e ∙ ap verify_fault_of memory)
      | inr is ↦ inr (inl (reason, subst (λ (k : ℕ). IsRefused bytes reason k) (sym same) refused, e ∙ is))
    ]

-- ---- what is accepted alone is

-- code has one bound
pub only_bound : (profile : Profile) (bytes : List ℕ) (code : List Insn) (bound : ℕ) → IsCode bytes code → IsAccepted profile code bound → (other : ℕ) → AcceptsUnder profile bytes other → bound ≡ other
only_bound profile bytes code bound is accepted other (insns, same, taken) =
    same_bound profile code bound other accepted (subst (λ (c : List Insn). IsAccepted profile c other) (sym (same_code bytes code insns is same)) taken)

-- code that has a fault isn't accepted
pub only_memory : (profile : Profile) (bytes : List ℕ) (code : List Insn) (fault : VerifyFault) (slot : ℕ) → IsCode bytes code → IsStructured code → (fault ≡ Memory) ⊎ IsFirstVisit profile code fault slot → (other : ℕ) → AcceptsUnder profile bytes other → fault ≡ Memory
only_memory profile bytes code fault slot is structure (inl memory) other accepts = memory
only_memory profile bytes code fault slot is structure (inr first) other (insns, same, taken) =
    absurd (not_both profile code other fault slot (subst (λ (c : List Insn). IsAccepted profile c other) (sym (same_code bytes code insns is same)) taken) (inr (structure, first)))

-- nor code whose structure has one
pub only_structured : (profile : Profile) (bytes : List ℕ) (code : List Insn) (fault : VerifyFault) (slot : ℕ) → IsCode bytes code → IsFirst (structure_fault code) fault slot → (other : ℕ) → AcceptsUnder profile bytes other → ⊥
only_structured profile bytes code fault slot is first other (insns, same, taken) =
    not_both profile code other fault slot (subst (λ (c : List Insn). IsAccepted profile c other) (sym (same_code bytes code insns is same)) taken) (inl first)

-- nor bytes that are no code
pub only_code : (profile : Profile) (bytes : List ℕ) (reason : DecodeFault) (slot : ℕ) → (reason ≡ decode.Memory) ⊎ IsRefused bytes reason slot → (other : ℕ) → AcceptsUnder profile bytes other → reason ≡ decode.Memory
only_code profile bytes reason slot (inl memory) other accepts = memory
only_code profile bytes reason slot (inr refused) other (insns, same, taken) = absurd (refused_is_no_code bytes insns reason slot refused same)

-- an error that is handed on
pub match_err : {X E : Type 0} (r : Result X E) (x : E) (P : X → Type 0) (Q : E → Type 0) → IsErr r → IfErr r (λ e. e ≡ x) → Q x → MatchResult r P Q
match_err (Ok y) x P Q is same h = absurd cc
match_err (Err e) x P Q is same h = subst Q (sym same) h

-- a refusal of the decoder's that is memory's
pub memory_err : {X : Type 0} (r : Result X Refusal) (reason : DecodeFault) (P : X → Type 0) → IsErr r → IfErr r (λ e. e.fault ≡ verify_fault_of reason) → reason ≡ decode.Memory → MatchResult r P (λ e. e.fault ≡ Memory)
memory_err (Ok x) reason P is same memory = absurd cc
memory_err (Err e) reason P is same memory = same ∙ ap verify_fault_of memory
