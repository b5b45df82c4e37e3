-- Statement: what a client can ask for, and what doing it gives.
use Rattle.std.specs.Prelude.{◌≡◌, ◌⊎◌, ℕ, ◌&&◌, ◌==◌, nat_lt, nat_le, if◌then◌else◌, List, [], ◌∷◌, ◌++◌, length, take, drop, slice_get, MatchBool, MatchOption}
use Rattle.std.specs.Int.{w32, from_be_bytes}
use Rattle.bpf_model.specs.Insn.{Insn}
use Rattle.bpf_model.specs.Verdict.{IsCode, AcceptsUnder}
use Rattle.tenant_maps.specs.Entries.{Entries}
use Rattle.bpf_model.specs.Run.{Ending, EndsSo}
use Rattle.bpf_model.specs.declared.profile.Profile.{Profile}
use Rattle.bpf_model.specs.declared.profile.Profile.TheVariants.{One, Two}
use Rattle.service_model.specs.Words.{u32_bytes, u64_bytes}
use Rattle.service_model.specs.TenantStates.{Procedure}

-- to install code under a profile, to call a procedure with arguments, or nothing that this service knows
pub data Operation : Type 0 where
  Install : Profile → List ℕ → Operation
  Call : ℕ → List ℕ → Operation
  Bad : Operation

-- the byte 1 and code, under the first profile, or the byte 4 and code, under the second; or the byte 2, the procedure's
-- id in 4 bytes, high first, and arguments
abbrev pub operation_of : List ℕ → Operation
operation_of [] = Bad
operation_of (kind ∷ rest) =
    if kind == 1 then Install One rest
    else (if kind == 4 then Install Two rest
    else (if kind == 2 && nat_le 4 (length rest) then Call (from_be_bytes w32 (take 4 rest)) (drop 4 rest)
    else Bad))

-- The results: the new procedure's id; r0 and the output of a call; and what was refused.
abbrev pub installed : ℕ → List ℕ
installed id = 0 ∷ u32_bytes id

abbrev pub called : ℕ → List ℕ → List ℕ
called value output = 0 ∷ (u64_bytes value ++ output)

abbrev pub bad_operation : List ℕ
bad_operation = 1 ∷ []

abbrev pub refused : List ℕ
refused = 2 ∷ []

abbrev pub no_procedure : List ℕ
no_procedure = 3 ∷ []

abbrev pub too_many_procedures : List ℕ
too_many_procedures = 4 ∷ []

abbrev pub arguments_too_long : List ℕ
arguments_too_long = 5 ∷ []

-- Installing puts code that the profile accepts behind the procedures that are there, at most 64.
abbrev pub Installs : List Procedure → Procedure → List Procedure → List ℕ → Type 0
Installs procedures new after result =
    MatchBool (nat_le 64 (length procedures))
    ((after ≡ procedures) × (result ≡ too_many_procedures))
    (((bound : ℕ) × AcceptsUnder new.profile new.code bound × (after ≡ procedures ++ new ∷ []) × (result ≡ installed (length procedures)))
    ⊎ (((bound : ℕ) → AcceptsUnder new.profile new.code bound → ⊥) × (after ≡ procedures) × (result ≡ refused)))

-- The run of a procedure gives the new entries and the result.
pub record Runs (client : ℕ) (code arguments : List ℕ) (entries after : Entries) (result : List ℕ) : Type 0 where
  pub insns : List Insn
  pub is_code : IsCode code insns
  pub ending : Ending
  pub ends : EndsSo insns (record { arguments = arguments; client = client; entries = entries }) ending
  pub entries_are : after ≡ ending.entries
  pub result_is : result ≡ called ending.value ending.output

-- Calling runs the procedure of that id, with at most 256 argument bytes.
abbrev pub Calls : ℕ → List Procedure → ℕ → List ℕ → Entries → Entries → List ℕ → Type 0
Calls client procedures id arguments entries after result =
    MatchOption (slice_get procedures id)
    ((after ≡ entries) × (result ≡ no_procedure))
    (λ procedure. MatchBool (nat_lt 256 (length arguments))
    ((after ≡ entries) × (result ≡ arguments_too_long))
    (Runs client procedure.code arguments entries after result))

-- Doing an operation: an installation changes the procedures alone, a call the entries alone.
abbrev pub Does : ℕ → Operation → List Procedure → Entries → List Procedure → Entries → List ℕ → Type 0
Does client (Install profile code) procedures entries procedures' entries' result =
    Installs procedures (record { profile = profile; code = code }) procedures' result × (entries' ≡ entries)
Does client (Call id arguments) procedures entries procedures' entries' result =
    Calls client procedures id arguments entries entries' result × (procedures' ≡ procedures)
Does client Bad procedures entries procedures' entries' result =
    (procedures' ≡ procedures) × (entries' ≡ entries) × (result ≡ bad_operation)
