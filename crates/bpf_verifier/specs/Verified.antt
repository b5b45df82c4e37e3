-- Statement: what a procedure is to its callers: its code as bytes, the bound on its steps, and the profile
-- under which it was accepted.
use Rattle.std.specs.Prelude.{◌≡◌, ℕ, ◌≤◌, Bool, true, false, List}
use Rattle.std.specs.List.{list_any}
use Rattle.bpf_decode.specs.declared.insn.Insn.{Insn}
use Rattle.bpf_decode.specs.declared.insn.Insn.TheVariants.{CallLocal}
use Rattle.bpf_decode.specs.Faults.{IsCode}
use Rattle.bpf_model.specs.Run.{IsSafe}
use Rattle.bpf_model.specs.declared.profile.Profile.{Profile}
use Rattle.bpf_verifier.specs.declared.flat.FlatInsn.{FlatInsn}
use Rattle.bpf_verifier.specs.Flat.{IsTable}

pub record Verified : Type 0 where
  pub bytes : List ℕ
  pub bound : ℕ
  pub profile : Profile

-- A call of a function of the code's own.
abbrev pub is_local_call : Insn → Bool
is_local_call (CallLocal offset) = true
is_local_call insn = false

-- One of these instructions is such a call.
abbrev pub has_local_calls : List Insn → Bool
has_local_calls insns = list_any is_local_call insns

-- What holds of every procedure: its code cannot go wrong, and ends within the bound; its table is that of its
-- instructions; and what it says of their calls is true.
pub record IsProcedure (bytes : List ℕ) (code : List Insn) (table : List FlatInsn) (bound : ℕ) (calls : Bool) : Type 0 where
  pub is_code : IsCode bytes code
  pub is_table : IsTable code table
  pub safe : IsSafe code bound
  pub small : bound ≤ 65536
  pub calls_are : calls ≡ has_local_calls code

-- The instructions that the code encodes: each has its entries in the table, in their order; and they cannot go wrong,
-- and end within the bound.
pub record IsFlat (bytes : List ℕ) (bound : ℕ) (table : List FlatInsn) : Type 0 where
  pub code : List Insn
  pub is_code : IsCode bytes code
  pub is_table : IsTable code table
  pub safe : IsSafe code bound
  pub small : bound ≤ 65536
