-- Statement: what the export that runs a procedure answers, and what it leaves inside the map's handle.
use Rattle.std.specs.Prelude.{◌≡◌, ◌≢◌, ◌⊎◌, ℕ, if◌then◌else◌, nat_lt, List, length, Option, Some, None}
use Rattle.bpf_decode.specs.declared.insn.Insn.{Insn}
use Rattle.bpf_decode.specs.Faults.{IsCode}
use Rattle.tenant_maps.specs.Entries.{Entries}
use Rattle.bpf_model.specs.Run.{EndsSo}
use Rattle.bpf_machine.specs.Represents.{call_of, ending_of}
use Rattle.bpf_machine.specs.Stops.{StopsAtPut}
use Rattle.bpf_model.specs.declared.fault.VerifyFault.TheVariants.{Memory}
use Rattle.sandbox_c.specs.declared.held.Held.{Held}
use Rattle.sandbox_c.specs.declared.status.Status.{Status}
use Rattle.sandbox_c.specs.declared.status.Status.TheVariants.{Done, Fault, NoProcedure, NoMap, ArgumentsTooLong, BufferTooShort}
use Rattle.sandbox_c.specs.Inside.{code_in, map_in}

-- How a call ended: r0, how many steps it took, and the bytes that it emitted.
pub record Ended : Type 0 where
  pub value : ℕ
  pub steps : ℕ
  pub output : List ℕ

-- The run of the code's call, by this client, over the map's entries, ends so and leaves the entries behind it.
pub record HasRun (bytes args : List ℕ) (client : ℕ) (before after : Entries) (ended : Ended) : Type 0 where
  pub code : List Insn
  pub is_code : IsCode bytes code
  pub ends : EndsSo code (call_of args client before) (ending_of ended.value ended.output after ended.steps)

-- The run of the code's call comes to a put of a new key, and these are the entries just before it.
pub record HasStopped (bytes args : List ℕ) (client : ℕ) (before after : Entries) : Type 0 where
  pub code : List Insn
  pub is_code : IsCode bytes code
  pub stops : StopsAtPut code (call_of args client before) after

-- The same of the procedure inside one handle, over the map inside another, before and after.
pub record HasRunIn (procedure before after : Option Held) (args : List ℕ) (client : ℕ) (ended : Ended) : Type 0 where
  pub bytes : List ℕ
  pub is_procedure : code_in procedure ≡ Some bytes
  pub old : Entries
  pub is_old : map_in before ≡ Some old
  pub new : Entries
  pub is_new : map_in after ≡ Some new
  pub runs : HasRun bytes args client old new ended

pub record HasStoppedIn (procedure before after : Option Held) (args : List ℕ) (client : ℕ) : Type 0 where
  pub bytes : List ℕ
  pub is_procedure : code_in procedure ≡ Some bytes
  pub old : Entries
  pub is_old : map_in before ≡ Some old
  pub new : Entries
  pub is_new : map_in after ≡ Some new
  pub stops : HasStopped bytes args client old new

-- What is wrong with a call before it runs, the first thing alone: no procedure, no map, more arguments than 256 bytes, fewer
-- bytes for the output than 256.
abbrev pub run_status : Option (List ℕ) → Option Entries → List ℕ → ℕ → Status
run_status None entries args room = NoProcedure
run_status (Some bytes) None args room = NoMap
run_status (Some bytes) (Some entries) args room =
    if nat_lt 256 (length args) then ArgumentsTooLong else if nat_lt room 256 then BufferTooShort else Done

abbrev pub ended_so : ℕ → ℕ → List ℕ → Ended
ended_so value steps output = record { value = value; steps = steps; output = output }

-- A call that came to no end: memory ran out for a new entry, or what is wrong with it was told and the map stayed as it was.
abbrev pub RunRefused : Status → Status → Held → Held → Held → List ℕ → ℕ → Type 0
RunRefused status wrong code old new args client =
    ((status ≡ Fault Memory) × (wrong ≡ Done) × HasStoppedIn (Some code) (Some old) (Some new) args client)
    ⊎ ((status ≡ wrong) × (wrong ≢ Done) × (new ≡ old))
