-- Statement: what the exports that assemble and disassemble answer.
use Rattle.std.specs.Prelude.{◌≡◌, ◌⊎◌, ℕ, ◌+◌, List, Ok, Err}
use Rattle.bpf_decode.specs.declared.insn.Insn.{Insn}
use Rattle.bpf_decode.specs.declared.refusal.DecodeFault.{DecodeFault}
use Rattle.bpf_decode.specs.Encoding.{encoding}
use Rattle.bpf_decode.specs.Faults.{IsCode, IsRefused}
use Rattle.bpf_model.specs.Faults.{number_of as fault_number, verify_fault_of}
use Rattle.bpf_asm.specs.declared.fault.AsmFault.{AsmFault}
use Rattle.bpf_asm.specs.Assembly.{assembly}
use Rattle.bpf_asm.specs.Faults.{number_of as kind_number}
use Rattle.bpf_asm.specs.Printing.{printed}
use Rattle.handle_parts.specs.Told.{AreTold}

-- What is answered for the text of code: the text of its instructions, the first fault of the decoder and its slot, or that
-- memory ran out.
abbrev pub IsDisassembly : List ℕ → ℕ → ℕ → ℕ → List ℕ → List ℕ → Type 0
IsDisassembly bytes status told slot before after =
    ((code : List Insn) × IsCode bytes code × AreTold (printed code) status told before after)
    ⊎ ((fault : DecodeFault) × IsRefused bytes fault slot × (status ≡ fault_number (verify_fault_of fault)) × (after ≡ before))
    ⊎ ((status ≡ 21) × (after ≡ before))

-- What is answered for the code of a text: the bytes of its instructions, its first fault and the line, or that memory ran out.
abbrev pub IsAssembled : List ℕ → ℕ → ℕ → ℕ → List ℕ → List ℕ → Type 0
IsAssembled text status told line before after =
    ((code : List Insn) × (assembly text ≡ Ok code) × AreTold (encoding code) status told before after)
    ⊎ ((fault : AsmFault) × (assembly text ≡ Err fault) × (status ≡ 40 + kind_number fault.kind) × (line ≡ fault.line) × (after ≡ before))
    ⊎ ((status ≡ 21) × (after ≡ before))
