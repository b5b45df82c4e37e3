use Rattle.std.proofs.Common.{◌≡◌, sym, ap, ◌∙◌, rules}
use Rattle.std.specs.Int.{w64, from_le_bytes}
use Rattle.bpf_decode.specs.declared.insn.Size.{Size}
use Rattle.bpf_model.specs.Machine.{bytes_at}
use Rattle.bpf_model.specs.Access.{bytes_of, loaded}
use Rattle.bpf_machine.proofs.Bytes.{loaded_whole}
use Rattle.bpf_machine.proofs.memory.Memory.load.Goals as goal

pub returns-in-Dw : goal.returns-in-Dw
returns-in-Dw c = λ memory bytes represents e.
    let read : c.bytes_at-in-Dw.result ≡ bytes = c.bytes_at-in-Dw.ensures memory bytes represents (sym (ap (λ (s : Size). bytes_at memory c.args.address (bytes_of s)) c.in-Dw.is) ∙ e) in
    let value : c.from_le_bytes-in-Dw.result ≡ from_le_bytes w64 bytes = search (rules, read) in
    loaded_whole c.args.signed c.from_le_bytes-in-Dw.result bytes value c.from_le_bytes-in-Dw.type_inv ∙ sym (ap (λ (s : Size). loaded s c.args.signed bytes) c.in-Dw.is)
