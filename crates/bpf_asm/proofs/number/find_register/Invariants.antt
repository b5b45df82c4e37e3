use Rattle.std.proofs.Common.{◌≡◌, find, drop}
use Rattle.std.specs.Str.{bytes_eq}
use Rattle.bpf_asm.specs.Operands.{register_text}
use Rattle.bpf_asm.proofs.number.find_register.Given as goal

abbrev pub invariant-loop-reg : goal.invariant-loop-reg
invariant-loop-reg l =
    find (λ r. bytes_eq (register_text r) l.text) l.regs ≡ find (λ r. bytes_eq (register_text r) l.text) (drop l.reg-index l.regs)
