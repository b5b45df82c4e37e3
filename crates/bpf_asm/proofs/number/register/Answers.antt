use Rattle.std.proofs.Common.{find, sym, ◌∙◌}
use Rattle.std.specs.Str.{bytes_eq}
use Rattle.bpf_asm.specs.Operands.{register_text, registers}
use Rattle.bpf_asm.proofs.Registers.{same_option, find_numbers}
use Rattle.bpf_asm.proofs.number.register.Goals as goal

pub returns : goal.returns
returns c =
    same_option c.find_numbered.result (find (λ r. bytes_eq (register_text r) c.args.text.now) registers)
    (c.find_numbered.ensures ∙ sym (find_numbers c.args.text.now registers))
