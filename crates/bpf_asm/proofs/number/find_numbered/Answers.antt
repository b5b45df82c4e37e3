use Rattle.std.proofs.Common.{ap, ◌∙◌}
use Rattle.std.specs.Option.{option_map}
use Rattle.bpf_asm.proofs.Registers.{find_numbers}
use Rattle.bpf_asm.proofs.number.find_numbered.Goals as goal

pub returns : goal.returns
returns c = ap (option_map (λ r. r.number)) c.find_register.ensures ∙ find_numbers c.args.text.now c.args.regs.now
