use Rattle.std.proofs.Common.{◌∙◌, ◌++◌, List, sym, ap, subst}
use Rattle.bpf_decode.specs.declared.insn.Insn.{Insn}
use Rattle.bpf_decode.specs.Faults.{IsCode}
use Rattle.bpf_decode.proofs.Taking.{appended}
use Rattle.bpf_decode.proofs.code.read_code.Goals as goal

pub returns-clause-found : goal.returns-clause-found
returns-clause-found c =
    let f = c.in_ok-read_into.ensures.found in
    let all = appended c.in_ok-code.code c.read_into.new.sink f.0 f.2 in
    let none = c.in_ok-code.ensures.items in
    subst (IsCode c.args.bytes.now) (sym (all ∙ ap (λ (l : List Insn). l ++ f.0) none)) f.1
