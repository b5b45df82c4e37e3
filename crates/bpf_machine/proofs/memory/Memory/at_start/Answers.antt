use Rattle.std.proofs.Common.{◌≡◌, ℕ, ◌-◌, List, ◌++◌, length, drop, rules, replicate, sym, ap, subst, ◌∙◌}
use Rattle.std.proofs.Math.Seq.{paste}
use Rattle.std.specs.List.{enumerate_from}
use Rattle.std.specs.FinMap as map
use Rattle.bpf_model.specs.Machine.{arguments_start}
use Rattle.bpf_machine.specs.Represents.{RepresentsMemory}
use Rattle.bpf_machine.proofs.Bytes.{start_memory, front}
use Rattle.bpf_machine.proofs.memory.Memory.at_start.Goals as goal

pub returns-clause-shows : goal.returns-clause-shows
returns-clause-shows c = λ client entries.
    let args = c.args.args.now in
    let bytes = c.args.bytes.now in
    let copied : c.copy_from_slice.new.self ≡ args = search rules in
    let made : c.copy_from_slice.new.self ++ drop (length args) bytes ≡ paste bytes 0 args (length args) = ap (λ (xs : List ℕ). xs ++ drop (length args) bytes) copied ∙ front bytes args in
    let zeros = ap (λ (bs : List ℕ). paste bs 0 args (length args)) c.requires.zeros in
    subst (λ (bs : List ℕ). RepresentsMemory bs (map.from_entries (enumerate_from arguments_start (args ++ replicate (256 - length args) 0)))) (sym (made ∙ zeros)) (start_memory (length bytes) args c.requires.room c.requires.short)
