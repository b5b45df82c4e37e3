use Rattle.std.proofs.Common.{◌≡◌, ℕ, ◌+◌, ◌-◌, List, rules, arith, sym, subst, ap, ◌∙◌}
use Rattle.std.proofs.Math.Seq.{paste}
use Rattle.std.proofs.lemmas.Slice.{put_mid-paste}
use Rattle.bpf_model.specs.Machine.{stored}
use Rattle.bpf_machine.specs.Represents.{RepresentsMemory}
use Rattle.bpf_machine.proofs.Bytes.{written_bytes}
use Rattle.bpf_machine.proofs.memory.Memory.put_bytes.Goals as goal

pub returns-clause-shows : goal.returns-clause-shows
returns-clause-shows g c = λ memory represents.
    let bytes = c.args.self.now.bytes.now in
    let value = c.args.bytes in
    let there = written_bytes bytes memory c.args.address g.row.N value (search rules) c.requires.some c.requires.inside represents in
    let copied : c.copy_from_slice.new.self ≡ value = search rules in
    let made = put_mid-paste c.index_of-at.result (c.index_of-at.result + g.row.N - c.index_of-at.result) bytes c.copy_from_slice.new.self value g.row.N copied (omega arith) (search rules) in
    subst (λ (all : List ℕ). RepresentsMemory all (stored memory c.args.address value)) (sym (made ∙ ap (λ (k : ℕ). paste bytes k value g.row.N) c.index_of-at.ensures)) there
