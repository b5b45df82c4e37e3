use Rattle.std.proofs.Common.{◌≡◌, ℕ, ◌∙◌, ap, rules, take, drop}
use Rattle.bpf_machine.proofs.Bytes.{read_bytes}
use Rattle.bpf_machine.proofs.memory.Memory.bytes_at.Goals as goal

pub returns : goal.returns
returns g c = λ memory found represents e.
    let copied : c.copy_from_slice.new.self ≡ take g.row.N (drop c.index_of-at.result c.args.self.now.bytes.now) = search rules in
    copied ∙ ap (λ (k : ℕ). take g.row.N (drop k c.args.self.now.bytes.now)) c.index_of-at.ensures ∙ read_bytes c.args.self.now.bytes.now memory c.args.address g.row.N found represents c.requires.inside e
