use Rattle.std.proofs.Common.{◌≡◌, find, drop}
use Rattle.std.specs.Str.{bytes_eq}
use Rattle.bpf_asm.proofs.rounds.find_label.Given as goal

abbrev pub invariant-loop-label : goal.invariant-loop-label
invariant-loop-label l =
    find (λ x. bytes_eq x.name.now l.name) l.labels ≡ find (λ x. bytes_eq x.name.now l.name) (drop l.label-index l.labels)
