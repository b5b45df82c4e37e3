use Rattle.std.proofs.Common.{◌≡◌, ◌-◌, ◌*◌, ◌≤◌, List, take, length, None}
use Rattle.std.specs.List.{AllByRecursion}
use Rattle.bpf_decode.specs.declared.insn.Insn.{Insn}
use Rattle.bpf_decode.specs.Encoding.{encoding, IsInsn}
use Rattle.bpf_decode.specs.Faults.{length_fault}
use Rattle.bpf_decode.specs.Taken.{TakesAll}
use Rattle.bpf_decode.proofs.code.read_into.Given as goal

abbrev pub invariant-loop-slot : goal.invariant-loop-slot
invariant-loop-slot g l = record {
  taken : (code : List Insn) × (take (8 * l.slot) l.bytes ≡ encoding code) × AllByRecursion IsInsn code × TakesAll g.S.Sink.takes l.fn.sink code l.sink;
  whole : 8 * l.slots ≡ length l.bytes;
  within : l.slot ≤ l.slots;
  fits : length_fault (length l.bytes) ≡ None;
}

abbrev pub decreases-loop-slot : goal.decreases-loop-slot
decreases-loop-slot g l = l.slots - l.slot
