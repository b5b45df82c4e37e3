use Rattle.std.proofs.Common.{◌≡◌, ◌+◌, ◌*◌, length}
use Rattle.bpf_model.specs.Code.{insns_by_slot}
use Rattle.bpf_verifier.specs.Sweep.{Entered, IsEntered, AreFew, SweepAt, nothing_returned}
use Rattle.bpf_verifier.proofs.dataflow.+calls.Given as goal

abbrev pub decreases-follow : goal.decreases-follow
decreases-follow g l = 5 * l.left + 4

abbrev pub decreases-sweep : goal.decreases-sweep
decreases-sweep g l = 5 * l.left + 3

abbrev pub decreases-visit_by_kind : goal.decreases-visit_by_kind
decreases-visit_by_kind g l = 5 * l.left + 2

abbrev pub decreases-visit_slot : goal.decreases-visit_slot
decreases-visit_slot g l = 5 * l.left + 1

abbrev pub decreases-call : goal.decreases-call
decreases-call g l = 5 * l.left

abbrev pub invariant-sweep-loop-slot : goal.invariant-sweep-loop-slot
invariant-sweep-loop-slot g l = record {
  long : length l.pending ≡ length l.slots;
  few : AreFew l.fn.pass.visits l.pass.visits l.pending l.returned.bound;
  sweep : (f : Entered) → l.slots ≡ insns_by_slot f.code → f.left ≡ l.left → IsEntered f → SweepAt f l.entry l.fn.pending nothing_returned l.fn.pass.visits → SweepAt f l.slot l.pending l.returned l.pass.visits;
}
