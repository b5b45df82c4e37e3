use Rattle.std.proofs.Common.{length}
use Rattle.tenant_lanes.proofs.Ended.{FilledTo}
use Rattle.tenant_lanes.proofs.apply.run_dealt.Given as goal

abbrev pub invariant-loop-done : goal.invariant-loop-done
invariant-loop-done g l = FilledTo l.fn.number l.fn.places l.fn.requests l.fn.dealt.lanes.items l.fn.dealt.others.items (length l.yielded) l.slots.items l.outcomes.items
