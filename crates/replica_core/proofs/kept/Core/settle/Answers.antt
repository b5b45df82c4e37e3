use Rattle.replica_core.proofs.Ceasing.{less_left, one_more, still_reached}
use Rattle.replica_core.proofs.kept.Core.settle.Goals as goal

pub act-requires-clause-reached : goal.act-requires-clause-reached
act-requires-clause-reached c = still_reached c.args.self.now c.loop-duty.self c.loop-duty.invariant.0 c.requires.reached c.loop-duty.invariant.1

pub loop-duty-smaller : goal.loop-duty-smaller
loop-duty-smaller c =
    let reached = still_reached c.args.self.now c.loop-duty.self c.loop-duty.invariant.0 c.requires.reached c.loop-duty.invariant.1 in
    less_left c.loop-duty.self c.act.new.self c.numbers.ensures.legal reached c.numbers.ensures.viewed c.in_ok-act.ensures.done

pub loop-duty-preserved : goal.loop-duty-preserved
loop-duty-preserved c = one_more c.args.self.now c.loop-duty.self c.act.new.self c.loop-duty.invariant c.in_ok-act.ensures.done
