use Rattle.std.proofs.lemmas.Result.{err_from_is_err_and}
use Rattle.replica_core.proofs.Ceasing.{comes_more, halts_later, still_reached}
use Rattle.replica_core.proofs.kept.Core.settle_lanes.Goals as goal

pub act_lanes-requires-clause-reached : goal.act_lanes-requires-clause-reached
act_lanes-requires-clause-reached g c κs within = still_reached c.args.self c.loop-duty.core c.loop-duty.invariant.0 c.requires.reached c.loop-duty.invariant.1

pub loop-duty-preserved : goal.loop-duty-preserved
loop-duty-preserved g c = comes_more c.args.self c.loop-duty.core c.in_ok-core.core c.loop-duty.invariant c.in_ok-core.ensures.done

pub loop-duty-smaller : goal.loop-duty-smaller
loop-duty-smaller g c = c.in_ok-core.ensures.done.less

pub returns-in_err-core-clause-halted : goal.returns-in_err-core-clause-halted
returns-in_err-core-clause-halted g c =
    let p = err_from_is_err_and c.from_residual.result c.from_residual.ensures.1 in
    rw (p.1, p.2) (halts_later c.args.self c.loop-duty.core c.loop-duty.invariant c.in_err-core.field-0.0 c.in_err-core.ensures.halted)
