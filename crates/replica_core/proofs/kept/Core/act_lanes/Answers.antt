use Rattle.std.proofs.lemmas.Result.{err_from_is_err_and}
use Rattle.replica_core.proofs.Ceasing.{comes, halts_here}
use Rattle.replica_core.proofs.kept.Core.act_lanes.Goals as goal

pub returns-clause-done : goal.returns-clause-done
returns-clause-done g c = comes c.args.self c.act.new.self c.numbers.ensures.legal c.requires.reached c.numbers.ensures.viewed c.in_ok-act.ensures.done

pub returns-in_err-act-clause-halted : goal.returns-in_err-act-clause-halted
returns-in_err-act-clause-halted g c =
    let p = err_from_is_err_and c.from_residual.result c.from_residual.ensures.1 in
    rw (p.1, p.2) (halts_here c.args.self c.in_err-act.field-0.0 c.in_err-act.ensures.halted)
