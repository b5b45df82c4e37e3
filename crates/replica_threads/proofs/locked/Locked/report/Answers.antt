use Rattle.std.proofs.Common.{◌≤◌, length, rules, subst, sym}
use Rattle.byz_world.specs.Status.{Status}
use Rattle.replica_threads.specs.Stations.{IsReported}
use Rattle.replica_threads.proofs.StationLaws.{reported}
use Rattle.replica_threads.proofs.locked.Locked.report.Goals as goal

pub returns-clause-reported : goal.returns-clause-reported
returns-clause-reported g c =
    let j = c.self.inside.journal in
    let kept = c.self.invariant in
    let counted : c.args.seat.now.rows ≤ length j.rows = search rules in
    subst (λ (s : Status). IsReported g.K.Named.config g.K.Named.id g.K.Named.signer g.K.Named.limit c.args.seat.now.rows s) (sym c.status.ensures.value)
    (reported g.K.Named.config g.K.Named.id g.K.Named.signer j g.K.Named.limit c.args.seat.now.rows kept.3 kept.5 counted)
