use Rattle.std.proofs.Common.{◌≤◌, [], ◌∷◌, ap, arith, length, length-append, rules}
use Rattle.byz_world.specs.Input.TheVariants as inputs
use Rattle.replica_threads.proofs.StationLaws.{answered, step_keeps}
use Rattle.replica_threads.proofs.locked.Locked.take.Goals as goal

pub returns-clause-answered : goal.returns-clause-answered
returns-clause-answered g c =
    let j = c.self.inside.journal in
    let kept = c.self.invariant in
    let counted : c.args.seat.now.rows ≤ length j.rows = search rules in
    answered g.K.Named.config g.K.Named.id g.K.Named.signer j (inputs.Message c.args.message.now) c.in_ok-row.row c.take_lanes.new.self g.K.Named.limit c.args.seat.now.rows
    kept.0 kept.1 kept.3 kept.5 counted c.in_ok-row.ensures.step

pub invariant_of-self : goal.invariant_of-self
invariant_of-self g c =
    let kept = c.self.invariant in
    let keeps = step_keeps g.K.Named.config g.K.Named.id g.K.Named.signer c.self.inside.journal (inputs.Message c.args.message.now) c.take_lanes.result c.take_lanes.new.self kept.0 kept.1 kept.5 c.take_lanes.ensures.step in
    (search rules, search rules, search rules, search rules, search rules, keeps)

pub invariant_of-self-2 : goal.invariant_of-self-2
invariant_of-self-2 g c =
    let kept = c.self.invariant in
    let keeps = step_keeps g.K.Named.config g.K.Named.id g.K.Named.signer c.self.inside.journal (inputs.Message c.args.message.now) c.take_lanes.result c.take_lanes.new.self kept.0 kept.1 kept.5 c.take_lanes.ensures.step in
    let rows = ap length c.in_ok-row.ensures.step.rows_are in
    let more = length-append c.self.inside.journal.rows (c.in_ok-row.row ∷ []) in
    let counted = c.count.ensures.total in
    (search rules, search rules, omega (arith, rows, more, counted, kept.2), search rules, search rules, keeps)
