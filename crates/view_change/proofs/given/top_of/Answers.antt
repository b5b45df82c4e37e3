use Rattle.view_change.proofs.Walking.{greatest_on}
use Rattle.view_change.proofs.given.top_of.Goals as goal

pub loop-change-preserved : goal.loop-change-preserved
loop-change-preserved g c =
    greatest_on (λ x. x.pre_prepare.body.number.0) g.T.Report.certificates c.args.changes.now c.loop-change.change-index c.change-item.result c.certificates.result.now _ c.loop-change.top c.greatest_in-top.result
    c.loop-change-test.true c.change-item.is c.certificates.ensures c.loop-change.invariant c.greatest_in-top.ensures
