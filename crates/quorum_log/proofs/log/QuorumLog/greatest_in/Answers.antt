use Rattle.std.proofs.Common.{subst, ap, map, ◌∙◌}
use Rattle.std.specs.Prelude.{IfSome}
use Rattle.ballots.specs.Core.{of_view}
use Rattle.ballots.specs.Tables.{entries_in}
use Rattle.ballots.specs.Validity.{greatest_of}
use Rattle.ballots.specs.Words.{IsConfiguration}
use Rattle.quorum_log.specs.Log.{IsBetweenMarks, KeptLog}
use Rattle.quorum_log.proofs.Standing.{greatest_inside, greatest_is}
use Rattle.quorum_log.proofs.log.QuorumLog.greatest_in.Goals as goal

pub returns : goal.returns
returns c =
    let s = c.self.inside in
    let legal = subst IsConfiguration c.deref.ensures c.f.ensures.legal in
    record {
      greatest = greatest_is s.config.value s.window.low.0 s.window.numbers.items c.args.view.0 c.greatest_in.result legal c.self.invariant c.greatest_in.ensures
          ∙ ap (λ (k : KeptLog). greatest_of (map (λ m. m.body.number.0) (of_view c.args.view.0 (entries_in k.log.pre_prepares)))) c.self.view_is;
      inside = subst (λ (k : KeptLog). IfSome c.greatest_in.result (λ n. IsBetweenMarks k n.0)) c.self.view_is
          (greatest_inside s.config.value s.view.0 s.floor s.window.low.0 s.window.numbers.items c.args.view.0 c.greatest_in.result legal c.self.invariant c.greatest_in.ensures);
    }
