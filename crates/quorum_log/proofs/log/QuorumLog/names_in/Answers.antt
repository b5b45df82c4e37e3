use Rattle.std.proofs.Common.{subst, ap, ◌∙◌}
use Rattle.ballots.specs.Core.{names, of_view}
use Rattle.ballots.specs.Tables.{entries_in}
use Rattle.ballots.specs.Words.{IsConfiguration}
use Rattle.quorum_log.specs.Log.{KeptLog}
use Rattle.quorum_log.proofs.Standing.{names_in_is}
use Rattle.quorum_log.proofs.log.QuorumLog.names_in.Goals as goal

pub returns : goal.returns
returns c =
    let s = c.self.inside in
    names_in_is s.config.value s.window.low.0 s.window.numbers.items c.args.view.0 c.args.digest.now.0 c.names_in.result (subst IsConfiguration c.deref.ensures c.f.ensures.legal) c.self.invariant c.names_in.ensures
    ∙ ap (λ (k : KeptLog). names (of_view c.args.view.0 (entries_in k.log.pre_prepares)) c.args.digest.now.0) c.self.view_is
