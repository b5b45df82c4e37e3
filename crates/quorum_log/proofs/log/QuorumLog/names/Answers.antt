use Rattle.std.proofs.Common.{subst, ap, ◌∙◌}
use Rattle.ballots.specs.Core.{names}
use Rattle.ballots.specs.Tables.{entries_in}
use Rattle.ballots.specs.Words.{IsConfiguration}
use Rattle.quorum_log.specs.Log.{KeptLog}
use Rattle.quorum_log.proofs.Standing.{names_is}
use Rattle.quorum_log.proofs.log.QuorumLog.names.Goals as goal

pub returns : goal.returns
returns c =
    let s = c.self.inside in
    names_is s.config.value s.window.low.0 s.window.numbers.items c.args.digest.now.0 c.names.result (subst IsConfiguration c.deref.ensures c.f.ensures.legal) c.self.invariant c.names.ensures
    ∙ ap (λ (k : KeptLog). names (entries_in k.log.pre_prepares) c.args.digest.now.0) c.self.view_is
