use Rattle.replica_core.proofs.Performing.{reports}
use Rattle.replica_core.proofs.kept.Core.report.Goals as goal

pub returns-clause-reported : goal.returns-clause-reported
returns-clause-reported c =
    reports c.args.self.now c.args.number.0 c.args.digest.0 c.args.outcome.reply c.note_done.new.self c.keep_if_multiple.new.self c.owe.new.self c.in_ok-result.result c.in_ok-is_multiple.is_multiple
    c.in_ok-result.ensures.result c.in_ok-note_done.ensures.noted c.in_ok-is_multiple.ensures.multiple c.in_ok-is_multiple.ensures.kept c.owe.ensures
