use Rattle.replica_core.proofs.Reacting.{takes}
use Rattle.replica_core.proofs.kept.Core.begin.Goals as goal

pub returns-clause-begun : goal.returns-clause-begun
returns-clause-begun c =
    takes c.args.self.now c.record.new.self c.keep_taken.new.self c.args.message.now c.in_ok-copy.field-0 c.in_ok-reading.reading c.requires.config c.message.ensures.checked
    c.in_ok-record.ensures.recorded c.in_ok-reading.ensures.reading c.in_ok-copy.ensures c.keep_taken.ensures
