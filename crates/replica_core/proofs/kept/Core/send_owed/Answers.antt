use Rattle.std.proofs.Common.{rules}
use Rattle.replica_core.proofs.Acting.{sends_owed}
use Rattle.replica_core.proofs.kept.Core.send_owed.Goals as goal

pub returns-clause-sent : goal.returns-clause-sent
returns-clause-sent c = sends_owed c.args.self.now c.send_reply.new.self c.note_act.new.self c.args.self.now.core.reply_due (search rules) c.in_ok-send_reply.ensures.sent c.note_act.ensures
