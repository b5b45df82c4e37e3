use Rattle.std.proofs.Common.{arith, sym, ◌∙◌}
use Rattle.client_session.proofs.Vouched.{backers_said, backers_unsaid, no_backers}
use Rattle.client_session.proofs.answer.is_vouched.Goals as goal
use Rattle.client_session.proofs.answer.is_vouched.Goals.{then-has_said, else-has_said}

pub loop-replica-init : goal.loop-replica-init
loop-replica-init c = (no_backers c.args.answers.now c.args.reply.now.number.0 c.args.reply.now.result, omega arith)

pub loop-replica-preserved : goal.loop-replica-preserved
loop-replica-preserved c =
    elim c.if-has_said.branch [
      | then-has_said w ↦
          let more = backers_said c.args.answers.now c.args.reply.now.number.0 c.args.reply.now.result c.loop-replica.replica (sym c.has_said.ensures ∙ w.if-has_said.true) in
          (omega (arith, more), omega arith)
      | else-has_said w ↦
          let same = backers_unsaid c.args.answers.now c.args.reply.now.number.0 c.args.reply.now.result c.loop-replica.replica (sym c.has_said.ensures ∙ w.if-has_said.false) in
          (omega (arith, same), omega arith)
    ]
