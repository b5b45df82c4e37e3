use Rattle.std.proofs.Common.{◌≡◌, sym, ap, ◌∙◌}
use Rattle.quorum_log.specs.Words.{Signed}
use Rattle.seal.specs.Opening.{CheckedMessage}
use Rattle.seal.specs.Parts.{as_message}
use Rattle.view_change.proofs.Paired.{paired_maps, walked, walked_all, with_some}
use Rattle.view_change.proofs.nested.copies_of.Goals as goal
use Rattle.view_change.proofs.nested.copies_of.Goals.{in-Some+in_ok-push, in_default}

pub loop-message-preserved : goal.loop-message-preserved
loop-message-preserved g c = λ ms e.
    let R : CheckedMessage → Signed g.row.B.Denot → Type 0 = λ x m. x.message ≡ as_message g.B.MessageBody.as_body m in
    let pairs = paired_maps (λ x. x.message) (as_message g.B.MessageBody.as_body) c.args.messages.now ms e in
    elim c.match-branch-2.branch [
      | in-Some+in_ok-push w ↦
          walked R c.args.messages.now ms c.loop-message.message-index c.message-item.result c.loop-message.copies.items c.match-branch-2.copies.items c.in_ok-copy.field-0
          pairs c.loop-message-test.true c.message-item.is (λ m is. c.in_ok-copy.ensures m (c.message.ensures.value ∙ is))
          (ap (λ v. v.items) w.copies-is ∙ w.in_ok-push.ensures.items ∙ ap (with_some c.loop-message.copies.items) (sym w.in-Some.is)) (c.loop-message.invariant ms e)
      | in_default w ↦
          walked R c.args.messages.now ms c.loop-message.message-index c.message-item.result c.loop-message.copies.items c.match-branch-2.copies.items c.in_ok-copy.field-0
          pairs c.loop-message-test.true c.message-item.is (λ m is. c.in_ok-copy.ensures m (c.message.ensures.value ∙ is))
          (ap (λ v. v.items) w.copies-is ∙ ap (with_some c.loop-message.copies.items) (sym w.in_default.is)) (c.loop-message.invariant ms e)
    ]

pub returns : goal.returns
returns g c = λ ms e.
    let R : CheckedMessage → Signed g.row.B.Denot → Type 0 = λ x m. x.message ≡ as_message g.B.MessageBody.as_body m in
    let pairs = paired_maps (λ x. x.message) (as_message g.B.MessageBody.as_body) c.args.messages.now ms e in
    c.from_vec.ensures ∙ walked_all R c.args.messages.now ms c.loop-message.message-index c.loop-message.copies.items pairs c.loop-message-test.false (c.loop-message.invariant ms e)
