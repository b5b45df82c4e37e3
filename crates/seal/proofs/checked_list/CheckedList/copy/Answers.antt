use Rattle.std.proofs.Common.{List, ap, sym, ◌∙◌}
use Rattle.pbft_codec.specs.declared.body.Body.{Body}
use Rattle.pbft_codec.specs.declared.signed.Signed.{Signed}
use Rattle.seal.specs.Opening.{CheckedMessage}
use Rattle.seal.specs.Lists.{CheckedMessages, with_message}
use Rattle.seal.proofs.Listing.{one_under, one_more}
use Rattle.seal.proofs.checked_list.CheckedList.copy.Goals as goal

pub push-requires : goal.push-requires
push-requires c =
    let l = c.args.self.now in
    let here = one_under l.config l.messages _ c.loop-message.message-index c.message-item.result c.as_slice-message-items.ensures.value c.loop-message-test.true c.message-item.is in
    ap (λ (x : CheckedMessage). x.config) (c.in_ok-copy-2.ensures {u = tt} ∙ here.1) ∙ sym (ap (λ (l : CheckedMessages). l.config) c.loop-message.invariant)

pub loop-message-preserved : goal.loop-message-preserved
loop-message-preserved c =
    let l = c.args.self.now in
    let m = c.message-item.result in
    let here = one_under l.config l.messages _ c.loop-message.message-index m c.as_slice-message-items.ensures.value c.loop-message-test.true c.message-item.is in
    (c.in_ok-push.ensures {u = tt}).pushed ∙ ap (λ (x : CheckedMessage). with_message c.loop-message.copy x.message) (c.in_ok-copy-2.ensures {u = tt})
    ∙ ap (λ (l : CheckedMessages). with_message l m.message) c.loop-message.invariant
    ∙ ap (λ (xs : List (Signed Body)). let k : CheckedMessages = record { config = l.config; messages = xs } in k) (one_more l.config l.messages c.loop-message.message-index m here.0 here.1)
