use Rattle.std.proofs.Common.{◌∙◌, ap, sym}
use Rattle.std.proofs.lemmas.Result.{err_from_is_err_and}
use Rattle.seal.specs.Signers.{own_fault}
use Rattle.seal.proofs.Authenticity.{continues, none_left, stops_whole}
use Rattle.seal.proofs.verify_parts.verify_all.Goals as goal

pub returns-in_err-verify_nested : goal.returns-in_err-verify_nested
returns-in_err-verify_nested c =
    let p = err_from_is_err_and c.from_residual.result c.from_residual.ensures.1 in
    rw (p.1, p.2) (stops_whole c.args.config.now c.args.messages.now c.loop-message.message-index c.message-item.result _ c.loop-message-test.true c.message-item.is c.loop-message.invariant c.in_err-verify_nested.ensures)

pub loop-message-preserved : goal.loop-message-preserved
loop-message-preserved c =
    c.loop-message.invariant ∙ continues c.args.config.now c.args.messages.now c.loop-message.message-index c.message-item.result c.loop-message-test.true (ap (own_fault c.args.config.now) (sym c.message-item.is) ∙ c.in_ok-verify_nested.ensures)

pub returns : goal.returns
returns c = none_left c.args.config.now c.args.messages.now c.loop-message.message-index c.loop-message-test.false c.loop-message.invariant
