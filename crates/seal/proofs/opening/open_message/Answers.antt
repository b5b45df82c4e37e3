use Rattle.std.proofs.Common.{◌∙◌, Ok, ap, sym}
use Rattle.std.proofs.lemmas.Result.{err_from_is_err_and}
use Rattle.seal.specs.Parts.{messages_in}
use Rattle.seal.proofs.Openings.{proper_codec, proper_verified, decode_refused, verify_refused, opens}
use Rattle.seal.proofs.Authenticity.{all_authentic}
use Rattle.seal.proofs.opening.open_message.Goals as goal

pub returns-in_err-message-clause-exact : goal.returns-in_err-message-clause-exact
returns-in_err-message-clause-exact c =
    let p = err_from_is_err_and c.from_residual.result c.from_residual.ensures.1 in
    rw (p.1, p.2) (decode_refused c.args.config.now.value c.args.bytes.now _ c.in_err-message.ensures.exact)

pub returns-in_err-verify_message-clause-exact : goal.returns-in_err-verify_message-clause-exact
returns-in_err-verify_message-clause-exact c =
    let p = err_from_is_err_and c.from_residual-in_err-verify_message.result c.from_residual-in_err-verify_message.ensures.1 in
    let found = rw c.deref.ensures at c.in_err-verify_message.ensures in
    rw (p.1, p.2) (verify_refused c.args.config.now.value c.args.bytes.now c.in_ok-message.message _ c.in_ok-message.ensures.exact found)

pub new-requires-clause-authentic : goal.new-requires-clause-authentic
new-requires-clause-authentic c =
    let none = rw c.deref.ensures at c.in_ok-verify_message.ensures in
    all_authentic c.args.config.now.value (messages_in c.in_ok-message.message) none

pub returns-clause-exact : goal.returns-clause-exact
returns-clause-exact c =
    let none = rw c.deref.ensures at c.in_ok-verify_message.ensures in
    opens c.args.config.now.value c.args.bytes.now c.in_ok-message.message c.in_ok-message.ensures.exact none ∙ sym (ap Ok c.in_ok-new.ensures)

pub returns-in_err-message-clause-proper : goal.returns-in_err-message-clause-proper
returns-in_err-message-clause-proper c =
    let p = err_from_is_err_and c.from_residual.result c.from_residual.ensures.1 in
    rw (p.1, p.2) (proper_codec _)

pub returns-in_err-verify_message-clause-proper : goal.returns-in_err-verify_message-clause-proper
returns-in_err-verify_message-clause-proper c =
    let p = err_from_is_err_and c.from_residual-in_err-verify_message.result c.from_residual-in_err-verify_message.ensures.1 in
    rw (p.1, p.2) (proper_verified c.deref.result.now (messages_in c.in_ok-message.message) _ c.in_err-verify_message.ensures)
