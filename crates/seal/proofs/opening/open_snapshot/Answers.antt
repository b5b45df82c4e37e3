use Rattle.std.proofs.Common.{◌∙◌, Ok, ap, sym}
use Rattle.std.proofs.lemmas.Result.{err_from_is_err_and}
use Rattle.pbft_codec.specs.Snapshots.{message_in}
use Rattle.pbft_codec.proofs.MessageLaws.{reading_only}
use Rattle.seal.specs.Parts.{messages_in}
use Rattle.seal.proofs.Openings.{proper_verified, verify_refused, opens}
use Rattle.seal.proofs.Authenticity.{all_authentic}
use Rattle.seal.proofs.opening.open_snapshot.Goals as goal

pub returns-in_err-copy-clause-exact : goal.returns-in_err-copy-clause-exact
returns-in_err-copy-clause-exact c =
    let p = err_from_is_err_and c.from_residual.result c.from_residual.ensures.1 in
    let found = rw c.deref.ensures at c.in_err-copy.ensures.verdict in
    rw (p.1, p.2) (verify_refused c.args.config.now.value c.args.bytes.now (message_in c.args.snapshot.now) _ (reading_only _ _ c.requires) found)

pub returns-in_err-copy-clause-proper : goal.returns-in_err-copy-clause-proper
returns-in_err-copy-clause-proper c =
    let p = err_from_is_err_and c.from_residual.result c.from_residual.ensures.1 in
    rw (p.1, p.2) (proper_verified c.deref.result.now (messages_in (message_in c.args.snapshot.now)) _ c.in_err-copy.ensures.verdict)

pub new-requires-2-clause-authentic : goal.new-requires-2-clause-authentic
new-requires-2-clause-authentic c =
    let none = rw c.deref.ensures at c.in_ok-copy.ensures.verdict in
    rw c.in_ok-message.ensures (all_authentic c.args.config.now.value (messages_in (message_in c.args.snapshot.now)) none)

pub returns-clause-exact : goal.returns-clause-exact
returns-clause-exact c =
    let none = rw c.deref.ensures at c.in_ok-copy.ensures.verdict in
    let opened = opens c.args.config.now.value c.args.bytes.now (message_in c.args.snapshot.now) (reading_only _ _ c.requires) none in
    let new = rw c.in_ok-message.ensures at c.in_ok-new.ensures in
    opened ∙ sym (ap Ok new)
