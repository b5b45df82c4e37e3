use Rattle.std.proofs.Common.{◌≡◌, ◌≤◌, ◌++◌, List, length, sym, subst}
use Rattle.std.specs.Prelude.{All}
use Rattle.host_types.specs.declared.request.Reply.{Reply}
use Rattle.service_core.specs.Readings.{Contents, AreContents, encoded_contents}
use Rattle.service_core.proofs.RepliesInTurn.{tenant_replies_all}
use Rattle.service_core.proofs.tenant_reader.read_part.Goals as goal

pub with-part-requires-clause-replies : goal.with-part-requires-clause-replies
with-part-requires-clause-replies c =
    let last_replies = c.in_ok-last_replies.ensures in
    subst (λ (rs : List Reply). All (λ reply. length reply.result ≤ 265) rs) (sym last_replies) (tenant_replies_all (λ (reply : Reply). length reply.result ≤ 265) c.args.config.now.clients c.args.tenant.0 c.args.replies.now c.requires)

pub returns-clause-read : goal.returns-clause-read
returns-clause-read c =
    let here = c.in_ok-procedures.ensures in
    let codes = sym c.with-part.ensures.procedures in
    let entries = sym c.with-part.ensures.entries in
    subst (λ (x : Contents). AreContents c.args.version x × (c.args.bytes.now ≡ encoded_contents c.args.version c.args.tenant.0 x ++ c.in_ok-procedures.rest.now)) (λ i. (codes i, entries i)) here
