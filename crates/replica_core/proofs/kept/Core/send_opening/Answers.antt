use Rattle.std.proofs.Common.{ap, subst, sym, ◌∙◌}
use Rattle.host_types.specs.Configuration.{IsConfiguration}
use Rattle.seal.specs.Lists.{CheckedMessages}
use Rattle.replica_core.specs.Opens.{opening_of}
use Rattle.replica_core.specs.Replicas.{KeptReplica}
use Rattle.replica_core.proofs.Opening.{few_messages, is_new_view, may_sign_opening, opening_is_sealable, opening_sent, opening_signed, still_view}
use Rattle.replica_stores.proofs.Results.{given, if_ok, on_ok}
use Rattle.replica_core.proofs.kept.Core.send_opening.Goals as goal

pub send-requires-clause-role : goal.send-requires-clause-role
send-requires-clause-role c =
    let k = c.args.self.now in
    let ps = c.args.entries.now in
    let t = c.signed_list.new.self in
    let after_all = c.in_ok-pre_prepares.ensures.after in
    let is = is_new_view k ps c.requires.given c.view.result c.args.changes.now c.in_ok-pre_prepares.pre_prepares (c.view.ensures ∙ still_view k ps c.requires.given t after_all) c.requires.chosen c.in_ok-pre_prepares.ensures.signed in
    may_sign_opening k ps c.requires.given t after_all c.in_ok-body.body (given _ c.make_new_view.result c.in_ok-body.body c.in_ok-body.ensures.given (c.make_new_view.ensures.made (opening_of k) is)) c.requires.to_open

pub send-requires-clause-sealable : goal.send-requires-clause-sealable
send-requires-clause-sealable c =
    let k = c.args.self.now in
    let ps = c.args.entries.now in
    let t = c.signed_list.new.self in
    let after_all = c.in_ok-pre_prepares.ensures.after in
    let is = is_new_view k ps c.requires.given c.view.result c.args.changes.now c.in_ok-pre_prepares.pre_prepares (c.view.ensures ∙ still_view k ps c.requires.given t after_all) c.requires.chosen c.in_ok-pre_prepares.ensures.signed in
    let legal = subst IsConfiguration (ap (λ (x : KeptReplica). x.config) (c.self.view_is ∙ after_all)) c.self.invariant.legal in
    opening_is_sealable k ps c.requires.given t after_all c.args.changes.now c.in_ok-body.body c.requires.chosen
    (given _ c.make_new_view.result c.in_ok-body.body c.in_ok-body.ensures.given (c.make_new_view.ensures.sealable (opening_of k) is (few_messages k ps c.requires.given legal c.requires.to_open)
    (ap (λ (l : CheckedMessages). l.config) c.in_ok-pre_prepares.ensures.signed ∙ sym (ap (λ (l : CheckedMessages). l.config) c.requires.chosen))))

pub returns-clause-signed : goal.returns-clause-signed
returns-clause-signed c =
    let k = c.args.self.now in
    let ps = c.args.entries.now in
    let t = c.signed_list.new.self in
    let after_all = c.in_ok-pre_prepares.ensures.after in
    let is = is_new_view k ps c.requires.given c.view.result c.args.changes.now c.in_ok-pre_prepares.pre_prepares (c.view.ensures ∙ still_view k ps c.requires.given t after_all) c.requires.chosen c.in_ok-pre_prepares.ensures.signed in
    if_ok c.send.result c.send.ensures.signed (λ m signed. opening_signed k ps c.requires.given t after_all c.in_ok-body.body m (given _ c.make_new_view.result c.in_ok-body.body c.in_ok-body.ensures.given (c.make_new_view.ensures.made (opening_of k) is)) signed)

pub returns-clause-sent : goal.returns-clause-sent
returns-clause-sent c =
    let k = c.args.self.now in
    let ps = c.args.entries.now in
    let t = c.signed_list.new.self in
    let after_all = c.in_ok-pre_prepares.ensures.after in
    let is = is_new_view k ps c.requires.given c.view.result c.args.changes.now c.in_ok-pre_prepares.pre_prepares (c.view.ensures ∙ still_view k ps c.requires.given t after_all) c.requires.chosen c.in_ok-pre_prepares.ensures.signed in
    on_ok c.send.result c.send.ensures.after (λ sent. opening_sent k ps c.requires.given t after_all c.in_ok-body.body c.send.new.self (given _ c.make_new_view.result c.in_ok-body.body c.in_ok-body.ensures.given (c.make_new_view.ensures.made (opening_of k) is)) sent)
