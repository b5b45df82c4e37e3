use Rattle.std.proofs.Common.{◌≡◌, ◌<◌, ◌≤◌, length, get_or, subst}
use Rattle.quorum_log.proofs.Naming.{named_there, not_named_there, named_nowhere, named_not_below}
use Rattle.quorum_log.proofs.window.Window.names.Goals as goal

pub returns-then-names : goal.returns-then-names
returns-then-names c =
    let all = c.deref-view_slots-items.ensures.value in
    named_there c.args.digest.now.0 c.args.self.now.numbers.items c.loop-view_slots.view_slots-index c.view_slots-item.result c.view_slots-item.result c.names.result
    (subst (λ numbers. c.loop-view_slots.view_slots-index < length numbers) all c.loop-view_slots-test.true) (subst (λ numbers. c.view_slots-item.result ≡ get_or numbers c.loop-view_slots.view_slots-index c.view_slots-item.result) all c.view_slots-item.is)
    c.names.ensures.ordered c.names.ensures.any c.if-names.true

pub loop-view_slots-preserved : goal.loop-view_slots-preserved
loop-view_slots-preserved c =
    let all = c.deref-view_slots-items.ensures.value in
    named_not_below c.args.digest.now.0 c.args.self.now.numbers.items c.loop-view_slots.view_slots-index c.loop-view_slots.invariant
    (not_named_there c.args.digest.now.0 c.args.self.now.numbers.items c.loop-view_slots.view_slots-index c.view_slots-item.result c.view_slots-item.result c.names.result
    (subst (λ numbers. c.loop-view_slots.view_slots-index < length numbers) all c.loop-view_slots-test.true) (subst (λ numbers. c.view_slots-item.result ≡ get_or numbers c.loop-view_slots.view_slots-index c.view_slots-item.result) all c.view_slots-item.is)
    c.names.ensures.any c.if-names.false)

pub returns : goal.returns
returns c =
    let all = c.deref-view_slots-items.ensures.value in
    named_nowhere c.args.digest.now.0 c.args.self.now.numbers.items c.loop-view_slots.view_slots-index (subst (λ numbers. length numbers ≤ c.loop-view_slots.view_slots-index) all c.loop-view_slots-test.false) c.loop-view_slots.invariant
