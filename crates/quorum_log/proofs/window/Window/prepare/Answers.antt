use Rattle.std.proofs.Common.{◌+◌, ◌<◌, ap, arith, length, sym, subst, ◌∙◌}
use Rattle.std.specs.Prelude.{slice_set}
use Rattle.std.proofs.lemmas.List.{length-set}
use Rattle.quorum_log.specs.Entering.{ArePrepared, offered_for}
use Rattle.quorum_log.proofs.EnteringSlots.{offered_limit, prepared_next, same_then}
use Rattle.quorum_log.proofs.window.Window.prepare.Goals as goal

pub returns-in_err-prepare-clause-same : goal.returns-in_err-prepare-clause-same
returns-in_err-prepare-clause-same c =
    let lt : c.loop-index.index < length c.loop-index.self.numbers.items = omega (arith, c.loop-index-test.true, c.len-index-end.ensures, c.loop-index.invariant.1) in
    same_then c.args.self.now.numbers.items c.loop-index.self.numbers.items c.loop-index.index _ _ c.prepare.new.self c.loop-index.invariant.0 lt c.index_mut.ensures.value c.prepare.ensures.same

pub returns-in_err-push-clause-same : goal.returns-in_err-push-clause-same
returns-in_err-push-clause-same c =
    let lt : c.loop-index.index < length c.loop-index.self.numbers.items = omega (arith, c.loop-index-test.true, c.len-index-end.ensures, c.loop-index.invariant.1) in
    same_then c.args.self.now.numbers.items c.loop-index.self.numbers.items c.loop-index.index _ _ c.prepare.new.self c.loop-index.invariant.0 lt c.index_mut.ensures.value c.prepare.ensures.same

pub loop-index-preserved : goal.loop-index-preserved
loop-index-preserved c =
    let inv = c.loop-index.invariant in
    let lt : c.loop-index.index < length c.loop-index.self.numbers.items = omega (arith, c.loop-index-test.true, c.len-index-end.ensures, inv.1) in
    let offered = c.in_ok-prepare.ensures.copied ∙ c.offered-message.ensures ∙ ap (offered_for c.args.floor.0 c.args.messages.now) c.number_at.ensures
    ∙ offered_limit c.args.floor.0 (c.loop-index.self.low.0 + 1 + c.loop-index.index) c.args.messages.now c.requires in (
      same_then c.args.self.now.numbers.items c.loop-index.self.numbers.items c.loop-index.index _ _ c.prepare.new.self inv.0 lt c.index_mut.ensures.value c.prepare.ensures.same,
      length-set c.loop-index.self.numbers.items c.loop-index.index c.prepare.new.self ∙ inv.1,
      inv.2,
      subst (λ g. ArePrepared (c.loop-index.index + 1) c.loop-index.self.low.0 c.args.floor.0 c.args.view.0 c.args.messages.now g (slice_set c.loop-index.self.numbers.items c.loop-index.index c.prepare.new.self)) (sym c.in_ok-push.ensures.items)
          (prepared_next c.loop-index.index c.loop-index.self.low.0 c.args.floor.0 c.args.view.0 c.args.messages.now c.loop-index.given.items c.loop-index.self.numbers.items c.in_ok-prepare.field-0 c.prepare.new.self
          inv.3 lt offered c.in_ok-prepare.ensures.proper c.in_ok-prepare.ensures.ready),
    )
