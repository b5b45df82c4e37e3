use Rattle.std.proofs.Common.{◌+◌, ◌<◌, ap, arith, length, sym, subst, ◌∙◌}
use Rattle.std.specs.Prelude.{nat_lt}
use Rattle.quorum_log.specs.Entering.{AreEntered, offered_for}
use Rattle.quorum_log.proofs.EnteringSlots.{above_limit, entered_next, given_above, left_given, length_left, offered_own, ready_at}
use Rattle.quorum_log.proofs.window.Window.enter.Goals as goal

pub enter-requires-clause-above : goal.enter-requires-clause-above
enter-requires-clause-above c =
    let inv = c.loop-index.invariant in
    let lt : c.loop-index.index < length c.args.self.now.numbers.items = omega (arith, c.loop-index-test.true, c.len-index-end.ensures) in
    let low = ap (λ n. n.0) inv.1 in
    let own = offered_own c.loop-index.index c.args.self.now.low.0 c.args.floor.0 c.args.view.0 c.args.messages.now c.args.given.now c.loop-index.given c.args.self.now.numbers.items c.take-own.result c.index-given-index.result
    c.requires.prepared lt c.take-own.ensures.value inv.2 inv.3 in
    λ h. ap (nat_lt c.args.floor.0) (c.number_at-number.ensures)
    ∙ above_limit c.args.floor.0 (c.loop-index.self.low.0 + 1 + c.loop-index.index) (omega (arith, c.requires.top, c.requires.bound))
    ∙ ap (λ n. nat_lt c.args.floor.0 (n + 1 + c.loop-index.index)) low
    ∙ given_above c.args.floor.0 (c.args.self.now.low.0 + 1 + c.loop-index.index) c.args.messages.now c.take-own.result own h

pub enter-requires-clause-ready : goal.enter-requires-clause-ready
enter-requires-clause-ready c =
    let inv = c.loop-index.invariant in
    let lt : c.loop-index.index < length c.args.self.now.numbers.items = omega (arith, c.loop-index-test.true, c.len-index-end.ensures) in
    ready_at c.loop-index.index c.args.self.now.low.0 c.args.floor.0 c.args.view.0 c.args.messages.now c.args.given.now c.loop-index.given c.args.self.now.numbers.items c.loop-index.self.numbers.items _ c.index_mut.result.now c.take-own.result c.index-given-index.result
    c.requires.prepared (subst (λ n. AreEntered c.loop-index.index n.0 c.args.floor.0 c.args.view.0 c.args.messages.now c.args.self.now.numbers.items c.loop-index.self.numbers.items) inv.1 inv.0)
    lt c.take-own.ensures.value inv.2 inv.3 c.index_mut.ensures.value

pub loop-index-preserved : goal.loop-index-preserved
loop-index-preserved c =
    let inv = c.loop-index.invariant in
    let lt : c.loop-index.index < length c.args.self.now.numbers.items = omega (arith, c.loop-index-test.true, c.len-index-end.ensures) in
    let low = ap (λ n. n.0) inv.1 in
    let own = offered_own c.loop-index.index c.args.self.now.low.0 c.args.floor.0 c.args.view.0 c.args.messages.now c.args.given.now c.loop-index.given c.args.self.now.numbers.items c.take-own.result c.index-given-index.result
    c.requires.prepared lt c.take-own.ensures.value inv.2 inv.3 in
    let number = c.loop-index.self.low.0 + 1 + c.loop-index.index in (
      entered_next c.loop-index.index c.loop-index.self.low.0 c.args.floor.0 c.args.view.0 c.args.messages.now c.args.self.now.numbers.items c.loop-index.self.numbers.items _ c.index_mut.result.now c.enter.new.self
          (nat_lt c.args.floor.0 c.number_at-number.result) (nat_lt c.args.top c.number_at-number.result) c.take-own.result inv.0 lt c.index_mut.ensures.value c.enter.ensures
          (ap (nat_lt c.args.floor.0) c.number_at-number.ensures ∙ above_limit c.args.floor.0 number (omega (arith, c.requires.top, c.requires.bound)))
          (ap (nat_lt c.args.top) c.number_at-number.ensures ∙ above_limit c.args.top number c.requires.bound ∙ ap (λ n. nat_lt n number) c.requires.top)
          (own ∙ ap (λ n. offered_for c.args.floor.0 c.args.messages.now (n + 1 + c.loop-index.index)) (sym low)),
      inv.1,
      length_left c.loop-index.given c.loop-index.index c.take-own.new.self ∙ inv.2,
      λ i le. left_given c.loop-index.given c.loop-index.index i c.take-own.new.self le ∙ inv.3 i (omega (arith, le)),
    )
