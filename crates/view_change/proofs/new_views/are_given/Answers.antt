use Rattle.std.proofs.Common.{ℕ, ◌+◌, Bool, ◌&&◌, drop, sym, ap, ◌∙◌, arith}
use Rattle.quorum_log.specs.Validity.{are_given, given}
use Rattle.quorum_log.specs.Setup.{setup_of}
use Rattle.view_change.specs.Proposals.{left_from}
use Rattle.view_change.proofs.Giving.{one_more, all_passed}
use Rattle.view_change.proofs.new_views.are_given.Goals as goal

pub returns-then-not-is_proposed : goal.returns-then-not-is_proposed
returns-then-not-is_proposed c =
    let c0 = setup_of c.args.config.now in
    let n = c.loop-message.number in
    let next = one_more c0 c.from-leader.result c.args.view.0 n c.top_of-top.result c.args.changes.now c.args.pre_prepares.now c.loop-message.message-index c.message-item.result c.digest_at.result.0
    c.loop-message-test.true c.message-item.is c.if-number-top.false (c.digest_at.ensures c.args.config.now) in
    let stop = sym c.if-not-is_proposed.true ∙ c.is_proposed.ensures in
    ap (λ (b : Bool). b && are_given c.from-leader.result (left_from c0 c.args.view.0 c.args.changes.now (n + 1) c.top_of-top.result) (drop (c.loop-message.message-index + 1) c.args.pre_prepares.now)) stop
    ∙ sym next ∙ c.loop-message.invariant.1
    ∙ ap (λ (leader : ℕ). are_given leader (given c0 c.args.view.0 c.args.changes.now) c.args.pre_prepares.now) (c.from-leader.ensures ∙ c.primary.ensures)

pub loop-message-preserved : goal.loop-message-preserved
loop-message-preserved c =
    let c0 = setup_of c.args.config.now in
    let n = c.loop-message.number in
    let next = one_more c0 c.from-leader.result c.args.view.0 n c.top_of-top.result c.args.changes.now c.args.pre_prepares.now c.loop-message.message-index c.message-item.result c.digest_at.result.0
    c.loop-message-test.true c.message-item.is c.if-number-top.false (c.digest_at.ensures c.args.config.now) in
    let continues = sym c.if-not-is_proposed.false ∙ c.is_proposed.ensures in (
      omega (arith, c.if-number-top.false),
      ap (λ (b : Bool). b && are_given c.from-leader.result (left_from c0 c.args.view.0 c.args.changes.now (n + 1) c.top_of-top.result) (drop (c.loop-message.message-index + 1) c.args.pre_prepares.now)) continues
          ∙ sym next ∙ c.loop-message.invariant.1,
    )

pub returns : goal.returns
returns c =
    let c0 = setup_of c.args.config.now in
    all_passed c0 c.from-leader.result c.args.view.0 c.loop-message.number c.top_of-top.result c.args.changes.now c.args.pre_prepares.now c.loop-message.message-index c.loop-message-test.false c.loop-message.invariant.0
    ∙ c.loop-message.invariant.1
    ∙ ap (λ (leader : ℕ). are_given leader (given c0 c.args.view.0 c.args.changes.now) c.args.pre_prepares.now) (c.from-leader.ensures ∙ c.primary.ensures)
