use Rattle.std.proofs.Common.{◌≡◌, length, refl, sym, subst, ◌∙◌, arith}
use Rattle.std.proofs.lemmas.Bool.{true≢false}
use Rattle.std.proofs.lemmas.Option.{slice_get_read}
use Rattle.byz_world.specs.Rows.{Received}
use Rattle.byz_world.specs.Facts.{input_of}
use Rattle.byz_world.specs.Input.{Input}
use Rattle.drained_records.proofs.Receiving.{is_received, is_not_received, not_yet}
use Rattle.drained_records.proofs.receipt.has_received.Goals as goal

pub returns-then-is_input : goal.returns-then-is_input
returns-then-is_input c =
    let rows = c.args.rows.now in
    let m = c.args.message.now.message in
    let at = slice_get_read rows (length rows) c.loop-row.row-index c.row-item.result refl c.loop-row-test.true c.row-item.is in
    let is = subst (λ (x : Input). input_of x ≡ Received m) c.input.ensures (c.is_input.ensures.0 c.if-is_input.true) in
    (λ t. is_received rows c.loop-row.row-index c.row-item.result m at is, λ h. refl)

pub loop-row-preserved : goal.loop-row-preserved
loop-row-preserved c =
    let rows = c.args.rows.now in
    let m = c.args.message.now.message in
    let at = slice_get_read rows (length rows) c.loop-row.row-index c.row-item.result refl c.loop-row-test.true c.row-item.is in
    not_yet rows c.loop-row.row-index c.row-item.result m at
    (λ is. true≢false (sym (c.is_input.ensures.1 (subst (λ (x : Input). input_of x ≡ Received m) (sym c.input.ensures) is))
    ∙ c.if-is_input.false)) c.loop-row.invariant

pub returns : goal.returns
returns c = (
  λ t. absurd (true≢false (sym t)),
  λ has. absurd (is_not_received c.args.rows.now c.args.message.now.message
      (λ i r below at is. c.loop-row.invariant i r (omega (arith, below, c.loop-row-test.false)) at is) has),
)
