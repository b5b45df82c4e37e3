use Rattle.std.proofs.Common.{ap, ◌∙◌, ◌+◌, length}
use Rattle.quorum_log.specs.Windows.{slots_at}
use Rattle.quorum_log.proofs.Windows.{empty_put, put_length}
use Rattle.quorum_log.proofs.window.Window.new.Goals as goal

pub loop-preserved : goal.loop-preserved
loop-preserved c =
    let items = c.in_ok-push.ensures.items in (
      ap length items ∙ put_length c.loop.numbers.items c.new.result ∙ ap (λ n. n + 1) c.loop.invariant.0,
      λ i v. ap (λ numbers. slots_at numbers i v) items ∙ empty_put c.loop.numbers.items c.new.result c.loop.invariant.1 c.new.ensures i v,
    )
