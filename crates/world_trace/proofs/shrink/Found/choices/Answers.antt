use Rattle.std.proofs.Common.{List, ℕ, rules, subst}
use Rattle.std.specs.Prelude.{IsTrue, Vec}
use Rattle.std.specs.declared.alloc.Global.{Global}
use Rattle.world_trace.specs.Shrinking.{IsFoundBy}
use Rattle.world_trace.proofs.shrink.Found.choices.Goals as goal

pub loop-index-init : goal.loop-index-init
loop-index-init c =
    let yes : IsTrue c.in_ok-is_found_under.field-0 = search rules in
    subst (λ (xs : List (Vec ℕ Global)). IsFoundBy c.args.self.script.now c.args.self.finding xs) c.deref.ensures.value (c.in_ok-is_found_under.ensures yes)
