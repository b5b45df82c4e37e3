-- The generator behind one more delivery.
use Rattle.std.proofs.Common.{◌≡◌, ℕ, suc, ◌+◌, ◌*◌, sym, ap, subst, ◌∙◌, arith}
use Rattle.script_text.specs.declared.script.Chances.{Chances}
use Rattle.script_text.specs.declared.script.DeliveryOrder.{DeliveryOrder}
use Rattle.script_text.specs.declared.script.DeliveryOrder.TheVariants.{Unreliable}
use Rattle.world_queue.specs.Draws.{draws, seed_of}
use Rattle.world_queue.specs.Fates.{next_state, state_behind}

-- with chances it goes on twice
pub two_more : (order : DeliveryOrder) (seed : ℕ) (c : Chances) (n state next last : ℕ) → order ≡ Unreliable seed c → state ≡ state_behind (seed_of order) (draws order n) → next ≡ next_state state
    → last ≡ next_state next → last ≡ state_behind (seed_of order) (draws order (n + 1))
two_more order seed c n state next last is at one two =
    subst (λ (o : DeliveryOrder). last ≡ state_behind (seed_of o) (draws o (n + 1))) (sym is)
    (two ∙ ap next_state (one ∙ ap next_state (at ∙ ap (λ (o : DeliveryOrder). state_behind (seed_of o) (draws o n)) is)) ∙ ap (state_behind seed) (twice n)) where
      twice : (n : ℕ) → suc (suc (2 * n)) ≡ 2 * (n + 1)
      twice n = omega arith
