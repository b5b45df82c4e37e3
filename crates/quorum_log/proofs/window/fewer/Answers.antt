use Rattle.std.proofs.Common.{refl, inl, inr, arith}
use Rattle.quorum_log.proofs.window.fewer.Goals as goal

pub returns-then-numbers-span-clause-value : goal.returns-then-numbers-span-clause-value
returns-then-numbers-span-clause-value c = inl refl

pub returns-else-numbers-span-clause-value : goal.returns-else-numbers-span-clause-value
returns-else-numbers-span-clause-value c = inr (refl, omega (arith, c.if-numbers-span.false))
