use Rattle.std.proofs.Common.{◌≡◌, ◌+◌, ◌-◌, ◌≤◌, ◌∙◌, ℕ, Err, Ok, ap, arith, rules, sym, subst}
use Rattle.world_script.specs.declared.fault.RunFault.TheVariants.{Memory}
use Rattle.world_trace.specs.Finding.{TakesSeeds}
use Rattle.world_trace.specs.Searches.{Searches}
use Rattle.world_trace.proofs.Finding.{from_start, stands_at_end, stands_early}
use Rattle.world_trace.proofs.findings.Searching.run_in_batches.Goals as goal

pub returns-in_err-batch : goal.returns-in_err-batch
returns-in_err-batch g c =
    let same : c.from_residual.result ≡ Err Memory = search rules in
    subst (Searches c.args.self.script.now c.args.self.search (g.O.Write.contents c.args.writer.now) (g.O.Write.contents c.loop-next.writer)) (sym same)
    (stands_early _ _ _ _ _ _ c.loop-next.invariant.1 c.loop-next.invariant.0)

pub returns-in-Refused : goal.returns-in-Refused
returns-in-Refused g c =
    subst (TakesSeeds c.args.self.script.now c.args.self.search _ c.take_batch.new.blamed.items (g.O.Write.contents c.args.writer.now) (g.O.Write.contents c.take_batch.new.writer)) (c.in_ok-take_batch.was ∙ ap Ok c.in-Refused.is)
    (c.take_batch.ensures _ c.loop-next.invariant.1)

pub returns : goal.returns
returns g c =
    stands_at_end _ _ _ _ _ _ c.loop-next.invariant.1
    (all_run _ _ _ (from_start _ _ _ _ _ _ c.loop-next.invariant.1) c.loop-next-test.false c.loop-next.invariant.0) _ _ c.end.ensures where
      all_run : (f e n : ℕ) → f ≤ n → e ≤ n → n ≤ f + (e - f) → n ≡ f + (e - f)
      all_run f e n x y z = omega (arith, x, y, z)
