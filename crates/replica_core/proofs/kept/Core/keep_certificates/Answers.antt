use Rattle.std.proofs.Common.{◌+◌, ◌-◌, ◌≤◌, ℕ, ap, arith, subst, ◌∙◌}
use Rattle.replica_core.specs.Replicas.{KeptReplica}
use Rattle.replica_core.proofs.Leaving.{KeepsAt, from_next}
use Rattle.replica_core.proofs.kept.Core.keep_certificates.Goals as goal

pub overflow_add-low : goal.overflow_add-low
overflow_add-low c =
    let value = c.low-low.ensures.value in
    let reached = c.self.invariant.reached in
    let executed = c.self.invariant.executed in
    omega arith

pub loop-index-preserved : goal.loop-index-preserved
loop-index-preserved c =
    let i = c.loop-index.index in
    let low = c.low-low.ensures.value ∙ ap (λ (k : KeptReplica). k.core.low) c.self.view_is in
    c.in_ok-keep_certificate.ensures.kept ∙ ap (λ (k : KeptReplica). KeepsAt k (c.low-low.result.0 + 1 + (i - 1))) c.loop-index.invariant
    ∙ from_next c.args.self.now i (c.low-low.result.0 + 1 + (i - 1)) (omega (arith, c.loop-index-test.true)) (subst (λ (n : ℕ). i ≤ n) c.span-index.ensures c.loop-index.auto.index) (ap (λ (n : ℕ). n + 1 + (i - 1)) low)
