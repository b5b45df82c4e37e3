use Rattle.std.proofs.Common.{◌≡◌, ℕ, ◌+◌, ◌*◌, ap, sym, ◌∙◌, arith}
use Rattle.std.specs.Prelude.{nat_lt, nat_le}
use Rattle.host_types.specs.Configuration.{Configuration, replicas_for}
use Rattle.pbft_model.specs.Setup.{count}
use Rattle.replica_stores.specs.Changes.{is_wanted}
use Rattle.replica_stores.specs.Stores.{KeptChanges}
use Rattle.replica_stores.proofs.Counting.{more_than}
use Rattle.replica_stores.proofs.changes.Changes.has_quorum.Goals as goal

pub returns : goal.returns
returns c = λ s table view.
    let config : c.self.inside.config.value ≡ c.args.self.now.config = ap (λ (k : KeptChanges). k.config) c.self.view_is in
    let f : c.f.result ≡ c.args.self.now.config.f = c.f.ensures.value ∙ ap (λ (d : Configuration). d.f) (c.deref-2.ensures ∙ config) in
    let many : c.replica_count-id-end.result ≡ replicas_for c.args.self.now.config.f = c.replica_count-id-end.ensures.value ∙ ap (λ (d : Configuration). replicas_for d.f) (c.deref.ensures ∙ config) in
    let id : c.loop-id.id ≡ c.replica_count-id-end.result = omega (arith, c.loop-id-test.false, c.loop-id.auto.id-end) in
    ap (λ (n : ℕ). nat_lt (2 * n) c.loop-id.count) f
    ∙ ap (nat_lt (2 * c.args.self.now.config.f)) (c.loop-id.invariant.counted ∙ ap (count (is_wanted c.args.self.now.changes c.args.view.0)) (id ∙ many))
    ∙ more_than (2 * c.args.self.now.config.f) (count (is_wanted c.args.self.now.changes c.args.view.0) (replicas_for c.args.self.now.config.f))
    ∙ (λ i. nat_le (2 * c.args.self.now.config.f + 1) (count (is_wanted (sym table i) (sym view i)) (replicas_for c.args.self.now.config.f)))
