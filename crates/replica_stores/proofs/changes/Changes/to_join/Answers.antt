use Rattle.std.proofs.Common.{◌≡◌, ◌+◌, ◌<◌, ◌≤◌, Bool, cond, fold, filter, map, None, sym, ap, ◌∙◌, arith}
use Rattle.std.specs.Option.{option_map}
use Rattle.std.specs.FinSet as set
use Rattle.std.proofs.lemmas.Bool.{le-leb, lt-leb}
use Rattle.host_types.specs.Configuration.{Configuration, replicas_for}
use Rattle.pbft_model.specs.Duties.{change_to}
use Rattle.pbft_model.specs.Setup.{count, setup_of}
use Rattle.replica_stores.specs.Changes.{is_ahead}
use Rattle.replica_stores.specs.Stores.{KeptChanges}
use Rattle.replica_stores.proofs.Joining.{join_is, lowest, origin_of, to_view}
use Rattle.replica_stores.proofs.changes.Changes.to_join.Goals as goal

pub returns-then-count-f : goal.returns-then-count-f
returns-then-count-f c = λ s table view.
    let now = c.args.self.now in
    let config : c.self.inside.config.value ≡ now.config = ap (λ (k : KeptChanges). k.config) c.self.view_is in
    let f : c.f.result ≡ now.config.f = c.f.ensures.value ∙ ap (λ (d : Configuration). d.f) (c.deref-2.ensures ∙ config) in
    let many : c.replica_count-id-end.result ≡ replicas_for now.config.f = c.replica_count-id-end.ensures.value ∙ ap (λ (d : Configuration). replicas_for d.f) (c.deref.ensures ∙ config) in
    let id : c.loop-id.id ≡ c.replica_count-id-end.result = omega (arith, c.loop-id-test.false, c.loop-id.auto.id-end) in
    let counted = c.loop-id.invariant.counted ∙ ap (count (set.contains c.signers_ahead-signers.result)) (id ∙ many) in
    let duty = change_to (setup_of now.config) c.args.me.0 s in
    let enough : now.config.f + 1 ≤ c.loop-id.count = omega (arith, f, c.if-count-f.true) in
    join_is (setup_of now.config) c.self.inside.config.value c.args.me.0 s c.self.inside.changes.entries c.args.view.0 c.loop-id.count (set.contains c.signers_ahead-signers.result) c.self.invariant
    (table ∙ sym (ap (λ (k : KeptChanges). k.changes) c.self.view_is)) view c.signers_ahead-signers.ensures counted
    ∙ ap (λ (b : Bool). option_map duty (cond b (fold lowest None (filter (is_ahead c.args.view.0 c.args.me.0) (map origin_of c.self.inside.changes.entries))) None)) (le-leb (now.config.f + 1) c.loop-id.count enough)
    ∙ ap (option_map duty) (sym c.least_ahead.ensures) ∙ to_view duty c.least_ahead.result

pub returns-else-count-f : goal.returns-else-count-f
returns-else-count-f c = λ s table view.
    let now = c.args.self.now in
    let config : c.self.inside.config.value ≡ now.config = ap (λ (k : KeptChanges). k.config) c.self.view_is in
    let f : c.f.result ≡ now.config.f = c.f.ensures.value ∙ ap (λ (d : Configuration). d.f) (c.deref-2.ensures ∙ config) in
    let many : c.replica_count-id-end.result ≡ replicas_for now.config.f = c.replica_count-id-end.ensures.value ∙ ap (λ (d : Configuration). replicas_for d.f) (c.deref.ensures ∙ config) in
    let id : c.loop-id.id ≡ c.replica_count-id-end.result = omega (arith, c.loop-id-test.false, c.loop-id.auto.id-end) in
    let counted = c.loop-id.invariant.counted ∙ ap (count (set.contains c.signers_ahead-signers.result)) (id ∙ many) in
    let duty = change_to (setup_of now.config) c.args.me.0 s in
    let few : c.loop-id.count < now.config.f + 1 = omega (arith, f, c.if-count-f.false) in
    join_is (setup_of now.config) c.self.inside.config.value c.args.me.0 s c.self.inside.changes.entries c.args.view.0 c.loop-id.count (set.contains c.signers_ahead-signers.result) c.self.invariant
    (table ∙ sym (ap (λ (k : KeptChanges). k.changes) c.self.view_is)) view c.signers_ahead-signers.ensures counted
    ∙ ap (λ (b : Bool). option_map duty (cond b (fold lowest None (filter (is_ahead c.args.view.0 c.args.me.0) (map origin_of c.self.inside.changes.entries))) None)) (lt-leb (now.config.f + 1) c.loop-id.count few)
