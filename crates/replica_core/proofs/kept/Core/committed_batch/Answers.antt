use Rattle.std.proofs.Common.{◌≡◌, ◌+◌, ◌%◌, true, false, ℕ, List, length, sym, ap, subst, ◌∙◌, arith}
use Rattle.std.specs.Prelude.{◌==◌}
use Rattle.std.proofs.lemmas.Bool.{ne_eqb}
use Rattle.std.proofs.lemmas.List.{length_push}
use Rattle.host_types.specs.Configuration.{Configuration}
use Rattle.host_types.specs.declared.Digest.{Digest}
use Rattle.pbft_model.specs.Core.{is_committed}
use Rattle.pbft_model.specs.Setup.{setup_of}
use Rattle.replica_core.specs.Batching.{IsBatch}
use Rattle.replica_core.specs.Replicas.{KeptReplica}
use Rattle.replica_core.proofs.Committing.{found, longer_batch}
use Rattle.replica_core.proofs.kept.Core.committed_batch.Goals as goal

pub returns-then-number-interval-eq0-clause-committed : goal.returns-then-number-interval-eq0-clause-committed
returns-then-number-interval-eq0-clause-committed c =
    let k = c.args.self.now in
    let setup = setup_of k.config in
    let ds : List Digest = c.loop-digest.digests.items in
    let inv = c.loop-digest.invariant in
    let f = found setup k.core c.numbers.ensures.numbered (c.loop-digest.number + 1) c.in-Some.digest c.in-Some.ensures in
    let here : c.loop-digest.number + 1 ≡ k.core.executed + length ds + 1 = omega (arith, inv.number) in
    let more = longer_batch setup k.core k.core.executed ds c.in-Some.digest inv.batch (λ some. subst (λ (n : ℕ). (n % k.config.k == 0) ≡ false) inv.number (inv.between some))
    (subst (λ (n : ℕ). is_committed setup k.core (record { view = k.core.view; number = n; digest = c.in-Some.digest.0 }) ≡ true) here f.0) in
    subst (λ (xs : List Digest). IsBatch setup k.core k.core.executed xs) (sym c.in_ok-push.ensures.items) more

pub loop-digest-preserved : goal.loop-digest-preserved
loop-digest-preserved c =
    let k = c.args.self.now in
    let setup = setup_of k.config in
    let ds : List Digest = c.loop-digest.digests.items in
    let inv = c.loop-digest.invariant in
    let f = found setup k.core c.numbers.ensures.numbered (c.loop-digest.number + 1) c.in-Some.digest c.in-Some.ensures in
    let here : c.loop-digest.number + 1 ≡ k.core.executed + length ds + 1 = omega (arith, inv.number) in
    let more = longer_batch setup k.core k.core.executed ds c.in-Some.digest inv.batch (λ some. subst (λ (n : ℕ). (n % k.config.k == 0) ≡ false) inv.number (inv.between some))
    (subst (λ (n : ℕ). is_committed setup k.core (record { view = k.core.view; number = n; digest = c.in-Some.digest.0 }) ≡ true) here f.0) in
    let long : length c.push.new.self.items ≡ length ds + 1 = ap length c.in_ok-push.ensures.items ∙ length_push ds c.in-Some.digest in
    let interval : c.from-interval.result ≡ k.config.k = c.from-interval.ensures ∙ c.k.ensures.value ∙ ap (λ (x : Configuration). x.k) c.deref.ensures ∙ ap (λ (x : KeptReplica). x.config.k) c.self.view_is in
    record {
      batch = subst (λ (xs : List Digest). IsBatch setup k.core k.core.executed xs) (sym c.in_ok-push.ensures.items) more;
      number = omega (arith, here, long);
      low = f.1;
      between = λ some. subst (λ (n : ℕ). ((c.loop-digest.number + 1) % n == 0) ≡ false) interval (ne_eqb ((c.loop-digest.number + 1) % c.from-interval.result) 0 c.if-number-interval-eq0.false);
    }
