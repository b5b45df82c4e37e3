use Rattle.std.proofs.Common.{◌≡◌, ◌<◌, ◌^◌, List, [], Option, length, map, refl, ap, subst, sym, ◌∙◌}
use Rattle.std.specs.List.{All}
use Rattle.std.specs.Prelude.{IfSome}
use Rattle.std.proofs.lemmas.Result.{err_from_is_err_and}
use Rattle.host_types.specs.declared.Digest.{Digest}
use Rattle.host_types.specs.declared.request.Request.{Request}
use Rattle.pbft_model.specs.Core.{request_of}
use Rattle.pbft_model.specs.Setup.{setup_of}
use Rattle.replica_core.specs.Batching.{IsReporting}
use Rattle.replica_core.specs.Replicas.{KeptReplica}
use Rattle.replica_core.specs.Settling.{HaltsAfter}
use Rattle.replica_core.proofs.Batching.{batch_done, batch_halts, even, low_requests, memory_halts, short}
use Rattle.replica_core.proofs.kept.Core.execute_batch.Goals as goal

pub apply_requests-requires-clause-numbers : goal.apply_requests-requires-clause-numbers
apply_requests-requires-clause-numbers g c κs within =
    let k = c.args.self in
    low_requests k k c.in_ok-digests.digests.items c.deref-2.result.now [] c.numbers.ensures.legal c.requires.reached c.numbers.ensures.viewed
    (subst (λ (x : KeptReplica). x.core.executed ≡ x.core.service.number) c.self.view_is refl) c.requires.due c.in_ok-digests.ensures.committed c.in_ok-digests.ensures.whole c.in_ok-digests.ensures.low
    (c.deref-2.ensures.value ∙ c.in_ok-requests.ensures.requests ∙ ap (map (λ d. request_of (setup_of k.config) k.core d.0)) c.deref.ensures.value)

pub report_batch-requires-clause-lengths : goal.report_batch-requires-clause-lengths
report_batch-requires-clause-lengths g c =
    even c.args.self c.in_ok-core.core c.in_ok-digests.digests.items c.deref-2.result.now c.in_ok-core.outcomes.items c.numbers.ensures.legal c.requires.reached c.numbers.ensures.viewed
    (subst (λ (x : KeptReplica). x.core.executed ≡ x.core.service.number) c.self.view_is refl) c.requires.due c.in_ok-digests.ensures.committed c.in_ok-digests.ensures.whole c.in_ok-digests.ensures.low
    (c.deref-2.ensures.value ∙ c.in_ok-requests.ensures.requests ∙ ap (map (λ d. request_of (setup_of c.args.self.config) c.args.self.core d.0)) c.deref.ensures.value)
    (subst (λ (rs : List (Option Request)). All (λ o. IfSome o (λ taken. (taken.client.0 < 2 ^ 32) × (taken.time < 2 ^ 64))) rs) (sym c.deref-2.ensures.value) c.in_ok-requests.ensures.in_range)
    c.in_ok-core.ensures.followed c.in_ok-core.ensures.rest
    ∙ sym (ap length c.deref-3.ensures.value)

pub report_batch-requires-clause-short : goal.report_batch-requires-clause-short
report_batch-requires-clause-short g c =
    short c.args.self c.in_ok-core.core c.in_ok-digests.digests.items c.deref-2.result.now c.in_ok-core.outcomes.items c.numbers.ensures.legal c.requires.reached c.numbers.ensures.viewed
    (subst (λ (x : KeptReplica). x.core.executed ≡ x.core.service.number) c.self.view_is refl) c.requires.due c.in_ok-digests.ensures.committed c.in_ok-digests.ensures.whole c.in_ok-digests.ensures.low
    (c.deref-2.ensures.value ∙ c.in_ok-requests.ensures.requests ∙ ap (map (λ d. request_of (setup_of c.args.self.config) c.args.self.core d.0)) c.deref.ensures.value)
    (subst (λ (rs : List (Option Request)). All (λ o. IfSome o (λ taken. (taken.client.0 < 2 ^ 32) × (taken.time < 2 ^ 64))) rs) (sym c.deref-2.ensures.value) c.in_ok-requests.ensures.in_range)
    c.in_ok-core.ensures.followed c.in_ok-core.ensures.rest

pub returns-clause-done : goal.returns-clause-done
returns-clause-done g c =
    batch_done c.args.self c.in_ok-core.core c.in_ok-digests.digests.items c.deref-2.result.now c.in_ok-core.outcomes.items c.numbers.ensures.legal c.requires.reached c.numbers.ensures.viewed
    (subst (λ (x : KeptReplica). x.core.executed ≡ x.core.service.number) c.self.view_is refl) c.requires.due c.in_ok-digests.ensures.committed c.in_ok-digests.ensures.whole c.in_ok-digests.ensures.low
    (c.deref-2.ensures.value ∙ c.in_ok-requests.ensures.requests ∙ ap (map (λ d. request_of (setup_of c.args.self.config) c.args.self.core d.0)) c.deref.ensures.value)
    (subst (λ (rs : List (Option Request)). All (λ o. IfSome o (λ taken. (taken.client.0 < 2 ^ 32) × (taken.time < 2 ^ 64))) rs) (sym c.deref-2.ensures.value) c.in_ok-requests.ensures.in_range)
    c.in_ok-core.ensures.followed c.in_ok-core.ensures.rest
    c.report_batch.new.self
    (subst (λ (xs : List Digest). (j : KeptReplica) → IsReporting j c.in_ok-core.core 0 xs c.in_ok-core.outcomes.items → IsReporting j c.report_batch.new.self (length xs) [] []) c.deref-3.ensures.value c.in_ok-report_batch.ensures.reported)

pub returns-in_err-report_batch-clause-halted : goal.returns-in_err-report_batch-clause-halted
returns-in_err-report_batch-clause-halted g c =
    let p = err_from_is_err_and c.from_residual-in_err-report_batch.result c.from_residual-in_err-report_batch.ensures.1 in
    rw (p.1, p.2) (batch_halts c.args.self c.in_ok-core.core c.in_ok-digests.digests.items c.deref-2.result.now c.in_ok-core.outcomes.items c.numbers.ensures.legal c.requires.reached c.numbers.ensures.viewed
    (subst (λ (x : KeptReplica). x.core.executed ≡ x.core.service.number) c.self.view_is refl) c.requires.due c.in_ok-digests.ensures.committed c.in_ok-digests.ensures.whole c.in_ok-digests.ensures.low
    (c.deref-2.ensures.value ∙ c.in_ok-requests.ensures.requests ∙ ap (map (λ d. request_of (setup_of c.args.self.config) c.args.self.core d.0)) c.deref.ensures.value)
    (subst (λ (rs : List (Option Request)). All (λ o. IfSome o (λ taken. (taken.client.0 < 2 ^ 32) × (taken.time < 2 ^ 64))) rs) (sym c.deref-2.ensures.value) c.in_ok-requests.ensures.in_range)
    c.in_ok-core.ensures.followed c.in_ok-core.ensures.rest
    c.in_err-report_batch.field-0.0
    (subst (λ (xs : List Digest). (j : KeptReplica) → IsReporting j c.in_ok-core.core 0 xs c.in_ok-core.outcomes.items → HaltsAfter j c.in_err-report_batch.field-0.0) c.deref-3.ensures.value c.in_err-report_batch.ensures.halted))

pub returns-in_err-digests-clause-halted : goal.returns-in_err-digests-clause-halted
returns-in_err-digests-clause-halted g c =
    let p = err_from_is_err_and c.from_residual.result c.from_residual.ensures.1 in
    rw p.1 (memory_halts c.args.self p.0 (p.2 ∙ c.in_err-digests.ensures.memory))

pub returns-in_err-requests-clause-halted : goal.returns-in_err-requests-clause-halted
returns-in_err-requests-clause-halted g c =
    let p = err_from_is_err_and c.from_residual-in_err-requests.result c.from_residual-in_err-requests.ensures.1 in
    rw p.1 (memory_halts c.args.self p.0 (p.2 ∙ c.in_err-requests.ensures.memory))
