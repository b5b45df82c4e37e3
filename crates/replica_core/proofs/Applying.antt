-- A replica's core around requests that were taken together.
use Rattle.std.proofs.Common.{◌≡◌, ℕ, ◌+◌, ◌<◌, List, length, Option, sym, ap, subst, ◌∙◌, arith}
use Rattle.std.specs.Prelude.{IfSome, IsSome}
use Rattle.std.specs.List.{All}
use Rattle.host_types.specs.Configuration.{Configuration, entry_of}
use Rattle.host_types.specs.declared.request.Request.{Request}
use Rattle.service_model.specs.Steps.{Follows}
use Rattle.pbft_model.specs.Sequential.{Outcome, Service}
use Rattle.pbft_model.specs.Setup.{number_limit}
use Rattle.replica_core.specs.Batching.{ahead}
use Rattle.replica_core.specs.Replicas.{AreOne, KeptReplica, Parts, kept_in}
use Rattle.replica_core.proofs.Batching.{all_keep}

module _ (c : Configuration) (me : ℕ) (p : Parts) (one : AreOne c me p) (k : KeptReplica) (view : kept_in c me p ≡ k) (requests : List (Option Request)) where
  pub listed_there : All (λ o. IfSome o (λ taken. IsSome (entry_of k.config.clients taken.client.0))) requests → All (λ o. IfSome o (λ taken. IsSome (entry_of p.service.config.clients taken.client.0))) requests
  listed_there h =
      let same : k.config ≡ p.service.config = sym (ap (λ (x : KeptReplica). x.config) view) ∙ sym one.service in
      subst (λ (x : Configuration). All (λ o. IfSome o (λ taken. IsSome (entry_of x.clients taken.client.0))) requests) same h

  pub low_there : k.core.executed + length requests < number_limit → p.service.number + length requests < number_limit
  low_there low = subst (λ (x : KeptReplica). x.core.executed + length requests < number_limit) (sym view) low

  module _ (state : Service) (os : List Outcome) (follows : Follows p.service requests state os) where
    pub still_one : k.core.executed + length requests < number_limit → AreOne c me (record p { service = state })
    still_one low =
        let keep = all_keep requests p.service state os follows in
        let number = keep.1 in
        let reached = one.reached in
        let here = low_there low in
        record {
          legal = one.legal;
          replica = one.replica;
          listed = one.listed;
          log = one.log;
          table = one.table;
          service = keep.0 ∙ one.service;
          requests = one.requests;
          changes = one.changes;
          kept = one.kept;
          low = one.low;
          floor = one.floor;
          taken = one.taken;
          reached = omega (arith, number, reached);
          executed = omega (arith, number, here);
          opened_at = one.opened_at;
          proposed = one.proposed;
          owed = one.owed;
          few = one.few;
        }

    pub followed : (t : KeptReplica) → kept_in c me (record p { service = state }) ≡ t → Follows k.core.service requests t.core.service os
    followed t seen =
        subst (λ (x : KeptReplica). Follows k.core.service requests x.core.service os) seen (subst (λ (x : KeptReplica). Follows x.core.service requests state os) view follows)

    pub only_ahead : (t : KeptReplica) → kept_in c me (record p { service = state }) ≡ t → t ≡ ahead t.core.service k
    only_ahead t seen =
        let same : ahead state (kept_in c me p) ≡ ahead state k = ap (ahead state) view in
        let there : t ≡ ahead state k = sym seen ∙ same in
        there ∙ ap (λ (s : Service). ahead s k) (ap (λ (x : KeptReplica). x.core.service) seen)
