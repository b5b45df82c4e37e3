use Rattle.std.proofs.Common.{◌≡◌, ◌<◌, ◌^◌, map, take}
use Rattle.std.specs.Prelude.{All, IfSome, IsSome}
use Rattle.host_types.specs.Configuration.{entry_of}
use Rattle.pbft_model.specs.Core.{request_of}
use Rattle.pbft_model.specs.Setup.{setup_of}
use Rattle.replica_core.proofs.kept.Core.requests_of.Given as goal

abbrev pub invariant-loop-digest : goal.invariant-loop-digest
invariant-loop-digest l = record {
  requests : l.requests.items ≡ map (λ d. request_of (setup_of l.self.config) l.self.core d.0) (take l.digest-index l.digests);
  listed : All (λ o. IfSome o (λ taken. IsSome (entry_of l.self.config.clients taken.client.0))) l.requests.items;
  in_range : All (λ o. IfSome o (λ taken. (taken.client.0 < 2 ^ 32) × (taken.time < 2 ^ 64))) l.requests.items;
}
