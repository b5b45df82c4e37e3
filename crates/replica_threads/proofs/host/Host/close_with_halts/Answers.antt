use Rattle.std.proofs.Common.{◌∙◌, map, subst}
use Rattle.std.proofs.lemmas.List.{length-map}
use Rattle.host_types.specs.Configuration.{IsConfiguration}
use Rattle.replica_threads.specs.Hosts.{HostFacts}
use Rattle.replica_threads.proofs.ClosingLaws.{closed}
use Rattle.replica_threads.proofs.host.Host.close_with_halts.Goals as goal

pub returns-clause-agree : goal.returns-clause-agree
returns-clause-agree g c =
    let journals = c.collect.new.journals.items in
    let inside = subst IsConfiguration c.deref.ensures c.replica_count.ensures.legal in
    let legal = subst (λ (h : HostFacts). IsConfiguration h.config) c.self.view_is inside in
    closed c.args.self.now (map (λ p. p.1.items) journals) c.in_ok-collect.ensures.journals (length-map journals (λ p. p.1.items) ∙ c.in_ok-collect.ensures.many)
    c.journals_of_all_replicas_agree.ensures legal
