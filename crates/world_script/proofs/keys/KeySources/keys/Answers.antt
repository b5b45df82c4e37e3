use Rattle.std.proofs.Common.{◌≡◌, List, length, map, ap, sym, ◌∙◌}
use Rattle.std.specs.List.{range_with_len}
use Rattle.std.proofs.lemmas.List.{length-map}
use Rattle.host_types.specs.Configuration.{Configuration, replicas_for}
use Rattle.host_types.specs.declared.config.ClientEntry.{ClientEntry}
use Rattle.lms_tree.specs.SigningState.{SigningState}
use Rattle.world_script.specs.Keys.{KeyFacts, client_signer, replica_signer, replica_signers, unkeyed}
use Rattle.world_queue.specs.Parties.{key_of}
use Rattle.world_script.proofs.Entries.{their_keys, without_keys}
use Rattle.world_script.proofs.Legal.{never}
use Rattle.world_script.proofs.Ranges.{length_range}
use Rattle.world_script.proofs.keys.KeySources.keys.Goals as goal

pub unreachable-requires : goal.unreachable-requires
unreachable-requires c =
    let h = c.args.head.now in
    let replicas : c.in_ok-replicas.replicas.items ≡ replica_signers h =
    c.in_ok-replicas.ensures ∙ c.deref.ensures.value ∙ ap (λ (k : KeyFacts). k.replicas) (c.self.view_is ∙ c.requires) in
    never h c.f.result c.k.result c.in_ok-replicas.replicas.items c.deref-2.result.now c.in_ok-keys.keys.items c.in_ok-entries.entries.items c.in_default.field-0
    c.f.ensures.legal c.f.ensures.value c.k.ensures
    (ap (λ (ss : List SigningState). length ss) replicas ∙ length-map (range_with_len 0 (replicas_for h.f)) (replica_signer h) ∙ length_range 0 (replicas_for h.f))
    c.in_ok-keys.ensures c.deref-2.ensures.value
    (ap (map unkeyed) c.in_ok-entries.ensures ∙ without_keys h h.clients) c.in_default.ensures

pub invariant_of-result : goal.invariant_of-result
invariant_of-result c =
    let h = c.args.head.now in
    let clients : c.in_ok-clients.clients.items ≡ map (client_signer h) h.clients =
    c.in_ok-clients.ensures ∙ c.deref-3.ensures.value ∙ ap (λ (k : KeyFacts). k.clients) (c.self.view_is ∙ c.requires) in record {
      are_keys = record {
        replicas_are = ap (λ (x : Configuration). x.keys) c.in-Ok.ensures.1 ∙ c.in_ok-keys.ensures ∙ ap (map key_of) c.deref-2.ensures.value;
        clients_are = ap (λ (x : Configuration). map (λ (e : ClientEntry). e.key) x.clients) c.in-Ok.ensures.1 ∙ ap (map (λ (e : ClientEntry). e.key)) c.in_ok-entries.ensures
            ∙ their_keys h h.clients ∙ sym (ap (map key_of) clients);
      };
    }
