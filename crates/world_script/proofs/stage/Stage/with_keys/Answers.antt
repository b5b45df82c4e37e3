use Rattle.std.proofs.Common.{◌≡◌, List, ap, ◌∙◌}
use Rattle.std.specs.FinSet as set
use Rattle.std.specs.Ordering.{nat_cmp}
use Rattle.host_types.specs.Configuration.{Configuration}
use Rattle.lms_tree.specs.SigningState.{SigningState}
use Rattle.drained_records.specs.Worlds.{WorldFacts, first_world}
use Rattle.world_queue.specs.declared.forging.Forger.{Forger}
use Rattle.world_script.specs.Keys.{configuration_of, correct_from, replica_signers}
use Rattle.world_queue.specs.Effects.{fresh_sessions}
use Rattle.world_script.specs.Starts.{forgers_from, numbers_of, start_of}
use Rattle.world_script.proofs.Entries.{sessions_of}
use Rattle.world_script.proofs.stage.Stage.with_keys.Goals as goal

abbrev world_of : Configuration → set.FinSet nat_cmp → List SigningState → WorldFacts
world_of g faulty ss = first_world g (λ i. set.contains faulty i) (correct_from (λ i. set.contains faulty i) 0 ss)

abbrev forgers_of : set.FinSet nat_cmp → List SigningState → List Forger
forgers_of faulty ss = forgers_from (λ i. set.contains faulty i) 0 ss

pub returns : goal.returns
returns c =
    let h = c.args.head.now in
    let g : c.in_ok-config.config.value ≡ configuration_of h = c.in_ok-config.ensures.ok ∙ c.in_ok-keys.ensures.config in
    let n : c.faulty_set-faulty.result ≡ numbers_of h.faulty = c.faulty_set-faulty.ensures ∙ ap numbers_of c.faulty.ensures in
    let ss : c.in_ok-keys.keys.replicas.items ≡ replica_signers h = c.in_ok-keys.ensures.replicas in
    let worlds : _ ≡ (start_of h).world =
    c.world.view_is ∙ c.in_ok-world.ensures.world ∙ ap (λ (x : Configuration). world_of x c.faulty_set-faulty.result c.in_ok-keys.keys.replicas.items) g
    ∙ ap (λ (x : set.FinSet nat_cmp). world_of (configuration_of h) x c.in_ok-keys.keys.replicas.items) n
    ∙ ap (λ (x : List SigningState). world_of (configuration_of h) (numbers_of h.faulty) x) ss in
    let forgers : c.in_ok-world.forgers.items ≡ (start_of h).forgers =
    c.in_ok-world.ensures.forgers ∙ ap (λ (x : set.FinSet nat_cmp). forgers_of x c.in_ok-keys.keys.replicas.items) n
    ∙ ap (λ (x : List SigningState). forgers_of (numbers_of h.faulty) x) ss in
    let sessions : c.in_ok-new.field-0.sessions.items ≡ (start_of h).sessions =
    c.in_ok-new.ensures.sessions ∙ ap (λ (x : Configuration). fresh_sessions x x.clients c.in_ok-keys.keys.clients.items) g
    ∙ ap (λ (x : List SigningState). fresh_sessions (configuration_of h) (configuration_of h).clients x) c.in_ok-keys.ensures.clients
    ∙ sessions_of (configuration_of h) h h.clients in
    λ i. record { world = worlds i; forgers = forgers i; sessions = sessions i; made = c.new-3.ensures.items i; named = c.new-4.ensures.items i; queue = c.new-5.ensures i }
