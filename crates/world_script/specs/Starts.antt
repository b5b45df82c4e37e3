-- Statement: what a script starts with.
use Rattle.std.specs.Prelude.{ℕ, ◌+◌, Bool, List, [], ◌∷◌, map, fold, if◌then◌else◌}
use Rattle.std.specs.FinSet as set
use Rattle.std.specs.Ordering.{nat_cmp}
use Rattle.host_types.specs.declared.ReplicaId.{ReplicaId}
use Rattle.lms_tree.specs.SigningState.{SigningState}
use Rattle.drained_records.specs.Worlds.{first_world}
use Rattle.world_queue.specs.Sessions.{SessionState, session_behind}
use Rattle.script_text.specs.Heads.{HeadFacts}
use Rattle.script_text.specs.Client.{Client}
use Rattle.world_queue.specs.declared.forging.Forger.{Forger}
use Rattle.world_script.specs.Keys.{client_signer, configuration_of, correct_from, replica_signers}
use Rattle.world_script.specs.Facts.{StageFacts}

-- the numbers of the faulty replicas
abbrev pub numbers_of : List ReplicaId → set.FinSet nat_cmp
numbers_of ids = fold (λ numbers (id : ReplicaId). set.insert numbers id.0) set.empty ids

abbrev pub is_faulty : HeadFacts → ℕ → Bool
is_faulty h id = set.contains (numbers_of h.faulty) id

-- The signers of faulty replicas: of those from id i on, the ones that are.
abbrev pub forgers_from : (ℕ → Bool) → ℕ → List SigningState → List Forger
forgers_from faulty i [] = []
forgers_from faulty i (s ∷ ss) =
    if faulty i then record { id = record { 0 = i }; signer = s } ∷ forgers_from faulty (i + 1) ss else forgers_from faulty (i + 1) ss

-- a client's session before its first request
abbrev pub session_for : HeadFacts → Client → SessionState
session_for h c = session_behind (configuration_of h) c.id (client_signer h c) 0

-- A world before its first event, fresh sessions, and nothing on its way.
abbrev pub start_of : HeadFacts → StageFacts
start_of h = record {
  world = first_world (configuration_of h) (is_faulty h) (correct_from (is_faulty h) 0 (replica_signers h));
  forgers = forgers_from (is_faulty h) 0 (replica_signers h);
  sessions = map (session_for h) h.clients;
  made = [];
  named = [];
  queue = [];
}
