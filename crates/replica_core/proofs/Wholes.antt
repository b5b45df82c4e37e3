-- The parts of a replica still fit each other when one of them changes.
use Rattle.std.proofs.Common.{◌≡◌, ℕ, refl, ◌∙◌}
use Rattle.host_types.specs.Configuration.{Configuration}
use Rattle.pbft_codec.specs.declared.body.Body.{Body}
use Rattle.pbft_codec.specs.declared.body.Body.TheVariants as bodies
use Rattle.pbft_model.specs.Words.{RequestBody}
use Rattle.replica_stores.specs.Stores.{IsRequest, KeptRequests}
use Rattle.replica_core.specs.Replicas.{AreOne, Parts}

pub with_requests : (c : Configuration) (me : ℕ) (p : Parts) (new : KeptRequests) → AreOne c me p → new.config ≡ p.requests.config → AreOne c me (record p { requests = new })
with_requests c me p new one same = record {
  legal = one.legal;
  replica = one.replica;
  listed = one.listed;
  log = one.log;
  table = one.table;
  service = one.service;
  requests = same ∙ one.requests;
  changes = one.changes;
  kept = one.kept;
  low = one.low;
  floor = one.floor;
  taken = one.taken;
  reached = one.reached;
  executed = one.executed;
  opened_at = one.opened_at;
  proposed = one.proposed;
  owed = one.owed;
  few = one.few;
}

pub a_request : (body : Body) → IsRequest body → (b : RequestBody) × (body ≡ bodies.Request b)
a_request (bodies.Request b) is = (b, refl)
a_request _ is = absurd is
