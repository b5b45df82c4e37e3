-- Internal: what contracts see of a replica: the protocol's core, read off the parts that keep it, and what was
-- done so far for an input.
use Rattle.std.specs.Prelude.{◌≡◌, ℕ, ◌<◌, ◌≤◌, List, [], length, map, Option, Some, None, is_some, IfSome, IsSome, IsSomeAnd, MatchOption}
use Rattle.std.specs.Option.{option_map}
use Rattle.host_types.specs.Configuration.{Configuration, IsConfiguration, replicas_for}
use Rattle.lms_tree.specs.Keys.{IsKeyOf}
use Rattle.pbft_codec.specs.declared.body.Body.{Body}
use Rattle.pbft_codec.specs.declared.body.Body.TheVariants as bodies
use Rattle.pbft_codec.specs.declared.signed.Role.TheVariants as roles
use Rattle.pbft_model.specs.Words.{SigningState, Signed, ViewChange}
use Rattle.pbft_model.specs.Core.{Core}
use Rattle.pbft_model.specs.Sequential.{Service}
use Rattle.pbft_model.specs.Setup.{number_limit}
use Rattle.pbft_model.specs.Tables.{Key, at, first_in}
use Rattle.pbft_model.specs.Validity.{floor_of}
use Rattle.std.specs.List.{AllByRecursion}
use Rattle.pbft_model.specs.Rows.{Output, Done}
use Rattle.seal.specs.Opening.{CheckedMessage}
use Rattle.seal.specs.Signers.{key_of}
use Rattle.replica_stores.specs.Log.{KeptLog}
use Rattle.checkpoints.specs.Kept.{KeptCheckpoints}
use Rattle.replica_core.specs.declared.step.Step.{Step}
use Rattle.replica_core.specs.Facts.{done_of, output_of}
use Rattle.replica_stores.specs.Stores.{KeptCertificates, KeptChanges, KeptRequests, KeptSent}

-- What a contract sees of a replica that has not stopped.
pub record KeptReplica : Type 0 where
  pub config : Configuration
  pub me : ℕ
  pub core : Core
  -- what was done so far for the input
  pub outputs : List Output
  pub done : List Done
  pub leaves : ℕ

-- The parts that a replica's core is kept in.
pub record Parts : Type 0 where
  pub log : KeptLog
  pub basis : Option CheckedMessage
  pub table : KeptCheckpoints
  pub service : Service
  pub requests : KeptRequests
  pub changes : KeptChanges
  pub kept : KeptCertificates
  pub sent : KeptSent
  pub step : Step
  pub signer : SigningState

abbrev pub changes_in : Body → List (Signed ViewChange)
changes_in (bodies.NewView n) = n.changes
changes_in _ = []

-- the ViewChanges of the NewView that the view was entered by
abbrev pub basis_in : Option CheckedMessage → List (Signed ViewChange)
basis_in None = []
basis_in (Some m) = changes_in m.message.body

abbrev pub core_in : Parts → Core
core_in p = record {
  view = p.log.log.view;
  active = is_some p.log.log.floor;
  basis = basis_in p.basis;
  low = p.log.log.low;
  proof = p.table.proof;
  executed = p.service.number;
  service = p.service;
  pre_prepares = p.log.log.pre_prepares;
  prepares = p.log.log.prepares;
  commits = p.log.log.commits;
  checkpoints = p.table.checkpoints;
  changes = p.changes.changes;
  kept = p.kept.kept;
  held = p.requests.held;
  proposed = p.sent.proposed;
  prepared_numbers = p.sent.prepared;
  committed_numbers = p.sent.committed;
  snapshots = p.table.snapshots;
  asked_states = p.sent.asked_states;
  asked_requests = p.sent.asked_requests;
  taken = option_map (λ m. m.message) p.step.taken;
  reading = p.step.reading;
  is_fresh = p.step.is_fresh;
  timed_out = p.step.timed_out;
  reply_due = p.step.owed.reply;
  checkpoint_due = p.step.owed.checkpoint;
  signer = p.signer;
}

abbrev pub kept_in : Configuration → ℕ → Parts → KeptReplica
kept_in c me p = record {
  config = c;
  me = me;
  core = core_in p;
  outputs = map output_of p.step.outputs.items;
  done = map done_of p.step.done.items;
  leaves = p.step.leaves;
}

-- The parts fit each other: all are under one configuration, which lists the signer's key for the replica; the two
-- low marks are one; and an entered view's floor is that of the NewView that it was entered by.
pub record AreOne (c : Configuration) (me : ℕ) (p : Parts) : Type 0 where
  pub legal : IsConfiguration c
  pub replica : me < replicas_for c.f
  pub listed : IsSomeAnd (key_of c roles.Replica me) (λ key. IsKeyOf key p.signer)
  pub log : p.log.config ≡ c
  pub table : p.table.config ≡ c
  pub service : p.service.config ≡ c
  pub requests : p.requests.config ≡ c
  pub changes : p.changes.config ≡ c
  pub kept : p.kept.config ≡ c
  pub low : p.table.low ≡ p.log.log.low
  pub floor : MatchOption p.log.log.floor (basis_in p.basis ≡ []) (λ floor. floor ≡ floor_of (basis_in p.basis))
  pub taken : IfSome p.step.taken (λ m. m.config ≡ c)
  -- the low mark was reached, and numbers are sequence numbers
  pub reached : p.log.log.low ≤ p.service.number
  pub executed : p.service.number < number_limit
  pub opened_at : IfSome p.log.log.floor (λ floor. floor < number_limit)
  pub proposed : AllByRecursion (λ x. x.number < number_limit) p.sent.proposed
  -- a reply that is owed has room in a message
  pub owed : IfSome p.step.owed.reply (λ r. (length r.result ≤ 265) × (r.number.0 < number_limit))
  -- the leaves taken for the input are the signer's
  pub few : p.step.leaves ≤ p.signer.next_leaf

-- The numbers of recorded PrePrepares are sequence numbers.
abbrev pub AreNumbered : Core → Type 0
AreNumbered s = (key : Key) → IsSome (at s.pre_prepares key) → first_in key < number_limit
