-- Internal: what it is for a replica to do an act, and to halt in place of it.
use Rattle.std.specs.Prelude.{◌≡◌, ℕ, ◌+◌, ◌%◌, ◌==◌, ◌<◌, ◌++◌, cond, List, [], ◌∷◌, Option, Some, None}
use Rattle.lms_tree.specs.Keys.{leaf_count}
use Rattle.pbft_model.specs.Acts.{Act, Execute, Send, Destination, ToClient, after, acted}
use Rattle.pbft_model.specs.Core.{request_of}
use Rattle.pbft_model.specs.Duties.{Duty, reply_body}
use Rattle.pbft_model.specs.Sequential.{IsStep, Outcome, Service, encoded}
use Rattle.pbft_model.specs.Rows.{Executed, Fulfils, HasLeaves, outputs_of, done_of, leaves_for, result_of}
use Rattle.pbft_model.specs.Rules.{own_message}
use Rattle.pbft_model.specs.Tables.{number_key, with_entry}
use Rattle.pbft_model.specs.Words.{Body, Reply}
use Rattle.replica_core.specs.declared.halt.Halt.{Halt}
use Rattle.replica_core.specs.declared.halt.Halt.TheVariants as halts
use Rattle.replica_core.specs.Replicas.{KeptReplica}
use Rattle.pbft_model.specs.Setup.{setup_of}

-- The replica has done this act, but for the note that something was done.
pub record Does (k : KeptReplica) (a : Act) (t : KeptReplica) : Type 0 where
  pub config : t.config ≡ k.config
  pub me : t.me ≡ k.me
  pub core : acted t.core ≡ after (setup_of k.config) k.core a
  pub outputs : t.outputs ≡ k.outputs ++ outputs_of a
  pub done : t.done ≡ k.done ++ done_of (setup_of k.config) a
  pub leaves : t.leaves ≡ k.leaves + leaves_for a

-- an own message of this body is sent
abbrev pub Says : KeptReplica → Destination → Body → KeptReplica → Type 0
Says k to body t = Does k (Send to (own_message k.core k.me body)) t

-- It wants more leaves than there are, or memory.
abbrev pub IsShortOf : KeptReplica → ℕ → Halt → Type 0
IsShortOf k leaves halts.Exhausted = leaf_count k.core.signer < k.core.signer.next_leaf + leaves
IsShortOf k leaves halts.Memory = Unit {0}
IsShortOf k leaves _ = ⊥

-- the replica after an act
abbrev pub act_done : KeptReplica → Act → KeptReplica
act_done k a = record {
  config = k.config;
  me = k.me;
  core = after (setup_of k.config) k.core a;
  outputs = k.outputs ++ outputs_of a;
  done = k.done ++ done_of (setup_of k.config) a;
  leaves = k.leaves + leaves_for a;
}

-- to send a reply
abbrev pub reply_act : KeptReplica → Reply → Act
reply_act k reply = Send (ToClient reply.client.0) (own_message k.core k.me (reply_body k.core.view reply))

-- The reply that is owed is sent, if one is, and that is noted.
abbrev pub SendsOwed : KeptReplica → Option Reply → KeptReplica → Type 0
SendsOwed k None t = t ≡ k
SendsOwed k (Some reply) t = HasLeaves k.core (reply_act k reply) × (t ≡ act_done k (reply_act k reply))

-- the replica that has noted what is executed at a number, and what that leaves to send
abbrev pub reported : KeptReplica → ℕ → List ℕ → Option Reply → KeptReplica
reported k number digest reply =
    let is_multiple = number % k.config.k == 0 in
    record k {
      core = record k.core {
        reply_due = reply;
        checkpoint_due = is_multiple;
        snapshots = cond is_multiple (with_entry k.core.snapshots (number_key number) (encoded k.core.service)) k.core.snapshots;
      };
      done = k.done ++ Executed number digest (result_of reply) ∷ [];
    }

-- the request of a digest is executed
pub record Executes (k : KeptReplica) (number : ℕ) (digest : List ℕ) (t : KeptReplica) : Type 0 where
  pub service : Service
  pub outcome : Outcome
  pub step : IsStep k.core.service (request_of (setup_of k.config) k.core digest) service outcome
  pub does : Does k (Execute number digest service outcome) t

-- what is due is done
abbrev pub Fulfilled : KeptReplica → Option Duty → KeptReplica → Type 0
Fulfilled k is t = (a : Act) × Fulfils (setup_of k.config) k.core is a × HasLeaves k.core a × Does k a t

-- an act does what is due
abbrev pub Performs : KeptReplica → Option Duty → KeptReplica → Type 0
Performs k is t = (a : Act) × Fulfils (setup_of k.config) k.core is a × Does k a t
