-- Who signed the messages that are nested in an opened one.
use Rattle.std.proofs.Common.{◌≡◌, ℕ, ◌<◌, ◌==◌, Bool, true, false, not, List, [], ◌∷◌, Some, refl, arith}
use Rattle.std.specs.Prelude.{IsTrue, map}
use Rattle.std.specs.List.{AllByRecursion}
use Rattle.std.proofs.lemmas.Option.{slice_get_within}
use Rattle.host_types.specs.Configuration.{Configuration, IsConfiguration, replicas_for}
use Rattle.host_types.specs.declared.key.PublicKey.{PublicKey}
use Rattle.pbft_codec.specs.declared.sender.Sender.{Sender}
use Rattle.pbft_codec.specs.declared.body.Body.TheVariants as bodies
use Rattle.pbft_codec.specs.Bodies.{sender_of}
use Rattle.quorum_log.specs.Words.{Signed, Body, Role, Replica, Client, Prepare, Checkpoint, ViewChange}
use Rattle.seal.specs.Parts.{as_message}
use Rattle.seal.specs.Signers.{IsAuthentic, key_of, may_sign, client_may_send, replica_may_send, primary_of}
use Rattle.view_change.proofs.Counts.{IsReplicas}

-- a listed replica that may send what it says
pub record IsSender (c : Configuration) (role : Role) (id : ℕ) (sender : Sender) : Type 0 where
  pub role_is : role ≡ Replica
  pub listed : id < replicas_for c.f
  pub sends : IsTrue (replica_may_send c id sender)

is_sender : (c : Configuration) → IsConfiguration c → (role : Role) (id : ℕ) (body : Body) (key : PublicKey) → key_of c role id ≡ Some key → IsTrue (may_sign c role id body)
    → client_may_send (sender_of body) ≡ false → IsSender c role id (sender_of body)
is_sender c k Replica id body key e may other =
    record { role_is = refl; listed = omega (arith, slice_get_within c.keys id key e, k.a_key_each); sends = may }
is_sender c k Client id body key e may other = absurd cc

pub authentic_sender : (c : Configuration) → IsConfiguration c → (m : Signed Body) → client_may_send (sender_of m.body) ≡ false → IsAuthentic c m → IsSender c m.role m.id (sender_of m.body)
authentic_sender c k m other a = is_sender c k m.role m.id m.body a.key a.listed a.role other

all_listed : {B : Type 0} (c : Configuration) → IsConfiguration c → (kind : B → Body) → ((b : B) → client_may_send (sender_of (kind b)) ≡ false) → (ms : List (Signed B))
    → AllByRecursion (IsAuthentic c) (map (as_message kind) ms) → AllByRecursion (IsReplicas (replicas_for c.f)) ms
all_listed c k kind other [] h = tt
all_listed c k kind other (m ∷ ms) h =
    let s = authentic_sender c k (as_message kind m) (other m.body) h.0 in
    (record { role = s.role_is; below = s.listed }, all_listed c k kind other ms h.1)

pub checkpoints_listed : (c : Configuration) → IsConfiguration c → (ms : List (Signed Checkpoint)) → AllByRecursion (IsAuthentic c) (map (as_message bodies.Checkpoint) ms) → AllByRecursion (IsReplicas (replicas_for c.f)) ms
checkpoints_listed c k = all_listed c k bodies.Checkpoint (λ b. refl)

pub prepares_listed : (c : Configuration) → IsConfiguration c → (ms : List (Signed Prepare)) → AllByRecursion (IsAuthentic c) (map (as_message bodies.Prepare) ms) → AllByRecursion (IsReplicas (replicas_for c.f)) ms
prepares_listed c k = all_listed c k bodies.Prepare (λ b. refl)

pub changes_listed : (c : Configuration) → IsConfiguration c → (ms : List (Signed ViewChange)) → AllByRecursion (IsAuthentic c) (map (as_message bodies.ViewChange) ms) → AllByRecursion (IsReplicas (replicas_for c.f)) ms
changes_listed c k = all_listed c k bodies.ViewChange (λ b. refl)

-- a Prepare is not its view's primary's
abbrev pub IsBackups : Configuration → Signed Prepare → Type 0
IsBackups c m = (primary_of c m.body.view == m.id) ≡ false

not_false : (b : Bool) → IsTrue (not b) → b ≡ false
not_false true h = absurd cc
not_false false h = refl

pub backups_prepare : (c : Configuration) → IsConfiguration c → (ms : List (Signed Prepare)) → AllByRecursion (IsAuthentic c) (map (as_message bodies.Prepare) ms) → AllByRecursion (IsBackups c) ms
backups_prepare c k [] h = tt
backups_prepare c k (m ∷ ms) h =
    let s = authentic_sender c k (as_message bodies.Prepare m) refl h.0 in
    (not_false (primary_of c m.body.view == m.id) s.sends, backups_prepare c k ms h.1)
