-- The vote of a checked message is by a listed replica that may give it.
use Rattle.std.proofs.Common.{◌≡◌, ℕ, ◌<◌, false, List, Option, Some, None, refl, ap, arith}
use Rattle.std.specs.Prelude.{IfSome, IsSome, IsTrue}
use Rattle.host_types.specs.Configuration.{Configuration, IsConfiguration, replicas_for}
use Rattle.host_types.specs.declared.key.PublicKey.{PublicKey}
use Rattle.pbft_codec.specs.declared.body.Body.{Body}
use Rattle.pbft_codec.specs.declared.body.Body.TheVariants as bodies
use Rattle.pbft_codec.specs.declared.signed.Role.{Role}
use Rattle.pbft_codec.specs.declared.signed.Role.TheVariants.{Replica, Client}
use Rattle.pbft_codec.specs.declared.sender.Sender.{Sender}
use Rattle.pbft_codec.specs.Bodies.{sender_of, BodyWellFormed}
use Rattle.std.proofs.lemmas.Option.{slice_get_within}
use Rattle.seal.specs.declared.vote.Vote.{Vote}
use Rattle.seal.specs.Opening.{CheckedMessage, IsChecked}
use Rattle.seal.specs.Signers.{key_of, may_sign, client_may_send, replica_may_send}
use Rattle.seal.specs.Votes.{vote_in, vote_of, IsVoteOf}

-- a listed signer that may send what a replica sends is a replica, one of so many
record IsReplica (c : Configuration) (role : Role) (id : ℕ) (sender : Sender) : Type 0 where
  is : role ≡ Replica
  listed : id < replicas_for c.f
  sends : IsTrue (replica_may_send c id sender)

is_replica : (c : Configuration) → IsConfiguration c → (role : Role) (id : ℕ) (body : Body) (key : PublicKey) → key_of c role id ≡ Some key → IsTrue (may_sign c role id body) → client_may_send (sender_of body) ≡ false → IsReplica c role id (sender_of body)
is_replica c k Replica id body key e may other =
    record { is = refl; listed = omega (arith, slice_get_within c.keys id key e, k.a_key_each); sends = may }
is_replica c k Client id body key e may other = absurd cc

vote_proper : (c : Configuration) → IsConfiguration c → (role : Role) (id : ℕ) (sig : List ℕ) (body : Body) (key : PublicKey) → key_of c role id ≡ Some key → IsTrue (may_sign c role id body) → BodyWellFormed body → IfSome (vote_in id body) (λ v. IsVoteOf (record { config = c; message = record { role = role; id = id; body = body; sig = sig } }) v)
vote_proper c k role id sig (bodies.PrePrepare p) key e may number =
    let r = is_replica c k role id (bodies.PrePrepare p) key e may refl in
    record { role = r.is; listed = r.listed; number = number; primary_proposes = λ _. grind (arith, r.sends); backups_prepare = λ w. absurd cc }
vote_proper c k role id sig (bodies.Prepare p) key e may number =
    let r = is_replica c k role id (bodies.Prepare p) key e may refl in
    record { role = r.is; listed = r.listed; number = number; primary_proposes = λ w. absurd cc; backups_prepare = λ _. grind (arith, r.sends) }
vote_proper c k role id sig (bodies.Commit p) key e may number =
    let r = is_replica c k role id (bodies.Commit p) key e may refl in
    record { role = r.is; listed = r.listed; number = number; primary_proposes = λ w. absurd cc; backups_prepare = λ w. absurd cc }
vote_proper c k role id sig _ key e may number = tt

pub vote_is_proper : (c : CheckedMessage) → IsConfiguration c.config → IsChecked c → IfSome (vote_of c.message) (λ v. IsVoteOf c v)
vote_is_proper c k h =
    let a = h.authentic.0 in
    vote_proper c.config k c.message.role c.message.id c.message.sig c.message.body a.key a.listed a.role h.encodes.well_formed.well_formed

of_some : (o : Option Vote) (P : Vote → Type 0) (Q : Type 0) → ((v : Vote) → o ≡ Some v → P v → Q) → IfSome o P → IsSome o → Q
of_some None P Q f h is = absurd cc
of_some (Some v) P Q f h is = f v refl h

signer_or_0 : Option Vote → ℕ
signer_or_0 None = 0
signer_or_0 (Some v) = v.signer.0

signer_is : (id : ℕ) (body : Body) (v : Vote) → vote_in id body ≡ Some v → id ≡ v.signer.0
unfolding signer_or_0
signer_is id (bodies.PrePrepare p) v e = ap signer_or_0 e
signer_is id (bodies.Prepare p) v e = ap signer_or_0 e
signer_is id (bodies.Commit p) v e = ap signer_or_0 e
signer_is id _ v e = absurd cc

pub voter_is_small : (c : CheckedMessage) → IsConfiguration c.config → IsChecked c → IsSome (vote_of c.message) → c.message.id < 256
voter_is_small c k h is =
    of_some (vote_of c.message) (λ v. IsVoteOf c v) (c.message.id < 256)
    (λ v e proper. omega (arith, signer_is c.message.id c.message.body v e, proper.listed, k.max_faulty)) (vote_is_proper c k h) is
