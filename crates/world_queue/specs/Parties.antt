-- Statement: who makes messages: clients by their sessions, faulty replicas by their signers.
use Rattle.std.specs.Prelude.{ℕ, ◌==◌, Bool, List, [], ◌∷◌, find, Option, Some, None, is_some, if◌then◌else◌}
use Rattle.host_types.specs.declared.ClientId.{ClientId}
use Rattle.host_types.specs.declared.ReplicaId.{ReplicaId}
use Rattle.host_types.specs.declared.View.{View}
use Rattle.host_types.specs.declared.request.Reply.{Reply}
use Rattle.lms_tree.specs.Keys.{after_signing, leaf_count, public_key_of_signer}
use Rattle.lms_tree.specs.SigningState.{SigningState}
use Rattle.pbft_codec.specs.declared.body.Body.{Body}
use Rattle.pbft_codec.specs.declared.body.Body.TheVariants as bodies
use Rattle.pbft_codec.specs.declared.body.view_change.ViewChange.{ViewChange}
use Rattle.pbft_codec.specs.declared.signed.Role.TheVariants as roles
use Rattle.pbft_codec.specs.declared.signed.Signed.{Signed}
use Rattle.seal.specs.Opening.{sealed_message}
use Rattle.seal.specs.declared.vote.VoteKind.{VoteKind}
use Rattle.seal.specs.declared.vote.VoteKind.TheVariants as votes
use Rattle.client_session.specs.Sessions.{SessionState, accepted_by, asked, offered}
use Rattle.script_text.specs.declared.script.ForgedVote.{ForgedVote}
use Rattle.script_text.specs.declared.script.Forgery.{Forgery}
use Rattle.world_queue.specs.declared.forging.Forger.{Forger}
use Rattle.world_queue.specs.Lines.{reply_line}
use Rattle.host_types.specs.declared.key.PublicKey.{PublicKey}

-- The public key of a signer.
abbrev pub key_of : SigningState → PublicKey
key_of s = public_key_of_signer s

-- the first that is so is changed
abbrev pub at_first : {A : Type 0} → (A → Bool) → (A → A) → List A → List A
at_first is change [] = []
at_first is change (x ∷ xs) = if is x then change x ∷ xs else x ∷ at_first is change xs

abbrev pub has_no_leaf : SigningState → Bool
has_no_leaf s = s.next_leaf == leaf_count s

-- the one that was found, if it can still sign
abbrev pub if_it_signs : {A : Type 0} → (A → SigningState) → Option A → Option A
if_it_signs signer None = None
if_it_signs signer (Some x) = if has_no_leaf (signer x) then None else Some x

-- ---- clients

abbrev pub is_of : ClientId → SessionState → Bool
is_of client s = s.client.0 == client.0

abbrev pub after_asking : List ℕ → SessionState → SessionState
after_asking op session = asked session op (after_signing session.signer)

-- the session of a client that can still sign
abbrev pub signing_session : List SessionState → ClientId → Option SessionState
signing_session sessions client = if_it_signs (λ (x : SessionState). x.signer) (find (is_of client) sessions)

-- what is printed of a reply that a client accepts now
abbrev pub accepted_now : Option Reply → Option Reply → List ℕ
accepted_now before None = []
accepted_now before (Some reply) = if is_some before then [] else reply_line reply

abbrev pub text_at : Option SessionState → Signed Body → List ℕ
text_at None m = []
text_at (Some session) m = accepted_now (accepted_by session) (accepted_by (offered session m))

abbrev pub after_offer : List SessionState → ClientId → Signed Body → List SessionState
after_offer sessions client m = at_first (is_of client) (λ (x : SessionState). offered x m) sessions

-- ---- faulty replicas

abbrev pub vote_body : VoteKind → ForgedVote → List ℕ → Body
vote_body votes.PrePrepare v digest = bodies.PrePrepare (record { view = v.view; number = v.number; digest = record { 0 = digest } })
vote_body votes.Prepare v digest = bodies.Prepare (record { view = v.view; number = v.number; digest = record { 0 = digest } })
vote_body votes.Commit v digest = bodies.Commit (record { view = v.view; number = v.number; digest = record { 0 = digest } })

-- a ViewChange that proves nothing
abbrev pub bare_view_change : View → ViewChange
bare_view_change view = record { view = view; low = record { 0 = 0 }; checkpoints = []; certificates = [] }

abbrev pub forged_message : SigningState → Forgery → Body → Signed Body
forged_message signer f body = sealed_message signer roles.Replica f.from.0 body

abbrev pub is_forger : ReplicaId → Forger → Bool
is_forger id g = g.id.0 == id.0

abbrev pub after_forging : Forger → Forger
after_forging g = record g { signer = after_signing g.signer }

-- the forger of this id that can still sign
abbrev pub signing_forger : List Forger → ReplicaId → Option Forger
signing_forger forgers id = if_it_signs (λ (g : Forger). g.signer) (find (is_forger id) forgers)
