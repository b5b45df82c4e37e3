-- Statement: who may sign what, and what is wrong with a part.
use Rattle.std.specs.Prelude.{◌≡◌, ℕ, ◌%◌, ◌==◌, not, Bool, true, false, IsTrue, List, [], ◌∷◌, Option, Some, None, is_some, slice_get, if◌then◌else◌}
use Rattle.std.specs.Option.{option_map}
use Rattle.host_types.specs.Configuration.{Configuration, entry_of, replicas_for}
use Rattle.host_types.specs.declared.View.{View}
use Rattle.host_types.specs.declared.key.PublicKey.{PublicKey}
use Rattle.lms_tree.specs.Keys.{IsValid}
use Rattle.lms_tree.specs.Signature.{signature_fault}
use Rattle.pbft_codec.specs.declared.body.Body.{Body}
use Rattle.pbft_codec.specs.declared.sender.Sender.{Sender}
use Rattle.pbft_codec.specs.declared.sender.Sender.TheVariants as senders
use Rattle.pbft_codec.specs.declared.signed.Role.{Role}
use Rattle.pbft_codec.specs.declared.signed.Role.TheVariants.{Replica, Client}
use Rattle.pbft_codec.specs.declared.signed.Signed.{Signed}
use Rattle.pbft_codec.specs.Bodies.{sender_of}
use Rattle.pbft_codec.specs.Encoding.{signed_text}
use Rattle.seal.specs.declared.fault.SealFault.{SealFault}
use Rattle.seal.specs.declared.fault.SealFault.TheVariants.{UnknownSigner, BadSignature, WrongRole}

-- The listed key of a replica or a client.
abbrev pub key_of : Configuration → Role → ℕ → Option PublicKey
key_of c Replica id = slice_get c.keys id
key_of c Client id = option_map (λ entry. entry.key) (entry_of c.clients id)

abbrev pub primary_of : Configuration → View → ℕ
primary_of c view = view.0 % replicas_for c.f

-- Whether a client is such a sender.
abbrev pub client_may_send : Sender → Bool
client_may_send senders.Client = true
client_may_send _ = false

-- Whether the replica with this id is such a sender.
abbrev pub replica_may_send : Configuration → ℕ → Sender → Bool
replica_may_send c id senders.Client = false
replica_may_send c id senders.Replica = true
replica_may_send c id (senders.Primary view) = primary_of c view == id
replica_may_send c id (senders.Backup view) = not (primary_of c view == id)

-- Whether a body may come from this signer.
abbrev pub may_sign : Configuration → Role → ℕ → Body → Bool
may_sign c Replica id body = replica_may_send c id (sender_of body)
may_sign c Client id body = client_may_send (sender_of body)

-- A message whose signer is listed, may sign its body, and did.
pub record IsAuthentic (c : Configuration) (m : Signed Body) : Type 0 where
  pub key : PublicKey
  pub listed : key_of c m.role m.id ≡ Some key
  pub role : IsTrue (may_sign c m.role m.id m.body)
  pub signature : IsValid key (signed_text m) m.sig

-- ---- the first fault

abbrev pub fault_under : Configuration → Option PublicKey → Signed Body → Option SealFault
fault_under c None m = Some UnknownSigner
fault_under c (Some key) m =
    if not (may_sign c m.role m.id m.body) then Some WrongRole
    else if is_some (signature_fault key (signed_text m) m.sig) then Some BadSignature
    else None

-- What is wrong with a message itself, whatever is nested in it.
unfoldable pub own_fault : Configuration → Signed Body → Option SealFault
own_fault c m = fault_under c (key_of c m.role m.id) m

abbrev pub or_later : Option SealFault → Option SealFault → Option SealFault
or_later None later = later
or_later (Some fault) later = Some fault

-- The fault of the first message that has one.
unfoldable pub first_fault : Configuration → List (Signed Body) → Option SealFault
first_fault c [] = None
first_fault c (m ∷ ms) = or_later (own_fault c m) (first_fault c ms)
