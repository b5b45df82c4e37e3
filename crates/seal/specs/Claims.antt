-- Internal: what is verified of a message itself.
use Rattle.std.specs.Prelude.{◌≡◌, Some, true}
use Rattle.host_types.specs.Configuration.{Configuration}
use Rattle.host_types.specs.declared.key.PublicKey.{PublicKey}
use Rattle.pbft_codec.specs.declared.body.Body.{Body}
use Rattle.pbft_codec.specs.declared.signed.Signed.{Signed}
use Rattle.pbft_codec.specs.Bodies.{sender_of}
use Rattle.seal.specs.declared.verify_parts.Claim.{Claim}
use Rattle.seal.specs.Signers.{key_of, may_sign}

pub record IsClaimOf (claim : Claim) (m : Signed Body) : Type 0 where
  pub role : m.role ≡ claim.role
  pub id : m.id ≡ claim.id
  pub sender : sender_of m.body ≡ claim.sender
  pub sig : m.sig ≡ claim.sig.now

-- The key is the listed one of a signer who may sign the message.
pub record MayHaveSigned (c : Configuration) (m : Signed Body) (key : PublicKey) : Type 0 where
  pub listed : key_of c m.role m.id ≡ Some key
  pub role : may_sign c m.role m.id m.body ≡ true
