-- Statement: what opening bytes gives, and what sealing a body gives.
use Rattle.std.specs.Prelude.{◌≡◌, ℕ, ◌+◌, ◌≤◌, List, [], length, Option, Some, None, Result, Ok, Err}
use Rattle.std.specs.List.{AllByRecursion}
use Rattle.host_types.specs.Configuration.{Configuration}
use Rattle.lms_tree.specs.Keys.{signature_length, signature_of}
use Rattle.lms_tree.specs.SigningState.{SigningState}
use Rattle.pbft_codec.specs.declared.body.Body.{Body}
use Rattle.pbft_codec.specs.CodecFault.{CodecFault}
use Rattle.pbft_codec.specs.declared.signed.Role.{Role}
use Rattle.pbft_codec.specs.declared.signed.Signed.{Signed}
use Rattle.pbft_codec.specs.Reading.{reading}
use Rattle.pbft_codec.specs.WellFormed.{Encodes}
use Rattle.pbft_codec.specs.Bodies.{BodyWellFormed}
use Rattle.pbft_codec.specs.Encoding.{signed_text, encoding, max_bytes}
use Rattle.seal.specs.declared.fault.SealFault.{SealFault}
use Rattle.seal.specs.declared.fault.SealFault.TheVariants.{Codec, Memory}
use Rattle.seal.specs.Parts.{messages_in}
use Rattle.seal.specs.Signers.{IsAuthentic, first_fault}

-- What a contract sees of a checked message.
pub record CheckedMessage : Type 0 where
  -- who takes part
  pub config : Configuration
  pub message : Signed Body

-- A message of the grammar, within the limit of length, whose parts are all authentic.
pub record IsChecked (c : CheckedMessage) : Type 0 where
  pub encodes : Encodes (encoding c.message) c.message
  pub authentic : AllByRecursion (IsAuthentic c.config) (messages_in c.message)

-- Internal: a message that a checked one of this configuration may hold.
pub record CanNest (c : Configuration) (m : Signed Body) : Type 0 where
  pub well_formed : BodyWellFormed m.body
  pub within : length (encoding m) ≤ max_bytes
  pub authentic : AllByRecursion (IsAuthentic c) (messages_in m)

-- A message, unless it has a fault.
abbrev pub unless_fault : Configuration → Signed Body → Option SealFault → Result CheckedMessage SealFault
unless_fault c m None = Ok (record { config = c; message = m })
unless_fault c m (Some fault) = Err fault

abbrev pub verified : Configuration → Result (Signed Body) CodecFault → Result CheckedMessage SealFault
verified c (Ok m) = unless_fault c m (first_fault c (messages_in m))
verified c (Err fault) = Err (Codec fault)

-- The message that the bytes encode if all its parts are authentic, or the first fault: the codec's, else
-- that of the first part that has one.
unfoldable pub opening : Configuration → List ℕ → Result CheckedMessage SealFault
opening c bytes = verified c (reading bytes)

-- What a call answered is this, unless memory ran out.
abbrev pub IsUnlessMemory : {A : Type 0} → Result A SealFault → Result A SealFault → Type 0
IsUnlessMemory (Ok x) is = is ≡ Ok x
IsUnlessMemory (Err Memory) is = Unit {0}
IsUnlessMemory (Err fault) is = is ≡ Err fault

-- What a signer makes of a body: its next leaf signs.
abbrev pub sealed_message : SigningState → Role → ℕ → Body → Signed Body
sealed_message s role id body =
    let unsigned : Signed Body = record { role = role; id = id; body = body; sig = [] } in
    record { role = role; id = id; body = body; sig = signature_of s (signed_text unsigned) }

-- The bytes of a message around its body: role, id, two lengths and the signature.
abbrev pub around_body : SigningState → ℕ
around_body s = 13 + signature_length s
