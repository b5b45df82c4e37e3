-- Statement: messages of the grammar, and which bytes encode which.
use Rattle.std.specs.Prelude.{◌≡◌, ℕ, ◌≤◌, List, length}
use Rattle.pbft_codec.specs.declared.body.Body.{Body}
use Rattle.pbft_codec.specs.declared.signed.Signed.{Signed}
use Rattle.pbft_codec.specs.Encoding.{encoding, max_bytes}
pub use Rattle.pbft_codec.specs.Bodies.{BodyWellFormed, BodyFieldsInRange}
pub use Rattle.pbft_codec.specs.Limits.{IsSequenceNumber, AscendFrom, EachBody, CertificateWellFormed, ViewChangeWellFormed, NewViewWellFormed, IsView, IsDigest, ProposalFieldsInRange, SignedFieldsInRange, PrePrepareFieldsInRange, PrepareFieldsInRange, CheckpointFieldsInRange, CertificateFieldsInRange, ViewChangeFieldsInRange, NewViewFieldsInRange, ReplyFieldsInRange}

-- A message of the grammar, whatever its length.
pub record WellFormed (m : Signed Body) : Type 0 where
  pub well_formed : BodyWellFormed m.body
  pub fields_in_range : SignedFieldsInRange BodyFieldsInRange m

-- The bytes are those of this message of the grammar, within the limit of length.
pub record Encodes (bytes : List ℕ) (m : Signed Body) : Type 0 where
  pub well_formed : WellFormed m
  pub encoded : bytes ≡ encoding m
  pub within : length bytes ≤ max_bytes
