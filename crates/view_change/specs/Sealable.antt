-- Layer: what `seal` asks of a body, whoever of those listed signs it.
use Rattle.std.specs.Prelude.{◌≡◌, ◌+◌, ◌≤◌, List, length}
use Rattle.std.specs.List.{AllByRecursion}
use Rattle.host_types.specs.Configuration.{Configuration}
use Rattle.seal.specs.SigningState.{SigningState}
use Rattle.pbft_codec.specs.Bodies.{BodyWellFormed}
use Rattle.pbft_codec.specs.Encoding.{body as encoded_body, max_bytes}
use Rattle.pbft_codec.specs.Limits.{AscendFrom, IsSequenceNumber}
use Rattle.quorum_log.specs.Words.{Body, Certificate, NewView, ViewChange}
use Rattle.quorum_log.specs.declared.certificate.CheckedCertificate.{CheckedCertificate}
use Rattle.seal.specs.Lists.{AreChecked}
use Rattle.seal.specs.Opening.{IsChecked, around_body}
use Rattle.seal.specs.Parts.{nested_in}
use Rattle.seal.specs.Signers.{IsAuthentic}

-- A body of the grammar, whose nested messages are authentic, and which fits in a message with the signature of
-- any signer.
pub record IsSealable (c : Configuration) (b : Body) : Type 0 where
  pub well_formed : BodyWellFormed b
  pub nested : AllByRecursion (IsAuthentic c) (nested_in b)
  pub within : (s : SigningState) → length (encoded_body b) + around_body s ≤ max_bytes

abbrev pub IsCheckedCertificate : CheckedCertificate → Type 0
IsCheckedCertificate x = IsChecked x.pre_prepare × AreChecked x.prepares

-- The checked certificates are all under this configuration.
abbrev pub AreUnder : Configuration → List CheckedCertificate → Type 0
AreUnder c xs = AllByRecursion (λ x. (x.pre_prepare.config ≡ c) × (x.prepares.config ≡ c)) xs

-- ---- lists that are no longer than the grammar has them, signers ascending

abbrev pub HasShortList : Certificate → Type 0
HasShortList x = (length x.prepares ≤ 10) × AscendFrom 0 x.prepares

pub record HasShortLists (v : ViewChange) : Type 0 where
  pub low : IsSequenceNumber v.low
  pub few_checkpoints : length v.checkpoints ≤ 10
  pub ascend : AscendFrom 0 v.checkpoints
  pub few_certificates : length v.certificates ≤ 16
  pub certificates : AllByRecursion HasShortList v.certificates

-- At most the 2f + 1 ViewChanges of the greatest f: ten of the longest would not fit in a message.
pub record HasFewMessages (n : NewView) : Type 0 where
  pub few_changes : length n.changes ≤ 7
  pub ascend : AscendFrom 0 n.changes
  pub few_pre_prepares : length n.pre_prepares ≤ 16
