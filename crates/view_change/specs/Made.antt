-- Layer: the ViewChange and the NewView that are made of checked messages.
use Rattle.std.specs.Prelude.{◌≡◌, ◌⊎◌, ℕ, ◌+◌, ◌*◌, ◌<◌, ◌≤◌, true, List, [], ◌∷◌, map, length, None}
use Rattle.std.specs.List.{AllByRecursion}
use Rattle.host_types.specs.Configuration.{Configuration}
use Rattle.host_types.specs.declared.SeqNo.{SeqNo}
use Rattle.host_types.specs.declared.View.{View}
use Rattle.pbft_codec.specs.declared.body.Body.{Body}
use Rattle.pbft_codec.specs.declared.body.Body.TheVariants as bodies
use Rattle.pbft_codec.specs.Limits.{AscendFrom}
use Rattle.quorum_log.specs.Certificates.{of_pre_prepare, of_prepare}
use Rattle.quorum_log.specs.Words.{Certificate, Checkpoint, NewView, PrePrepare, Prepare, Signed, ViewChange}
use Rattle.quorum_log.specs.Setup.{Setup, span, setup_of}
use Rattle.quorum_log.specs.Validity.{has_view, has_proof, has_certificates, has_order, view_change_fault}
use Rattle.quorum_log.specs.declared.certificate.CheckedCertificate.{CheckedCertificate}
use Rattle.seal.specs.Lists.{CheckedMessages}
use Rattle.seal.specs.Parts.{as_message}
use Rattle.view_change.specs.Sealable.{AreUnder}

-- The messages of a checked certificate are this one's.
pub record IsCertificateOf (x : CheckedCertificate) (y : Certificate) : Type 0 where
  pub pre_prepare : x.pre_prepare.message ≡ as_message bodies.PrePrepare y.pre_prepare
  pub prepares : x.prepares.messages ≡ map (as_message bodies.Prepare) y.prepares

-- Two lists are related one for one.
abbrev pub OneForOne : {X Y : Type 0} → (X → Y → Type 0) → List X → List Y → Type 0
OneForOne R [] [] = Unit {0}
OneForOne R [] (y ∷ ys) = ⊥
OneForOne R (x ∷ xs) [] = ⊥
OneForOne R (x ∷ xs) (y ∷ ys) = R x y × OneForOne R xs ys

-- The ViewChange has this view, this low mark, these Checkpoints and these certificates.
pub record IsMadeOf (view : View) (low : SeqNo) (proof : CheckedMessages) (certificates : List CheckedCertificate) (v : ViewChange) : Type 0 where
  pub view_is : v.view ≡ view
  pub low_is : v.low ≡ low
  pub checkpoints : proof.messages ≡ map (as_message bodies.Checkpoint) v.checkpoints
  pub carries : OneForOne IsCertificateOf certificates v.certificates

-- The NewView has this view, these ViewChanges and these PrePrepares.
pub record IsNewViewOf (view : View) (changes pre_prepares : CheckedMessages) (n : NewView) : Type 0 where
  pub view_is : n.view ≡ view
  pub changes_are : changes.messages ≡ map (as_message bodies.ViewChange) n.changes
  pub proposals : pre_prepares.messages ≡ map (as_message bodies.PrePrepare) n.pre_prepares

-- The parts of a ViewChange are valid, each by itself.
pub record HasValidParts (c : Setup) (v : ViewChange) : Type 0 where
  pub view : has_view v ≡ true
  pub proof : has_proof c v ≡ true
  pub certificates : has_certificates c v ≡ true
  pub order : has_order c v ≡ true

-- ---- checked messages of which a valid ViewChange is made

-- a Checkpoint of this number, with this digest
pub record IsCheckpointAt (number : ℕ) (digest : List ℕ) (m : Signed Body) : Type 0 where
  pub checkpoint : Checkpoint
  pub is : m.body ≡ bodies.Checkpoint checkpoint
  pub number_is : checkpoint.number.0 ≡ number
  pub digest_is : checkpoint.digest.0 ≡ digest

-- Checkpoints of 2f + 1 replicas at this number with one digest, ids ascending.
pub record IsStableBy (c : Configuration) (number : ℕ) (ms : List (Signed Body)) : Type 0 where
  pub digest : List ℕ
  pub each : AllByRecursion (IsCheckpointAt number digest) ms
  pub many : length ms ≡ 2 * c.f + 1
  pub ascend : AscendFrom 0 ms

-- a Prepare that matches the PrePrepare
pub record IsPrepareFor (p : PrePrepare) (m : Signed Body) : Type 0 where
  pub prepare : Prepare
  pub is : m.body ≡ bodies.Prepare prepare
  pub matches : of_prepare prepare ≡ of_pre_prepare p

-- The PrePrepare, and matching Prepares of 2f replicas, ids ascending: what a log's certificate holds.
pub record IsCertificateFor (c : Configuration) (p : PrePrepare) (x : CheckedCertificate) : Type 0 where
  pub proposal : x.pre_prepare.message.body ≡ bodies.PrePrepare p
  pub each : AllByRecursion (IsPrepareFor p) x.prepares.messages
  pub many : length x.prepares.messages ≡ 2 * c.f
  pub ascend : AscendFrom 0 x.prepares.messages

-- A certificate for a PrePrepare of this view and number.
pub record IsCertificateAt (c : Configuration) (view number : ℕ) (x : CheckedCertificate) : Type 0 where
  pub pre_prepare : PrePrepare
  pub view_is : pre_prepare.view.0 ≡ view
  pub number_is : pre_prepare.number.0 ≡ number
  pub fits : IsCertificateFor c pre_prepare x

-- Certificates of views below this one, their numbers ascending, each at least `first`, up to `last`.
abbrev pub AscendWithin : Configuration → ℕ → ℕ → ℕ → List CheckedCertificate → Type 0
AscendWithin c view first last [] = Unit {0}
AscendWithin c view first last (x ∷ xs) =
    (p : PrePrepare) × IsCertificateFor c p x × (p.view.0 < view) × (first ≤ p.number.0) × (p.number.0 ≤ last)
    × AscendWithin c view (p.number.0 + 1) last xs

-- A view above 0; the proof that the low mark is stable, of which 0 needs none; and certificates between the marks.
pub record AreValidParts (view : View) (low : SeqNo) (proof : CheckedMessages) (certificates : List CheckedCertificate) : Type 0 where
  pub later : 0 < view.0
  pub stable : IsStableBy proof.config low.0 proof.messages ⊎ ((low.0 ≡ 0) × (proof.messages ≡ []))
  pub alike : AreUnder proof.config certificates
  pub carries : AscendWithin proof.config view.0 (low.0 + 1) (low.0 + span proof.config) certificates

-- a valid ViewChange
abbrev pub IsValidChange : Setup → Body → Type 0
IsValidChange c (bodies.ViewChange v) = view_change_fault c v ≡ None
IsValidChange c _ = ⊥
