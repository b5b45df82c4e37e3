-- Statement: when a replica is blamed by what it signed, and which journals bear it out.
use Rattle.std.specs.Prelude.{◌≡◌, ◌≢◌, ℕ, List, Some}
use Rattle.pbft_model.specs.Words.{Signed, Body, Replica, messages_in, part_of}
use Rattle.pbft_model.specs.Setup.{Setup}
use Rattle.pbft_model.specs.Core.{Core}
use Rattle.pbft_model.specs.Rows.{Row}
use Rattle.pbft_model.specs.Histories.{IsIn}
use Rattle.pbft_model.specs.Families.{IsCorrect}
use Rattle.pbft_agreement.specs.Journals.{Journals, HasReceived, HasGiven, ComesTo}
use Rattle.conflicts.specs.Claims.{Contradict, claim_of}
use Rattle.conflicts.specs.declared.claim.Claim.{Claim}
use Rattle.journal_laws.specs.Replay.{WasSigned, leaf_of}

-- A replica signed this in its rows: as a message of its own, or as a PrePrepare inside an own NewView.
abbrev pub HasSigned : ℕ → Body → List Row → Type 0
HasSigned me body rows = HasGiven (record { role = Replica; id = me; body = body }) rows

-- The correct replicas' journals are lawful, and each part of what they received that names a correct replica as its signer
-- was signed by it. How many replicas are faulty isn't said, nor that digests differ.
pub record IsRealFamily (c : Setup) (j : Journals) : Type 0 where
  pub lawful : (i : ℕ) → IsCorrect c j.faulty i → (last : Core) × ComesTo c j i (j.rows i) last
  pub real : (i : ℕ) → IsCorrect c j.faulty i → (m p : Signed Body) → HasReceived m (j.rows i) → IsIn p (messages_in m)
      → p.role ≡ Replica → IsCorrect c j.faulty p.id → HasGiven (part_of p) (j.rows p.id)

-- A replica's message was heard: a correct replica received it, or a message in which it stands.
pub record IsHeard (c : Setup) (j : Journals) (id : ℕ) (p : Signed Body) : Type 0 where
  pub by : ℕ
  pub correct : IsCorrect c j.faulty by
  pub message : Signed Body
  pub received : HasReceived message (j.rows by)
  pub within : IsIn p (messages_in message)
  pub role : p.role ≡ Replica
  pub id_is : p.id ≡ id

-- Two messages were heard in which a replica says two things of one topic.
pub record IsBlamed (c : Setup) (j : Journals) (id : ℕ) : Type 0 where
  pub first : Signed Body
  pub second : Signed Body
  pub first_heard : IsHeard c j id first
  pub second_heard : IsHeard c j id second
  pub one : Claim
  pub other : Claim
  pub first_claims : claim_of first ≡ Some one
  pub second_claims : claim_of second ≡ Some other
  pub contradict : Contradict one other

-- ---- leaves

-- The same, and what was received of a correct replica is what it sent, its signature included.
pub record IsSentFamily (c : Setup) (j : Journals) : Type 0 where
  pub lawful : (i : ℕ) → IsCorrect c j.faulty i → (last : Core) × ComesTo c j i (j.rows i) last
  pub sent : (i : ℕ) → IsCorrect c j.faulty i → (m p : Signed Body) → HasReceived m (j.rows i) → IsIn p (messages_in m)
      → p.role ≡ Replica → IsCorrect c j.faulty p.id → WasSigned p (j.rows p.id)

-- Two messages of a replica were heard whose signatures name one leaf.
pub record IsBlamedByLeaf (c : Setup) (j : Journals) (id : ℕ) : Type 0 where
  pub first : Signed Body
  pub second : Signed Body
  pub first_heard : IsHeard c j id first
  pub second_heard : IsHeard c j id second
  pub one_leaf : leaf_of (j.signer id) first ≡ leaf_of (j.signer id) second
  pub differ : first ≢ second
