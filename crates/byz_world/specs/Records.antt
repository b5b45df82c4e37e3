-- Statement: records of an honest family's correct replicas, and journals of all replicas.
use Rattle.std.specs.Prelude.{◌≡◌, ℕ, ◌<◌, Bool, false, List, [], map, slice_get, unwrap_or, Result, Ok, Err}
use Rattle.host_types.specs.Configuration.{Configuration, replicas_for}
use Rattle.pbft_model.specs.Core.{Core, start_of}
use Rattle.pbft_model.specs.Histories.{IsIn}
use Rattle.pbft_model.specs.Families.{IsCorrect}
use Rattle.pbft_agreement.specs.Journals.{Agrees, IsHonestFamily, Journals}
use Rattle.pbft_model.specs.Rows.{IsLawfulFrom, IsListed}
use Rattle.pbft_model.specs.Setup.{Setup, setup_of}
use Rattle.pbft_model.specs.Words.{SigningState}
use Rattle.replica_journal.specs.Facts.{RowFacts, row_of}
use Rattle.byz_world.specs.Audits.{IsAudit}
use Rattle.byz_world.specs.Procedures.{StaysSafe}
use Rattle.byz_world.specs.Worlds.{IsHonestReport}
use Rattle.byz_world.specs.declared.audit_fault.AuditFault.{AuditFault}
use Rattle.byz_world.specs.declared.audit_fault.AuditFault.TheVariants.{Differ, Gap, Unrecorded, Memory}
use Rattle.byz_world.specs.declared.history.Execution.{Execution}

-- The records are rows of correct replicas, and each correct replica's rows are among them.
pub record AreRecords (c : Setup) (j : Journals) (records : List (List RowFacts)) : Type 0 where
  pub each : (rows : List RowFacts) → IsIn rows records → (i : ℕ) × IsCorrect c j.faulty i × (j.rows i ≡ map row_of rows)
  pub all : (i : ℕ) → IsCorrect c j.faulty i → (rows : List RowFacts) × IsIn rows records × (j.rows i ≡ map row_of rows)

-- An audit answers a history, unless memory ran out.
abbrev pub FindsNoFault : Result (List Execution) AuditFault → Type 0
FindsNoFault (Ok history) = Unit {0}
FindsNoFault (Err Differ) = ⊥
FindsNoFault (Err Gap) = ⊥
FindsNoFault (Err Unrecorded) = ⊥
FindsNoFault (Err Memory) = Unit {0}

-- ---- journals of all replicas

-- the rows of a replica: one record for each, ids ascending
abbrev pub record_at : List (List RowFacts) → ℕ → List RowFacts
record_at records id = unwrap_or (slice_get records id) []

abbrev pub journals_of : (ℕ → Bool) → (ℕ → SigningState) → List (List RowFacts) → Journals
journals_of faulty signer records = record { faulty = faulty; signer = signer; rows = λ id. map row_of (record_at records id) }

-- The records are lawful journals, by the replicas' ids: each from this signer on, whose key is the listed one.
pub record AreJournals (c : Configuration) (signer : ℕ → SigningState) (records : List (List RowFacts)) : Type 0 where
  pub listed : (id : ℕ) → id < replicas_for c.f → IsListed (setup_of c) id (signer id)
  pub lawful : (id : ℕ) → id < replicas_for c.f
      → (last : Core) × IsLawfulFrom (setup_of c) id (start_of (setup_of c) (signer id)) (map row_of (record_at records id)) last

-- The records are lawful journals, from these signers on. Whoever is faulty: where at most f are, nobody forged and no
-- digests collided, the others' journals are an honest family, and one list of requests accounts for all that they did;
-- and no procedure can go wrong that one of the others has installed. Where nobody is, an audit finds no fault.
pub record AgreeUnlessForged (c : Configuration) (signer : ℕ → SigningState) (records : List (List RowFacts)) : Type 0 where
  pub are : AreJournals c signer records
  pub family : (faulty : ℕ → Bool) → IsHonestReport (setup_of c) (journals_of faulty signer records) → IsHonestFamily (setup_of c) (journals_of faulty signer records)
  pub agree : (faulty : ℕ → Bool) → IsHonestReport (setup_of c) (journals_of faulty signer records) → Agrees (setup_of c) (journals_of faulty signer records)
  pub safe : (faulty : ℕ → Bool) → StaysSafe (setup_of c) (journals_of faulty signer records)
  pub audited : (answer : Result (List Execution) AuditFault) → IsHonestReport (setup_of c) (journals_of (λ id. false) signer records)
      → IsAudit records answer → FindsNoFault answer
