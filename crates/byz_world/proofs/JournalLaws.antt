-- Journals of all replicas are a family, whoever of them is faulty.
use Rattle.std.proofs.Common.{◌≡◌, ℕ, zero, suc, ◌<◌, inl, inr, Bool, false, List, [], ◌∷◌, length, map, refl, sym, ap, arith}
use Rattle.host_types.specs.Configuration.{Configuration, IsConfiguration, replicas_for}
use Rattle.pbft_model.specs.Histories.{IsIn}
use Rattle.pbft_agreement.specs.Journals.{IsHonestFamily, Journals}
use Rattle.pbft_model.specs.Setup.{Setup, setup_of}
use Rattle.pbft_model.specs.Words.{SigningState}
use Rattle.pbft_agreement.proofs.OverJournals.{agrees_over}
use Rattle.replica_journal.specs.Facts.{RowFacts, row_of}
use Rattle.byz_world.specs.Records.{AgreeUnlessForged, AreJournals, AreRecords, journals_of, record_at}
use Rattle.byz_world.specs.Worlds.{IsHonestReport}
use Rattle.byz_world.proofs.ProcedureLaws.{lawful_safe}
use Rattle.byz_world.proofs.RecordLaws.{records_pass}

-- An honest family's premises that no code gives are an honest report's.
pub family_reports : (c : Setup) (j : Journals) → IsHonestFamily c j → IsHonestReport c j
family_reports c j h = record { few = h.few; real = h.real; apart = h.apart }

-- the records, by id
record_in : (records : List (List RowFacts)) (n : ℕ) → n < length records → IsIn (record_at records n) records
record_in [] n less = absurd (omega (arith, less))
record_in (rows ∷ records) zero less = inl refl
record_in (rows ∷ records) (suc n) less = inr (record_in records n (omega (arith, less)))

in_record : (rows : List RowFacts) (records : List (List RowFacts)) → IsIn rows records → (n : ℕ) × (n < length records) × (rows ≡ record_at records n)
in_record rows [] at = absurd at
in_record rows (r ∷ records) (inl here) = (0, omega arith, here)
in_record rows (r ∷ records) (inr later) = let w = in_record rows records later in (suc w.0, omega (arith, w.1), w.2)

module _ (c : Configuration) (signer : ℕ → SigningState) (records : List (List RowFacts)) (are : AreJournals c signer records) (legal : IsConfiguration c) (many : length records ≡ replicas_for c.f) where
  family : (faulty : ℕ → Bool) → IsHonestReport (setup_of c) (journals_of faulty signer records) → IsHonestFamily (setup_of c) (journals_of faulty signer records)
  family faulty honest = record {
    configuration = legal;
    few = honest.few;
    listed = λ i correct. are.listed i correct.0;
    lawful = λ i correct. are.lawful i correct.0;
    real = honest.real;
    apart = honest.apart;
  }

  all_records : (faulty : ℕ → Bool) → ((i : ℕ) → faulty i ≡ false) → AreRecords (setup_of c) (journals_of faulty signer records) records
  all_records faulty none = record {
    each = λ rows at. let w = in_record rows records at in (w.0, (omega (arith, w.1, many), none w.0), ap (map row_of) (sym w.2));
    all = λ i correct. (record_at records i, record_in records i (omega (arith, correct.0, many)), refl);
  }

  pub all_agree : AgreeUnlessForged c signer records
  all_agree = record {
    are = record { listed = are.listed; lawful = are.lawful };
    family = family;
    agree = λ faulty honest. agrees_over (setup_of c) (journals_of faulty signer records) (family faulty honest);
    safe = λ faulty. lawful_safe (setup_of c) (journals_of faulty signer records) legal (λ i correct. are.lawful i correct.0);
    audited = λ answer honest is.
        records_pass (setup_of c) (journals_of (λ i. false) signer records) (family (λ i. false) honest) records (all_records (λ i. false) (λ i. refl)) answer is;
  }
