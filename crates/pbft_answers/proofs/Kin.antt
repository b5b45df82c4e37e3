-- The family of histories behind the journals of an honest family: each correct replica's is its journal's.
use Rattle.std.proofs.Common.{◌≡◌, ℕ, Bool, true, false, List, [], ◌∷◌, Option, refl, sym, ◌∙◌, inl, inr}
use Rattle.std.specs.Prelude.{nat_lt}
use Rattle.std.proofs.lemmas.Bool.{true≢false, ltb-true, lt-ltb}
use Rattle.pbft_model.specs.Words.{Signed, Body, Part, as_message, part_of}
use Rattle.pbft_codec.specs.declared.body.Body.TheVariants as bodies
use Rattle.pbft_model.specs.Sequential.{Service, Outcome}
use Rattle.pbft_model.specs.Setup.{Setup, replicas}
use Rattle.pbft_model.specs.Core.{Core, start_of}
use Rattle.pbft_model.specs.Acts.{Act, Take, Execute, Install}
use Rattle.pbft_model.specs.Rows.{Done, Executed, Installed, done_of, result_of}
use Rattle.pbft_model.specs.Histories.{core_after, IsHistory, IsEarlier, IsIn, HasSigned, HasTaken}
use Rattle.pbft_model.specs.Families.{Family, IsCorrect, IsUnforged}
use Rattle.pbft_agreement.specs.Journals.{Journals, HasReceived, HasGiven, HasDone, ComesTo, RunsTo, IsHashedIn, IsHonestFamily}
use Rattle.pbft_agreement.specs.Agreement.{IsHashed, IsHonest}
use Rattle.pbft_progress.proofs.Lives.{TakenAt, DoesDue, Split}
use Rattle.pbft_progress.proofs.Spreading.{ended}

module _ (c : Setup) (j : Journals) (h : IsHonestFamily c j) where
  abbrev pick : (i : ℕ) (a b : Bool) → nat_lt i (replicas c.config) ≡ a → j.faulty i ≡ b → List Act
  pick i true false e f = (ended c j h i (ltb-true i (replicas c.config) e, f)).history.acts
  pick i true true e f = []
  pick i false b e f = []

  abbrev pub family : Family
  family = record { faulty = j.faulty; signer = j.signer; acts = λ i. pick i (nat_lt i (replicas c.config)) (j.faulty i) refl refl }

  -- what a correct replica's journal shows of its history, and the core that it ends in
  pub record Told (i : ℕ) (acts : List Act) : Type 0 where
    pub core : Core
    pub comes : ComesTo c j i (j.rows i) core
    pub core_is : core_after c (j.signer i) acts ≡ core
    pub is : IsHistory c i (j.signer i) acts
    pub takes : (m : Signed Body) → HasReceived m (j.rows i) → TakenAt m acts
    pub received : (m : Signed Body) → HasTaken m acts → HasReceived m (j.rows i)
    pub gives : (p : Part) → HasSigned p acts → HasGiven p (j.rows i)
    pub signs : (p : Part) → HasGiven p (j.rows i) → HasSigned p acts
    pub does : (x : List Act) → IsEarlier x acts → DoesDue c i (j.signer i) x
    pub reports : (n : ℕ) (d : List ℕ) (t : Service) (o : Outcome) (early : List Act) → IsEarlier (Execute n d t o ∷ early) acts → HasDone (Executed n d (result_of o.reply)) (j.rows i)
    pub runs : (n : ℕ) (d : List ℕ) (t : Service) (o : Outcome) (early : List Act) → IsEarlier (Execute n d t o ∷ early) acts → RunsTo c i (start_of c (j.signer i)) (j.rows i) t
    pub splits : (m : Signed Body) (r : Option Service) (x : List Act) → IsEarlier (Take m r ∷ x) acts → Split c i (j.signer i) m x [] (start_of c (j.signer i)) (j.rows i)
    pub installs : (k : ℕ) (b : List ℕ) (t : Service) (x : List Act) → IsEarlier (Install k b t ∷ x) acts → HasDone (Installed k (c.hash b)) (j.rows i)
    pub did : (done : Done) → HasDone done (j.rows i) → (a : Act) × (early : List Act) × IsEarlier (a ∷ early) acts × IsIn done (done_of c a)

  told_by : (i : ℕ) (a b : Bool) (e : nat_lt i (replicas c.config) ≡ a) (f : j.faulty i ≡ b) → IsCorrect c j.faulty i → Told i (pick i a b e f)
  told_by i true false e f correct =
      let w = ended c j h i (ltb-true i (replicas c.config) e, f) in
      let l = w.history in
      record {
        core = w.core;
        comes = w.comes;
        core_is = l.core_is;
        is = l.is;
        takes = l.takes;
        received = l.received;
        gives = l.gives;
        signs = l.signs;
        does = l.does;
        reports = l.reports;
        runs = l.runs;
        splits = l.splits;
        installs = l.installs;
        did = l.did;
      }
  told_by i true true e f correct = absurd (true≢false (sym f ∙ correct.1))
  told_by i false b e f correct = absurd (true≢false (sym (lt-ltb i (replicas c.config) correct.0) ∙ e))

  pub told : (i : ℕ) → IsCorrect c j.faulty i → Told i (family.acts i)
  told i correct = told_by i (nat_lt i (replicas c.config)) (j.faulty i) refl refl correct

  pub unforged : IsUnforged c family
  unforged = record {
    few = h.few;
    histories = λ i correct. (told i correct).is;
    real = λ i correct m p taken within role right.
        (told p.id right).signs (part_of p) (h.real i correct m p ((told i correct).received m taken) within role right);
  }

  -- the strings that it hashed are the journals'
  hashed : (text : List ℕ) → IsHashed c family text → IsHashedIn c j text
  hashed text (inl none) = inl none
  hashed text (inr (inl (m, (i, correct, taken), is))) = inr (inl (m, (i, correct, (told i correct).received (as_message bodies.Request m) taken), is))
  hashed text (inr (inr (inl (m, (i, correct, taken), is)))) = inr (inr (inl (m, (i, correct, (told i correct).received (as_message bodies.Snapshot m) taken), is)))
  hashed text (inr (inr (inr (i, number, digest, done, is)))) =
      inr (inr (inr (i, done.service, done.correct, (told i done.correct).runs number digest done.service done.outcome done.early done.point, is)))

  pub honest : IsHonest c family
  honest = record {
    configuration = h.configuration;
    unforged = unforged;
    apart = λ x y a b same. h.apart x y (hashed x a) (hashed y b) same;
  }
