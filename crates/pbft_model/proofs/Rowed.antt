-- The acts of a journal's rows are a history.
use Rattle.std.proofs.Common.{◌≡◌, ℕ, List, [], ◌∷◌, refl, sym, subst}
use Rattle.pbft_model.specs.Words.{SigningState}
use Rattle.pbft_model.specs.Setup.{Setup}
use Rattle.pbft_model.specs.Core.{Core, start_of}
use Rattle.pbft_model.specs.Acts.{Act}
use Rattle.pbft_model.specs.Rules.{Allowed}
use Rattle.pbft_model.specs.Duties.{due}
use Rattle.pbft_model.specs.Rows.{Row, Input, Received, TimedOut, Fulfils, Follows, Begins, IsNext, IsLawfulFrom}
use Rattle.pbft_model.specs.Histories.{core_after, IsHistory}
use Rattle.pbft_model.proofs.Sound.{sound_at}
use Rattle.pbft_model.proofs.Fine.{due_fine}

module _ (c : Setup) (me : ℕ) (signer : SigningState) where
  pub due_allowed : (acts : List Act) → IsHistory c me signer acts → (a : Act) → Fulfils c (core_after c signer acts) (due c me (core_after c signer acts)) a → Allowed c me (core_after c signer acts) a
  due_allowed acts is = due_fine c me (core_after c signer acts) (sound_at c me signer acts is)

  -- a history that ends in this core
  abbrev pub Leads : Core → Type 0
  Leads t = (acts : List Act) × IsHistory c me signer acts × (core_after c signer acts ≡ t)

  followed : (done acts : List Act) (t : Core) → IsHistory c me signer acts → Follows c me (core_after c signer acts) done t → Leads t
  followed [] acts t is same = (acts, is, sym same)
  followed (a ∷ done) acts t is (does, leaves, rest) = followed done (a ∷ acts) t (is, due_allowed acts is a does) rest

  pub begun : (s : Core) (input : Input) (a : Act) → Begins c input a → Allowed c me s a
  begun s (Received m) a (reading, may, same) = subst (λ (x : Act). Allowed c me s x) (sym same) may
  begun s TimedOut a same = subst (λ (x : Act). Allowed c me s x) (sym same) tt

  row_leads : (acts : List Act) (row : Row) (t : Core) → IsHistory c me signer acts → IsNext c me (core_after c signer acts) row t → Leads t
  row_leads acts row t is next = followed next.acts (next.first ∷ acts) t (is, begun (core_after c signer acts) row.input next.first next.begins) next.reacts.follows

  rows_lead : (rows : List Row) (s t : Core) → Leads s → IsLawfulFrom c me s rows t → Leads t
  rows_lead [] s t h same = subst Leads (sym same) h
  rows_lead (row ∷ rows) s t (acts, is, same) (u, next, rest) = rows_lead rows u t (row_leads acts row u is (subst (λ (x : Core). IsNext c me x row u) (sym same) next)) rest

  -- The rows of a journal are acts that were allowed.
  pub journal_is_history : (rows : List Row) (t : Core) → IsLawfulFrom c me (start_of c signer) rows t → Leads t
  journal_is_history rows t lawful = rows_lead rows (start_of c signer) t ([], tt, refl) lawful
