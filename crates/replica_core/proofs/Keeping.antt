-- Where a Checkpoint is due, the snapshot of the state is kept at its number.
use Rattle.std.proofs.Common.{◌≡◌, ℕ, ◌%◌, ◌==◌, Bool, true, false, cond, List, [], ◌∷◌, Some, sym, ap, ◌∙◌, inl, inr}
use Rattle.std.specs.Prelude.{nat_le}
use Rattle.std.proofs.lemmas.Bool.{false≢true, le-leb}
use Rattle.pbft_model.specs.Words.{SigningState}
use Rattle.pbft_model.specs.Acts.{Act, Take, Timeout, Send, Relay, Enter, Rise, Execute, Install, after}
use Rattle.pbft_model.specs.Core.{Core}
use Rattle.pbft_model.specs.Histories.{IsHistory, core_after}
use Rattle.pbft_model.specs.Rules.{Allowed}
use Rattle.pbft_model.specs.Sequential.{Service, encoded}
use Rattle.pbft_model.specs.Setup.{Setup}
use Rattle.pbft_model.specs.Tables.{Table, at, first_in, number_key, with_entry}
use Rattle.pbft_model.proofs.Found.{kept_keep, same_entry}
use Rattle.pbft_model.proofs.Origins.{Keeps, left_keeps, recorded_keeps, said_keeps}
use Rattle.replica_core.proofs.Ranging.{left_snapshots, recorded_snapshots, said_snapshots}

abbrev pub IsKeptWhereDue : Core → Type 0
IsKeptWhereDue s = s.checkpoint_due ≡ true → at s.snapshots (number_key s.executed) ≡ Some (encoded s.service)

-- what keeps the number, the state and the snapshots keeps it
stays : (s t : Core) → Keeps s t → t.snapshots ≡ s.snapshots → IsKeptWhereDue s → IsKeptWhereDue t
stays s t keeps same h = λ due. elim keeps.checkpoint [
  | inl sent ↦ absurd (false≢true (sym sent ∙ due))
  | inr is ↦
      ap (λ (x : Table (List ℕ)). at x (number_key t.executed)) same ∙ ap (λ (n : ℕ). at s.snapshots (number_key n)) keeps.number
      ∙ h (sym is ∙ due) ∙ ap (λ (x : Service). Some (encoded x)) (sym keeps.service)
]

kept_after : (c : Setup) (me : ℕ) (s : Core) (a : Act) → Allowed c me s a → IsKeptWhereDue s → IsKeptWhereDue (after c s a)
kept_after c me s (Take m r) ok h =
    let k = recorded_keeps c s m m.body in
    stays s (after c s (Take m r)) (record { number = k.number; service = k.service; reply = k.reply; checkpoint = k.checkpoint }) (recorded_snapshots c s m m.body) h
kept_after c me s Timeout ok h = h
kept_after c me s (Send to m) ok h =
    let k = said_keeps c s m m.body in
    stays s (after c s (Send to m)) (record { number = k.number; service = k.service; reply = k.reply; checkpoint = k.checkpoint }) (said_snapshots c s m m.body) h
kept_after c me s (Relay to m) ok h = h
kept_after c me s (Enter m) ok h =
    let k = left_keeps c s m.body.view.0 in
    stays s (after c s (Enter m)) (record { number = k.number; service = k.service; reply = k.reply; checkpoint = k.checkpoint }) (left_snapshots c s m.body.view.0) h
kept_after c me s (Rise n d) ok h = λ due. kept_keep (λ key. nat_le n (first_in key)) s.snapshots (number_key s.executed) (encoded s.service) (le-leb n s.executed ok.reached) (h due)
kept_after c me s (Execute n d t o) ok h = cases (n % c.config.k == 0) where
  cases : (b : Bool) → b ≡ true → at (cond b (with_entry s.snapshots (number_key n) (encoded t)) s.snapshots) (number_key n) ≡ Some (encoded t)
  cases true due = same_entry s.snapshots (number_key n) (encoded t)
  cases false due = absurd (false≢true due)
kept_after c me s (Install n b t) ok h = λ due. absurd (false≢true due)

pub kept_at : (c : Setup) (me : ℕ) (signer : SigningState) (acts : List Act) → IsHistory c me signer acts → IsKeptWhereDue (core_after c signer acts)
kept_at c me signer [] is = λ due. absurd (false≢true due)
kept_at c me signer (a ∷ acts) is = kept_after c me (core_after c signer acts) a is.1 (kept_at c me signer acts is.0)
