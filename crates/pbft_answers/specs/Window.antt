-- Statement: the first window of numbers: what is given out in view 0 up to the first high water mark, and how clients ask.
use Rattle.std.specs.Prelude.{◌≡◌, ◌⊎◌, ℕ, ◌<◌, ◌≤◌, List, ◌∷◌, ◌++◌}
use Rattle.pbft_model.specs.Words.{Signed, RequestBody, as_message}
use Rattle.pbft_codec.specs.declared.body.Body.TheVariants as bodies
use Rattle.pbft_model.specs.Setup.{Setup, primary, span}
use Rattle.pbft_model.specs.Certificates.{Fields}
use Rattle.pbft_model.specs.Rows.{Row, Received, Installed}
use Rattle.pbft_model.specs.Families.{IsCorrect}
use Rattle.pbft_agreement.specs.Journals.{Journals, HasReceived, HasDone}
use Rattle.pbft_progress.specs.Progress.{EachEnds}
use Rattle.pbft_progress.specs.Votes.{HasProposed}

-- the primary of view 0
abbrev pub leader_of : Setup → ℕ
leader_of c = primary c.config 0

-- Requests that one correct replica received, each correct replica received.
abbrev pub SpreadsRequests : Setup → Journals → Type 0
SpreadsRequests c j =
    (from i : ℕ) (m : Signed RequestBody) → IsCorrect c j.faulty from → IsCorrect c j.faulty i
    → HasReceived (as_message bodies.Request m) (j.rows from) → HasReceived (as_message bodies.Request m) (j.rows i)

-- Of one client, what the primary received later has a greater time, or is the same message.
abbrev pub AsksInOrder : Setup → Journals → Type 0
AsksInOrder c j =
    (earlier later : List Row) (row : Row) (m p : Signed RequestBody) → j.rows (leader_of c) ≡ earlier ++ row ∷ later
    → row.input ≡ Received (as_message bodies.Request p) → HasReceived (as_message bodies.Request m) earlier → m.id ≡ p.id → (m ≡ p) ⊎ (m.body.time < p.body.time)

-- No correct replica installed a snapshot.
abbrev pub InstallsNothing : Setup → Journals → Type 0
InstallsNothing c j = (i n : ℕ) (digest : List ℕ) → IsCorrect c j.faulty i → HasDone (Installed n digest) (j.rows i) → ⊥

-- The first window: all stand in view 0, its primary is correct and has given out no number above the first high water mark,
-- and clients ask in order and ask all.
pub record IsFirstWindow (c : Setup) (j : Journals) : Type 0 where
  pub leader : IsCorrect c j.faulty (leader_of c)
  pub stands : EachEnds c j (λ i s. s.view ≡ 0)
  pub within : (x : Fields) → HasProposed x (j.rows (leader_of c)) → x.number ≤ span c.config
  pub asks : AsksInOrder c j
  pub spreads : SpreadsRequests c j
