-- Statement: early votes, which lie above the receiver's high water mark as they come: it drops them, and nobody sends them again;
-- and the first view without them, for any number.
use Rattle.std.specs.Prelude.{◌≡◌, ℕ, ◌≤◌, ◌+◌, List, ◌∷◌, ◌++◌, Option, Some, None}
use Rattle.pbft_model.specs.Words.{Signed, Body}
use Rattle.pbft_codec.specs.declared.body.Body.TheVariants as bodies
use Rattle.pbft_model.specs.Setup.{Setup, span}
use Rattle.pbft_model.specs.Core.{Core}
use Rattle.pbft_model.specs.Rows.{Row, Received}
use Rattle.pbft_model.specs.Families.{IsCorrect}
use Rattle.pbft_agreement.specs.Journals.{Journals, ComesTo}
use Rattle.pbft_progress.specs.Progress.{EachEnds}
use Rattle.pbft_answers.specs.Window.{leader_of, SpreadsRequests, AsksInOrder}

-- The number that a vote speaks of.
abbrev pub voted_number : Body → Option ℕ
voted_number (bodies.PrePrepare b) = Some b.number.0
voted_number (bodies.Prepare b) = Some b.number.0
voted_number (bodies.Commit b) = Some b.number.0
voted_number _ = None

-- No vote of a correct replica came early to one: its number was at most the high water mark, low + 2k, of the core before its row.
abbrev pub NoVoteIsEarly : Setup → Journals → Type 0
NoVoteIsEarly c j =
    (i : ℕ) (earlier later : List Row) (row : Row) (s : Core) (m : Signed Body) (n : ℕ) → IsCorrect c j.faulty i → IsCorrect c j.faulty m.id
    → j.rows i ≡ earlier ++ row ∷ later → ComesTo c j i earlier s → row.input ≡ Received m → voted_number m.body ≡ Some n → n ≤ s.low + span c.config

-- All stand in view 0, its primary is correct, no vote of a correct replica came early to one, and clients ask in order and ask all.
pub record IsTimely (c : Setup) (j : Journals) : Type 0 where
  pub leader : IsCorrect c j.faulty (leader_of c)
  pub stands : EachEnds c j (λ i s. s.view ≡ 0)
  pub in_time : NoVoteIsEarly c j
  pub asks : AsksInOrder c j
  pub spreads : SpreadsRequests c j
