-- Statement: journals of replicas whose drivers hold early votes back until the low mark has risen, and a first view of such.
use Rattle.std.specs.Prelude.{◌≡◌, ℕ, List, ◌∷◌, ◌++◌, false}
use Rattle.seal.specs.Opening.{CheckedMessage}
use Rattle.early_votes.specs.Holding.{HeldFacts, is_early}
use Rattle.pbft_answers.specs.Words.{Signed, Body}
use Rattle.pbft_answers.specs.Setup.{Setup}
use Rattle.pbft_answers.specs.Core.{Core}
use Rattle.pbft_answers.specs.Rows.{Row, Received}
use Rattle.pbft_answers.specs.Families.{IsCorrect}
use Rattle.pbft_answers.specs.Journals.{Journals, ComesTo}
use Rattle.pbft_answers.specs.Progress.{EachEnds}
use Rattle.pbft_answers.specs.Window.{leader_of, SpreadsRequests, AsksInOrder}

-- What is held for a replica, told of the low mark of this core, has the message for no early vote.
abbrev pub IsOnTime : Setup → Core → Signed Body → Type 0
IsOnTime c s m =
    (h : HeldFacts) × (opened : CheckedMessage) × (h.config ≡ c.config) × (h.low ≡ s.low) × (opened.message ≡ m) × (is_early h opened ≡ false)

-- Each correct replica took a correct one's message when it was on time by what its driver held.
abbrev pub HoldsEarlyVotesBack : Setup → Journals → Type 0
HoldsEarlyVotesBack c j =
    (i : ℕ) (earlier later : List Row) (row : Row) (s : Core) (m : Signed Body) → IsCorrect c j.faulty i → IsCorrect c j.faulty m.id
    → j.rows i ≡ earlier ++ row ∷ later → ComesTo c j i earlier s → row.input ≡ Received m → IsOnTime c s m

-- All stand in view 0, its primary is correct, drivers hold early votes back, and clients ask in order and ask all.
pub record IsHeldBack (c : Setup) (j : Journals) : Type 0 where
  pub leader : IsCorrect c j.faulty (leader_of c)
  pub stands : EachEnds c j (λ i s. s.view ≡ 0)
  pub held : HoldsEarlyVotesBack c j
  pub asks : AsksInOrder c j
  pub spreads : SpreadsRequests c j
