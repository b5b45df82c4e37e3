-- Statement: progress over journals: that messages have come to those whom they are for, that nothing is due, and where
-- replicas have come to. A family has no time: it says what was received, and not what came before what.
use Rattle.std.specs.Prelude.{◌≡◌, ℕ, ◌<◌, Bool, true, None}
use Rattle.pbft_model.specs.Setup.{Setup, replicas, count}
use Rattle.pbft_model.specs.Core.{Core}
use Rattle.pbft_model.specs.Acts.{Destination, All, ToReplica, ToClient}
use Rattle.pbft_model.specs.Duties.{NothingBefore, due_execute, due_join, due_open, due_fetch_state, due_fetch_request}
use Rattle.pbft_model.specs.Rows.{Row, Output}
use Rattle.pbft_model.specs.Histories.{IsIn}
use Rattle.pbft_model.specs.Families.{IsCorrect}
use Rattle.pbft_agreement.specs.Journals.{Journals, HasReceived, ComesTo}

-- ---- messages that have come

-- The replica is one of those whom the destination names.
abbrev pub IsFor : ℕ → Destination → Type 0
IsFor i All = Unit {0}
IsFor i (ToReplica to) = to ≡ i
IsFor i (ToClient to) = ⊥

-- Drained: each message that a correct replica gave, its own or another's that it passed on, was received by each other
-- correct replica that it is for.
abbrev pub IsDrained : Setup → Journals → Type 0
IsDrained c j =
    (from i : ℕ) (row : Row) (output : Output) → IsCorrect c j.faulty from → IsCorrect c j.faulty i → (from ≡ i → ⊥)
    → IsIn row (j.rows from) → IsIn output row.outputs → IsFor i output.to → HasReceived output.message (j.rows i)

-- ---- where replicas have come to

-- It holds of the core that a replica has behind all its rows.
abbrev pub Ends : Setup → Journals → ℕ → (Core → Type 0) → Type 0
Ends c j i is = (s : Core) → ComesTo c j i (j.rows i) s → is s

-- It holds of each correct replica's.
abbrev pub EachEnds : Setup → Journals → (ℕ → Core → Type 0) → Type 0
EachEnds c j is = (i : ℕ) → IsCorrect c j.faulty i → Ends c j i (is i)

-- It holds of more replicas than may be faulty, all of them correct.
abbrev pub Enough : Setup → Journals → (ℕ → Type 0) → Type 0
Enough c j is =
    (those : ℕ → Bool) × (c.config.f < count those (replicas c.config))
    × ((i : ℕ) → i < replicas c.config → those i ≡ true → IsCorrect c j.faulty i × is i)

-- ---- rest

-- None of the duties is due.
pub record IsAtRest (c : Setup) (me : ℕ) (s : Core) : Type 0 where
  pub before_executing : NothingBefore c me s
  pub execute : due_execute c s ≡ None
  pub join : due_join c me s ≡ None
  pub open_view : due_open c me s ≡ None
  pub fetch_state : due_fetch_state c me s ≡ None
  pub fetch_request : due_fetch_request c me s ≡ None
