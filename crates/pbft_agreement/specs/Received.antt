-- Statement: messages as they come over a network, as bytes.
use Rattle.std.specs.Prelude.{◌≡◌, ◌⊎◌, ℕ, ◌<◌, ◌≤◌, List, All, Option}
use Rattle.pbft_codec.specs.Encoding.{encoding}
use Rattle.pbft_codec.specs.declared.body.Body.TheVariants as bodies
use Rattle.pbft_model.specs.Words.{SigningState, leaf_count, Signed, Body, IsConfiguration, IsChecked}
use Rattle.pbft_model.specs.Setup.{Setup}
use Rattle.pbft_model.specs.Core.{Core, start_of}
use Rattle.pbft_model.specs.Sequential.{Service}
use Rattle.pbft_model.specs.Acts.{Act}
use Rattle.pbft_model.specs.Rules.{IsReading}
use Rattle.pbft_model.specs.Rows.{Row, Input, Received, TimedOut, Halt, HaltsBy, IsNext, IsLawfulFrom}
use Rattle.pbft_model.specs.Histories.{HasTaken}
use Rattle.pbft_agreement.specs.Journals.{HasReceived}

-- Each message that was taken came as a list of bytes.
abbrev pub TakesBytes : List Act → Type 0
TakesBytes acts = (m : Signed Body) → HasTaken m acts → All (λ byte. byte < 256) (encoding m)

-- Each message that was received in these rows or is the input behind them came as a list of bytes.
abbrev pub ReceivesBytes : List Row → Input → Type 0
ReceivesBytes rows input =
    (m : Signed Body) → HasReceived m rows ⊎ (input ≡ Received m) → All (λ byte. byte < 256) (encoding m)

-- ---- what an input gives behind the rows of a journal

-- A core behind the rows of a lawful journal, whose signer did not begin beyond its leaves; and an input that comes there,
-- after messages that came as lists of bytes, as it did itself.
pub record ComesBehind (c : Setup) (me : ℕ) (s : Core) (input : Input) : Type 0 where
  pub configuration : IsConfiguration c.config
  pub signer : SigningState
  pub spare : signer.next_leaf ≤ leaf_count signer
  pub rows : List Row
  pub lawful : IsLawfulFrom c me (start_of c signer) rows s
  pub bytes : ReceivesBytes rows input

-- A message was opened; a timeout always is.
abbrev pub IsOpened : Setup → Input → Type 0
IsOpened c (Received m) = IsChecked (record { config = c.config; message = m })
IsOpened c TimedOut = Unit {0}

-- A message has a reading as a state, which may be that it has none.
abbrev pub HasReading : Setup → Input → Type 0
HasReading c (Received m) = (reading : Option Service) × IsReading c m.body reading
HasReading c TimedOut = Unit {0}

abbrev pub IsSnapshotBody : Body → Type 0
IsSnapshotBody (bodies.Snapshot b) = Unit {0}
IsSnapshotBody _ = ⊥

abbrev pub IsSnapshot : Input → Type 0
IsSnapshot (Received m) = IsSnapshotBody m.body
IsSnapshot TimedOut = ⊥

-- The input gives its row, or halts the replica.
abbrev pub GivesRowOrHalt : Setup → ℕ → Core → Input → Type 0
GivesRowOrHalt c me s input =
    ((row : Row) × (t : Core) × (row.input ≡ input) × IsNext c me s row t)
    ⊎ ((halt : Halt) × HaltsBy c me s input halt)
