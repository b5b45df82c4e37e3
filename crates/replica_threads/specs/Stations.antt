-- Statement: what a station answers through a seat, and what it leaves when it is closed.
use Rattle.std.specs.Prelude.{◌≡◌, ℕ, ◌+◌, ◌<◌, ◌≤◌, List, [], ◌∷◌, ◌++◌, length, map, Option, Some, None, Result, Ok, Err}
use Rattle.host_types.specs.Configuration.{Configuration}
use Rattle.seal.specs.Height.TheVariants.{H5}
use Rattle.lms_tree.specs.SigningState.{SigningState}
use Rattle.byz_world.specs.Core.{Core, start_of}
use Rattle.byz_world.specs.Rows.{IsLawfulFrom, IsListed, leaves_in}
use Rattle.byz_world.specs.Setup.{setup_of, signer_after}
use Rattle.byz_world.specs.Facts.{RowFacts, row_of}
use Rattle.byz_world.specs.Halt.{Halt}
use Rattle.byz_world.specs.Status.{Status}
use Rattle.byz_world.specs.Input.{Input}
use Rattle.byz_world.specs.Keeping.{JournalFacts, stands}

-- What a contract sees of a seat: how many rows were answered through it, and its parts of the ledger.
pub record SeatFacts : Type 0 where
  pub rows : ℕ
  pub parts : ℕ

-- The rows are a lawful journal of the replica, from this signer on, whose key is the replica's listed one.
pub record IsJournalOf (c : Configuration) (me : ℕ) (signer : SigningState) (rows : List RowFacts) : Type 0 where
  pub listed : IsListed (setup_of c) me signer
  pub last : Core
  pub lawful : IsLawfulFrom (setup_of c) me (start_of (setup_of c) signer) (map row_of rows) last

-- The row is of this input, and the last of a lawful journal with more rows than so many, and no more than the limit.
pub record IsAnswered (c : Configuration) (me : ℕ) (signer : SigningState) (limit counted : ℕ) (input : Input) (row : RowFacts) : Type 0 where
  pub earlier : List RowFacts
  pub lawful : IsJournalOf c me signer (earlier ++ row ∷ [])
  pub more : counted ≤ length earlier
  pub room : length earlier < limit
  pub input_is : row.input ≡ input

-- So stands the replica after a lawful journal with at least so many rows, and no more than the limit.
pub record IsReported (c : Configuration) (me : ℕ) (signer : SigningState) (limit counted : ℕ) (status : Status) : Type 0 where
  pub rows : List RowFacts
  pub journal : IsJournalOf c me signer rows
  pub many : counted ≤ length rows
  pub within : length rows ≤ limit
  pub status_is : status ≡ stands journal.last status.halted

-- The rows are a lawful journal with at least so many rows, and no more than the limit.
pub record IsClosed (c : Configuration) (me : ℕ) (signer : SigningState) (limit counted : ℕ) (rows : List RowFacts) : Type 0 where
  pub lawful : IsJournalOf c me signer rows
  pub many : counted ≤ length rows
  pub within : length rows ≤ limit

-- What holds whenever a station's lock is free: its rows are a lawful journal from this signer on, the status is that of
-- the core after them, and until a halt this core is the replica's.
pub record IsKeptBy (c : Configuration) (me : ℕ) (signer : SigningState) (j : JournalFacts) : Type 0 where
  pub journal : IsJournalOf c me signer j.rows
  pub status_is : j.status ≡ stands journal.last j.status.halted
  pub running : j.status.halted ≡ None → j.replica.core ≡ Some journal.last
  pub within : length j.rows ≤ j.limit

-- Until it halts, the replica's signer has used as many leaves since its station was made as the rows report.
abbrev pub HasUsedItsLeaves : SigningState → JournalFacts → Type 0
HasUsedItsLeaves signer j =
    j.status.halted ≡ None → (last : Core) × (j.replica.core ≡ Some last) × (last.signer ≡ signer_after signer (leaves_in (map row_of j.rows)))

-- the seat after an answer: a row is counted, a halt is not
abbrev pub counted_by : SeatFacts → Result RowFacts Halt → SeatFacts
counted_by seat (Ok row) = record seat { rows = seat.rows + 1 }
counted_by seat (Err halt) = seat

-- ---- signers

-- the name of what no station stands for
abbrev pub no_signer : SigningState
no_signer = record { height = H5; bottom = None; id = []; secret = []; next_leaf = 0 }

-- the signer of a replica that has not stopped
abbrev pub signer_of : Option Core → SigningState
signer_of None = no_signer
signer_of (Some s) = s.signer
