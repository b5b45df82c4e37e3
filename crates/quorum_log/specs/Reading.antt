-- Internal: the log that the slots of the numbers represent.
use Rattle.std.specs.Prelude.{◌≡◌, ℕ, ◌*◌, List, Option, Some, None, length, not, nat_lt, Result, Ok, Err, if◌then◌else◌}
use Rattle.std.specs.Option.{option_map}
use Rattle.host_types.specs.Configuration.{Configuration}
use Rattle.host_types.specs.declared.SeqNo.{SeqNo}
use Rattle.pbft_codec.specs.declared.body.Body.{Body}
use Rattle.pbft_codec.specs.declared.body.Body.TheVariants as bodies
use Rattle.ballots.specs.Words.{Signed, Prepare, Commit}
use Rattle.ballots.specs.Acts.{with_body}
use Rattle.ballots.specs.Tables.{Table}
use Rattle.seal.specs.Opening.{CheckedMessage}
use Rattle.seal.specs.declared.vote.VoteKind.{VoteKind}
use Rattle.seal.specs.declared.vote.VoteKind.TheVariants as kinds
use Rattle.seal.specs.declared.vote.Vote.{Vote}
use Rattle.quorum_log.specs.declared.fault.LogFault.{LogFault}
use Rattle.quorum_log.specs.declared.fault.LogFault.TheVariants as faults
use Rattle.quorum_log.specs.declared.view_slots.ViewSlots.{ViewSlots}
pub use Rattle.quorum_log.specs.Log.{as_pre_prepare}
use Rattle.quorum_log.specs.Log.{Log, is_within}
use Rattle.quorum_log.specs.Slots.{IsSlotAt}
use Rattle.quorum_log.specs.Windows.{slot_of, vote_at_key, keys_by_number}
use Rattle.ballots.specs.ByKey.{table_by}

abbrev pub as_prepare : Signed Body → Body → Option (Signed Prepare)
as_prepare m (bodies.Prepare b) = Some (with_body m b)
as_prepare m _ = None

abbrev pub as_commit : Signed Body → Body → Option (Signed Commit)
as_commit m (bodies.Commit b) = Some (with_body m b)
as_commit m _ = None

-- a vote as a message of its kind
abbrev pub read_by : {B : Type 0} → (Signed Body → Body → Option (Signed B)) → Option CheckedMessage → Option (Signed B)
read_by pick None = None
read_by pick (Some m) = pick m.message m.message.body

-- the table of one kind
abbrev pub table_of : {B : Type 0} → (Signed Body → Body → Option (Signed B)) → VoteKind → ℕ → List ViewSlots → Table (Signed B)
table_of pick kind low numbers = table_by (λ q. read_by pick (vote_at_key kind low numbers q)) (keys_by_number low numbers)

abbrev pub log_in : ℕ → Option SeqNo → ℕ → List ViewSlots → Log
log_in view floor low numbers = record {
  view = view;
  floor = option_map (λ n. n.0) floor;
  low = low;
  pre_prepares = table_of as_pre_prepare kinds.PrePrepare low numbers;
  prepares = table_of as_prepare kinds.Prepare low numbers;
  commits = table_of as_commit kinds.Commit low numbers;
}

-- each number between the marks has its slots, and each vote is at its own view and number
pub record AreKept (c : Configuration) (low : ℕ) (numbers : List ViewSlots) : Type 0 where
  pub span : length numbers ≡ 2 * c.k
  pub slots : (number view : ℕ) → IsSlotAt c view number (slot_of low numbers number view)

-- why a vote is not recorded: its view, before its number
abbrev pub position_fault : Configuration → Log → Vote → Option LogFault
position_fault c l v =
    if nat_lt v.view.0 l.view then Some faults.WrongView
    else (if not (is_within c l v.view.0 v.number.0) then Some faults.OutsideMarks else None)

abbrev pub fault_of : {A : Type 0} → Result A LogFault → Option LogFault
fault_of (Ok x) = None
fault_of (Err fault) = Some fault
