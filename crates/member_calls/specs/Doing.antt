-- Statement: what the export answers that tells what a replica did to its state.
use Rattle.std.specs.Prelude.{◌≡◌, ℕ, List, [], Option, Some, None, slice_get}
use Rattle.handles.specs.Told.{AreTold}
use Rattle.handles.specs.Members.{MemberFacts}
use Rattle.handles.specs.Facts.{RowFacts}
use Rattle.handles.specs.Done.{Done}
use Rattle.handles.specs.Done.TheVariants as dones
use Rattle.member_calls.specs.Statuses.{number_of}
use Rattle.member_calls.specs.declared.doing.DoneItem.{DoneItem}
use Rattle.member_calls.specs.declared.status.Status.TheVariants.{NoReplica, NoRow, NoEntry}

-- A done item is told: its kind, its number, its digest, and the result of a request.
abbrev pub DoneTold : Option Done → ℕ → DoneItem → List ℕ → List ℕ → Type 0
DoneTold None status item before after = (status ≡ number_of NoEntry) × (after ≡ before)
DoneTold (Some (dones.Executed number digest result)) status item before after =
    AreTold result status item.length before after × (item.kind ≡ 0) × (item.number ≡ number.0) × (item.digest ≡ digest.0)
DoneTold (Some (dones.Installed number digest)) status item before after =
    AreTold [] status item.length before after × (item.kind ≡ 1) × (item.number ≡ number.0) × (item.digest ≡ digest.0)

abbrev pub DoneOf : Option RowFacts → ℕ → ℕ → DoneItem → List ℕ → List ℕ → Type 0
DoneOf None index status item before after = (status ≡ number_of NoRow) × (after ≡ before)
DoneOf (Some row) index status item before after = DoneTold (slice_get row.done index) status item before after

abbrev pub DoneIn : Option MemberFacts → ℕ → ℕ → DoneItem → List ℕ → List ℕ → Type 0
DoneIn None index status item before after = (status ≡ number_of NoReplica) × (after ≡ before)
DoneIn (Some m) index status item before after = DoneOf m.row index status item before after
