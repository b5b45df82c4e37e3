-- Statement: what the exports answer that compare what replicas say they did.
use Rattle.std.specs.Prelude.{◌≡◌, ◌⊎◌, ◌==◌, ℕ, nat_le, if◌then◌else◌, List, length, take, Option, Some, None, is_some, unwrap_or, Result, Ok, Err}
use Rattle.handles.specs.Accounts.{LedgerFacts, Remarks, begun, recorded}
use Rattle.handles.specs.Deed.{Deed}
use Rattle.handles.specs.Remark.{Remark}
use Rattle.handles.specs.declared.held.Held.{Held}
use Rattle.handles.specs.declared.held.Held.TheVariants as held
use Rattle.member_calls.specs.Statuses.{bit, number_of}
use Rattle.member_calls.specs.declared.accounting.Compared.{Compared}
use Rattle.member_calls.specs.declared.doing.DoneItem.{DoneItem}
use Rattle.member_calls.specs.declared.status.Status.{Status}
use Rattle.member_calls.specs.declared.status.Status.TheVariants.{Done, Memory, BufferTooShort, NoLedger, NoItem}

-- ---- what an item says

abbrev pub deed_with : DoneItem → Option (List ℕ) → Deed
deed_with item result = record { number = record { 0 = item.number }; digest = record { 0 = item.digest }; result = result }

-- An execution's result stands at the front of the bytes beside its item, which says how long it is.
abbrev pub execution_in : DoneItem → List ℕ → Result Deed Status
execution_in item answer =
    if nat_le item.length (length answer) then Ok (deed_with item (Some (take item.length answer))) else Err BufferTooShort

abbrev pub deed_in : DoneItem → List ℕ → Result Deed Status
deed_in item answer =
    if item.kind == 0 then execution_in item answer
    else if item.kind == 1 then Ok (deed_with item None)
    else Err NoItem

-- ---- how it compares

-- What is told of a deed at this place.
abbrev pub compared_as : ℕ → Remark → Compared
compared_as place remark =
    record { place = place; first = unwrap_or remark.first 0; differs = bit (is_some remark.first); follows = bit remark.follows }

-- A deed is noted; what is none changes nothing.
abbrev pub Compares : LedgerFacts → Result Deed Status → ℕ → Compared → Compared → LedgerFacts → Type 0
Compares l (Ok deed) status before after t =
    (remark : Remark) × Remarks l deed remark × (status ≡ number_of Done) × (after ≡ compared_as (length l.deeds) remark) × (t ≡ recorded l deed)
Compares l (Err fault) status before after t = (status ≡ number_of fault) × (after ≡ before) × (t ≡ l)

-- Or memory ran out, and nothing is changed.
abbrev pub MayCompare : LedgerFacts → Result Deed Status → ℕ → Compared → Compared → LedgerFacts → Type 0
MayCompare l deed status before after t =
    ((status ≡ number_of Memory) × (after ≡ before) × (t ≡ l)) ⊎ Compares l deed status before after t

abbrev pub ComparedIn : Option Held → List ℕ → DoneItem → ℕ → Compared → Compared → Option Held → Type 0
ComparedIn (Some (held.Ledger l)) answer item status before after left =
    (t : LedgerFacts) × MayCompare l (deed_in item answer) status before after t × (left ≡ Some (held.Ledger t))
ComparedIn inside answer item status before after left = (status ≡ number_of NoLedger) × (after ≡ before) × (left ≡ inside)

-- ---- another replica's items come

abbrev pub BegunIn : Option Held → ℕ → ℕ → Option Held → Type 0
BegunIn (Some (held.Ledger l)) last status left = (status ≡ number_of Done) × (left ≡ Some (held.Ledger (begun l last)))
BegunIn inside last status left = (status ≡ number_of NoLedger) × (left ≡ inside)
