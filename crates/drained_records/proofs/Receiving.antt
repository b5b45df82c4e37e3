-- Bytes encode one message; what rows received.
use Rattle.std.proofs.Common.{◌≡◌, ℕ, ◌+◌, ◌<◌, List, map, length, Some, sym, subst, ◌∙◌, ap, arith, inl, inr}
use Rattle.std.proofs.lemmas.Bool.{cases_lt}
use Rattle.std.specs.Prelude.{slice_get}
use Rattle.std.proofs.lemmas.Option.{slice_get_within, same_Some}
use Rattle.byz_world.specs.Encoding.{encoding}
use Rattle.byz_world.specs.WellFormed.{Encodes}
use Rattle.byz_world.proofs.MessageLaws.{one_message}
use Rattle.pbft_progress.specs.Words.{Signed, Body}
use Rattle.byz_world.specs.Rows.{Received}
use Rattle.byz_world.proofs.Found.{in_map, from_map}
use Rattle.byz_world.specs.Journals.{HasReceived}
use Rattle.byz_world.specs.Opening.{CheckedMessage, IsChecked}
use Rattle.byz_world.specs.Facts.{RowFacts, input_of, row_of}
use Rattle.drained_records.proofs.Laws.{placed, there}

pub same_bytes : (a b : CheckedMessage) → IsChecked a → IsChecked b → encoding a.message ≡ encoding b.message → a.message ≡ b.message
same_bytes a b left right e =
    one_message (encoding a.message) a.message b.message left.encodes
    (subst (λ (bytes : List ℕ). Encodes bytes b.message) (sym e) right.encodes)

pub is_received : (rows : List RowFacts) (i : ℕ) (r : RowFacts) (m : Signed Body) → slice_get rows i ≡ Some r
    → input_of r.input ≡ Received m → HasReceived m (map row_of rows)
is_received rows i r m at is = (row_of r, in_map row_of rows r (there r rows i at), is)

pub is_not_received : (rows : List RowFacts) (m : Signed Body)
    → ((i : ℕ) (r : RowFacts) → i < length rows → slice_get rows i ≡ Some r → input_of r.input ≡ Received m → ⊥)
    → HasReceived m (map row_of rows) → ⊥
is_not_received rows m none has =
    let r = from_map row_of rows has.0 has.1 in
    let at = placed r.0 rows r.1 in
    none at.0 r.0 (slice_get_within rows at.0 r.0 at.1) at.1 (ap (λ x. x.input) (sym r.2) ∙ has.2)

-- neither the rows before it nor this one received it
pub not_yet : (rows : List RowFacts) (n : ℕ) (row : RowFacts) (m : Signed Body) → slice_get rows n ≡ Some row
    → (input_of row.input ≡ Received m → ⊥)
    → ((i : ℕ) (r : RowFacts) → i < n → slice_get rows i ≡ Some r → input_of r.input ≡ Received m → ⊥)
    → (i : ℕ) (r : RowFacts) → i < n + 1 → slice_get rows i ≡ Some r → input_of r.input ≡ Received m → ⊥
not_yet rows n row m at not before i r below at' is = elim (cases_lt i n) [
  | inl lt ↦ before i r lt at' is
  | inr ge ↦
      let same : i ≡ n = omega (arith, ge, below) in
      not (subst (λ (x : RowFacts). input_of x.input ≡ Received m) (same_Some r row (sym at' ∙ ap (slice_get rows) same ∙ at)) is)
]
