use Rattle.std.proofs.Common.{ℕ, ◌<◌, get_or, arith}
use Rattle.bpf_decode.proofs.Slots.{slot_read, field_16, field_32}
use Rattle.bpf_decode.proofs.slot.Slot.from_bytes.Goals as goal

pub returns-clause-encoded : goal.returns-clause-encoded
returns-clause-encoded c =
    let fits : (i : ℕ) → get_or c.args.bytes.now i 0 < 256 = λ i. omega (arith, c.type_inv.bytes i) in
    let b = c.args.bytes.now in
    slot_read b _ _ c.requires fits (field_16 (get_or b 2 0) (get_or b 3 0) _ (fits 2) (fits 3) c.from_le_bytes.ensures)
    (field_32 (get_or b 4 0) (get_or b 5 0) (get_or b 6 0) (get_or b 7 0) _ (fits 4) (fits 5) (fits 6) (fits 7) c.from_le_bytes-2.ensures)
