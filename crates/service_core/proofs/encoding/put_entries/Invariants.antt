use Rattle.std.proofs.Common.{◌++◌, ◌<◌, ◌≡◌, length}
use Rattle.std.specs.FinMap as finite
use Rattle.service_model.specs.Words.{u32_bytes}
use Rattle.service_core.proofs.Fed.{Put, rows}
use Rattle.service_core.proofs.encoding.put_entries.Given as goal

abbrev pub invariant-loop-key : goal.invariant-loop-key
invariant-loop-key g l =
    Put g.S.Sink.holds l.fn.sink l.sink (u32_bytes (finite.len l.entries.entries)) (λ entry. entry.0 ++ entry.1) (rows l.count l.piece) l.key-iterator (finite.entries l.entries.entries)
    × l.count < 16 × length l.piece ≡ 16
