use Rattle.std.proofs.Common.{arith}
use Rattle.pbft_codec.proofs.SnapshotLaws.{snapshot_found, snapshot_read, not_read}
use Rattle.pbft_codec.proofs.shared.snapshot_in.Goals as goal

pub returns-in-Ok-clause-found : goal.returns-in-Ok-clause-found
returns-in-Ok-clause-found c = snapshot_found c.args.bytes.now _ (λ i. omega (arith, c.type_inv.bytes i)) c.if-bytes-gt-MAX_BYTES.false c.in-Ok.ensures.read

pub returns-in-Err-clause-each : goal.returns-in-Err-clause-each
returns-in-Err-clause-each c m encodes = absurd (not_read _ _ m c.in-Err.ensures.read c.in-Err.ensures.fault (snapshot_read c.args.bytes.now m encodes))
