-- Statement: the message that a Snapshot is, as it stands in bytes.
use Rattle.std.specs.Prelude.{ℕ, List}
use Rattle.host_types.specs.declared.SeqNo.{SeqNo}
use Rattle.pbft_codec.specs.declared.body.Body.{Body}
use Rattle.pbft_codec.specs.declared.body.Body.TheVariants as bodies
use Rattle.pbft_codec.specs.declared.body.snapshot.Snapshot.{Snapshot}
use Rattle.pbft_codec.specs.declared.shared.SignedSnapshot.{SignedSnapshot}
use Rattle.pbft_codec.specs.declared.signed.Signed.{Signed}

abbrev pub snapshot_of : SeqNo → List ℕ → Snapshot
snapshot_of number state = record { number = number; state = state }

abbrev pub signed_snapshot : SignedSnapshot → Signed Snapshot
signed_snapshot s = record { role = s.role; id = s.id; body = snapshot_of s.number s.state.now; sig = s.sig.now }

-- as a message of any kind
abbrev pub message_of : Signed Snapshot → Signed Body
message_of m = record { role = m.role; id = m.id; body = bodies.Snapshot m.body; sig = m.sig }

abbrev pub message_in : SignedSnapshot → Signed Body
message_in s = message_of (signed_snapshot s)
