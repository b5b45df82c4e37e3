use Rattle.std.proofs.Common.{ap, arith, length, refl}
use Rattle.pbft_codec.specs.Encoding.{body}
use Rattle.pbft_codec.specs.Snapshots.{message_in}
use Rattle.pbft_codec.proofs.Widths.{length_signed}
use Rattle.pbft_codec.proofs.shared.SignedSnapshot.signed_parts.Goals as goal

pub parts_signed-requires : goal.parts_signed-requires
parts_signed-requires c = omega (arith, ap length c.requires, length_signed body (message_in c.args.self.now))

pub returns : goal.returns
returns c = c.parts_signed.ensures (message_in c.args.self.now) c.requires refl
