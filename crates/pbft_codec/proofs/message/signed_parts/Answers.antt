use Rattle.std.proofs.Common.{ap, sym, arith, length}
use Rattle.pbft_codec.specs.Encoding.{body}
use Rattle.pbft_codec.proofs.Widths.{length_signed}
use Rattle.pbft_codec.proofs.message.signed_parts.Goals as goal

pub parts_signed-requires : goal.parts_signed-requires
parts_signed-requires c = omega (arith, ap length c.requires, ap length c.as_slice.ensures, length_signed body c.args.message.now)

pub returns : goal.returns
returns c = c.parts_signed.ensures c.args.message.now c.requires (ap length (sym c.as_slice.ensures))
