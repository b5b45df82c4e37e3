use Rattle.std.proofs.Common.{Ok, Err, arith}
use Rattle.codec_fields.specs.declared.fault.CodecFault.TheVariants.{Truncated, Trailing}
use Rattle.pbft_codec.specs.Reading.{reading}
use Rattle.pbft_codec.proofs.MessageLaws.{is_found, answers, reading_only, reading_cut, reading_behind}
use Rattle.pbft_codec.proofs.message.decode.Goals as goal

pub returns-clause-found : goal.returns-clause-found
returns-clause-found c = is_found c.args.bytes.now c.read_exactly.result (λ i. omega (arith, c.type_inv.bytes i)) c.read_exactly.ensures

pub returns-clause-only : goal.returns-clause-only
returns-clause-only c = λ m encodes. answers c.read_exactly.result (reading c.args.bytes.now) (Ok m) c.read_exactly.ensures (reading_only c.args.bytes.now m encodes)

pub returns-clause-cut : goal.returns-clause-cut
returns-clause-cut c = λ m rest more encodes. answers c.read_exactly.result (reading c.args.bytes.now) (Err Truncated) c.read_exactly.ensures (reading_cut c.args.bytes.now m rest more encodes)

pub returns-clause-behind : goal.returns-clause-behind
returns-clause-behind c = λ m rest more fits e le. answers c.read_exactly.result (reading c.args.bytes.now) (Err Trailing) c.read_exactly.ensures (reading_behind c.args.bytes.now m rest more fits e le)
