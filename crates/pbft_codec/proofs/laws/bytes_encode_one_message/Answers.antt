use Rattle.pbft_codec.proofs.MessageLaws.{one_message}
use Rattle.pbft_codec.proofs.laws.bytes_encode_one_message.Goals as goal

pub returns : goal.returns
returns c = one_message
