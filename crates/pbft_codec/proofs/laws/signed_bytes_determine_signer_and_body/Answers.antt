use Rattle.pbft_codec.proofs.MessageLaws.{one_signed_text}
use Rattle.pbft_codec.proofs.laws.signed_bytes_determine_signer_and_body.Goals as goal

pub returns : goal.returns
returns c = one_signed_text
