use Rattle.pbft_codec.proofs.LengthLaws.{length_body, length_encoding}
use Rattle.pbft_codec.proofs.laws.encodings_have_these_lengths.Goals as goal

pub returns-clause-bodies : goal.returns-clause-bodies
returns-clause-bodies c = length_body

pub returns-clause-messages : goal.returns-clause-messages
returns-clause-messages c = length_encoding
