use Rattle.codec_laws.proofs.Readings.{cut}
use Rattle.codec_laws.proofs.a_message_that_is_cut_is_truncated.Goals as goal

pub returns : goal.returns
returns c = cut
