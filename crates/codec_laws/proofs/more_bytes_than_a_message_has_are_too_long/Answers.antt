use Rattle.codec_laws.proofs.Readings.{too_long}
use Rattle.codec_laws.proofs.more_bytes_than_a_message_has_are_too_long.Goals as goal

pub returns : goal.returns
returns c = too_long
