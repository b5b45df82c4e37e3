use Rattle.codec_laws.proofs.Readings.{behind}
use Rattle.codec_laws.proofs.bytes_behind_a_message_are_trailing.Goals as goal

pub returns : goal.returns
returns c = behind
