-- All bytes are decided, as `proofs/Deciding.antt` has it.
use Rattle.bpf_decode.proofs.Deciding.{bytes_decided}
use Rattle.bpf_decode.proofs.law.bytes_are_decided.Goals as goal

pub returns : goal.returns
returns c = bytes_decided
