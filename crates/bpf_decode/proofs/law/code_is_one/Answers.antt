-- Bytes are one code, as `proofs/Encodings.antt` has it.
use Rattle.bpf_decode.proofs.Encodings.{same_code, refused_is_no_code}
use Rattle.bpf_decode.proofs.law.code_is_one.Goals as goal

pub returns : goal.returns
returns c = record { one = same_code; either = refused_is_no_code }
