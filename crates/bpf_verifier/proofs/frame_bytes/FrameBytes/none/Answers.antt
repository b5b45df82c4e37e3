use Rattle.bpf_verifier.proofs.Bits.{no_byte_set, zeros}
use Rattle.bpf_verifier.proofs.frame_bytes.FrameBytes.none.Goals as goal

pub invariant_of-result-clause-rest : goal.invariant_of-result-clause-rest
invariant_of-result-clause-rest c = λ n h. zeros 64 n

pub returns : goal.returns
returns c = λ i h. no_byte_set i h
