-- Statement: the numbers by which the verifier's faults are reported, and what it calls those of the decoder.
use Rattle.std.specs.Prelude.{ℕ}
use Rattle.bpf_decode.specs.declared.refusal.DecodeFault.{DecodeFault}
use Rattle.bpf_decode.specs.declared.refusal.DecodeFault.TheVariants as decode
use Rattle.bpf_decode.specs.Faults.{number_of as decode_number_of}
use Rattle.bpf_model.specs.declared.fault.VerifyFault.{VerifyFault}
use Rattle.bpf_model.specs.declared.fault.VerifyFault.TheVariants.{Decode, JumpBackward, JumpOutside, FallsOffEnd, UnknownHelper, WritesFramePointer, UninitRegister, BadAccess, UninitBytes, CallDepth, TooComplex, Memory}

abbrev pub number_of : VerifyFault → ℕ
number_of (Decode fault) = decode_number_of fault
number_of JumpBackward = 11
number_of JumpOutside = 12
number_of FallsOffEnd = 13
number_of UnknownHelper = 14
number_of WritesFramePointer = 15
number_of UninitRegister = 16
number_of BadAccess = 17
number_of UninitBytes = 18
number_of CallDepth = 19
number_of TooComplex = 20
number_of Memory = 21

-- The decoder's faults are the verifier's; that memory ran out is one fault.
abbrev pub verify_fault_of : DecodeFault → VerifyFault
verify_fault_of decode.Memory = Memory
verify_fault_of decode.Empty = Decode decode.Empty
verify_fault_of decode.NotSlots = Decode decode.NotSlots
verify_fault_of decode.TooLong = Decode decode.TooLong
verify_fault_of decode.BadOpcode = Decode decode.BadOpcode
verify_fault_of decode.BadRegister = Decode decode.BadRegister
verify_fault_of decode.FieldNotZero = Decode decode.FieldNotZero
verify_fault_of decode.TruncatedWide = Decode decode.TruncatedWide
verify_fault_of decode.BadWidth = Decode decode.BadWidth
verify_fault_of decode.BadOffset = Decode decode.BadOffset
