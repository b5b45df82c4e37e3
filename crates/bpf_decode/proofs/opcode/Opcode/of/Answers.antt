use Rattle.std.proofs.Common.{◌≡◌, ℕ, Option, Some, None, IfSome, sym}
use Rattle.std.proofs.Math.Facts.{Fits-lt-pow}
use Rattle.bpf_decode.specs.declared.opcode.Opcode.{Opcode}
use Rattle.bpf_decode.specs.Opcodes.{opcode_of, opcode_byte}
use Rattle.bpf_decode.specs.Parts.{IsOpcode}
use Rattle.bpf_decode.proofs.Deciding.{opcode_right_of}
use Rattle.bpf_decode.proofs.Table.{looked_up}
use Rattle.bpf_decode.proofs.opcode.Opcode.of.Goals as goal

pub returns-clause-found : goal.returns-clause-found
returns-clause-found c = looked_up c.args.byte (Fits-lt-pow c.ranges.byte) _

right : (byte : ℕ) (r : Option Opcode) → r ≡ opcode_of byte → IfSome r (λ o. (opcode_byte o ≡ byte) × IsOpcode o)
right byte None e = tt
right byte (Some o) e = opcode_right_of byte o (sym e)

pub returns-clause-encoded : goal.returns-clause-encoded
returns-clause-encoded c = right c.args.byte _ (looked_up c.args.byte (Fits-lt-pow c.ranges.byte) _)
