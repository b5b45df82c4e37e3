-- Statement: the number and the name of each fault, and which faults the bytes have.
use Rattle.std.specs.Prelude.{ℕ, List, codes}
use Rattle.pbft_codec.specs.CodecFault.{CodecFault}
use Rattle.pbft_codec.specs.CodecFault.TheVariants as codec
use Rattle.pbft_codec.specs.Faults as codec_faults
use Rattle.seal.specs.declared.fault.SealFault.{SealFault}
use Rattle.seal.specs.declared.fault.SealFault.TheVariants.{Codec, UnknownSigner, BadSignature, WrongRole, Memory}

abbrev pub number_of : SealFault → ℕ
number_of (Codec fault) = 1
number_of UnknownSigner = 2
number_of BadSignature = 3
number_of WrongRole = 4
number_of Memory = 5

abbrev pub name_of : SealFault → List ℕ
name_of (Codec fault) = codec_faults.name_of fault
name_of UnknownSigner = codes "UnknownSigner"
name_of BadSignature = codes "BadSignature"
name_of WrongRole = codes "WrongRole"
name_of Memory = codes "Memory"

-- The codec's `Memory` is no fault of the bytes.
abbrev pub from_codec : CodecFault → SealFault
from_codec codec.Memory = Memory
from_codec codec.Truncated = Codec codec.Truncated
from_codec codec.Trailing = Codec codec.Trailing
from_codec codec.BadKind = Codec codec.BadKind
from_codec codec.BadField = Codec codec.BadField
from_codec codec.TooLong = Codec codec.TooLong
from_codec codec.NotAscending = Codec codec.NotAscending

-- Out of memory is never reported as a fault of the bytes.
abbrev pub IsOfBytes : CodecFault → Type 0
IsOfBytes codec.Memory = ⊥
IsOfBytes _ = Unit {0}

abbrev pub IsProper : SealFault → Type 0
IsProper (Codec fault) = IsOfBytes fault
IsProper _ = Unit {0}
