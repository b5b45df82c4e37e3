-- Statement: the number and the name of each fault.
use Rattle.std.specs.Prelude.{ℕ, List, codes}
use Rattle.codec_fields.specs.declared.fault.CodecFault.{CodecFault}
use Rattle.codec_fields.specs.declared.fault.CodecFault.TheVariants.{Truncated, Trailing, BadKind, BadField, TooLong, NotAscending, Memory}

abbrev pub number_of : CodecFault → ℕ
number_of Truncated = 1
number_of Trailing = 2
number_of BadKind = 3
number_of BadField = 4
number_of TooLong = 5
number_of NotAscending = 6
number_of Memory = 7

abbrev pub name_of : CodecFault → List ℕ
name_of Truncated = codes "Truncated"
name_of Trailing = codes "Trailing"
name_of BadKind = codes "BadKind"
name_of BadField = codes "BadField"
name_of TooLong = codes "TooLong"
name_of NotAscending = codes "NotAscending"
name_of Memory = codes "Memory"
