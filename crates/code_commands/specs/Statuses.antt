-- Statement: with which status a failure ends a program, and whether its text is still to be written.
use Rattle.std.specs.Prelude.{ℕ, Bool, true, false}
use Rattle.code_commands.specs.declared.failure.CodeFailure.{CodeFailure}
use Rattle.code_commands.specs.declared.failure.CodeFailure.TheVariants.{InputTooLong, NotHex, ArgsNotHex, ArgsTooLong, Number, Call, Map, Object, Refused, Explained, NoCode, Assembler, Memory, Stream}

-- 1 for a refusal, 3 where memory ran out, 4 where a stream failed
abbrev pub status_of : CodeFailure → ℕ
status_of InputTooLong = 1
status_of NotHex = 1
status_of (ArgsNotHex slip) = 1
status_of ArgsTooLong = 1
status_of (Number fault) = 1
status_of (Call fault) = 1
status_of (Map fault) = 1
status_of (Object fault) = 1
status_of (Refused refusal) = 1
status_of (Explained refusal) = 1
status_of (NoCode refusal) = 1
status_of (Assembler fault) = 1
status_of Memory = 3
status_of (Stream error) = 4

-- nothing is said where memory ran out or a stream failed, and an explanation says it itself
abbrev pub is_reported : CodeFailure → Bool
is_reported InputTooLong = true
is_reported NotHex = true
is_reported (ArgsNotHex slip) = true
is_reported ArgsTooLong = true
is_reported (Number fault) = true
is_reported (Call fault) = true
is_reported (Map fault) = true
is_reported (Object fault) = true
is_reported (Refused refusal) = true
is_reported (Explained refusal) = false
is_reported (NoCode refusal) = true
is_reported (Assembler fault) = true
is_reported Memory = false
is_reported (Stream error) = false
