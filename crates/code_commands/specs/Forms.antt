-- Statement: the code that an input has, by the form in which it stands there.
use Rattle.std.specs.Prelude.{◌≡◌, ℕ, List, Option, Some, None, Result, Err, filter, not}
use Rattle.std.specs.Result.{result_ok}
use Rattle.hex.specs.Hex.{decode_of}
use Rattle.elf_object.specs.Object.{text_of}
use Rattle.code_commands.specs.declared.failure.CodeFailure.{CodeFailure}
use Rattle.code_commands.specs.declared.failure.CodeFailure.TheVariants as failure
use Rattle.code_commands.specs.declared.input.CodeForm.{CodeForm}
use Rattle.code_commands.specs.declared.input.CodeForm.TheVariants.{Hex, Raw, Object}
use Rattle.code_commands.specs.Calls.{is_blank}

-- Hex digits with blanks where one likes; the bytes themselves; the section `.text` of an ELF object.
abbrev pub code_in : CodeForm → List ℕ → Option (List ℕ)
code_in Hex input = result_ok (decode_of (filter (λ b. not (is_blank b)) input))
code_in Raw input = Some input
code_in Object input = result_ok (text_of input)

-- A failure that says why an input has no code: it is no hex, or the object has this fault.
abbrev pub IsFaultOf : CodeForm → List ℕ → CodeFailure → Type 0
IsFaultOf Hex input error = (code_in Hex input ≡ None) × (error ≡ failure.NotHex)
IsFaultOf Raw input error = ⊥
IsFaultOf Object input (failure.Object fault) = text_of input ≡ Err fault
IsFaultOf Object input _ = ⊥
