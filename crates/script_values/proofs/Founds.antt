-- What was found, or `WrongValue`: memory plays no part.
use Rattle.std.proofs.Common.{◌≡◌, Option, Some, None, refl, sym, subst}
use Rattle.std.specs.Prelude.{Result}
use Rattle.std.specs.Option.{ok_or}
use Rattle.script_values.specs.declared.fault.TableFault.{TableFault}
use Rattle.script_values.specs.declared.fault.TableFault.TheVariants.{WrongValue}
use Rattle.script_values.specs.Faults.{IsUnlessMemory}

itself : {A : Type 0} (o : Option A) → IsUnlessMemory (ok_or o WrongValue) (ok_or o WrongValue)
itself None = refl
itself (Some x) = refl

pub found_or : {A : Type 0} (o : Option A) (r is : Result A TableFault) → r ≡ ok_or o WrongValue → is ≡ ok_or o WrongValue → IsUnlessMemory r is
found_or {A} o r is e f =
    subst (λ (x : Result A TableFault). IsUnlessMemory x is) (sym e) (subst (λ (y : Result A TableFault). IsUnlessMemory (ok_or o WrongValue) y) (sym f) (itself o))
