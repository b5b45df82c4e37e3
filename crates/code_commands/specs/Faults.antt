-- Statement: the numbers of faults.
use Rattle.std.specs.Prelude.{ℕ}
use Rattle.code_commands.specs.declared.map_text.MapKind.{MapKind}
use Rattle.code_commands.specs.declared.map_text.MapKind.TheVariants as maps
use Rattle.code_commands.specs.declared.call_text.CallKind.{CallKind}
use Rattle.code_commands.specs.declared.call_text.CallKind.TheVariants as calls
use Rattle.code_commands.specs.declared.decimal.NumberKind.{NumberKind}
use Rattle.code_commands.specs.declared.decimal.NumberKind.TheVariants as numbers

abbrev pub number_of_map_kind : MapKind → ℕ
number_of_map_kind maps.WrongLength = 1
number_of_map_kind maps.NotHex = 2
number_of_map_kind maps.KeyTwice = 3
number_of_map_kind maps.TooMany = 4
number_of_map_kind maps.Memory = 5

abbrev pub number_of_call_kind : CallKind → ℕ
number_of_call_kind calls.BadClient = 1
number_of_call_kind calls.NotHex = 2
number_of_call_kind calls.TooLong = 3
number_of_call_kind calls.Memory = 4

abbrev pub number_of_number_kind : NumberKind → ℕ
number_of_number_kind numbers.NotNumber = 1
number_of_number_kind numbers.TooMany = 2
number_of_number_kind numbers.Memory = 3
