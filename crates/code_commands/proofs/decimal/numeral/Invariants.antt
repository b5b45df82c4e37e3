use Rattle.std.proofs.Common.{◌≡◌, ◌<◌, ◌^◌, drop, take, nat_lt}
use Rattle.std.specs.List.{list_all}
use Rattle.std.specs.Char.{digit_value}
use Rattle.std.specs.Str.Parse.{digits_value}
use Rattle.code_commands.proofs.decimal.numeral.Given as goal

abbrev pub invariant-loop-digit : goal.invariant-loop-digit
invariant-loop-digit l = record {
  value_is : l.value ≡ digits_value l.radix (take l.digit-index l.digits);
  digits_go_on : list_all (λ c. nat_lt (digit_value c) l.radix) l.digits ≡ list_all (λ c. nat_lt (digit_value c) l.radix) (drop l.digit-index l.digits);
  small : l.value < 2 ^ 64;
}
