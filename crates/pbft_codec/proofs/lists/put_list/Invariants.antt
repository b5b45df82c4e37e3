use Rattle.std.proofs.Common.{◌≡◌, ◌++◌, length, take}
use Rattle.std.specs.Int.{w32, to_be_bytes}
use Rattle.std.specs.List.{flat_map, AllByRecursion}
use Rattle.pbft_codec.proofs.lists.put_list.Given as goal

abbrev pub invariant-loop-value : goal.invariant-loop-value
invariant-loop-value g l = record {
  text : l.out.items ≡ l.fn.out.items ++ to_be_bytes w32 (length l.values) ++ flat_map g.T.Codec.encoded (take l.value-index l.values);
  fits : AllByRecursion g.T.Codec.fields_in_range (take l.value-index l.values);
}
