use Rattle.std.proofs.Common.{◌≡◌, ◌++◌, flat_map}
use Rattle.std.specs.FinMap as map
use Rattle.machine_tests.proofs.maps.encode.Given as goal

abbrev pub invariant-loop-key : goal.invariant-loop-key
invariant-loop-key l =
    l.bytes.items ++ flat_map (λ e. e.0 ++ e.1) l.key-iterator ≡ flat_map (λ e. e.0 ++ e.1) (map.entries l.tenant_map.entries)
