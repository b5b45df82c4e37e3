use Rattle.std.proofs.Common.{◌≡◌, ◌-◌, ◌*◌, ◌≤◌, map, sum}
use Rattle.std.specs.List.{range_with_len}
use Rattle.lms_ots.specs.Ots.{coef}
use Rattle.lms_ots.proofs.checksum.Given as goal

abbrev pub invariant-summing : goal.invariant-summing
invariant-summing l = record {
  so_far : l.sum ≡ sum (map (λ i. 15 - coef l.q i) (range_with_len 0 l.i));
  small : l.sum ≤ 15 * l.i;
}
