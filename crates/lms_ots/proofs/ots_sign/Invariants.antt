use Rattle.std.proofs.Common.{◌≡◌, ◌+◌, ◌*◌, ◌++◌, [], length, slice_index_or, take}
use Rattle.lms_ots.specs.Ots.{concatenation, randomizer, u32str}
use Rattle.lms_ots.specs.Words.{bytes_of}
use Rattle.lms_ots.proofs.ots_sign.Given as goal

abbrev pub invariant-chains : goal.invariant-chains
invariant-chains l = record {
  long : length l.signature ≡ 2180;
  so_far : take (36 + 32 * l.i) l.signature ≡ u32str 3 ++ randomizer l.id l.leaf l.secret
      ++ concatenation (λ i. bytes_of (slice_index_or l.values i [])) l.i;
}
