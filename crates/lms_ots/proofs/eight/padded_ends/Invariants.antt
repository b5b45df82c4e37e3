use Rattle.std.proofs.Common.{◌≡◌, ◌+◌, ◌*◌, ◌++◌, [], length, slice_index_or, take}
use Rattle.lms_ots.specs.Ots.{concatenation, u16str, u32str}
use Rattle.lms_ots.specs.Words.{bytes_of}
use Rattle.lms_ots.proofs.eight.padded_ends.Given as goal

abbrev pub invariant-chains : goal.invariant-chains
invariant-chains a = record {
  long : length a.buffer ≡ 2176;
  so_far : take (22 + 32 * a.i) a.buffer ≡ a.id ++ u32str a.leaf ++ u16str 0x8080
      ++ concatenation (λ k. bytes_of (slice_index_or (slice_index_or a.ends k []) a.l [])) a.i;
}
