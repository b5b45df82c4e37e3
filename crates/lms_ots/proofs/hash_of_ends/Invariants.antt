use Rattle.std.proofs.Common.{[], ◌++◌, slice_index_or}
use Rattle.sha2.specs.Hashers.{Holds256}
use Rattle.lms_ots.specs.Ots.{concatenation, u16str, u32str}
use Rattle.lms_ots.specs.Words.{bytes_of}
use Rattle.lms_ots.proofs.hash_of_ends.Given as goal

abbrev pub invariant-chains : goal.invariant-chains
invariant-chains l = Holds256 l.hasher (l.id ++ u32str l.leaf ++ u16str 0x8080 ++ concatenation (λ i. bytes_of (slice_index_or l.ends i [])) l.i)
