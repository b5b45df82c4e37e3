use Rattle.std.proofs.Common.{◌≡◌, ℕ, ◌<◌, get_or, length}
use Rattle.lms_ots.specs.Ots.{digit}
use Rattle.lms_ots.proofs.digits.Given as goal

abbrev pub invariant-of_hash : goal.invariant-of_hash
invariant-of_hash l = record {
  long : length l.digits ≡ 67;
  so_far : (k : ℕ) → k < l.i → get_or l.digits k 0 ≡ digit l.q k;
}

abbrev pub invariant-of_checksum : goal.invariant-of_checksum
invariant-of_checksum l = record {
  long : length l.digits ≡ 67;
  so_far : (k : ℕ) → k < l.i → get_or l.digits k 0 ≡ digit l.q k;
}
