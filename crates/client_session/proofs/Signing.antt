-- A key gives few and short signatures, so a session's times and requests stay small.
use Rattle.std.proofs.Common.{◌≤◌, ◌^◌}
use Rattle.lms_tree.specs.Keys.{leaf_count, signature_length}
use Rattle.lms_tree.specs.SigningState.{SigningState}
use Rattle.lms_tree.proofs.KeyLemmas.{few-leaves, short-signature}

pub few_leaves : (s : SigningState) → leaf_count s ≤ 2 ^ 20
few_leaves s = few-leaves s.height s.bottom

pub short_signature : (s : SigningState) → signature_length s ≤ 5076
short_signature s = short-signature s.height s.bottom
