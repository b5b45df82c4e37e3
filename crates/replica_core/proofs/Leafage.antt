-- How many leaves a signer has.
use Rattle.std.proofs.Common.{◌≤◌, ◌^◌}
use Rattle.lms_tree.specs.Keys.{leaf_count}
use Rattle.lms_tree.specs.SigningState.{SigningState}
use Rattle.lms_tree.proofs.KeyLemmas.{few-leaves}

pub leaf_count_small : (s : SigningState) → leaf_count s ≤ 2 ^ 20
leaf_count_small s = few-leaves s.height s.bottom
