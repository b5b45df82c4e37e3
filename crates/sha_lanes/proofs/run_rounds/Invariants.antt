use Rattle.std.proofs.Common.{ℕ, ◌*◌, ◌<◌, List}
use Rattle.sha2.specs.Sha256.{IsRoundsAt}
use Rattle.sha_lanes.specs.Lanes.{HoldsBlock, hash_in, words_in}
use Rattle.sha_lanes.proofs.run_rounds.Given as goal

abbrev pub invariant-turns : goal.invariant-turns
invariant-turns l = (j : ℕ) → j < 8 → (bytes : List ℕ) → HoldsBlock l.fn.block j bytes
    → IsRoundsAt bytes (hash_in l.fn.v j) (words_in l.w j) (hash_in l.v j) (16 * l.turn)
