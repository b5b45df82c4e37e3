use Rattle.std.proofs.Common.{◌≡◌, ◌<◌, ◌≢◌, ◌∙◌, [], ap, length, arith, below_more, get_or-set_other, get_or-set_same, rules}
use Rattle.lms_ots.specs.Words.{bytes_of}
use Rattle.lms_ots.proofs.values_in.Goals as goal

pub chains-preserved : goal.chains-preserved
chains-preserved c = (
  search rules,
  below_more _ _
      (λ k lt. let other : k ≢ c.chains.i = omega arith in rw get_or-set_other (c.chains.invariant.1 k lt))
      (let lt : c.chains.i < length c.chains.values = omega arith in rw get_or-set_same (c.words_of.ensures ∙ c.hash_at.ensures)),
)
