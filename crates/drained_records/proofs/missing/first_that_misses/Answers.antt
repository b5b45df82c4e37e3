use Rattle.std.proofs.Common.{arith}
use Rattle.std.proofs.lemmas.Option.{slice_get_within}
use Rattle.drained_records.proofs.missing.first_that_misses.Goals as goal

pub returns-then-is_missing_at : goal.returns-then-is_missing_at
returns-then-is_missing_at c = (c.is_missing_at.ensures.missing c.if-is_missing_at.true, c.loop-to.invariant)

pub returns : goal.returns
returns c i r at = c.loop-to.invariant i (omega (arith, slice_get_within c.args.records.now i r at, c.loop-to-test.false)) r at
