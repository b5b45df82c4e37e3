use Rattle.conflicts.proofs.Growing.{next_below, all_below}
use Rattle.conflicts.proofs.pairs.conflicts.Goals as goal

pub loop-second-preserved : goal.loop-second-preserved
loop-second-preserved c =
    next_below c.args.messages.now c.loop-second.second c.loop-second.pairs.items c.with_earlier.new.pairs.items c.loop-second.invariant c.in_ok-with_earlier.ensures

pub returns : goal.returns
returns c = all_below c.args.messages.now c.loop-second.second c.loop-second.pairs.items c.loop-second-test.false c.loop-second.invariant
