use Rattle.reg_ranges.specs.RangeOf.{range_of}
use Rattle.reg_ranges.proofs.Sound.{sound_32}
use Rattle.reg_ranges.proofs.transfer.transfer32.Goals as goal

pub returns-clause-sound : goal.returns-clause-sound
returns-clause-sound c =
    sound_32 c.args.op (range_of c.args.a) (range_of c.args.b) (range_of c.truncate.result) (range_of c.truncate-2.result) (range_of c.transfer.result) c.truncate.ensures.narrow c.truncate-2.ensures.narrow c.truncate.ensures.value c.truncate-2.ensures.value c.transfer.ensures
