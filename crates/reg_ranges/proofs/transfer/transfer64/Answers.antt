use Rattle.std.proofs.Common.{arith}
use Rattle.reg_ranges.specs.RangeOf.{range_of}
use Rattle.reg_ranges.proofs.Sound.{sound_64}
use Rattle.reg_ranges.proofs.transfer.transfer64.Goals as goal

pub returns-clause-sound : goal.returns-clause-sound
returns-clause-sound c =
    sound_64 c.args.op (range_of c.args.a) (range_of c.args.b) (range_of c.transfer.result) (omega arith) (omega arith) c.transfer.ensures
