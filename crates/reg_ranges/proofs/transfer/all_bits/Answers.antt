use Rattle.std.proofs.Common.{arith}
use Rattle.reg_ranges.proofs.Sound.{top_bits}
use Rattle.reg_ranges.proofs.transfer.all_bits.Goals as goal

pub returns-clause-first : goal.returns-clause-first
returns-clause-first c = (top_bits c.args.x c.args.y c.max.result (omega arith) (omega arith) c.max.ensures).0

pub returns-clause-second : goal.returns-clause-second
returns-clause-second c = (top_bits c.args.x c.args.y c.max.result (omega arith) (omega arith) c.max.ensures).1
