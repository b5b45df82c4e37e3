use Rattle.std.proofs.Common.{Option, sym, subst, arith}
use Rattle.reg_ranges.specs.RangeOf.{range_of}
use Rattle.reg_ranges.specs.Refine.{Ranges, Keeps}
use Rattle.reg_ranges.proofs.Edges.{refine_keeps}
use Rattle.reg_ranges.proofs.test.refine.Goals as goal

pub returns-clause-sound : goal.returns-clause-sound
returns-clause-sound c = λ x y ix iy e.
    subst (λ (o : Option Ranges). Keeps o x y) (sym c.refined.ensures) (refine_keeps c.args.test c.args.narrow (range_of c.args.a) (range_of c.args.b) c.args.taken x y ix iy e)

pub returns-clause-never_both : goal.returns-clause-never_both
returns-clause-never_both c = λ e.
    let first = c.args.a.ordered in
    let second = c.args.b.ordered in
    subst (λ (o : Option Ranges). Keeps o c.args.a.lo c.args.b.lo) (sym c.refined.ensures) (refine_keeps c.args.test c.args.narrow (range_of c.args.a) (range_of c.args.b) c.args.taken c.args.a.lo c.args.b.lo (record { low = omega arith; high = first }) (record { low = omega arith; high = second }) e)
