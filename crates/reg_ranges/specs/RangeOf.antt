-- Internal: a range and a pair of ranges of the code, as the definitions have them.
use Rattle.reg_ranges.specs.Ranges as model
use Rattle.reg_ranges.specs.Refine.{Ranges}
use Rattle.reg_ranges.specs.declared.range.Range.{Range}

abbrev pub range_of : Range → model.Range
range_of r = record { lo = r.lo; hi = r.hi }

abbrev pub ranges_of : Range × Range → Ranges
ranges_of p = record { a = range_of p.0; b = range_of p.1 }
