use Rattle.std.proofs.Common.{◌≡◌, ◌+◌, ◌-◌, ◌%◌, ◌^◌, ◌<◌, ◌≤◌, slice_index, arith}
use Rattle.lms_ots.proofs.LaneLemmas.{lane_below}
use Rattle.lms_ots.proofs.lanes.chosen.Goals as goal

pub returns-clause-within : goal.returns-clause-within
returns-clause-within c j lt low high =
    let fits = lane_below c.args.steps c.fits-steps j lt in
    let room = c.requires j lt in
    let past : slice_index c.less.result j < slice_index c.args.counts j = omega (arith, c.less.ensures j lt) in
    c.where_below.ensures.below j lt past

pub returns-clause-before : goal.returns-clause-before
returns-clause-before c j lt low =
    let fits = lane_below c.args.steps c.fits-steps j lt in
    let room = c.requires j lt in
    let past : slice_index c.args.counts j ≤ slice_index c.less.result j = omega (arith, c.less.ensures j lt) in
    c.where_below.ensures.others j lt past

pub returns-clause-behind : goal.returns-clause-behind
returns-clause-behind c j lt high =
    let fits = lane_below c.args.steps c.fits-steps j lt in
    let room = c.requires j lt in
    let past : slice_index c.args.counts j ≤ slice_index c.less.result j = omega (arith, c.less.ensures j lt) in
    c.where_below.ensures.others j lt past
