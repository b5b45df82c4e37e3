use Rattle.std.proofs.Common.{◌<◌, ◌^◌, arith}
use Rattle.std.specs.Prelude.{flat_map}
use Rattle.std.proofs.lemmas.Result.{err_from_is_err_and}
use Rattle.service_model.specs.Encoding.{encoded_reply}
use Rattle.service_core.proofs.Replies.{IsFit, free_fit}
use Rattle.service_core.proofs.Encoded.{failed, passes, SoMany, begun, continued, ended, next_begins}
use Rattle.service_core.proofs.reader.read_replies_of.Goals as goal

pub loop-init : goal.loop-init
loop-init c = begun encoded_reply (IsFit c.args.taken) c.args.bytes.now c.new-replies.result.items c.new-replies.ensures.items

pub returns-in_err-reply : goal.returns-in_err-reply
returns-in_err-reply c =
    let p = err_from_is_err_and c.from_residual.result c.from_residual.ensures.1 in
    let F = IsFit c.args.taken in
    let few : c.args.taken < 2 ^ 64 = omega (arith, c.ranges.taken.fits) in
    failed _ (flat_map encoded_reply) (SoMany F c.args.count) c.args.bytes.now _ p.0 c.in_err-reply.field-0.0 p.1 p.2
    (passes encoded_reply F c.loop.rest.now (flat_map encoded_reply) (SoMany F c.args.count) c.args.bytes.now c.in_err-reply.field-0.0
    (next_begins encoded_reply F (free_fit c.args.taken few) c.args.bytes.now c.loop.replies.items c.loop.counter c.args.count c.loop.rest.now c.loop.invariant c.loop-test.true)
    c.in_err-reply.ensures)

pub loop-preserved : goal.loop-preserved
loop-preserved c =
    let pushed = c.in_ok-push.ensures in
    let here = c.in_ok-reply.ensures in
    continued encoded_reply (IsFit c.args.taken) c.args.bytes.now c.loop.replies.items c.push.new.self.items c.loop.counter c.loop.rest.now c.in_ok-reply.after.now c.in_ok-reply.reply c.loop.invariant here.0 here.1 pushed.items

pub returns : goal.returns
returns c = ended encoded_reply (IsFit c.args.taken) c.args.bytes.now c.loop.replies.items c.loop.counter c.args.count c.loop.rest.now c.loop.invariant (omega (arith, c.loop-test.false, c.loop.auto.counter-end))
