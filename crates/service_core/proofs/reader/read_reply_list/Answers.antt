use Rattle.std.proofs.Common.{arith}
use Rattle.service_model.specs.Encoding.{encoded_reply}
use Rattle.service_core.proofs.Replies.{IsFit}
use Rattle.service_core.proofs.Encoded.{length_prefixed_list}
use Rattle.service_core.proofs.reader.read_reply_list.Goals as goal

pub returns : goal.returns
returns c =
    let here = c.in_ok-count.ensures in
    length_prefixed_list _ encoded_reply (IsFit c.args.taken) 64 c.in_ok-count.count c.args.bytes.now c.in_ok-count.rest.now c.read_replies_of.result (omega arith) here.0 here.1 c.read_replies_of.ensures
