use Rattle.std.proofs.Common.{◌++◌, ap}
use Rattle.std.proofs.lemmas.Result.{on_ok_weaker}
use Rattle.service_model.specs.Words.{u32_bytes, u64_bytes}
use Rattle.service_model.specs.Encoding.{length_prefixed}
use Rattle.service_core.proofs.Fed.{fed_then, fed_same}
use Rattle.service_core.proofs.encoding.put_reply.Goals as goal

pub returns : goal.returns
returns g c =
    let h = g.S.Sink.holds in
    let client = u32_bytes c.args.reply.now.client.0 in
    let time = u64_bytes c.args.reply.now.time in
    let number = u64_bytes c.args.reply.now.number.0 in
    let one = fed_then h c.args.sink.now c.put_u32.new.sink c.put_u64.new.sink client time c.in_ok-put_u32.ensures c.in_ok-put_u64.ensures in
    let two = fed_then h c.args.sink.now c.put_u64.new.sink c.put_u64-2.new.sink (client ++ time) number one c.in_ok-put_u64-2.ensures in
    on_ok_weaker c.put_length_prefixed.result (λ last.
    fed_then h c.args.sink.now c.put_u64-2.new.sink c.put_length_prefixed.new.sink (client ++ time ++ number) (length_prefixed c.args.reply.now.result) two
    (fed_same h c.put_u64-2.new.sink c.put_length_prefixed.new.sink (length_prefixed c.as_slice.result.now) (length_prefixed c.args.reply.now.result) (ap length_prefixed c.as_slice.ensures) last)) c.put_length_prefixed.ensures
