use Rattle.std.proofs.lemmas.Result.{on_ok_weaker}
use Rattle.std.specs.Int.{w32, w64, to_be_bytes}
use Rattle.pbft_codec.specs.Layouts.{reply}
use Rattle.pbft_codec.proofs.Loops.{five_parts}
use Rattle.pbft_codec.proofs.body.reply.ReplyBodyMessageBody.put_fields.Goals as goal

pub returns-clause-text : goal.returns-clause-text
unfolding reply
returns-clause-text c =
    rw (← c.as_slice.ensures)
    (on_ok_weaker c.put_length_prefixed.result (λ e. five_parts _ _ _ _ _ _ (to_be_bytes w32 c.args.self.now.view.0) (to_be_bytes w32 c.args.self.now.client.0) (to_be_bytes w64 c.args.self.now.time) (to_be_bytes w64 c.args.self.now.number.0) _ c.in_ok-put_u32.ensures.text c.in_ok-put_u32-2.ensures.text c.in_ok-put_u64.ensures.text c.in_ok-put_u64-2.ensures.text e) c.put_length_prefixed.ensures)
