use Rattle.std.proofs.lemmas.Result.{on_ok_weaker}
use Rattle.std.specs.Int.{w32, w64, to_be_bytes}
use Rattle.pbft_codec.specs.Layouts.{view_change}
use Rattle.pbft_codec.proofs.Loops.{four_parts}
use Rattle.pbft_codec.proofs.body.view_change.ViewChangeMessageBody.put_fields.Goals as goal

pub returns-clause-text : goal.returns-clause-text
unfolding view_change
returns-clause-text c =
    rw (← c.as_slice.ensures, ← c.as_slice-2.ensures)
    (on_ok_weaker c.put_list-2.result (λ e. four_parts _ _ _ _ _ (to_be_bytes w32 c.args.self.now.view.0) (to_be_bytes w64 c.args.self.now.low.0) _ _ c.in_ok-put_u32.ensures.text c.in_ok-put_u64.ensures.text c.in_ok-put_list.ensures.text e) c.put_list-2.ensures.text)
