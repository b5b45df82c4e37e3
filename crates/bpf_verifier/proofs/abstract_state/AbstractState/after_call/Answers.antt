use Rattle.std.proofs.Common.{◌+◌, ◌∙◌, ◌&&◌, not, ap, cond, Bool}
use Rattle.bpf_num.specs.declared.AluWidth.TheVariants.{W64}
use Rattle.reg_ranges.specs.Ranges as reg
use Rattle.bpf_model.specs.Words.{word_start}
use Rattle.bpf_model.specs.Machine.{frame_start, is_in_frame}
use Rattle.bpf_verifier.proofs.States.{resumed_ranges}
use Rattle.bpf_verifier.proofs.abstract_state.AbstractState.after_call.Goals as goal

pub returns : goal.returns
returns g c = λ of exit is out. record {
  ranges_are = λ r.
      c.from_array-self.ensures r
      ∙ resumed_ranges c.args.self.now of is c.args.returned.now exit out c.args.depth _ _ _ _ _ _ c.range_of.ensures c.range_of-2.ensures c.range_of-3.ensures c.range_of-4.ensures c.range_of-5.ensures c.range_of-6.ensures r;
  initialized_are = λ i h. c.remove_frame.ensures i h ∙ ap (λ (b : Bool). b && not (is_in_frame c.args.depth (frame_start 0 + i))) (out.initialized_are i h);
  words_are = record {
    followed_is = out.words_are.followed_is;
    ranges_are = λ w h. c.remove_frame-2.ensures w h ∙ ap (λ (r : reg.Range). cond (is_in_frame c.args.depth (word_start w)) (reg.full W64) r) (out.words_are.ranges_are w h);
  };
}
