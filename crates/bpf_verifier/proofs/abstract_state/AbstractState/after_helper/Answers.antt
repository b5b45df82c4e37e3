use Rattle.std.proofs.Common.{◌≡◌, ◌+◌, ◌∙◌, ◌||◌, cond, Bool, List, Option, take, get_or, ap, sym, ℕ, refl}
use Rattle.std.specs.List.{list_any}
use Rattle.std.proofs.lemmas.List.{take_all}
use Rattle.std.proofs.lemmas.List.Folds.{list_any_more}
use Rattle.reg_ranges.specs.Ranges as reg
use Rattle.map_helpers.specs.declared.helper.Access.{Access}
use Rattle.map_helpers.specs.declared.helper.Extent.TheVariants.{Fixed}
use Rattle.map_helpers.specs.Helpers.{fixed_size}
use Rattle.bpf_model.specs.Machine.{frame_start}
use Rattle.bpf_model.specs.AbstractState.{is_written}
use Rattle.bpf_verifier.specs.declared.registers.RegisterRanges.{RegisterRanges}
use Rattle.bpf_verifier.specs.FrameBytes.{has_byte}
use Rattle.bpf_verifier.specs.Represents.{ranges_of}
use Rattle.bpf_verifier.proofs.Loops.{any_step}
use Rattle.bpf_verifier.specs.StackWords.{word_range}
use Rattle.bpf_num.specs.declared.AluWidth.TheVariants.{W64}
use Rattle.bpf_model.specs.Words.{may_write}
use Rattle.bpf_verifier.proofs.States.{may_be_written, once_more, called_ranges, represents_helper}
use Rattle.bpf_verifier.specs.declared.stack_words.StackWords.{StackWords}
use Rattle.bpf_verifier.proofs.abstract_state.AbstractState.after_helper.Goals as goal

pub loop-access-preserved : goal.loop-access-preserved
loop-access-preserved g c =
    let i = c.loop-access.invariant in
    let d : Access = record { register = 0; size = Fixed 0 } in
    let a : Access = get_or c.args.writes.now c.loop-access.access-index d in
    record {
      ranges = c.initialize.ensures.ranges ∙ i.ranges;
      initialized = λ k h.
          let p : Access → Bool = λ b. is_written (ranges_of c.args.self.now.ranges b.register) (fixed_size b.size) (frame_start 0 + k) in
          c.initialize.ensures.initialized k h
          ∙ ap (λ (o : Option reg.Range). is_written o c.fixed.result (frame_start 0 + k) || has_byte c.loop-access.self.initialized.words k) (c.range_of-range.ensures ∙ ap (λ (rs : RegisterRanges). ranges_of rs a.register) i.ranges)
          ∙ ap (λ (n : ℕ). is_written (ranges_of c.args.self.now.ranges a.register) n (frame_start 0 + k) || has_byte c.loop-access.self.initialized.words k) c.fixed.ensures
          ∙ ap (λ (b : Bool). p a || b) (i.initialized k h)
          ∙ any_step (list_any p (take c.loop-access.access-index c.args.writes.now)) (p a) (has_byte c.args.self.now.initialized.words k)
          ∙ ap (λ (b : Bool). b || has_byte c.args.self.now.initialized.words k) (sym (list_any_more p c.args.writes.now c.loop-access.access-index d c.loop-access-test.true));
      words = λ w h.
          let q : Access → Bool = λ b. may_write (ranges_of c.args.self.now.ranges b.register) (fixed_size b.size) w in
          let full = reg.full W64 in
          c.forget.ensures w h
          ∙ ap (λ (o : Option reg.Range). cond (may_write o c.fixed-in-loop-access.result w) full (word_range c.initialize.new.self.words.ranges w)) (c.range_of-range.ensures ∙ ap (λ (rs : RegisterRanges). ranges_of rs a.register) i.ranges)
          ∙ ap (λ (n : ℕ). cond (may_write (ranges_of c.args.self.now.ranges a.register) n w) full (word_range c.initialize.new.self.words.ranges w)) c.fixed-in-loop-access.ensures
          ∙ ap (λ (ws : StackWords g.row.WORDS). cond (q a) full (word_range ws.ranges w)) c.initialize.ensures.words
          ∙ ap (λ (r : reg.Range). cond (q a) full r) (i.words w h)
          ∙ once_more (list_any q (take c.loop-access.access-index c.args.writes.now)) (q a) full (word_range c.args.self.now.words.ranges w)
          ∙ ap (λ (b : Bool). cond b full (word_range c.args.self.now.words.ranges w)) (sym (list_any_more q c.args.writes.now c.loop-access.access-index d c.loop-access-test.true));
    }

pub returns : goal.returns
returns g c = λ stack holds.
    let i = c.loop-access.invariant in
    let ranges = c.args.self.now.ranges in
    let kept : (r : ℕ) → ranges_of c.loop-access.self.ranges r ≡ ranges_of ranges r = λ r. ap (λ (rs : RegisterRanges). ranges_of rs r) i.ranges in
    let whole = take_all c.loop-access.access-index c.args.writes.now c.loop-access-test.false in
    represents_helper ranges c.args.self.now.initialized.words c.loop-access.self.initialized.words c.args.self.now.words.ranges c.loop-access.self.words.ranges c.args.max_answer c.args.writes.now stack _
    (λ r. c.from_array-self.ensures r ∙ called_ranges ranges stack c.args.max_answer c.new.result c.new.ensures c.args.writes.now _ _ _ _ _ (c.range_of.ensures ∙ kept 6) (c.range_of-2.ensures ∙ kept 7) (c.range_of-3.ensures ∙ kept 8) (c.range_of-4.ensures ∙ kept 9) (c.range_of-5.ensures ∙ kept 10) r)
    refl refl holds
    (λ k h. i.initialized k h ∙ ap (λ (xs : List Access). list_any (λ (a : Access). is_written (ranges_of ranges a.register) (fixed_size a.size) (frame_start 0 + k)) xs || has_byte c.args.self.now.initialized.words k) whole)
    (λ w h. i.words w h ∙ ap (λ (xs : List Access). cond (may_be_written ranges xs w) (reg.full W64) (word_range c.args.self.now.words.ranges w)) whole)
