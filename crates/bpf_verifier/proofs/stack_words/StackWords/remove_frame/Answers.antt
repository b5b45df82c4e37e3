use Rattle.std.proofs.Common.{◌∙◌, ◌+◌, ◌*◌, ◌<◌, length, arith}
use Rattle.std.proofs.lemmas.List.{length-set}
use Rattle.bpf_num.specs.declared.AluWidth.TheVariants.{W64}
use Rattle.reg_ranges.specs.Ranges as reg
use Rattle.bpf_model.specs.Machine.{is_in_frame}
use Rattle.bpf_model.specs.Words.{word_start}
use Rattle.bpf_verifier.proofs.StackWords.{written_more, forgotten, framed}
use Rattle.bpf_verifier.proofs.stack_words.StackWords.remove_frame.Goals as goal

pub loop-word-preserved : goal.loop-word-preserved
loop-word-preserved g c =
    let i = c.loop-word.invariant in
    let inside : c.loop-word.word < length c.loop-word.self.ranges = omega (arith, i.long, i.used, c.loop-word-test.true, c.min-word-end.ensures, c.args.self.now.inside) in
    record {
      written = written_more _ c.loop-word.word (λ w. reg.full W64) c.args.self.now.ranges c.loop-word.self.ranges c.any_number.result i.low inside c.any_number.ensures i.written;
      long = length-set c.loop-word.self.ranges c.loop-word.word c.any_number.result ∙ i.long;
      low = omega (arith, i.low);
      near = omega (arith, i.used, c.loop-word-test.true, c.min-word-end.ensures);
      used = i.used;
    }

pub returns : goal.returns
returns g c = λ w h.
    let i = c.loop-word.invariant in
    let which = framed c.args.depth w in
    forgotten (c.args.depth * 64) (c.args.depth * 64 + 64) c.args.self.now.used c.loop-word.word c.args.self.now.ranges c.loop-word.self.ranges i.written (omega (arith, c.loop-word-test.false, c.min-word-end.ensures)) (λ more. omega (arith, more, i.near, i.used)) c.args.self.now.rest w (is_in_frame c.args.depth (word_start w)) which.0 which.1
