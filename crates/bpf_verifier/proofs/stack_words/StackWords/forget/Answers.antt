use Rattle.std.proofs.Common.{◌≡◌, ◌⊎◌, ◌∙◌, ◌+◌, ◌^◌, ◌<◌, ◌≤◌, Option, Some, length, cond, ap, sym, rules, arith}
use Rattle.std.specs.Option.{option_map}
use Rattle.std.proofs.lemmas.List.{length-set}
use Rattle.bpf_num.specs.declared.AluWidth.TheVariants.{W64}
use Rattle.reg_ranges.specs.Ranges as reg
use Rattle.reg_ranges.specs.RangeOf.{range_of}
use Rattle.reg_ranges.specs.declared.range.Range.{Range}
use Rattle.bpf_model.specs.Words.{may_write}
use Rattle.bpf_verifier.specs.StackWords.{word_range}
use Rattle.bpf_verifier.proofs.StackWords.{written_more, forgotten, touched, ends}
use Rattle.bpf_verifier.proofs.stack_words.StackWords.forget.Goals as goal

pub loop-word-preserved : goal.loop-word-preserved
loop-word-preserved g c =
    let i = c.loop-word.invariant in
    let inside : c.loop-word.word < length c.loop-word.self.ranges = omega (arith, i.long, i.used, c.loop-word-test.true, c.min-word-end.ensures, c.args.self.now.inside) in
    record {
      written = written_more _ c.loop-word.word (λ w. reg.full W64) c.args.self.now.ranges c.loop-word.self.ranges c.any_number.result i.low inside c.any_number.ensures i.written;
      long = length-set c.loop-word.self.ranges c.loop-word.word c.any_number.result ∙ i.long;
      low = omega (arith, i.low);
      near = omega (arith, i.used, c.loop-word-test.true, c.min-word-end.ensures);
      used = i.used;
    }

pub returns : goal.returns
returns g c = λ w h.
    let i = c.loop-word.invariant in
    let address = range_of c.in-Some.address in
    let few : w < 512 = omega (arith, h, c.args.self.now.few) in
    let size : c.from.result ≡ c.args.size = search rules in
    let end : (c.saturating_add.result ≡ address.hi + c.args.size) ⊎ (2 ^ 33 ≤ c.saturating_add.result) × (2 ^ 33 ≤ address.hi + c.args.size) = ends address.hi c.args.size c.saturating_add.result (search rules) in
    let which = touched address c.args.size w c.word_of-first.result c.words_before-behind.result c.saturating_add.result few c.word_of-first.ensures (c.words_before-behind.ensures w) end in
    forgotten c.word_of-first.result c.words_before-behind.result c.args.self.now.used c.loop-word.word c.args.self.now.ranges c.loop-word.self.ranges i.written (omega (arith, c.loop-word-test.false, c.min-word-end.ensures)) (λ more. omega (arith, more, i.near, i.used)) c.args.self.now.rest w (may_write (Some address) c.args.size w) which.0 which.1
    ∙ ap (λ (o : Option Range). cond (may_write (option_map range_of o) c.args.size w) (reg.full W64) (word_range c.args.self.now.ranges w)) (sym c.in-Some.is)
