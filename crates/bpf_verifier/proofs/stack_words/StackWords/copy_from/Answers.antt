use Rattle.std.proofs.Common.{◌≡◌, ◌∙◌, ◌<◌, ◌≤◌, length, sym, rules, arith, inl, inr}
use Rattle.std.proofs.lemmas.List.{length-set}
use Rattle.bpf_verifier.specs.StackWords.{word_range}
use Rattle.bpf_verifier.proofs.StackWords.{written_more, word_get}
use Rattle.bpf_verifier.proofs.stack_words.StackWords.copy_from.Goals as goal

pub loop-word-preserved : goal.loop-word-preserved
loop-word-preserved g c =
    let i = c.loop-word.invariant in
    let k = c.loop-word.word in
    let inside : k < length c.loop-word.self.ranges = omega (arith, i.long, c.loop-word-test.true, c.min-self.ensures) in
    let other_long : length c.args.other.now.ranges ≡ g.row.WORDS = search rules in
    let other_inside : k < length c.args.other.now.ranges = omega (arith, other_long, c.loop-word-test.true, c.min-self.ensures) in
    record {
      written = written_more 0 k (λ w. word_range c.args.other.now.ranges w) c.args.self.now.ranges c.loop-word.self.ranges _ (omega arith) inside (word_get c.args.other.now.ranges k c.index-other-word.result other_inside) i.written;
      long = length-set c.loop-word.self.ranges k _ ∙ i.long;
      used = i.used;
    }

pub returns : goal.returns
returns g c = λ w h.
    let i = c.loop-word.invariant in
    elim (i.written w) [
      | inl (from, to, there) ↦ there
      | inr (out, there) ↦
          let past : c.loop-word.word ≤ w = elim out [ inl lt ↦ absurd (omega (arith, lt)) | inr le ↦ le ] in
          there ∙ c.args.self.now.rest w (omega (arith, h, past, c.loop-word-test.false, c.min-self.ensures, c.max.ensures)) ∙ sym (c.args.other.now.rest w (omega (arith, h, past, c.loop-word-test.false, c.min-self.ensures, c.max.ensures)))
    ]
