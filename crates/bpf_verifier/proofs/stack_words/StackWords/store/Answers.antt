use Rattle.std.proofs.Common.{◌≡◌, ◌∙◌, ◌<◌, ℕ, length, Option, None, cond, ap, sym, rules, arith}
use Rattle.std.specs.Option.{option_map}
use Rattle.reg_ranges.specs.RangeOf.{range_of}
use Rattle.bpf_verifier.specs.StackWords.{is_word, word_range}
use Rattle.bpf_verifier.proofs.StackWords.{word_set, words_stored}
use Rattle.bpf_verifier.proofs.stack_words.StackWords.store.Goals as goal

pub returns-in-Some : goal.returns-in-Some
returns-in-Some g c = λ words holds.
    let word = c.in-Some.word in
    let inside : word < g.row.WORDS = search rules in
    let long : length c.forget.new.self.ranges ≡ g.row.WORDS = search rules in
    words_stored g.row.WORDS c.args.self.now.ranges c.forget.new.self.ranges _ words (option_map range_of c.args.address) c.args.size (range_of c.args.value) c.begun.result holds c.forget.ensures (c.begun.ensures.word words holds.followed_is)
    (λ w h. word_set c.forget.new.self.ranges word c.args.value w (omega (arith, inside, long)) ∙ ap (λ (o : Option ℕ). cond (is_word o w) (range_of c.args.value) (word_range c.forget.new.self.ranges w)) (sym c.in-Some.is))

pub returns-in_default : goal.returns-in_default
returns-in_default g c = λ words holds.
    let none : c.begun.result ≡ None = search rules in
    words_stored g.row.WORDS c.args.self.now.ranges c.forget.new.self.ranges _ words (option_map range_of c.args.address) c.args.size (range_of c.args.value) c.begun.result holds c.forget.ensures (c.begun.ensures.word words holds.followed_is)
    (λ w h. ap (λ (o : Option ℕ). cond (is_word o w) (range_of c.args.value) (word_range c.forget.new.self.ranges w)) (sym none))
