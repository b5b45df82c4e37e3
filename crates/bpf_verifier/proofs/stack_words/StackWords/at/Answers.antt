use Rattle.std.proofs.Common.{◌≡◌, ◌∙◌, ◌<◌, ℕ, length, Option, ap, rules, arith, refl}
use Rattle.std.proofs.lemmas.Bool.{eq-eqb}
use Rattle.std.specs.Option.{option_map}
use Rattle.reg_ranges.specs.RangeOf.{range_of}
use Rattle.bpf_verifier.specs.StackWords.{is_word}
use Rattle.bpf_verifier.proofs.StackWords.{word_get, word_read, no_word_read}
use Rattle.bpf_verifier.proofs.stack_words.StackWords.at.Goals as goal

pub returns-in-Some : goal.returns-in-Some
returns-in-Some g c = λ words holds.
    let word = c.in-Some.word in
    let inside : word < g.row.WORDS = search rules in
    let long : length c.args.self.now.ranges ≡ g.row.WORDS = search rules in
    word_read g.row.WORDS c.args.self.now.ranges words (option_map range_of c.args.address) word _ holds inside
    (c.begun.ensures.word words holds.followed_is word ∙ ap (λ (o : Option ℕ). is_word o word) c.in-Some.is ∙ eq-eqb word word refl)
    (word_get c.args.self.now.ranges word c.index-self-word.result (omega (arith, inside, long)))

pub returns-in-None : goal.returns-in-None
returns-in-None g c = λ words holds.
    no_word_read words (option_map range_of c.args.address) _ (λ w. c.begun.ensures.word words holds.followed_is w ∙ ap (λ (o : Option ℕ). is_word o w) c.in-None.is) c.any_number.ensures
