use Rattle.std.proofs.Common.{◌≡◌, ◌+◌, ◌∙◌, ℕ, List, [], ◌∷◌, ap, arith, slice_index_or}
use Rattle.sha2.specs.Sha256.{word_at}
use Rattle.lms_ots.proofs.Blocks.{below_sixteen, holds_block}
use Rattle.lms_ots.proofs.eight.block_at.Goals as goal

pub returns : goal.returns
returns c l lt =
    let b = slice_index_or c.args.messages.now l [] in
    let first : c.args.at ≡ c.args.at + 0 = omega arith in
    let words : List (List ℕ) =
    c.words_at.result ∷ c.words_at-2.result ∷ c.words_at-3.result ∷ c.words_at-4.result ∷ c.words_at-5.result ∷ c.words_at-6.result
    ∷ c.words_at-7.result ∷ c.words_at-8.result ∷ c.words_at-9.result ∷ c.words_at-10.result ∷ c.words_at-11.result
    ∷ c.words_at-12.result ∷ c.words_at-13.result ∷ c.words_at-14.result ∷ c.words_at-15.result ∷ c.words_at-16.result ∷ [] in
    holds_block words l b c.args.at
    (below_sixteen _ (c.words_at.ensures l lt ∙ ap (word_at b) first) (c.words_at-2.ensures l lt) (c.words_at-3.ensures l lt) (c.words_at-4.ensures l lt)
    (c.words_at-5.ensures l lt) (c.words_at-6.ensures l lt) (c.words_at-7.ensures l lt) (c.words_at-8.ensures l lt)
    (c.words_at-9.ensures l lt) (c.words_at-10.ensures l lt) (c.words_at-11.ensures l lt) (c.words_at-12.ensures l lt)
    (c.words_at-13.ensures l lt) (c.words_at-14.ensures l lt) (c.words_at-15.ensures l lt) (c.words_at-16.ensures l lt))
