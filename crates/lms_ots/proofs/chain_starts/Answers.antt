use Rattle.std.proofs.Common.{◌∙◌, [], ap, arith, replicate}
use Rattle.std.proofs.lemmas.List.{get_or-replicate}
use Rattle.lms_ots.specs.Words.{bytes_of}
use Rattle.lms_ots.proofs.EndLemmas.{end_is, in_each, one_step}
use Rattle.lms_ots.proofs.chain_starts.Goals as goal

pub ends-requires : goal.ends-requires
ends-requires c i lt = omega (arith, in_each 255 i lt, in_each 1 i lt)

pub returns : goal.returns
returns c i lt =
    let a = c.args in
    c.ends.ensures i lt
    ∙ (end_is a.id.now a.leaf (replicate 67 255) (replicate 67 1) (replicate 67 c.words_of.result) i 255 1 a.secret.now (in_each 255 i lt) (in_each 1 i lt)
    (ap bytes_of (get_or-replicate 67 i c.words_of.result [] lt) ∙ c.words_of.ensures)
    ∙ one_step a.id.now a.leaf i 255 a.secret.now)
