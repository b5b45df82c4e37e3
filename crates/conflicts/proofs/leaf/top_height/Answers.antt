use Rattle.std.proofs.Common.{drop, arith, ap, ◌∙◌}
use Rattle.std.proofs.lemmas.List.{length-drop, take_all}
use Rattle.lms_level.specs.Signature.{key_height}
use Rattle.conflicts.proofs.leaf.top_height.Goals as goal

pub returns : goal.returns
returns c =
    let key = c.args.key.now in
    c.key_height.ensures ∙ ap key_height (c.in-Some.ensures.cases.same ∙ take_all 56 (drop 4 key) (omega (arith, length-drop 4 key)))
