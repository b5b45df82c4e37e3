use Rattle.std.proofs.Common.{not, ap, ◌∙◌, rules}
use Rattle.std.specs.List.{filter}
use Rattle.std.proofs.lemmas.Fn.{filter_same}
use Rattle.world_queue.specs.Letters.{LetterFacts, is_meant}
use Rattle.world_queue.proofs.queue.Queue.discard.Goals as goal

pub returns : goal.returns
returns c =
    filter_same _ (λ (l : LetterFacts). not (is_meant c.args.filter.now l)) _ (λ x b f r. search rules) _ _ c.retain.ensures.filtered
    ∙ ap (filter (λ (l : LetterFacts). not (is_meant c.args.filter.now l))) c.self.view_is
