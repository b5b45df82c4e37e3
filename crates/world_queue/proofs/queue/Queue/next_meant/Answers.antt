use Rattle.std.proofs.Common.{◌++◌, ◌∷◌, [], List, sym, ap, ◌∙◌}
use Rattle.std.proofs.lemmas.List.{append_assoc, append-nil}
use Rattle.world_queue.specs.Letters.{LetterFacts, first_meant, without_first}
use Rattle.world_queue.proofs.Lists.{is_first, keeps_all, passes, rest_of}
use Rattle.world_queue.proofs.queue.Queue.next_meant.Goals as goal

pub returns-then-is_meant_by-clause-found : goal.returns-then-is_meant_by-clause-found
returns-then-is_meant_by-clause-found c =
    sym (ap (first_meant c.args.filter.now) (sym c.loop-letter.invariant.1 ∙ ap (λ (ls : List LetterFacts). c.loop-letter.others ++ ls) c.in-Some.ensures)
    ∙ is_first c.args.filter.now c.loop-letter.others c.in-Some.letter c.pop.new.self c.loop-letter.invariant.0 (sym c.is_meant_by.ensures ∙ c.if-is_meant_by.true))

pub returns-then-is_meant_by-clause-rest : goal.returns-then-is_meant_by-clause-rest
returns-then-is_meant_by-clause-rest c =
    sym (ap (without_first c.args.filter.now) (sym c.loop-letter.invariant.1 ∙ ap (λ (ls : List LetterFacts). c.loop-letter.others ++ ls) c.in-Some.ensures)
    ∙ rest_of c.args.filter.now c.loop-letter.others c.in-Some.letter c.pop.new.self c.loop-letter.invariant.0 (sym c.is_meant_by.ensures ∙ c.if-is_meant_by.true))

pub loop-letter-preserved : goal.loop-letter-preserved
loop-letter-preserved c = (
  ap (first_meant c.args.filter.now) c.in_ok-push.ensures
      ∙ passes c.args.filter.now c.loop-letter.others c.in-Some.letter c.loop-letter.invariant.0 (sym c.is_meant_by.ensures ∙ c.if-is_meant_by.false),
  ap (λ (ls : List LetterFacts). ls ++ c.pop.new.self) c.in_ok-push.ensures ∙ append_assoc c.loop-letter.others (c.in-Some.letter ∷ []) c.pop.new.self
      ∙ ap (λ (ls : List LetterFacts). c.loop-letter.others ++ ls) (sym c.in-Some.ensures) ∙ c.loop-letter.invariant.1,
)

pub returns-clause-rest : goal.returns-clause-rest
returns-clause-rest c =
    ap (λ (ls : List LetterFacts). c.loop-letter.others ++ ls) c.in_default.ensures.1 ∙ append-nil c.loop-letter.others
    ∙ sym (ap (without_first c.args.filter.now) (sym c.loop-letter.invariant.1 ∙ ap (λ (ls : List LetterFacts). c.loop-letter.others ++ ls) c.in_default.ensures.0 ∙ append-nil c.loop-letter.others)
    ∙ keeps_all c.args.filter.now c.loop-letter.others c.loop-letter.invariant.0)
