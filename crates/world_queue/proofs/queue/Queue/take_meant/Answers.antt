use Rattle.std.proofs.Common.{◌≡◌, ◌<◌, ℕ, List, length, rules, sym, subst}
use Rattle.std.specs.Prelude.{IsSomeAnd}
use Rattle.std.specs.VecDeque.{deque_len}
use Rattle.world_queue.specs.Letters.{IsTaken, LetterFacts}
use Rattle.world_queue.specs.Effects.{IsPlace}
use Rattle.world_queue.proofs.Lists.{taken_at}
use Rattle.world_queue.proofs.queue.Queue.take_meant.Goals as goal

pub returns : goal.returns
returns c =
    let f = c.args.filter.now in
    let letters = c.self.inside.letters in
    let view : letters.items ≡ c.args.self.now = c.self.view_is in
    let same : deque_len letters ≡ length letters.items = search rules in
    subst (λ (ls : List LetterFacts). IsSomeAnd c.remove.result (λ l. IsTaken f c.args.passed ls l c.remove.new.self.items)) view
    (taken_at f c.args.passed c.in_ok-index.index letters.items c.remove.new.self.items c.remove.result
    (subst (λ (ls : List LetterFacts). IsPlace f c.args.passed ls c.in_ok-index.index) (sym view) c.in_ok-index.ensures)
    (λ d below. c.remove.ensures.succeeds d (subst (λ (n : ℕ). c.in_ok-index.index < n) (sym same) below)) c.remove.ensures.items)
