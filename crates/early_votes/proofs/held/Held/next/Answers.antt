use Rattle.std.proofs.Common.{None, Option, refl, sym, ◌∙◌, ◌++◌, List, suc, take, drop, get_or, ap, subst}
use Rattle.seal.specs.Opening.{CheckedMessage}
use Rattle.early_votes.specs.Holding.{HandsIn, HeldFacts, is_early}
use Rattle.early_votes.proofs.HoldingLaws.{all_early, first_at}
use Rattle.early_votes.proofs.held.Held.next.Goals as goal

pub returns-in_err-index-clause-next : goal.returns-in_err-index-clause-next
returns-in_err-index-clause-next c =
    let h : HeldFacts = c.args.self.now in
    subst (λ (r : Option CheckedMessage). HandsIn h r h) (sym c.from_residual.ensures)
    (all_early (is_early h) h.votes (sym c.place_of_next.ensures ∙ c.in_err-index.was), refl)

pub returns-clause-next : goal.returns-clause-next
returns-clause-next c =
    let h : HeldFacts = c.args.self.now in
    let i = c.in_ok-index.index in
    let votes = ap (λ (x : HeldFacts). x.votes) c.self.view_is in
    let read = c.remove.ensures.value ∙ ap (λ (vs : List CheckedMessage). get_or vs i c.remove.result) votes in
    let first = first_at (is_early h) h.votes i c.remove.result (sym c.place_of_next.ensures ∙ c.in_ok-index.was) read in
    let taken = ap (λ (vs : List CheckedMessage). record { config = c.self.inside.config.value; low = c.self.inside.low.0; view = c.self.inside.view.0; votes = vs }) c.remove.ensures.items in
    record {
      earlier = take i h.votes;
      later = drop (suc i) h.votes;
      votes_are = first.splits;
      all_early = first.before;
      on_time = first.here;
      rest = taken ∙ ap (λ (x : HeldFacts). record x { votes = take i x.votes ++ drop (suc i) x.votes }) c.self.view_is;
    }
