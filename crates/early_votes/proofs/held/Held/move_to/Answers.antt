use Rattle.std.proofs.Common.{◌≡◌, ◌≤◌, ap, length, subst, sym, arith, List}
use Rattle.std.specs.List.{All, filter}
use Rattle.std.proofs.lemmas.List.Elements.{All-filter}
use Rattle.host_types.specs.Configuration.{Configuration}
use Rattle.seal.specs.Opening.{CheckedMessage}
use Rattle.early_votes.specs.Holding.{is_awaited, is_vote, most_held}
use Rattle.early_votes.proofs.HoldingLaws.{fewer}
use Rattle.early_votes.proofs.held.Held.move_to.Goals as goal

pub invariant_of-self : goal.invariant_of-self
invariant_of-self c =
    let config : Configuration = c.self.inside.config.value in
    let test = is_vote (is_awaited c.args.low.0 c.args.view.0) in
    let votes = c.self.inside.votes.items in
    subst (λ (vs : List CheckedMessage). All (λ (m : CheckedMessage). m.config ≡ config) vs × (length vs ≤ most_held config)) (sym c.drop_left.ensures)
    (All-filter test (λ (m : CheckedMessage). m.config ≡ config) votes c.self.invariant.0, omega (arith, fewer test votes, c.self.invariant.1))
