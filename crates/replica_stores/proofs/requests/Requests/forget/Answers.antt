use Rattle.std.proofs.Common.{◌||◌, ap, subst, sym, ◌∙◌}
use Rattle.pbft_model.specs.Acts.{still_held}
use Rattle.pbft_model.specs.Core.{is_new, names}
use Rattle.pbft_model.specs.Tables.{entries_in}
use Rattle.pbft_model.specs.Setup.{setup_of}
use Rattle.replica_stores.specs.Requests.{AreHeld, IsHeld, as_request, requests_in}
use Rattle.replica_stores.proofs.Entries.{all_filtered}
use Rattle.replica_stores.proofs.Holding.{still_found}
use Rattle.replica_stores.proofs.requests.Requests.forget.Goals as goal

pub invariant_of-self : goal.invariant_of-self
invariant_of-self c =
    subst (AreHeld c.self.inside.config.value) (sym c.retain.ensures)
    (all_filtered (IsHeld c.self.inside.config.value) (λ h. is_new c.args.service.now (as_request h.message) || names (entries_in c.args.log.now.log.pre_prepares) h.digest.0) c.self.inside.held.items c.self.invariant)

pub returns : goal.returns
returns c =
    let ms = entries_in c.args.log.now.log.pre_prepares in
    let left = ap requests_in c.retain.ensures ∙ still_found c.self.inside.config.value c.args.service.now ms c.self.inside.held.items c.self.invariant in
    λ i. record {
      config = (c.self.view_is i).config;
      held = (left ∙ (λ j. still_held (setup_of (c.self.view_is j).config) c.args.service.now ms (c.self.view_is j).held)) i;
    }
