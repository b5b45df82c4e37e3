use Rattle.std.proofs.Common.{ap, find, ◌∙◌}
use Rattle.std.specs.Prelude.{bytes_eq}
use Rattle.std.specs.Option.{option_map}
use Rattle.pbft_model.specs.Core.{held_with}
use Rattle.pbft_model.specs.Setup.{setup_of}
use Rattle.replica_stores.specs.Stores.{KeptRequests}
use Rattle.replica_stores.proofs.Holding.{find_none, find_some, checked_under}
use Rattle.replica_stores.proofs.requests.Requests.find.Goals as goal

pub returns-in-Some : goal.returns-in-Some
returns-in-Some c =
    find_some c.self.inside.config.value c.self.inside.held.items c.args.digest.now.0 c.in-Some.held.now c.self.invariant (c.in-Some.ensures ∙ ap (find (λ h. bytes_eq h.digest.0 c.args.digest.now.0)) c.deref.ensures.value)
    ∙ ap (λ (k : KeptRequests). option_map (checked_under k.config) (held_with (setup_of k.config) k.held c.args.digest.now.0)) c.self.view_is

pub returns-in-None : goal.returns-in-None
returns-in-None c =
    find_none c.self.inside.config.value c.self.inside.held.items c.args.digest.now.0 c.self.invariant (c.in-None.ensures ∙ ap (find (λ h. bytes_eq h.digest.0 c.args.digest.now.0)) c.deref.ensures.value)
    ∙ ap (λ (k : KeptRequests). option_map (checked_under k.config) (held_with (setup_of k.config) k.held c.args.digest.now.0)) c.self.view_is
