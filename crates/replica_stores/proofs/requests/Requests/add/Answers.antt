use Rattle.std.proofs.Common.{◌≡◌, ◌++◌, ◌∷◌, [], false, ap, sym, ◌∙◌}
use Rattle.std.specs.Prelude.{is_some}
use Rattle.std.specs.Option.{option_map}
use Rattle.pbft_model.specs.Acts.{with_body}
use Rattle.pbft_model.specs.Core.{held_with}
use Rattle.pbft_model.specs.Setup.{setup_of}
use Rattle.replica_stores.specs.Requests.{as_request, requests_in}
use Rattle.replica_stores.proofs.Holding.{add_new, digest_is, request_is, request_of, checked_under}
use Rattle.replica_stores.proofs.Lists.{map_append}
use Rattle.replica_stores.proofs.Results.{some_copied}
use Rattle.replica_stores.proofs.requests.Requests.add.Goals as goal

pub returns-in_ok-push-clause-added : goal.returns-in_ok-push-clause-added
returns-in_ok-push-clause-added c = λ b is.
    let now = c.args.self.now in
    let m = c.args.message.now in
    let digest = c.request_digest-digest.result.0 in
    let items = c.self.inside.held.items in
    let none : is_some (option_map (checked_under now.config) (held_with (setup_of now.config) now.held digest)) ≡ false
    = ap is_some (sym c.find.ensures) ∙ sym (some_copied c.find.result) ∙ c.if-is_none.ensures in
    let new = ap as_request c.in_ok-message.ensures ∙ request_is m b is in
    let held = ap requests_in c.in_ok-push.ensures.items ∙ map_append request_of items (record { digest = c.request_digest-digest.result; message = c.in_ok-message.message })
    ∙ (λ j. (c.self.view_is j).held ++ new j ∷ []) ∙ add_new now.config now.held (with_body m.message b) digest (digest_is now.config m b digest is c.request_digest-digest.ensures) none in
    λ i. record { config = (c.self.view_is i).config; held = held i }
