use Rattle.std.proofs.Common.{Bool, ◌&&◌, ap, find, not, sym, ◌∙◌}
use Rattle.std.specs.Option.{option_map}
use Rattle.pbft_model.specs.Core.{is_new}
use Rattle.pbft_model.specs.Setup.{digest_of, setup_of}
use Rattle.pbft_model.specs.Tables.{entries_in}
use Rattle.replica_stores.specs.Requests.{as_request}
use Rattle.replica_stores.specs.Stores.{KeptRequests, is_proposed_in}
use Rattle.replica_stores.specs.declared.requests.Held.{Held}
use Rattle.replica_stores.proofs.Holding.{digest_as, digest_none, digest_some}
use Rattle.replica_stores.proofs.requests.Requests.first_new.Goals as goal

pub returns-in-Some : goal.returns-in-Some
returns-in-Some c =
    let config = c.self.inside.config.value in
    let proposed = is_proposed_in c.args.view.0 (entries_in c.args.log.now.log.pre_prepares) c.args.sent.now.proposed in
    let test : Held → Bool = λ h. is_new c.args.service.now (as_request h.message) && not (proposed h.digest.0) in
    digest_some config c.self.inside.held.items (λ m. is_new c.args.service.now m && not (proposed (digest_of (setup_of config) m))) test c.in-Some.held.now c.self.invariant
    (λ h is. ap (λ d. is_new c.args.service.now (as_request h.message) && not (proposed d)) (sym is.digest)) (c.in-Some.ensures ∙ ap (find test) c.deref.ensures.value)
    ∙ ap (λ (k : KeptRequests). option_map (digest_as k.config) (find (λ m. is_new c.args.service.now m && not (proposed (digest_of (setup_of k.config) m))) k.held)) c.self.view_is

pub returns-in-None : goal.returns-in-None
returns-in-None c =
    let config = c.self.inside.config.value in
    let proposed = is_proposed_in c.args.view.0 (entries_in c.args.log.now.log.pre_prepares) c.args.sent.now.proposed in
    let test : Held → Bool = λ h. is_new c.args.service.now (as_request h.message) && not (proposed h.digest.0) in
    digest_none config c.self.inside.held.items (λ m. is_new c.args.service.now m && not (proposed (digest_of (setup_of config) m))) test c.self.invariant
    (λ h is. ap (λ d. is_new c.args.service.now (as_request h.message) && not (proposed d)) (sym is.digest)) (c.in-None.ensures ∙ ap (find test) c.deref.ensures.value)
    ∙ ap (λ (k : KeptRequests). option_map (digest_as k.config) (find (λ m. is_new c.args.service.now m && not (proposed (digest_of (setup_of k.config) m))) k.held)) c.self.view_is
