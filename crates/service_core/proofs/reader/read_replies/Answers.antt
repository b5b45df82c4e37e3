use Rattle.std.proofs.Common.{◌<◌, ◌^◌, List, ◌∙◌, sym, ap, true≢false, arith}
use Rattle.host_types.specs.declared.ClientId.{ClientId}
use Rattle.host_types.specs.Configuration.{client_ids_of}
use Rattle.service_model.specs.Encoding.{encoded_reply}
use Rattle.service_core.specs.Readings.{in_turn}
use Rattle.service_model.proofs.PrefixFree.{free_list}
use Rattle.service_core.proofs.Replies.{IsFit, free_fit}
use Rattle.service_core.proofs.reader.read_replies.Goals as goal

pub returns-then-not-are_in_turn-clause-read : goal.returns-then-not-are_in_turn-clause-read
returns-then-not-are_in_turn-clause-read c = λ begins.
    let here = c.in_ok-replies.ensures in
    let F = IsFit c.args.taken in
    let items = c.in_ok-replies.replies.items in
    let few : c.args.taken < 2 ^ 64 = omega (arith, c.ranges.taken.fits) in
    let one = free_list encoded_reply F (free_fit c.args.taken few) items begins.0 c.in_ok-replies.rest.now begins.1
    (omega (arith, here.0.0), here.0.1) (omega (arith, begins.2.0.0), begins.2.0.1) (sym here.1 ∙ begins.3) in
    true≢false (
    sym begins.2.1 ∙ ap (in_turn (client_ids_of c.args.config.now.clients)) (sym one.0)
    ∙ ap (λ (ids : List ClientId). in_turn ids items) (sym (c.as_slice.ensures.value ∙ c.client_ids-ids.ensures.value))
    ∙ ap (in_turn c.as_slice.result.now) (sym c.deref.ensures.value) ∙ sym c.are_in_turn.ensures ∙ c.if-not-are_in_turn.true
    )
