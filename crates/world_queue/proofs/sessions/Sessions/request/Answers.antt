use Rattle.std.proofs.Common.{◌≡◌, Ok, Err, slice_set, sym, ap, ◌∙◌}
use Rattle.seal.specs.Opening.{CheckedMessage}
use Rattle.world_queue.proofs.Parties.{asks, asks_none, asks_exhausted}
use Rattle.world_queue.proofs.sessions.Sessions.request.Goals as goal

ok_err : {A E : Type 0} {x : A} {e : E} → Ok x ≡ Err e → ⊥
ok_err h = cc h

pub returns-in_default-clause-requested : goal.returns-in_default-clause-requested
returns-in_default-clause-requested c = asks_none c.args.self.now.sessions.items c.args.client c.args.op (sym c.index_of.ensures ∙ c.in_default.is)

pub returns-in-Ok-clause-requested : goal.returns-in-Ok-clause-requested
returns-in-Ok-clause-requested c =
    asks c.args.self.now.sessions.items _ c.args.client c.args.op c.in-Some.index c.index_mut.result.now c.in-Ok.request (sym c.index_of.ensures ∙ c.in-Some.is) c.index_mut.ensures.value
    (λ exhausted. ok_err (sym c.in-Ok.is ∙ c.request.ensures.exhausted.1 exhausted)) (ap (λ (m : CheckedMessage). m.message) c.in-Ok.ensures.request)
    (ap (slice_set c.args.self.now.sessions.items c.in-Some.index) c.in-Ok.ensures.asked)

pub returns-in-Err-Exhausted-clause-requested : goal.returns-in-Err-Exhausted-clause-requested
returns-in-Err-Exhausted-clause-requested c =
    let gone = c.in-Err-Exhausted.is ∙ ap Err c.in-Err-Exhausted.field-0-is in
    asks_exhausted c.args.self.now.sessions.items _ c.args.client c.args.op c.in-Some.index c.index_mut.result.now (sym c.index_of.ensures ∙ c.in-Some.is) c.index_mut.ensures.value
    (c.request.ensures.exhausted.0 gone) (ap (slice_set c.args.self.now.sessions.items c.in-Some.index) (c.request.ensures.unchanged gone))
