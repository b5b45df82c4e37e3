use Rattle.std.proofs.Common.{Err, slice_set, sym, ap, ◌∙◌}
use Rattle.std.specs.List.{position}
use Rattle.world_queue.specs.Parties.{is_forger}
use Rattle.world_queue.proofs.Parties.{forges, forges_none, forges_exhausted}
use Rattle.world_queue.proofs.forging.forge.Goals as goal

pub returns-in_default : goal.returns-in_default
returns-in_default c =
    forges_none c.args.forgers.now.items c.args.forgery.now c.args.body
    (sym (ap (position (is_forger c.args.forgery.now.from)) c.deref.ensures.value) ∙ sym c.index_of.ensures ∙ c.in_default.is)

pub returns-in-Ok : goal.returns-in-Ok
returns-in-Ok c =
    forges c.args.forgers.now.items _ c.args.forgery.now c.args.body c.in-Ok.bytes.items c.in-Some.index c.index_mut.result.now
    (sym (ap (position (is_forger c.args.forgery.now.from)) c.deref.ensures.value) ∙ sym c.index_of.ensures ∙ c.in-Some.is) c.index_mut.ensures.value
    c.in-Ok.ensures.can c.in-Ok.ensures.message (ap (slice_set c.args.forgers.now.items c.in-Some.index) c.in-Ok.ensures.signed)

pub returns-in-Err-Exhausted : goal.returns-in-Err-Exhausted
returns-in-Err-Exhausted c =
    let gone = c.sign.ensures.exhausted (c.in-Err-Exhausted.is ∙ ap Err c.in-Err-Exhausted.field-0-is) in
    forges_exhausted c.args.forgers.now.items _ c.args.forgery.now c.args.body c.in-Some.index c.index_mut.result.now
    (sym (ap (position (is_forger c.args.forgery.now.from)) c.deref.ensures.value) ∙ sym c.index_of.ensures ∙ c.in-Some.is) c.index_mut.ensures.value
    gone.0 (ap (slice_set c.args.forgers.now.items c.in-Some.index) gone.1)
