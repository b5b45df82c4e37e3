use Rattle.std.proofs.Common.{◌≡◌, ℕ, ◌+◌, ◌<◌, List, [], ◌∷◌, ◌++◌, length, take, drop, refl, sym, ap, subst, ◌∙◌, arith, Option}
use Rattle.std.specs.Prelude.{Result}
use Rattle.std.specs.declared.alloc.AllocError.{AllocError}
use Rattle.std.proofs.lemmas.List.{length_push}
use Rattle.std.proofs.lemmas.Iterator.Adapters.{YieldsList-from_vec}
use Rattle.std.proofs.lemmas.Iterator.Consumers.{YieldsList-turn}
use Rattle.service_model.specs.declared.outcome.Outcome.{Outcome}
use Rattle.tenant_lanes.specs.declared.lane.Done.{Done}
use Rattle.tenant_lanes.specs.declared.lane.Lane.{Lane}
use Rattle.tenant_lanes.specs.Runs.{Slots, filled}
use Rattle.tenant_lanes.proofs.Filling.{length-filled}
use Rattle.tenant_lanes.proofs.Picking.{written_back}
use Rattle.tenant_lanes.proofs.Ended.{FilledTo, lane_ran, filled_none, filled_more, own_length, done_length}
use Rattle.tenant_lanes.proofs.apply.run_dealt.Goals as goal

pub loop-done-init : goal.loop-done-init
loop-done-init g c =
    filled_none c.args.number c.args.places.now c.args.requests.now c.args.dealt.lanes.items c.args.dealt.others.items c.requires.lengths c.in_ok-outcomes.outcomes.items c.in_ok-outcomes.ensures c.requires.others

pub fill-requires : goal.fill-requires
fill-requires g c =
    let items : List (Result Done AllocError) = c.in_ok-all.all.items in
    let h = c.into_iter-done-iterator.ensures.into_iter_gives in
    let long : c.into_iter-done-iterator.result.rest.len ≡ length items = omega (arith, h.1) in
    let t = YieldsList-turn (YieldsList-from_vec {s = c.into_iter-done-iterator.result} items h.0 long) c.loop-done.yielded c.loop-done.done-iterator c.loop-done.yielded_by c.next.result c.next.new.self c.in-Some.done c.in-Some.is c.next.ensures.steps in
    let k : ℕ = length c.loop-done.yielded in
    let lanes : List Lane = c.args.dealt.lanes.items in
    let e : Lane = record { number = 0; slots = c.loop-done.slots } in
    let lt : k < length lanes = omega (arith, t.0, c.in_ok-all.ensures.len) in
    let run = lane_ran c.args.number c.args.places.now c.args.requests.now lanes items k c.in-Some.done e c.in_ok-done.done c.in_ok-all.ensures.each lt t.1 c.in_ok-done.was in
    own_length c.args.number c.args.places.now c.args.requests.now lanes c.args.dealt.others.items c.requires.lengths k (k + 1) e c.loop-done.slots.items c.in_ok-done.done.slots.items c.loop-done.outcomes.items c.in_ok-done.done.outcomes.items refl lt c.loop-done.invariant run (c.requires.lanes k e lt)
    ∙ sym (ap length c.deref_mut.ensures.value)

pub fill-requires-in-loop-done : goal.fill-requires-in-loop-done
fill-requires-in-loop-done g c =
    let items : List (Result Done AllocError) = c.in_ok-all.all.items in
    let h = c.into_iter-done-iterator.ensures.into_iter_gives in
    let long : c.into_iter-done-iterator.result.rest.len ≡ length items = omega (arith, h.1) in
    let t = YieldsList-turn (YieldsList-from_vec {s = c.into_iter-done-iterator.result} items h.0 long) c.loop-done.yielded c.loop-done.done-iterator c.loop-done.yielded_by c.next.result c.next.new.self c.in-Some.done c.in-Some.is c.next.ensures.steps in
    let k : ℕ = length c.loop-done.yielded in
    let lanes : List Lane = c.args.dealt.lanes.items in
    let e : Lane = record { number = 0; slots = c.loop-done.slots } in
    let lt : k < length lanes = omega (arith, t.0, c.in_ok-all.ensures.len) in
    let run = lane_ran c.args.number c.args.places.now c.args.requests.now lanes items k c.in-Some.done e c.in_ok-done.done c.in_ok-all.ensures.each lt t.1 c.in_ok-done.was in
    done_length c.args.number c.args.places.now c.args.requests.now lanes c.args.dealt.others.items c.requires.lengths k (k + 1) e c.loop-done.slots.items c.in_ok-done.done.slots.items c.loop-done.outcomes.items c.in_ok-done.done.outcomes.items refl lt c.loop-done.invariant run (c.requires.lanes k e lt)
    ∙ sym (ap length c.deref_mut-in-loop-done.ensures.value)

pub loop-done-preserved : goal.loop-done-preserved
loop-done-preserved g c =
    let items : List (Result Done AllocError) = c.in_ok-all.all.items in
    let h = c.into_iter-done-iterator.ensures.into_iter_gives in
    let long : c.into_iter-done-iterator.result.rest.len ≡ length items = omega (arith, h.1) in
    let t = YieldsList-turn (YieldsList-from_vec {s = c.into_iter-done-iterator.result} items h.0 long) c.loop-done.yielded c.loop-done.done-iterator c.loop-done.yielded_by c.next.result c.next.new.self c.in-Some.done c.in-Some.is c.next.ensures.steps in
    let k : ℕ = length c.loop-done.yielded in
    let lanes : List Lane = c.args.dealt.lanes.items in
    let e : Lane = record { number = 0; slots = c.loop-done.slots } in
    let lt : k < length lanes = omega (arith, t.0, c.in_ok-all.ensures.len) in
    let run = lane_ran c.args.number c.args.places.now c.args.requests.now lanes items k c.in-Some.done e c.in_ok-done.done c.in_ok-all.ensures.each lt t.1 c.in_ok-done.was in
    let j : ℕ = length (c.loop-done.yielded ++ c.in-Some.done ∷ []) in
    let next : j ≡ k + 1 = length_push c.loop-done.yielded c.in-Some.done in
    let slots : Slots = c.loop-done.slots.items in
    let outcomes : List (Option Outcome) = c.loop-done.outcomes.items in
    let own : Slots = c.in_ok-done.done.slots.items in
    let done : List (Option Outcome) = c.in_ok-done.done.outcomes.items in
    let after : Slots = c.fill.new.slots in
    let all : List (Option Outcome) = c.fill-in-loop-done.new.slots in
    let slots_are : after ≡ filled own slots = c.fill.ensures ∙ ap (filled own) c.deref_mut.ensures.value in
    let outcomes_are : all ≡ filled done outcomes = c.fill-in-loop-done.ensures ∙ ap (filled done) c.deref_mut-in-loop-done.ensures.value in
    let own_long = own_length c.args.number c.args.places.now c.args.requests.now lanes c.args.dealt.others.items c.requires.lengths k j e c.loop-done.slots.items c.in_ok-done.done.slots.items c.loop-done.outcomes.items c.in_ok-done.done.outcomes.items next lt c.loop-done.invariant run (c.requires.lanes k e lt) in
    let done_long = done_length c.args.number c.args.places.now c.args.requests.now lanes c.args.dealt.others.items c.requires.lengths k j e c.loop-done.slots.items c.in_ok-done.done.slots.items c.loop-done.outcomes.items c.in_ok-done.done.outcomes.items next lt c.loop-done.invariant run (c.requires.lanes k e lt) in
    let back = written_back after slots c.loop-done.slots.len c.loop-done.slots.ok.0 (ap length slots_are ∙ length-filled own slots own_long) in
    let back' = written_back all outcomes c.loop-done.outcomes.len c.loop-done.outcomes.ok.0 (ap length outcomes_are ∙ length-filled done outcomes done_long) in
    let more = filled_more c.args.number c.args.places.now c.args.requests.now lanes c.args.dealt.others.items c.requires.lengths k j e c.loop-done.slots.items c.in_ok-done.done.slots.items c.loop-done.outcomes.items c.in_ok-done.done.outcomes.items next lt c.loop-done.invariant run (c.requires.lanes k e lt) c.requires.apart after all slots_are outcomes_are in
    subst (λ (s : Slots). FilledTo c.args.number c.args.places.now c.args.requests.now lanes c.args.dealt.others.items j s (take c.loop-done.outcomes.len (all ++ drop (length all) outcomes))) (sym back)
    (subst (λ (os : List (Option Outcome)). FilledTo c.args.number c.args.places.now c.args.requests.now lanes c.args.dealt.others.items j after os) (sym back') more)
