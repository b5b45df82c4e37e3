use Rattle.std.proofs.Common.{◌≡◌, ℕ, List, map, length, Some, refl, sym, ap, subst, ◌∙◌, arith}
use Rattle.std.specs.List.{range_with_len}
use Rattle.std.proofs.lemmas.List.{length-map}
use Rattle.std.proofs.lemmas.List.FromFn.{length-map-range_with_len}
use Rattle.tenant_lanes.specs.declared.lane.Lane.{Lane}
use Rattle.tenant_lanes.specs.Dealing.{lane_of, lane_count}
use Rattle.tenant_lanes.proofs.Dealt.{DealtTo, deal_none, deal_more, deal_all}
use Rattle.tenant_lanes.proofs.dealing.deal_slots.Goals as goal

pub loop-number-init : goal.loop-number-init
loop-number-init c =
    record {
      dealt = λ parts e.
          subst (λ (ls : List Lane). DealtTo c.args.workers c.args.places.now parts 0 ls c.args.slots.now) (sym c.new-lanes.ensures.items) (deal_none c.args.workers c.args.places.now parts c.args.slots.now e);
      same = refl;
    }

pub pick-requires : goal.pick-requires
pick-requires c =
    ap length c.deref.ensures.value ∙ ap length c.in_ok-numbers.ensures.lanes ∙ length-map-range_with_len (lane_of c.args.workers c.args.places.now) 0 _ ∙ sym c.loop-number.invariant.same

pub loop-number-preserved : goal.loop-number-preserved
loop-number-preserved c =
    let new : Lane = record { number = c.loop-number.number; slots = c.in_ok-own.own } in
    record {
      dealt = λ parts e.
          deal_more c.args.workers c.args.places.now parts c.loop-number.number c.loop-number.lanes.items c.push.new.self.items new c.loop-number.slots c.pick.new.slots c.deref.result.now (c.loop-number.invariant.dealt parts e)
          (c.deref.ensures.value ∙ c.in_ok-numbers.ensures.lanes ∙ ap (λ (n : ℕ). map (lane_of c.args.workers c.args.places.now) (range_with_len 0 n)) (ap length e ∙ length-map parts Some))
          c.in_ok-push.ensures.items refl c.in_ok-own.ensures.picked c.in_ok-own.ensures.left;
      same = c.pick.auto.slots ∙ c.loop-number.invariant.same;
    }

pub returns : goal.returns
returns c = λ parts e.
    let last : c.loop-number.number ≡ c.in_ok-numbers.count = omega (arith, c.loop-number-test.false, c.loop-number.auto.number-end) in
    deal_all c.args.workers c.args.places.now parts c.loop-number.lanes.items c.loop-number.slots c.loop-number.number c.requires
    (last ∙ c.in_ok-numbers.ensures.count ∙ ap (lane_count c.args.workers c.args.places.now) (ap length e ∙ length-map parts Some)) (c.loop-number.invariant.dealt parts e)
