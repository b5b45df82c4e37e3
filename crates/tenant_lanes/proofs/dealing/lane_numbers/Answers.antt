use Rattle.std.proofs.Common.{◌≡◌, ℕ, Bool, true, false, cond, sym, ap, ◌∙◌, arith}
use Rattle.tenant_lanes.specs.Dealing.{has_requests}
use Rattle.tenant_lanes.proofs.Picking.{turns_more, numbers_more, lane_taken, no_lane}
use Rattle.tenant_lanes.proofs.dealing.lane_numbers.Goals as goal
use Rattle.tenant_lanes.proofs.dealing.lane_numbers.Goals.{then-has_requests+in_ok-push, else-has_requests+in_ok-push-2}

pub loop-index-preserved : goal.loop-index-preserved
loop-index-preserved c =
    let places = c.args.places.now in
    let index = c.loop-index.index in
    let more = turns_more places index in
    elim c.if-has_requests.branch [
      | then-has_requests+in_ok-push w ↦
          let has : has_requests places index ≡ true = sym c.has_requests.ensures ∙ w.if-has_requests.true in
          let one : ◌≡◌ {A = ℕ} (cond (has_requests places index) 1 0) 1 = ap (λ (b : Bool). cond b 1 0) has in
          record {
            lanes = numbers_more c.from-workers.result places index c.loop-index.lanes.items c.if-has_requests.lanes.items _ c.loop-index.invariant.lanes
                ((λ i. (w.lanes-is i).items) ∙ w.in_ok-push.ensures.items) (lane_taken c.from-workers.result places index c.loop-index.turn has c.loop-index.invariant.turn);
            turn = omega (arith, w.turn-is, c.loop-index.invariant.turn, more, one);
            few = omega (arith, w.turn-is, c.loop-index.invariant.few);
          }
      | else-has_requests+in_ok-push-2 w ↦
          let has : has_requests places index ≡ false = sym c.has_requests.ensures ∙ w.if-has_requests.false in
          let none : ◌≡◌ {A = ℕ} (cond (has_requests places index) 1 0) 0 = ap (λ (b : Bool). cond b 1 0) has in
          record {
            lanes = numbers_more c.from-workers.result places index c.loop-index.lanes.items c.if-has_requests.lanes.items _ c.loop-index.invariant.lanes
                ((λ i. (w.lanes-is i).items) ∙ w.in_ok-push-2.ensures.items) (no_lane c.from-workers.result places index has);
            turn = omega (arith, w.turn-is, c.loop-index.invariant.turn, more, none);
            few = omega (arith, w.turn-is, c.loop-index.invariant.few);
          }
    ]
