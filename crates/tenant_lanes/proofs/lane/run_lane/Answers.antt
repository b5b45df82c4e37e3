use Rattle.std.proofs.Common.{◌≡◌, ℕ, ◌+◌, List, length, get_or, take, sym, ap, subst, refl, ◌∙◌, Option, None}
use Rattle.host_types.specs.declared.request.Request.{Request}
use Rattle.service_model.specs.declared.outcome.Outcome.{Outcome}
use Rattle.tenant_lanes.specs.Runs.{Slots, LaneStep, LaneRuns}
use Rattle.tenant_lanes.proofs.OneLane.{loop_more}
use Rattle.tenant_lanes.proofs.Ended.{step_length}
use Rattle.tenant_lanes.proofs.Picking.{written_back}
use Rattle.tenant_lanes.proofs.lane.run_lane.Goals as goal

pub loop-i-preserved : goal.loop-i-preserved
loop-i-preserved g c =
    let places = c.args.places.now in
    let requests = c.args.requests.now in
    let i = c.loop-i.i in
    let number : ℕ = c.args.number + i + 1 in
    let mid : Slots = c.loop-i.slots.items in
    let own : Slots = c.step-in-loop-i.new.slots in
    let outcome : Option Outcome = c.in_ok-outcome.outcome in
    let request : Option Request = c.index-requests-i.result in
    let step : LaneStep number mid (get_or places i None) (get_or requests i request) own outcome =
    subst (λ (r : Option Request). LaneStep number mid (get_or places i None) r own outcome) c.index-requests-i.is
    (subst (λ (s : Slots). LaneStep number s (get_or places i None) request own outcome) c.deref_mut.ensures.value c.in_ok-outcome.ensures) in
    let long : length own ≡ length mid = step_length number mid (get_or places i None) (get_or requests i request) own outcome step in
    let back = written_back own mid c.loop-i.slots.len c.loop-i.slots.ok.0 long in
    let more = loop_more c.args.number number i c.args.lane.slots.items places requests mid c.loop-i.outcomes.items own outcome None request c.requires.lengths c.loop-i-test.true refl c.loop-i.invariant.runs step in
    record {
      runs = subst (λ (s : Slots). LaneRuns c.args.number c.args.lane.slots.items (take (i + 1) places) (take (i + 1) requests) s c.push.new.self.items) (sym back)
          (subst (λ (os : List (Option Outcome)). LaneRuns c.args.number c.args.lane.slots.items (take (i + 1) places) (take (i + 1) requests) own os) (sym c.in_ok-push.ensures.items) more);
      same = ap length back ∙ long ∙ c.loop-i.invariant.same;
    }
