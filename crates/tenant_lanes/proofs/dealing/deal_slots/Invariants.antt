use Rattle.std.proofs.Common.{◌≡◌, List, map, Some, length}
use Rattle.service_model.specs.TenantStates.{TenantState}
use Rattle.tenant_lanes.proofs.Dealt.{DealtTo}
use Rattle.tenant_lanes.proofs.dealing.deal_slots.Given as goal

abbrev pub invariant-loop-number : goal.invariant-loop-number
invariant-loop-number l = record {
  dealt : (parts : List TenantState) → l.fn.slots ≡ map Some parts → DealtTo l.workers l.places parts l.number l.lanes.items l.slots;
  same : length l.slots ≡ length l.fn.slots;
}
