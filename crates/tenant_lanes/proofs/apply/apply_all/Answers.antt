use Rattle.std.proofs.Common.{◌≡◌, ℕ, ◌+◌, List, length, map, sym, ap, subst, ◌∙◌, arith, Option}
use Rattle.std.specs.Prelude.{is_none}
use Rattle.std.proofs.lemmas.List.{length-map}
use Rattle.host_types.specs.declared.TenantId.{TenantId}
use Rattle.host_types.specs.Configuration.{Configuration, tenants_of}
use Rattle.service_model.specs.declared.outcome.Outcome.{Outcome}
use Rattle.service_model.specs.TenantStates.{Service}
use Rattle.service_model.specs.Steps.{Follows}
use Rattle.tenant_lanes.specs.Dealing.{lane_of, place_of}
use Rattle.tenant_lanes.specs.Lanes.{IsDealt}
use Rattle.tenant_lanes.specs.Runs.{filled_by}
use Rattle.tenant_lanes.proofs.Dealt.{length_slots, lanes_apart, others_idle}
use Rattle.tenant_lanes.proofs.WholeRun.{ids_of, state_of}
use Rattle.tenant_lanes.proofs.Ended.{places_within, runs_length, all_some, same_items, ended}
use Rattle.tenant_lanes.proofs.apply.apply_all.Goals as goal

pub run_dealt-requires-clause-within : goal.run_dealt-requires-clause-within
run_dealt-requires-clause-within g c κs within =
    let places = c.deref-2.result.now in
    let parts = c.split-config.result.2.items in
    let lanes = c.in_ok-dealt.dealt.lanes.items in
    let others = c.in_ok-dealt.dealt.others.items in
    let dealt : IsDealt c.args.workers places parts lanes others =
    subst (λ (ps : List (Option ℕ)). IsDealt c.args.workers ps parts lanes others) (c.deref.ensures.value ∙ sym c.deref-2.ensures.value) c.in_ok-dealt.ensures in
    let many : length others ≡ length c.args.state.tenants = ap length dealt.stays ∙ length_slots (λ i. is_none (lane_of c.args.workers places i)) parts ∙ ap length c.split-config.ensures.parts in
    places_within c.args.state c.args.requests.now places (length others) many (c.deref-2.ensures.value ∙ c.in_ok-places.ensures)

pub run_dealt-requires-clause-apart : goal.run_dealt-requires-clause-apart
run_dealt-requires-clause-apart g c κs within =
    let places = c.deref-2.result.now in
    let parts = c.split-config.result.2.items in
    let lanes = c.in_ok-dealt.dealt.lanes.items in
    let others = c.in_ok-dealt.dealt.others.items in
    let dealt : IsDealt c.args.workers places parts lanes others =
    subst (λ (ps : List (Option ℕ)). IsDealt c.args.workers ps parts lanes others) (c.deref.ensures.value ∙ sym c.deref-2.ensures.value) c.in_ok-dealt.ensures in
    lanes_apart c.args.workers places parts lanes others dealt

pub run_dealt-requires-clause-others : goal.run_dealt-requires-clause-others
run_dealt-requires-clause-others g c κs within =
    let places = c.deref-2.result.now in
    let parts = c.split-config.result.2.items in
    let lanes = c.in_ok-dealt.dealt.lanes.items in
    let others = c.in_ok-dealt.dealt.others.items in
    let dealt : IsDealt c.args.workers places parts lanes others =
    subst (λ (ps : List (Option ℕ)). IsDealt c.args.workers ps parts lanes others) (c.deref.ensures.value ∙ sym c.deref-2.ensures.value) c.in_ok-dealt.ensures in
    others_idle c.args.workers places parts lanes others dealt

pub settled-requires : goal.settled-requires
settled-requires g c =
    let places = c.deref-2.result.now in
    let requests = c.args.requests.now in
    let even : length places ≡ length requests = ap length (c.deref-2.ensures.value ∙ c.in_ok-places.ensures) ∙ length-map requests (place_of c.args.state) in
    let many = runs_length c.split-config.result.1.0 (filled_by c.in_ok-dealt.dealt.lanes.items c.in_ok-dealt.dealt.others.items) places requests c.in_ok-done.done.slots.items c.in_ok-done.done.outcomes.items even c.in_ok-done.ensures in
    omega (arith, many, c.split-config.ensures.number, c.requires.numbers)

pub items_of-requires : goal.items_of-requires
items_of-requires g c =
    let places = c.deref-2.result.now in
    let parts = c.split-config.result.2.items in
    let lanes = c.in_ok-dealt.dealt.lanes.items in
    let others = c.in_ok-dealt.dealt.others.items in
    let dealt : IsDealt c.args.workers places parts lanes others =
    subst (λ (ps : List (Option ℕ)). IsDealt c.args.workers ps parts lanes others) (c.deref.ensures.value ∙ sym c.deref-2.ensures.value) c.in_ok-dealt.ensures in
    let state = c.args.state in
    let requests = c.args.requests.now in
    let number = c.split-config.result.1.0 in
    let ids = sym (ap ids_of c.split-config.ensures.parts) ∙ c.split-config.ensures.ids in
    let w = ended state number c.args.workers parts places requests lanes others c.in_ok-done.done.slots.items c.in_ok-done.done.outcomes.items
    c.requires.workers c.split-config.ensures.number c.split-config.ensures.parts dealt ids c.requires.listed (c.deref-2.ensures.value ∙ c.in_ok-places.ensures) c.in_ok-done.ensures in
    all_some w.0 c.in_ok-done.done.slots.items w.1

pub join-requires : goal.join-requires
join-requires g c =
    let places = c.deref-2.result.now in
    let parts = c.split-config.result.2.items in
    let lanes = c.in_ok-dealt.dealt.lanes.items in
    let others = c.in_ok-dealt.dealt.others.items in
    let dealt : IsDealt c.args.workers places parts lanes others =
    subst (λ (ps : List (Option ℕ)). IsDealt c.args.workers ps parts lanes others) (c.deref.ensures.value ∙ sym c.deref-2.ensures.value) c.in_ok-dealt.ensures in
    let state = c.args.state in
    let requests = c.args.requests.now in
    let number = c.split-config.result.1.0 in
    let ids = sym (ap ids_of c.split-config.ensures.parts) ∙ c.split-config.ensures.ids in
    let w = ended state number c.args.workers parts places requests lanes others c.in_ok-done.done.slots.items c.in_ok-done.done.outcomes.items
    c.requires.workers c.split-config.ensures.number c.split-config.ensures.parts dealt ids c.requires.listed (c.deref-2.ensures.value ∙ c.in_ok-places.ensures) c.in_ok-done.ensures in
    let same : c.in_ok-parts.parts.items ≡ w.0 = same_items c.in_ok-parts.parts.items w.0 (c.in_ok-parts.ensures ∙ w.1) in
    ap ids_of same ∙ w.2 ∙ ids ∙ ap (λ (k : Configuration). map (λ (tenant : TenantId). tenant.0) (tenants_of k.clients)) (sym c.split-config.ensures.config)

pub returns : goal.returns
returns g c =
    let places = c.deref-2.result.now in
    let parts = c.split-config.result.2.items in
    let lanes = c.in_ok-dealt.dealt.lanes.items in
    let others = c.in_ok-dealt.dealt.others.items in
    let dealt : IsDealt c.args.workers places parts lanes others =
    subst (λ (ps : List (Option ℕ)). IsDealt c.args.workers ps parts lanes others) (c.deref.ensures.value ∙ sym c.deref-2.ensures.value) c.in_ok-dealt.ensures in
    let state = c.args.state in
    let requests = c.args.requests.now in
    let number = c.split-config.result.1.0 in
    let ids = sym (ap ids_of c.split-config.ensures.parts) ∙ c.split-config.ensures.ids in
    let w = ended state number c.args.workers parts places requests lanes others c.in_ok-done.done.slots.items c.in_ok-done.done.outcomes.items
    c.requires.workers c.split-config.ensures.number c.split-config.ensures.parts dealt ids c.requires.listed (c.deref-2.ensures.value ∙ c.in_ok-places.ensures) c.in_ok-done.ensures in
    let same : c.in_ok-parts.parts.items ≡ w.0 = same_items c.in_ok-parts.parts.items w.0 (c.in_ok-parts.ensures ∙ w.1) in
    let after : c.join.result ≡ state_of state.config (number + length requests) w.0 = c.join.ensures ∙ (λ i. state_of (c.split-config.ensures.config i) (number + length requests) (same i)) in
    let first : state_of state.config number state.tenants ≡ state = ap (λ (n : ℕ). state_of state.config n state.tenants) c.split-config.ensures.number in
    subst (λ (s : Service). Follows s requests c.join.result c.in_ok-outcomes.outcomes.items) first
    (subst (λ (s : Service). Follows (state_of state.config number state.tenants) requests s c.in_ok-outcomes.outcomes.items) (sym after)
    (subst (λ (os : List Outcome). Follows (state_of state.config number state.tenants) requests (state_of state.config (number + length requests) w.0) os) (sym c.in_ok-outcomes.ensures) w.3))
