use Rattle.std.proofs.Common.{List, ℕ, option_map, slice_get, sym, ap, ◌∙◌}
use Rattle.std.proofs.lemmas.Map.Iter.{rest_more, rest_all}
use Rattle.std.specs.Map.Iter.{deref_pair}
use Rattle.tenant_maps.specs.Entries.{next_key}
use Rattle.tenant_maps.proofs.MeaningLemmas.{next-meaning}
use Rattle.tenant_maps.proofs.tenant_map.TenantMapMapPort.next.Goals as goal

pub returns-in-Some : goal.returns-in-Some
returns-in-Some c =
    let above = next-meaning c.self.inside.map c.args.key.now c.range-above.result c.self.invariant (c.range-above.ensures.between tt)
    ∙ ap (λ map. next_key map.entries c.args.key.now) c.self.view_is in
    let first = rest_more deref_pair c.range-above.result c.next.new.self c.next.result _ c.in-Some.is c.next.ensures.steps in
    sym (ap (λ es. option_map (λ (e : List ℕ × List ℕ). e.0) (slice_get es 0)) first) ∙ above

pub returns-in-None : goal.returns-in-None
returns-in-None c =
    let above = next-meaning c.self.inside.map c.args.key.now c.range-above.result c.self.invariant (c.range-above.ensures.between tt)
    ∙ ap (λ map. next_key map.entries c.args.key.now) c.self.view_is in
    let none = rest_all deref_pair c.range-above.result c.next.new.self c.next.result c.in-None.is c.next.ensures.steps in
    sym (ap (λ es. option_map (λ (e : List ℕ × List ℕ). e.0) (slice_get es 0)) none) ∙ above
