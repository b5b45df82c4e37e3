use Rattle.std.proofs.Common.{sym, ◌∙◌}
use Rattle.tenant_maps.specs.Entries.{has_room}
use Rattle.sandbox_c.proofs.Kept.{kept, full_keeps}
use Rattle.sandbox_c.proofs.maps.put.Goals as goal

pub returns-in-Ok-Full-clause-kept : goal.returns-in-Ok-Full-clause-kept
returns-in-Ok-Full-clause-kept c = λ _.
    let full = sym c.in-Ok-Full.field-0-is ∙ c.in-Ok-Full.ensures.answer in
    let stays = full_keeps (has_room c.in-Map.map.entries c.in-Ok.key) _ c.in-Map.map.entries full in
    kept c.put.new.self c.in-Map.map (c.in-Ok-Full.ensures.after ∙ stays) c.args.held.now c.in-Map.is

pub returns-in-Err-clause-kept : goal.returns-in-Err-clause-kept
returns-in-Err-clause-kept c = λ _. kept c.put.new.self c.in-Map.map c.in-Err.ensures.refused c.args.held.now c.in-Map.is
