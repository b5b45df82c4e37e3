use Rattle.tenant_maps.proofs.MeaningLemmas.{IsTenantMap-after_remove}
use Rattle.tenant_maps.proofs.tenant_map.TenantMapMapPort.del.Goals as goal

pub invariant_of-self-inside : goal.invariant_of-self-inside
invariant_of-self-inside c =
    (IsTenantMap-after_remove c.self.inside.map c.remove.new.self c.args.key.now c.self.invariant c.remove.ensures.ordered c.remove.ensures.updates c.self.inside.bounded, tt)
