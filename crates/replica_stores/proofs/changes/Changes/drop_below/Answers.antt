use Rattle.replica_stores.proofs.changes.Changes.drop_below.Goals as goal

pub invariant_of-self : goal.invariant_of-self
invariant_of-self c = c.drop_lower.ensures.sound c.self.inside.config.value c.self.invariant
