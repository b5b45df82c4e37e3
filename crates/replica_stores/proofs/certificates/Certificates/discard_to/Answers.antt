use Rattle.replica_stores.proofs.certificates.Certificates.discard_to.Goals as goal

pub invariant_of-self : goal.invariant_of-self
invariant_of-self c = c.drop_to.ensures.checked c.self.inside.config.value c.self.invariant
