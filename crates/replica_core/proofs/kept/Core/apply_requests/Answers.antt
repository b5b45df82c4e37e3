use Rattle.replica_core.proofs.Applying.{listed_there, low_there, still_one}
use Rattle.replica_core.proofs.kept.Core.apply_requests.Goals as goal

pub apply_all-requires-clause-listed : goal.apply_all-requires-clause-listed
apply_all-requires-clause-listed g c κs within = listed_there _ _ _ c.self.invariant c.args.self c.self.view_is c.args.requests.now c.requires.listed

pub apply_all-requires-clause-numbers : goal.apply_all-requires-clause-numbers
apply_all-requires-clause-numbers g c κs within = low_there _ _ _ c.self.invariant c.args.self c.self.view_is c.args.requests.now c.requires.numbers

pub invariant_of-core : goal.invariant_of-core
invariant_of-core g c =
    still_one _ _ _ c.self.invariant c.args.self c.self.view_is c.args.requests.now c.in_ok-service.service c.in_ok-service.outcomes.items c.in_ok-service.ensures c.requires.numbers
