use Rattle.std.proofs.Common.{Ok, Err, ℕ, List, sym, subst}
use Rattle.byz_world.specs.declared.event.Event.{Event}
use Rattle.byz_world.specs.declared.event.Event.TheVariants as events
use Rattle.byz_world.specs.declared.fault.WorldFault.TheVariants as faults
use Rattle.byz_world.specs.Handing.{UnlessMemory}
use Rattle.byz_world.specs.Worlds.{Answer, Gives, Happens, WorldFacts}
use Rattle.byz_world.proofs.world.World.event.Goals as goal

happens : (w t : WorldFacts) (event : Event) (r : Answer) → UnlessMemory r (Gives w event r t) → Happens w event r t
happens w t event (Ok row) gives = gives
happens w t event (Err faults.NoSuchReplica) gives = gives
happens w t event (Err faults.NoSuchOutput) gives = gives
happens w t event (Err faults.Memory) gives = gives

pub returns-in-Deliver-clause-happens : goal.returns-in-Deliver-clause-happens
returns-in-Deliver-clause-happens c =
    subst (λ (e : Event). Happens c.args.self.now e c.deliver.result c.deliver.new.self) (sym c.in-Deliver.is)
    (subst (λ (bytes : List ℕ). Happens c.args.self.now (events.Deliver c.in-Deliver.to bytes) c.deliver.result c.deliver.new.self) c.as_slice.ensures
    (happens c.args.self.now c.deliver.new.self (events.Deliver c.in-Deliver.to c.as_slice.result.now) c.deliver.result c.deliver.ensures.given))

pub returns-in-Forward-clause-happens : goal.returns-in-Forward-clause-happens
returns-in-Forward-clause-happens c =
    subst (λ (e : Event). Happens c.args.self.now e c.forward.result c.forward.new.self) (sym c.in-Forward.is)
    (happens c.args.self.now c.forward.new.self (events.Forward c.in-Forward.to c.in-Forward.from c.in-Forward.output) c.forward.result c.forward.ensures.given)
