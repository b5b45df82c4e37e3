use Rattle.std.proofs.Common.{sym, subst, ◌∙◌}
use Rattle.host_types.specs.Configuration.{IsConfiguration}
use Rattle.checkpoints.proofs.Changes.{none_kept, started}
use Rattle.checkpoints.proofs.table.Checkpoints.new.Goals as goal

pub invariant_of-result : goal.invariant_of-result
invariant_of-result c = none_kept _ c.new.result (subst IsConfiguration (c.deref.ensures ∙ sym c.in_ok-try_clone.ensures) c.f.ensures.legal) c.new.ensures.empty

pub returns : goal.returns
returns c = started _ c.args.config.now.value c.new.result c.new-2.result c.in_ok-try_clone.ensures c.new.ensures.empty c.new-2.ensures.empty
