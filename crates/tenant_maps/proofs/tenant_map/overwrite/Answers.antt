use Rattle.std.proofs.Common.{sym, subst, rules}
use Rattle.tenant_maps.specs.Entries.{IsValue}
use Rattle.tenant_maps.proofs.MeaningLemmas.{IsValue-from}
use Rattle.tenant_maps.proofs.tenant_map.overwrite.Goals as goal

pub returns-clause-bytes : goal.returns-clause-bytes
returns-clause-bytes c = subst IsValue (sym c.copy_from_slice.ensures.after) (IsValue-from c.args.value.now (search rules) c.fits-value)
