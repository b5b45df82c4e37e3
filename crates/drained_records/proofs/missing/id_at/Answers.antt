use Rattle.std.proofs.Common.{get_or, refl}
use Rattle.std.proofs.lemmas.Option.{slice_get-get_or}
use Rattle.drained_records.proofs.missing.id_at.Goals as goal

pub returns : goal.returns
returns c = (
  get_or c.args.records.now c.args.place c.index-records-place.result,
  slice_get-get_or c.args.records.now c.args.place c.index-records-place.result c.requires,
  refl,
)
