use Rattle.std.proofs.Common.{length, refl}
use Rattle.std.proofs.lemmas.Option.{slice_get_read}
use Rattle.drained_records.specs.Finding.{RowCame, RowMisses}
use Rattle.drained_records.proofs.Finding.{first_pair}
use Rattle.drained_records.proofs.missing.first_of_row.Goals as goal

pub returns : goal.returns
returns c =
    let rows = c.args.from.now.1.items in
    let r = c.index.result.now in
    first_pair rows c.args.place r (RowCame c.args.records.now c.args.from.now.0)
    (RowMisses c.args.records.now c.args.from.now.0) c.first_in_row.result
    (slice_get_read rows (length rows) c.args.place r refl c.requires c.index.ensures) c.first_in_row.ensures
