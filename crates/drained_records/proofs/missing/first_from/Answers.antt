use Rattle.std.proofs.Common.{length, refl}
use Rattle.std.proofs.lemmas.Option.{slice_get_read}
use Rattle.drained_records.specs.Finding.{RecordCame, RecordMisses}
use Rattle.drained_records.proofs.Finding.{first_triple}
use Rattle.drained_records.proofs.missing.first_from.Goals as goal

pub returns : goal.returns
returns c =
    let records = c.args.records.now in
    let r = c.index-records-place.result in
    first_triple records c.args.place r (RecordCame records) (RecordMisses records) c.first_in_record.result
    (slice_get_read records (length records) c.args.place r refl c.requires c.index-records-place.is) c.first_in_record.ensures
