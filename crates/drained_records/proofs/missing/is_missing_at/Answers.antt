use Rattle.std.proofs.Common.{length, refl}
use Rattle.std.proofs.lemmas.Option.{slice_get_read}
use Rattle.drained_records.specs.Coming.{HasCome}
use Rattle.drained_records.proofs.Finding.{at_one}
use Rattle.drained_records.proofs.missing.is_missing_at.Goals as goal

pub returns-clause-missing : goal.returns-clause-missing
returns-clause-missing c t =
    let records = c.args.records.now in
    let r = c.index-records-place.result in
    (r, slice_get_read records (length records) c.args.place r refl c.requires c.index-records-place.is, c.is_missing.ensures.missing t)

pub returns-clause-came : goal.returns-clause-came
returns-clause-came c not =
    let records = c.args.records.now in
    let r = c.index-records-place.result in
    let at = slice_get_read records (length records) c.args.place r refl c.requires c.index-records-place.is in
    at_one records c.args.place r (HasCome c.args.from c.args.output.now) at (c.is_missing.ensures.came not)
