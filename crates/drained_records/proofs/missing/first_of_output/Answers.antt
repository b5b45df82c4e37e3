use Rattle.std.proofs.Common.{◌≡◌, ◌<◌, List, Some, length, refl, sym, subst}
use Rattle.std.specs.Prelude.{slice_get}
use Rattle.std.proofs.lemmas.Option.{slice_get_read}
use Rattle.byz_world.specs.Output.{Output}
use Rattle.drained_records.specs.Finding.{OutputCame, OutputMisses}
use Rattle.drained_records.proofs.Finding.{first_one}
use Rattle.drained_records.proofs.missing.first_of_output.Goals as goal

pub returns : goal.returns
returns c =
    let outputs = c.outputs.result.now in
    let o = c.index-outputs-place.result in
    let below = subst (λ (xs : List Output). c.args.place < length xs) (sym c.outputs.ensures) c.requires in
    let at = slice_get_read outputs (length outputs) c.args.place o refl below c.index-outputs-place.is in
    first_one c.args.row.now.outputs c.args.place o (OutputCame c.args.records.now c.args.from)
    (OutputMisses c.args.records.now c.args.from) c.first_that_misses.result
    (subst (λ (xs : List Output). slice_get xs c.args.place ≡ Some o) c.outputs.ensures at) c.first_that_misses.ensures
