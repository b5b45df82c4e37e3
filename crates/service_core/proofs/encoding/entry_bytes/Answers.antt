use Rattle.std.proofs.Common.{rules, refl}
use Rattle.service_core.proofs.Fed.{one_piece}
use Rattle.service_core.proofs.encoding.entry_bytes.Goals as goal

pub returns : goal.returns
returns c =
    one_piece _ c.args.key.now c.args.value.now c.copy_from_slice.new.self c.copy_from_slice-2.new.self refl (search rules) (search rules) c.copy_from_slice.ensures.after c.copy_from_slice-2.ensures.after
