use Rattle.std.proofs.Common.{refl}
use Rattle.std.specs.Prelude.{Ok}
use Rattle.script_text.specs.declared.script.DeliveryOrder.TheVariants.{Oldest}
use Rattle.script_text.proofs.step_keys.read_plain_deliver.Goals as goal

pub returns : goal.returns
returns c = c.read_deliver_in.ensures (Ok Oldest) refl
