use Rattle.std.proofs.Common.{refl}
use Rattle.std.specs.Prelude.{Ok}
use Rattle.script_text.specs.declared.script.Step.TheVariants as steps
use Rattle.script_text.proofs.step_keys.read_bare.Goals as goal

pub returns : goal.returns
returns c = c.with_only.ensures (Ok (steps.Print c.args.printout)) refl
