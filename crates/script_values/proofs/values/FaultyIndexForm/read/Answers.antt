use Rattle.std.proofs.Common.{Option, ◌∙◌, ap}
use Rattle.std.specs.Option.{ok_or}
use Rattle.host_types.specs.declared.ReplicaId.{ReplicaId}
use Rattle.script_values.specs.declared.fault.TableFault.TheVariants.{WrongValue}
use Rattle.script_values.specs.Forms.{if_number, faulty_named}
use Rattle.script_values.proofs.Founds.{found_or}
use Rattle.script_values.proofs.values.FaultyIndexForm.read.Goals as goal

pub returns : goal.returns
returns c =
    let named = faulty_named c.args.self.now.faulty.now in
    found_or (named c.in_ok-number.number) c.ok_or.result _
    (c.ok_or.ensures.value ∙ ap (λ (o : Option ReplicaId). ok_or o WrongValue) c.faulty_named.ensures)
    (ap (if_number named) c.in_ok-number.ensures)
