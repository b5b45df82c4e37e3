use Rattle.std.proofs.Common.{Option, ◌∙◌, ap}
use Rattle.std.specs.Option.{ok_or}
use Rattle.host_types.specs.declared.ClientId.{ClientId}
use Rattle.script_values.specs.declared.fault.TableFault.TheVariants.{WrongValue}
use Rattle.script_values.specs.Forms.{if_number, client_named}
use Rattle.script_values.proofs.Founds.{found_or}
use Rattle.script_values.proofs.values.ClientNameForm.read.Goals as goal

pub returns : goal.returns
returns c =
    let named = client_named c.args.self.now.clients.now in
    found_or (named c.in_ok-number.number) c.ok_or.result _
    (c.ok_or.ensures.value ∙ ap (λ (o : Option ClientId). ok_or o WrongValue) c.client_named.ensures)
    (ap (if_number named) c.in_ok-number.ensures)
