use Rattle.std.proofs.Common.{◌∙◌}
use Rattle.script_values.proofs.Keys.{only_among}
use Rattle.script_values.proofs.form.has_only.Goals as goal

pub returns : goal.returns
returns c = c.all_among.ensures ∙ only_among c.args.keys.now c.args.table.now.entries
