use Rattle.std.proofs.Common.{List, ℕ, sym, subst}
use Rattle.std.specs.String.{string_bytes}
use Rattle.std.proofs.lemmas.Result.{IfOk-weaker}
use Rattle.script_text.specs.Node.{Node}
use Rattle.world_script.specs.Parts.{Takes}
use Rattle.world_script.proofs.stage.Stage.take.Goals as goal

pub returns-in-Replica : goal.returns-in-Replica
returns-in-Replica c =
    IfOk-weaker c.take_in.result _ _ (λ r took. subst (λ (node : Node). Takes node c.args.self.now c.args.bytes.now (string_bytes r.0) r.1 c.take_in.new.self) (sym c.in-Replica.is) took) c.take_in.ensures
