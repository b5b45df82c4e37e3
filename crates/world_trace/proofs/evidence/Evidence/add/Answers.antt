use Rattle.std.proofs.Common.{◌++◌, sym, subst, ◌∙◌}
use Rattle.std.proofs.lemmas.Result.{on_ok_weaker}
use Rattle.world_script.specs.Input.{Input}
use Rattle.world_trace.specs.Heard.{HasHeard, heard_in, heard_of}
use Rattle.world_trace.proofs.Resting.{all_there, has_more}
use Rattle.world_trace.proofs.evidence.Evidence.add.Goals as goal

pub returns-in-Message : goal.returns-in-Message
returns-in-Message c = on_ok_weaker c.add_whole.result
    (λ whole ms heard.
    let more = heard_of c.in-Message.message in
    subst (λ (i : Input). HasHeard (ms ++ heard_in i) c.add_whole.new.self) (sym c.in-Message.is ∙ c.input.ensures)
    (whole (ms ++ more) (all_there ms more) (has_more ms more c.args.self.now heard)))
    c.add_whole.ensures

pub returns-in-Timeout : goal.returns-in-Timeout
returns-in-Timeout c = λ ms heard. has_more ms (heard_in c.args.row.now.input) c.args.self.now heard
