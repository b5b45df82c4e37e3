use Rattle.std.proofs.Common.{ℕ, List, sym, ap, ◌∙◌}
use Rattle.std.specs.Result.{result_err}
use Rattle.std.proofs.lemmas.Result.{on_ok_weaker}
use Rattle.seal.specs.Opening.{opening}
use Rattle.world_trace.proofs.Noting.{noted_opened, noted_refused}
use Rattle.world_trace.proofs.tracer.Tracer.note_refused.Goals as goal

pub returns-in-Some : goal.returns-in-Some
returns-in-Some c =
    let config = c.args.config.now.value in
    let l = c.args.letter.now in
    on_ok_weaker c.note_fault.result
    (noted_refused c.args.at l (opening config l.bytes) c.in-Some.fault c.args.self.now.happened.items c.note_fault.new.self.happened.items
    (ap (λ (bs : List ℕ). result_err (opening config bs)) (sym c.bytes.ensures) ∙ sym c.in_ok-fault.ensures ∙ c.in-Some.is))
    c.note_fault.ensures

pub returns-in-None : goal.returns-in-None
returns-in-None c =
    let config = c.args.config.now.value in
    let l = c.args.letter.now in
    noted_opened c.args.at l (opening config l.bytes) c.args.self.now.happened.items
    (ap (λ (bs : List ℕ). result_err (opening config bs)) (sym c.bytes.ensures) ∙ sym c.in_ok-fault.ensures ∙ c.in-None.is)
