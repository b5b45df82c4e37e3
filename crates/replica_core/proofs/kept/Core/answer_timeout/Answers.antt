use Rattle.std.proofs.lemmas.Result.{err_from_is_err_and}
use Rattle.pbft_model.specs.Rows.{TimedOut}
use Rattle.replica_core.specs.declared.row.Input.TheVariants as inputs
use Rattle.replica_core.proofs.Reacting.{begun_soundly, gives, stops_for}
use Rattle.replica_core.proofs.kept.Core.answer_timeout.Goals as goal

pub settle-requires : goal.settle-requires
settle-requires c = record { reached = begun_soundly c.args.self.now c.begin_timeout.new.self TimedOut c.requires.reached c.begin_timeout.ensures.begun }

pub returns : goal.returns
returns c =
    gives c.args.self.now c.begin_timeout.new.self c.settle.new.self c.give_row.new.self inputs.Timeout c.in_ok-give_row.field-0 c.requires.rest c.requires.reached
    c.begin_timeout.ensures.begun c.in_ok-settle.ensures.settled c.in_ok-give_row.ensures.row c.give_row.ensures.rest

pub returns-in_err-settle : goal.returns-in_err-settle
returns-in_err-settle c =
    let p = err_from_is_err_and c.from_residual.result c.from_residual.ensures.1 in
    rw (p.1, p.2) (stops_for c.args.self.now c.begin_timeout.new.self TimedOut c.in_err-settle.field-0.0 c.begin_timeout.ensures.begun c.in_err-settle.ensures.halted)
