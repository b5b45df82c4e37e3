use Rattle.std.proofs.Common.{subst}
use Rattle.std.proofs.lemmas.Result.{err_from_is_err_and}
use Rattle.pbft_model.specs.Rows.{Received}
use Rattle.seal.specs.Opening.{CheckedMessage}
use Rattle.replica_core.specs.Answering.{IsRowOf}
use Rattle.replica_core.specs.declared.row.Input.TheVariants as inputs
use Rattle.replica_core.proofs.Reacting.{begun_soundly, gives, stops_for}
use Rattle.replica_core.proofs.kept.Core.answer.Goals as goal

pub settle-requires : goal.settle-requires
settle-requires c = record { reached = begun_soundly c.args.self.now c.begin.new.self (Received c.args.message.now.message) c.requires.reached c.in_ok-begin.ensures.begun }

pub returns : goal.returns
returns c =
    gives c.args.self.now c.begin.new.self c.settle.new.self c.give_row.new.self (inputs.Message c.args.message.now) c.in_ok-give_row.field-0 c.requires.rest c.requires.reached
    c.in_ok-begin.ensures.begun c.in_ok-settle.ensures.settled
    (subst (λ (m : CheckedMessage). IsRowOf c.settle.new.self (inputs.Message m) c.in_ok-give_row.field-0) c.in_ok-copy.ensures c.in_ok-give_row.ensures.row) c.give_row.ensures.rest

pub returns-in_err-settle : goal.returns-in_err-settle
returns-in_err-settle c =
    let p = err_from_is_err_and c.from_residual-in_err-settle.result c.from_residual-in_err-settle.ensures.1 in
    rw (p.1, p.2) (stops_for c.args.self.now c.begin.new.self (Received c.args.message.now.message) c.in_err-settle.field-0.0 c.in_ok-begin.ensures.begun c.in_err-settle.ensures.halted)
