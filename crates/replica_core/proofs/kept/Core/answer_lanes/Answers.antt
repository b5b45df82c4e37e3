use Rattle.std.proofs.Common.{subst, ◌∙◌}
use Rattle.std.proofs.lemmas.Result.{err_from_is_err_and}
use Rattle.pbft_model.specs.Rows.{Received}
use Rattle.seal.specs.Opening.{CheckedMessage}
use Rattle.pbft_model.specs.Setup.{setup_of}
use Rattle.replica_core.specs.Answering.{IsRowOf}
use Rattle.replica_core.specs.declared.row.Input.TheVariants as inputs
use Rattle.replica_core.proofs.Reacting.{begun_soundly, gives, short_of_memory, stops_for}
use Rattle.replica_core.proofs.kept.Core.answer_lanes.Goals as goal

pub settle_lanes-requires-clause-reached : goal.settle_lanes-requires-clause-reached
settle_lanes-requires-clause-reached g c κs within = begun_soundly c.args.self c.begin.new.self (Received c.args.message.now.message) c.requires.reached c.in_ok-begin.ensures.begun

pub returns-clause-row : goal.returns-clause-row
returns-clause-row g c =
    gives c.args.self c.begin.new.self c.in_ok-core.core c.give_row.new.self (inputs.Message c.args.message.now) c.in_ok-row.row c.requires.rest c.requires.reached
    c.in_ok-begin.ensures.begun c.in_ok-core.ensures.settled
    (subst (λ (m : CheckedMessage). IsRowOf c.in_ok-core.core (inputs.Message m) c.in_ok-row.row) c.in_ok-copy.ensures c.in_ok-row.ensures.row) c.give_row.ensures.rest

pub returns-in_err-core-clause-halt : goal.returns-in_err-core-clause-halt
returns-in_err-core-clause-halt g c =
    let p = err_from_is_err_and c.from_residual-in_err-core.result c.from_residual-in_err-core.ensures.1 in
    rw (p.1, p.2) (stops_for c.args.self c.begin.new.self (Received c.args.message.now.message) c.in_err-core.field-0.0 c.in_ok-begin.ensures.begun c.in_err-core.ensures.halted)

pub returns-in_err-begin-clause-halt : goal.returns-in_err-begin-clause-halt
returns-in_err-begin-clause-halt g c =
    let p = err_from_is_err_and c.from_residual.result c.from_residual.ensures.1 in
    rw p.1 (short_of_memory (setup_of c.args.self.config) c.args.self.me c.args.self.core (Received c.args.message.now.message) p.0 (p.2 ∙ c.in_err-begin.ensures.memory))

pub returns-in_err-copy-clause-halt : goal.returns-in_err-copy-clause-halt
returns-in_err-copy-clause-halt g c =
    let p = err_from_is_err_and c.from_residual-in_err-copy.result c.from_residual-in_err-copy.ensures.1 in
    rw p.1 (short_of_memory (setup_of c.args.self.config) c.args.self.me c.args.self.core (Received c.args.message.now.message) p.0 p.2)

pub returns-in_err-row-clause-halt : goal.returns-in_err-row-clause-halt
returns-in_err-row-clause-halt g c =
    let p = err_from_is_err_and c.from_residual-in_err-row.result c.from_residual-in_err-row.ensures.1 in
    rw p.1 (short_of_memory (setup_of c.args.self.config) c.args.self.me c.args.self.core (Received c.args.message.now.message) p.0 p.2)
