use Rattle.pbft_model.specs.Setup.{setup_of}
use Rattle.replica_core.proofs.Owed.{is_fetch_state, is_in_view, is_join, is_last, is_open}
use Rattle.replica_core.proofs.kept.Core.due.Goals as goal

pub returns-in-Some-due_in_view : goal.returns-in-Some-due_in_view
returns-in-Some-due_in_view c =
    is_in_view (setup_of c.args.self.now.config) c.args.self.now.me c.args.self.now.core c.in-Some-due_in_view.duty c.in_default.ensures c.in_default-due_on_taken.ensures c.in_default-due_rise.ensures c.in-Some-due_in_view.ensures

pub returns-in-Some-due_join : goal.returns-in-Some-due_join
returns-in-Some-due_join c =
    is_join (setup_of c.args.self.now.config) c.args.self.now.me c.args.self.now.core c.in-Some-due_join.duty c.in_default.ensures c.in_default-due_on_taken.ensures c.in_default-due_rise.ensures c.in_default-due_in_view.ensures c.in-Some-due_join.ensures

pub returns-in-Some-due_open : goal.returns-in-Some-due_open
returns-in-Some-due_open c =
    is_open (setup_of c.args.self.now.config) c.args.self.now.me c.args.self.now.core c.in-Some-due_open.duty c.in_default.ensures c.in_default-due_on_taken.ensures c.in_default-due_rise.ensures c.in_default-due_in_view.ensures c.in_default-due_join.ensures c.in-Some-due_open.ensures

pub returns-in-Some-due_fetch_state : goal.returns-in-Some-due_fetch_state
returns-in-Some-due_fetch_state c =
    is_fetch_state (setup_of c.args.self.now.config) c.args.self.now.me c.args.self.now.core c.in-Some-due_fetch_state.duty c.in_default.ensures c.in_default-due_on_taken.ensures c.in_default-due_rise.ensures c.in_default-due_in_view.ensures c.in_default-due_join.ensures c.in_default-due_open.ensures c.in-Some-due_fetch_state.ensures

pub returns : goal.returns
returns c =
    is_last (setup_of c.args.self.now.config) c.args.self.now.me c.args.self.now.core c.due_fetch_request.result c.in_default.ensures c.in_default-due_on_taken.ensures c.in_default-due_rise.ensures c.in_default-due_in_view.ensures c.in_default-due_join.ensures c.in_default-due_open.ensures c.in_default-due_fetch_state.ensures c.due_fetch_request.ensures
