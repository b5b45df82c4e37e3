use Rattle.std.proofs.Common.{ap, refl, sym, ◌∙◌}
use Rattle.std.specs.Result.{is_ok}
use Rattle.host_types.specs.Configuration.{Configuration}
use Rattle.pbft_model.specs.Validity.{new_view_fault}
use Rattle.replica_stores.specs.Faults.{answer}
use Rattle.pbft_model.specs.Setup.{setup_of}
use Rattle.replica_core.specs.Replicas.{KeptReplica}
use Rattle.replica_core.proofs.Arrivals.{enter_elsewhere, enter_faulty, enter_here}
use Rattle.replica_core.proofs.kept.Core.due_enter.Goals as goal
use Rattle.replica_core.proofs.kept.Core.due_enter.Goals.{else-is_awaited-via-then-is_awaited+else-is_ok, else-is_awaited-via-else-is_awaited}

pub valid_new_view-requires-clause-under : goal.valid_new_view-requires-clause-under
valid_new_view-requires-clause-under c = c.requires.under ∙ ap (λ (k : KeptReplica). k.config) (sym c.self.view_is) ∙ sym c.deref.ensures

pub returns-then-is_ok : goal.returns-then-is_ok
returns-then-is_ok c =
    let is = sym c.body.ensures.value ∙ c.in-NewView.is in
    let config = c.deref.ensures ∙ ap (λ (k : KeptReplica). k.config) c.self.view_is in (
      refl,
      enter_here (setup_of c.args.self.now.config) c.args.self.now.core c.args.message.now.message c.in-NewView.opened c.requires.taken is (sym c.if-is_awaited.ensures)
          (ap (λ (x : Configuration). is_ok (answer (new_view_fault (setup_of x) c.in-NewView.opened))) (sym config) ∙ ap is_ok (sym (c.valid_new_view.ensures c.in-NewView.opened is)) ∙ sym c.if-is_ok.ensures.value),
    )

pub returns-else-is_awaited : goal.returns-else-is_awaited
returns-else-is_awaited c =
    let is = sym c.body.ensures.value ∙ c.in-NewView.is in
    elim c.else-is_awaited.branch [
      | else-is_awaited-via-then-is_awaited+else-is_ok w ↦
          let config = w.deref.ensures ∙ ap (λ (k : KeptReplica). k.config) c.self.view_is in
          enter_faulty (setup_of c.args.self.now.config) c.args.self.now.core c.args.message.now.message c.in-NewView.opened c.requires.taken is (sym w.if-is_awaited.ensures)
          (ap (λ (x : Configuration). is_ok (answer (new_view_fault (setup_of x) c.in-NewView.opened))) (sym config) ∙ ap is_ok (sym (w.valid_new_view.ensures c.in-NewView.opened is)) ∙ sym w.if-is_ok.ensures.value)
      | else-is_awaited-via-else-is_awaited w ↦
          enter_elsewhere (setup_of c.args.self.now.config) c.args.self.now.core c.args.message.now.message c.in-NewView.opened c.requires.taken is (sym w.if-is_awaited.ensures)
    ]
