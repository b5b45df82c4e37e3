use Rattle.std.proofs.Common.{Some, ◌≡◌, ℕ, ◌<◌, arith, subst, ◌∙◌}
use Rattle.pbft_model.specs.Duties.{prepare_for}
use Rattle.pbft_model.specs.Setup.{setup_of}
use Rattle.replica_core.specs.declared.duties.Duty.TheVariants as duties
use Rattle.replica_core.proofs.Owed.{as_backup, found_inside, none_inside, same_due}
use Rattle.replica_core.proofs.kept.Core.due_prepare.Goals as goal

pub returns-in-Some : goal.returns-in-Some
returns-in-Some c =
    same_due (setup_of c.args.self.now.config) c.args.self.now.me c.args.self.now.core _ _ (Some (duties.Prepare c.number_at-number.result c.in-Some.digest)) (as_backup (setup_of c.args.self.now.config) c.args.self.now.me c.args.self.now.core c.requires c.if-leads.ensures)
    (found_inside (setup_of c.args.self.now.config) c.args.self.now.me c.args.self.now.core (prepare_for (setup_of c.args.self.now.config) c.args.self.now.me c.args.self.now.core) c.loop-index.index c.number_at-number.result.0 (duties.Prepare c.number_at-number.result c.in-Some.digest) c.loop-index.invariant (subst (λ (n : ℕ). c.loop-index.index < n) c.span-index-end.ensures c.loop-index-test.true) c.number_at-number.ensures c.in-Some.ensures)

pub returns : goal.returns
returns c =
    let last : c.loop-index.index ≡ c.span-index-end.result = omega (arith, c.loop-index-test.false, c.loop-index.auto.index-end) in
    as_backup (setup_of c.args.self.now.config) c.args.self.now.me c.args.self.now.core c.requires c.if-leads.ensures ∙ none_inside (setup_of c.args.self.now.config) c.args.self.now.core (prepare_for (setup_of c.args.self.now.config) c.args.self.now.me c.args.self.now.core) c.loop-index.index c.loop-index.invariant (last ∙ c.span-index-end.ensures)
