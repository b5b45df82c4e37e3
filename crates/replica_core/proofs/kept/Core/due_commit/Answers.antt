use Rattle.std.proofs.Common.{Some, ◌≡◌, ℕ, ◌<◌, arith, subst, ◌∙◌}
use Rattle.pbft_model.specs.Duties.{commit_for}
use Rattle.pbft_model.specs.Setup.{setup_of}
use Rattle.replica_core.specs.declared.duties.Duty.TheVariants as duties
use Rattle.replica_core.proofs.Owed.{as_active, found_inside, none_inside, one_more, same_due}
use Rattle.replica_core.proofs.kept.Core.due_commit.Goals as goal

pub returns-in-Some : goal.returns-in-Some
returns-in-Some c =
    same_due (setup_of c.args.self.now.config) c.args.self.now.me c.args.self.now.core _ _ (Some (duties.Commit c.number_at-number.result c.in-Some.digest)) (as_active (setup_of c.args.self.now.config) c.args.self.now.me c.args.self.now.core c.requires)
    (found_inside (setup_of c.args.self.now.config) c.args.self.now.me c.args.self.now.core (commit_for (setup_of c.args.self.now.config) c.args.self.now.me c.args.self.now.core) c.loop-index.index c.number_at-number.result.0 (duties.Commit c.number_at-number.result c.in-Some.digest) c.loop-index.invariant (subst (λ (n : ℕ). c.loop-index.index < n) c.span-index-end.ensures c.loop-index-test.true) c.number_at-number.ensures c.in-Some.ensures)

pub loop-index-preserved : goal.loop-index-preserved
loop-index-preserved c = one_more c.args.self.now.core (commit_for (setup_of c.args.self.now.config) c.args.self.now.me c.args.self.now.core) c.loop-index.index c.number_at-number.result.0 c.loop-index.invariant c.number_at-number.ensures c.in_default.ensures

pub returns : goal.returns
returns c =
    let last : c.loop-index.index ≡ c.span-index-end.result = omega (arith, c.loop-index-test.false, c.loop-index.auto.index-end) in
    as_active (setup_of c.args.self.now.config) c.args.self.now.me c.args.self.now.core c.requires ∙ none_inside (setup_of c.args.self.now.config) c.args.self.now.core (commit_for (setup_of c.args.self.now.config) c.args.self.now.me c.args.self.now.core) c.loop-index.index c.loop-index.invariant (last ∙ c.span-index-end.ensures)
