use Rattle.std.proofs.Common.{ap, sym, subst, ◌∙◌, T}
use Rattle.std.specs.Iterator.Adapters.{rev_source}
use Rattle.std.specs.BTreeMap as tree
use Rattle.std.specs.FinMap.{is_sorted}
use Rattle.ballots.proofs.Tables.{by, sorted_by}
use Rattle.ballots.specs.Tables.{at, number_key}
use Rattle.checkpoints.specs.Kept.{KeptCheckpoints}
use Rattle.checkpoints.specs.Reading.{bytes_at_key, number_keys}
use Rattle.checkpoints.proofs.Keys.{snapshot_found}
use Rattle.checkpoints.proofs.Raising.{found_last, greatest_raised, last_raised, none_raised, passed_over}
use Rattle.checkpoints.proofs.table.Checkpoints.greatest_raised.Goals as goal

pub loop-number-preserved : goal.loop-number-preserved
loop-number-preserved c =
    let e = c.args.up_to.0 in
    passed_over c.args.self.now e _ _ (c.in-Some.number.now, c.in-Some.snapshot.now) (c.in-Some.ensures {u = tt}).steps
    (sym c.is_raised.ensures ∙ c.if-is_raised.false) ∙ c.loop-number.invariant

pub returns-then-is_raised : goal.returns-then-is_raised
returns-then-is_raised c =
    let e = c.args.up_to.0 in
    let all = ap rev_source c.into_iter-number-iterator.ensures.into_iter_gives ∙ c.rev-number-items.ensures.source ∙ c.iter.ensures.rest in
    let found = found_last c.args.self.now e _ _ (c.in-Some.number.now, c.in-Some.snapshot.now) (c.in-Some.ensures {u = tt}).steps
    (sym c.is_raised.ensures ∙ c.if-is_raised.true) in
    greatest_raised c.args.self.now e c.self.inside.snapshots.entries _
    (subst (λ (k : KeptCheckpoints). T (is_sorted by k.snapshots)) c.self.view_is (sorted_by (bytes_at_key c.self.inside.snapshots) (number_keys (tree.keys c.self.inside.snapshots)))) c.iter.ensures.ordered
    (λ m. sym (ap (λ (k : KeptCheckpoints). at k.snapshots (number_key m)) c.self.view_is) ∙ snapshot_found c.self.inside.snapshots (number_key m))
    (ap (last_raised c.args.self.now e) (sym all) ∙ sym c.loop-number.invariant ∙ found)

pub returns : goal.returns
returns c =
    let e = c.args.up_to.0 in
    let all = ap rev_source c.into_iter-number-iterator.ensures.into_iter_gives ∙ c.rev-number-items.ensures.source ∙ c.iter.ensures.rest in
    none_raised c.args.self.now e c.self.inside.snapshots.entries
    (λ m. sym (ap (λ (k : KeptCheckpoints). at k.snapshots (number_key m)) c.self.view_is) ∙ snapshot_found c.self.inside.snapshots (number_key m))
    (ap (last_raised c.args.self.now e) (sym all) ∙ sym c.loop-number.invariant ∙ ap (last_raised c.args.self.now e) (c.in-None.ensures {u = tt}).steps.0)
