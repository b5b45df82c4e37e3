use Rattle.std.proofs.Common.{ℕ, ◌≡◌, ◌+◌, List, ◌∷◌, ◌++◌, [], length, Some, sym, ◌∙◌, ap, subst, arith}
use Rattle.std.specs.Prelude.{slice_get}
use Rattle.std.specs.Ordering.{nat_cmp}
use Rattle.std.specs.BTreeMap as tree
use Rattle.std.proofs.lemmas.List.{length-append}
use Rattle.byz_world.specs.declared.history.Execution.{Execution}
use Rattle.byz_world.specs.Audits.{IsHistory}
use Rattle.byz_world.proofs.HistoryLaws.{made, next_entry, other_key}
use Rattle.byz_world.proofs.records.history_of.Goals as goal

pub loop-last-preserved : goal.loop-last-preserved
loop-last-preserved c =
    let items : c.push.new.self.items ≡ c.loop-last.entries.items ++ c.in-Some.entry ∷ [] = c.in_ok-push-in-Some.ensures.items in
    let here : tree.get nat_cmp c.args.noted.executed (c.loop-last.last + 1) ≡ Some c.in-Some.entry =
    sym (c.loop-last.invariant.2 (c.loop-last.last + 1) (omega arith)) ∙ sym c.remove.ensures.value ∙ c.in-Some.is in (
      ap length items ∙ length-append c.loop-last.entries.items (c.in-Some.entry ∷ []) ∙ ap (λ (n : ℕ). n + 1) c.loop-last.invariant.0,
      λ n below. subst (λ (xs : List Execution). slice_get xs n ≡ tree.get nat_cmp c.args.noted.executed (n + 1)) (sym items)
          (next_entry (tree.get nat_cmp c.args.noted.executed) c.loop-last.entries.items c.in-Some.entry c.loop-last.last c.loop-last.invariant.0 c.loop-last.invariant.1 here n below),
      λ n above. c.remove.ensures.updates.2 n (other_key (c.loop-last.last + 1) n above) ∙ c.loop-last.invariant.2 n (omega (arith, above)),
    )

pub returns : goal.returns
returns c = λ all noted.
    let last : c.loop-last.last ≡ c.args.noted.greatest = omega arith in
    subst (IsHistory all) (sym c.new.ensures)
    (made all c.args.noted c.loop-last.entries.items noted (c.loop-last.invariant.0 ∙ last) (λ n below. c.loop-last.invariant.1 n (omega (arith, below, last))))
