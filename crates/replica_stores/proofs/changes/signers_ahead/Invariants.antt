use Rattle.std.proofs.Common.{◌≡◌, ℕ, ◌||◌, filter}
use Rattle.std.specs.Prelude.{◌==◌}
use Rattle.std.specs.BTreeMap as tree
use Rattle.std.specs.FinSet as set
use Rattle.std.specs.List.{list_any}
use Rattle.replica_stores.specs.Changes.{is_ahead}
use Rattle.replica_stores.proofs.changes.signers_ahead.Given as goal

abbrev pub invariant-loop-key : goal.invariant-loop-key
invariant-loop-key l = (i : ℕ) → (set.contains l.signers i || list_any (λ key. key.1 == i) (filter (is_ahead l.view.0 l.me.0) l.key-iterator))
    ≡ list_any (λ key. key.1 == i) (filter (is_ahead l.view.0 l.me.0) (tree.keys l.changes))
