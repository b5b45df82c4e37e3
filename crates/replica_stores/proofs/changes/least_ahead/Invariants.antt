use Rattle.std.proofs.Common.{◌≡◌, filter, fold, None}
use Rattle.std.specs.BTreeMap as tree
use Rattle.std.specs.Option.{option_map}
use Rattle.replica_stores.specs.Changes.{is_ahead, least_with}
use Rattle.replica_stores.proofs.changes.least_ahead.Given as goal

abbrev pub invariant-loop-key : goal.invariant-loop-key
invariant-loop-key l = fold (λ least key. least_with least key.0) (option_map (λ w. w.0) l.least) (filter (is_ahead l.view.0 l.me.0) l.key-iterator)
    ≡ fold (λ least key. least_with least key.0) None (filter (is_ahead l.view.0 l.me.0) (tree.keys l.changes))
