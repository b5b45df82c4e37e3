use Rattle.std.proofs.Common.{◌≡◌, ℕ, ◌+◌, ◌<◌, length}
use Rattle.std.specs.Prelude.{slice_get}
use Rattle.std.specs.Ordering.{nat_cmp}
use Rattle.std.specs.BTreeMap as tree
use Rattle.byz_world.proofs.records.history_of.Given as goal

abbrev pub invariant-loop-last : goal.invariant-loop-last
invariant-loop-last l =
    (length l.entries.items ≡ l.last)
    × ((n : ℕ) → n < l.last → slice_get l.entries.items n ≡ tree.get nat_cmp l.initial.noted.executed (n + 1))
    × ((n : ℕ) → l.last < n → tree.get nat_cmp l.noted.executed n ≡ tree.get nat_cmp l.initial.noted.executed n)
