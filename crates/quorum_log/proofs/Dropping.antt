-- The slots of a number after those of lower views were dropped.
use Rattle.std.proofs.Common.{◌≡◌, ℕ, Bool, ◌==◌, ◌||◌, ◌&&◌, cond, None, sym, ap, ◌∙◌}
use Rattle.std.specs.Prelude.{filter, nat_lt}
use Rattle.std.specs.Ordering.{nat_cmp}
use Rattle.std.specs.BTreeMap as tree
use Rattle.std.specs.Map.{lookup}
use Rattle.std.specs.FinMap.{nat_cmp-IsAntisymmetric}
use Rattle.std.proofs.lemmas.Map.Entries.{lookup-filter-keys}
use Rattle.quorum_log.specs.declared.slot.Slot.{Slot}
use Rattle.ballots.proofs.Tables.{is_equal}

pub found_kept : (view : ℕ) (keeps : Bool) (v : ℕ) (old new : tree.BTreeMap ℕ Slot) → new.entries ≡ filter (λ e. nat_lt view e.0 || ((e.0 == view) && keeps)) old.entries
    → tree.get nat_cmp new v ≡ cond (nat_lt view v || ((v == view) && keeps)) (tree.get nat_cmp old v) None
found_kept view keeps v old new e =
    ap (λ es. lookup (tree.is_at (nat_cmp v)) es) e
    ∙ lookup-filter-keys (tree.is_at (nat_cmp v)) (λ k. nat_lt view k || ((k == view) && keeps)) (nat_lt view v || ((v == view) && keeps))
    (λ k is. ap (λ k. nat_lt view k || ((k == view) && keeps)) (sym (nat_cmp-IsAntisymmetric v k (is_equal (nat_cmp v k) is)))) old.entries
