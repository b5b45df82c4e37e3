-- Whether a list of a document has an item.
use Rattle.std.proofs.Common.{◌≡◌, ℕ, Bool, not, ◌==◌, List, [], ◌∷◌, length, Option, Some, ap, refl, ◌∙◌}
use Rattle.std.proofs.Math.Dec.{eqb-suc-zero}
use Rattle.toml.specs.Data.{Items}
use Rattle.toml.specs.View.{items_view}
use Rattle.toml.specs.declared.value.Value.{Value}
use Rattle.script_text.specs.Dialects.{has_item}

not_empty : (xs : List Value) → not (length xs == 0) ≡ has_item (Some (items_view xs))
not_empty [] = refl
not_empty (x ∷ xs) = ap not (eqb-suc-zero (length xs))

pub has_items : (xs : List Value) (count : ℕ) (b : Bool) (o : Option Items) → count ≡ length xs → b ≡ (count == 0) → Some (items_view xs) ≡ o → not b ≡ has_item o
has_items xs count b o same is listed = ap not (is ∙ ap (λ n. n == 0) same) ∙ not_empty xs ∙ ap has_item listed
