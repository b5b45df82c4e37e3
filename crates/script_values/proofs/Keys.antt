-- The keys of a table, as a map and as members.
use Rattle.std.proofs.Common.{◌≡◌, ℕ, List, [], ◌∷◌, Bool, ◌&&◌, ◌||◌, map, refl, ap, ◌∙◌, String, string_bytes, Bor, Global}
use Rattle.std.specs.Prelude.{bytes_eq}
use Rattle.std.specs.List.{list_all, list_any}
use Rattle.toml.specs.View.{members_view}
use Rattle.toml.specs.declared.value.Value.{Value}
use Rattle.script_values.specs.Forms.{has_only, is_one_of}

any_now : (key : List ℕ) (keys : List (Bor (List ℕ))) → list_any (λ k. bytes_eq key k.now) keys ≡ is_one_of (map (λ k. k.now) keys) key
any_now key [] = refl
any_now key (k ∷ keys) = ap (λ (b : Bool). bytes_eq key k.now || b) (any_now key keys)

pub only_among : (keys : List (Bor (List ℕ))) (es : List (String Global × Value)) → list_all (λ key. list_any (λ k. bytes_eq (string_bytes key) k.now) keys) (map (λ e. e.0) es) ≡ has_only (map (λ k. k.now) keys) (members_view es)
only_among keys [] = refl
only_among keys (e ∷ es) =
    ap (λ (b : Bool). b && list_all (λ key. list_any (λ k. bytes_eq (string_bytes key) k.now) keys) (map (λ x. x.0) es)) (any_now (string_bytes e.0) keys)
    ∙ ap (λ (b : Bool). is_one_of (map (λ k. k.now) keys) (string_bytes e.0) && b) (only_among keys es)
