use Rattle.std.proofs.Common.{◌≡◌, ℕ, ◌+◌, ◌++◌, ◌∷◌, [], List, map, ap, sym, ◌∙◌, arith}
use Rattle.std.specs.List.{range_with_len}
use Rattle.std.proofs.lemmas.List.{map-append}
use Rattle.script_text.specs.Node.{Node}
use Rattle.script_text.specs.Node.TheVariants.{Replica}
use Rattle.world_script.proofs.Ranges.{range_push}
use Rattle.world_script.proofs.stage.everyone.Goals as goal

abbrev node_at : ℕ → Node
node_at id = Replica (record { 0 = id })

abbrev nodes : List ℕ → List Node
nodes ids = map Replica (map (λ (id : ℕ). record { 0 = id }) ids)

nodes_push : (xs : List ℕ) (x : ℕ) → nodes (xs ++ x ∷ []) ≡ nodes xs ++ node_at x ∷ []
nodes_push xs x = ap (map Replica) (map-append (λ (id : ℕ). record { 0 = id }) xs (x ∷ [])) ∙ map-append Replica (map (λ (id : ℕ). record { 0 = id }) xs) (record { 0 = x } ∷ [])

from_zero : (n : ℕ) → range_with_len 0 (n + 1) ≡ range_with_len 0 n ++ n ∷ []
from_zero n = range_push 0 n ∙ ap (λ (k : ℕ). range_with_len 0 n ++ k ∷ []) (same n) where
  same : (n : ℕ) → 0 + n ≡ n
  same n = omega arith

pub loop-id-preserved : goal.loop-id-preserved
loop-id-preserved c =
    c.in_ok-push.ensures.items ∙ ap (λ (ps : List Node). ps ++ node_at c.loop-id.id ∷ []) c.loop-id.invariant
    ∙ sym (ap nodes (from_zero c.loop-id.id) ∙ nodes_push (range_with_len 0 c.loop-id.id) c.loop-id.id)
