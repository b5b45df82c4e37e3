-- What is printed: the lines of the first replicas, and an `upgrade`.
use Rattle.std.proofs.Common.{◌≡◌, ℕ, ◌+◌, List, [], ◌∷◌, ◌++◌, map, sym, ap, subst, ◌∙◌, arith}
use Rattle.std.specs.List.{flat_map, range_with_len}
use Rattle.std.proofs.lemmas.List.{flat_map_more, map-append}
use Rattle.host_types.specs.declared.ReplicaId.{ReplicaId}
use Rattle.script_text.specs.declared.script.Printout.{Printout}
use Rattle.script_text.specs.declared.script.Printout.TheVariants as printouts
use Rattle.world_script.specs.Facts.{StageFacts}
use Rattle.world_script.specs.Printing.{Shows, Upgrades}
use Rattle.world_script.proofs.Ranges.{range_push}

abbrev id_of : ℕ → ReplicaId
id_of n = record { 0 = n }

-- the first n ids
abbrev pub first_ids : ℕ → List ReplicaId
first_ids n = map id_of (range_with_len 0 n)

push : (n : ℕ) → first_ids (n + 1) ≡ first_ids n ++ id_of n ∷ []
push n = ap (map id_of) (range_push 0 n) ∙ map-append id_of (range_with_len 0 n) ((0 + n) ∷ []) ∙ ap (λ (k : ℕ). first_ids n ++ id_of k ∷ []) (same n) where
  same : (n : ℕ) → 0 + n ≡ n
  same n = omega arith

module _ (line : ReplicaId → List ℕ) where
  -- what the first n print
  abbrev pub text_of : ℕ → List ℕ
  text_of n = flat_map line (first_ids n)

  pub more_text : (n : ℕ) → text_of n ++ line (id_of n) ≡ text_of (n + 1)
  more_text n = flat_map_more line [] (first_ids n) (id_of n) ∙ ap (flat_map line) (sym (push n))

-- the canonical encoding of a state is printed, or that there is none
pub upgraded : (s : StageFacts) (p : Printout) (bytes given text : List ℕ) → p ≡ printouts.Upgrade bytes → given ≡ bytes → Upgrades s.world.config given text → Shows s p text
upgraded s p bytes given text is same u =
    subst (λ (x : Printout). Shows s x text) (sym is) (subst (λ (xs : List ℕ). Upgrades s.world.config xs text) same u)
