-- The first line in which two texts differ.
use Rattle.std.proofs.Common.{◌≡◌, ℕ, ◌+◌, ◌<◌, ◌≤◌, Bool, List, [], ◌∷◌, length, drop, get_or, Some, None, ap, ◌∙◌, cond}
use Rattle.std.specs.Prelude.{◌==◌}
use Rattle.std.proofs.lemmas.Bool.{eq-eqb, ne_eqb}
use Rattle.std.proofs.lemmas.List.{drop_all, drop_more}
use Rattle.world_script.specs.Expecting.{differing_from}

-- behind a byte of a line
abbrev pub line_behind : ℕ → ℕ → ℕ
line_behind line b = cond (b == 10) (line + 1) line

-- at an index of both texts
at_both : (line i : ℕ) (es ps : List ℕ) → i < length es → i < length ps
    → differing_from line (drop i es) (drop i ps) ≡ differing_from line (get_or es i 0 ∷ drop (i + 1) es) (get_or ps i 0 ∷ drop (i + 1) ps)
at_both line i es ps below within =
    ap (λ (xs : List ℕ). differing_from line xs (drop i ps)) (drop_more es i 0 below)
    ∙ ap (λ (xs : List ℕ). differing_from line (get_or es i 0 ∷ drop (i + 1) es) xs) (drop_more ps i 0 within)

pub same_byte : (line i : ℕ) (es ps : List ℕ) → i < length es → i < length ps → get_or es i 0 ≡ get_or ps i 0
    → differing_from line (drop i es) (drop i ps) ≡ differing_from (line_behind line (get_or es i 0)) (drop (i + 1) es) (drop (i + 1) ps)
same_byte line i es ps below within same =
    at_both line i es ps below within
    ∙ ap (λ (t : Bool). cond t (differing_from (line_behind line (get_or es i 0)) (drop (i + 1) es) (drop (i + 1) ps)) (Some line)) (eq-eqb (get_or es i 0) (get_or ps i 0) same)

pub other_byte : (line i : ℕ) (es ps : List ℕ) → i < length es → i < length ps → (get_or es i 0 ≡ get_or ps i 0 → ⊥) → differing_from line (drop i es) (drop i ps) ≡ Some line
other_byte line i es ps below within other =
    at_both line i es ps below within
    ∙ ap (λ (t : Bool). cond t (differing_from (line_behind line (get_or es i 0)) (drop (i + 1) es) (drop (i + 1) ps)) (Some line)) (ne_eqb (get_or es i 0) (get_or ps i 0) other)

-- the second text ends first
pub ends_first : (line i : ℕ) (es ps : List ℕ) → i < length es → length ps ≤ i → differing_from line (drop i es) (drop i ps) ≡ Some line
ends_first line i es ps below past =
    ap (λ (xs : List ℕ). differing_from line xs (drop i ps)) (drop_more es i 0 below)
    ∙ ap (λ (xs : List ℕ). differing_from line (get_or es i 0 ∷ drop (i + 1) es) xs) (drop_all i ps past)

-- the first text ends first
pub goes_on : (line i : ℕ) (es ps : List ℕ) → length es ≤ i → i < length ps → differing_from line (drop i es) (drop i ps) ≡ Some line
goes_on line i es ps past below =
    ap (λ (xs : List ℕ). differing_from line xs (drop i ps)) (drop_all i es past)
    ∙ ap (λ (xs : List ℕ). differing_from line [] xs) (drop_more ps i 0 below)

pub both_end : (line i : ℕ) (es ps : List ℕ) → length es ≤ i → length ps ≤ i → differing_from line (drop i es) (drop i ps) ≡ None
both_end line i es ps past end =
    ap (λ (xs : List ℕ). differing_from line xs (drop i ps)) (drop_all i es past)
    ∙ ap (λ (xs : List ℕ). differing_from line [] xs) (drop_all i ps end)

-- the number of the line behind a byte
pub line_then : (line b : ℕ) → b ≡ 10 → line_behind line b ≡ line + 1
line_then line b is = ap (λ (x : ℕ). line_behind line x) is

pub line_else : (line b : ℕ) → (b ≡ 10 → ⊥) → line_behind line b ≡ line
line_else line b other = ap (λ (t : Bool). cond t (line + 1) line) (ne_eqb b 10 other)
