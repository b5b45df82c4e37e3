-- Statement: what a text of lines comes to. Each line is added to what the lines before it came to; the first line that
-- can't be added is the text's fault, with its number.
use Rattle.std.specs.Prelude.{ℕ, ◌+◌, List, [], ◌∷◌, map, Result, Ok, Err}
use Rattle.std.proofs.Common.{Bor}

-- Lines as the texts that they are.
abbrev pub texts : List (Bor (List ℕ)) → List (List ℕ)
texts lines = map (λ line. line.now) lines

-- What follows a line that is added; at one that isn't, its fault and number.
abbrev pub behind : {S K : Type 0} → ℕ → Result S K → (S → Result S (K × ℕ)) → Result S (K × ℕ)
behind at (Ok more) rest = rest more
behind at (Err kind) rest = Err (kind, at)

-- What lines come to, the first of them with this number.
abbrev pub folded : {S K : Type 0} → (S → List ℕ → Result S K) → S → ℕ → List (List ℕ) → Result S (K × ℕ)
folded add so_far at [] = Ok so_far
folded add so_far at (line ∷ rest) = behind at (add so_far line) (λ more. folded add more (at + 1) rest)
