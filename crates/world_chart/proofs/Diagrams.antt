-- A sequence diagram, piece by piece.
use Rattle.std.proofs.Common.{◌≡◌, ℕ, suc, ◌+◌, ◌<◌, List, [], ◌∷◌, ◌++◌, length, get_or, map, take, sym, ap, ◌∙◌, arith}
use Rattle.std.specs.Prelude.{String}
use Rattle.std.specs.String.{string_bytes}
use Rattle.std.specs.declared.alloc.Global.{Global}
use Rattle.std.proofs.lemmas.List.{append-nil, append_assoc, length-map, length-take-le, map-append, take_more}
use Rattle.world_chart.specs.Diagrams.{participant_line, participants}

participants_more : (lane : ℕ) (names : List (List ℕ)) (name : List ℕ) → participants lane (names ++ name ∷ []) ≡ participants lane names ++ participant_line (lane + length names) name
participants_more lane [] name = append-nil (participant_line lane name) ∙ ap (λ (n : ℕ). participant_line n name) (none lane) where
  none : (n : ℕ) → n ≡ n + 0
  none n = omega arith
participants_more lane (x ∷ xs) name =
    ap (λ (bs : List ℕ). participant_line lane x ++ bs) (participants_more (lane + 1) xs name ∙ ap (λ (n : ℕ). participants (lane + 1) xs ++ participant_line n name) (counted lane (length xs)))
    ∙ sym (append_assoc (participant_line lane x) (participants (lane + 1) xs) (participant_line (lane + suc (length xs)) name)) where
      counted : (n m : ℕ) → (n + 1) + m ≡ n + suc m
      counted n m = omega arith

-- One more lane is added.
pub lane_more : (names : List (String Global)) (i : ℕ) (x : String Global) (lane : ℕ) (old text new : List ℕ) → i < length names → x ≡ get_or names i x → lane ≡ i
    → text ≡ old ++ participants 0 (map (λ (name : String Global). string_bytes name) (take i names)) → new ≡ text ++ participant_line lane (string_bytes x)
    → new ≡ old ++ participants 0 (map (λ (name : String Global). string_bytes name) (take (i + 1) names))
lane_more names i x lane old text new below read same so more =
    more ∙ ap (λ (bs : List ℕ). bs ++ participant_line lane (string_bytes x)) so ∙ append_assoc old (participants 0 (map bytes (take i names))) (participant_line lane (string_bytes x))
    ∙ ap (λ (bs : List ℕ). old ++ bs)
    (ap (λ (n : ℕ). participants 0 (map bytes (take i names)) ++ participant_line n (string_bytes x)) (same ∙ counted) ∙ sym (participants_more 0 (map bytes (take i names)) (string_bytes x))
    ∙ ap (participants 0)
    (sym (ap (map bytes) (take_more names i x below ∙ ap (λ (y : String Global). take i names ++ y ∷ []) (sym read)) ∙ map-append bytes (take i names) (x ∷ [])))) where
      bytes : String Global → List ℕ
      bytes = λ name. string_bytes name

      counted : i ≡ 0 + length (map bytes (take i names))
      counted = let a = length-map (take i names) bytes in let b = length-take-le i names (omega (arith, below)) in omega (arith, a, b)

pub whole : (a p r b e t0 t1 t2 t3 t4 : List ℕ) → t0 ≡ a → t1 ≡ t0 ++ p → t2 ≡ t1 ++ r → t3 ≡ t2 ++ b → t4 ≡ t3 ++ e → t4 ≡ a ++ (p ++ (r ++ (b ++ e)))
whole a p r b e t0 t1 t2 t3 t4 h0 h1 h2 h3 h4 =
    h4 ∙ ap (λ (bs : List ℕ). bs ++ e) (h3 ∙ ap (λ (bs : List ℕ). bs ++ b) (h2 ∙ ap (λ (bs : List ℕ). bs ++ r) (h1 ∙ ap (λ (bs : List ℕ). bs ++ p) h0)))
    ∙ append_assoc ((a ++ p) ++ r) b e ∙ append_assoc (a ++ p) r (b ++ e) ∙ append_assoc a p (r ++ (b ++ e))
