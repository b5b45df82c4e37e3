-- Registers are their numbers.
use Rattle.std.proofs.Common.{◌≡◌, ℕ, ◌≤◌, Bool, true, false, cond, List, [], ◌∷◌, find, map, ap, subst, refl, Option, Some, None}
use Rattle.std.specs.Option.{option_map}
use Rattle.std.proofs.Math.Bridge.{le_prop}
use Rattle.std.specs.Str.{bytes_eq}
use Rattle.bpf_decode.specs.declared.insn.Reg.{Reg}
use Rattle.bpf_asm.specs.Operands.{register_text, number_text}

pub same_reg : (a b : Reg) → a.number ≡ b.number → a ≡ b
same_reg a b e =
    let P : ℕ → Type 0 = λ n. (q : n ≤ 10) → a ≡ record { number = n; in_range = q } in
    let base : P a.number = λ q. ap (λ (h : a.number ≤ 10). let r : Reg = record { number = a.number; in_range = h } in r) (le_prop a.in_range q) in
    subst P e base b.in_range

pub same_option : (o q : Option Reg) → option_map (λ r. r.number) o ≡ option_map (λ r. r.number) q → o ≡ q
same_option None None h = refl
same_option None (Some b) h = cc
same_option (Some a) None h = cc
same_option (Some a) (Some b) h =
    let e : a.number ≡ b.number = cc in
    ap Some (same_reg a b e)

pub find_numbers : (text : List ℕ) (rs : List Reg) → option_map (λ r. r.number) (find (λ r. bytes_eq (register_text r) text) rs) ≡ find (λ n. bytes_eq (number_text n) text) (map (λ r. r.number) rs)
find_numbers text [] = refl
find_numbers text (r ∷ rs) = by_test (bytes_eq (register_text r) text) (find_numbers text rs)
  where
    by_test : (b : Bool) → option_map (λ x. x.number) (find (λ x. bytes_eq (register_text x) text) rs) ≡ find (λ n. bytes_eq (number_text n) text) (map (λ x. x.number) rs) → option_map (λ x. x.number) (cond b (Some r) (find (λ x. bytes_eq (register_text x) text) rs)) ≡ cond b (Some r.number) (find (λ n. bytes_eq (number_text n) text) (map (λ x. x.number) rs))
    by_test true h = refl
    by_test false h = h
