-- The number that digits write, as it is read digit by digit.
use Rattle.std.proofs.Common.{◌≡◌, ℕ, zero, suc, ◌<◌, ◌≤◌, ◌+◌, ◌*◌, ◌^◌, Bool, true, false, cond, ◌&&◌, nat_lt, List, [], ◌∷◌, length, drop, take, get_or, Some, None, ap, sym, ◌∙◌, refl, arith}
use Rattle.std.specs.List.{list_all}
use Rattle.std.specs.Char.{digit_value}
use Rattle.std.specs.Str.Parse.{digits_value}
use Rattle.std.proofs.lemmas.Str.Parse.{digits_value-take-le}
use Rattle.std.proofs.lemmas.Int.Digits.{digits_value_more}
use Rattle.std.proofs.Math.Seq.{take_all}
use borrow.Author.Tests.{lt-true, le-false}
use Rattle.bpf_asm.specs.Operands.{numeral}

mid_false : (a b c : Bool) → b ≡ false → (a && b && c) ≡ false
mid_false true b c h = ap (λ (x : Bool). x && c) h
mid_false false b c h = refl

end_false : (a b c : Bool) → c ≡ false → (a && b && c) ≡ false
end_false true true c h = h
end_false true false c h = refl
end_false false b c h = refl

all_true : (a b c : Bool) → a ≡ true → b ≡ true → c ≡ true → (a && b && c) ≡ true
all_true true true c ha hb hc = hc
all_true true false c ha hb hc = hb
all_true false b c ha hb hc = ha

pub numeral_no : (radix : ℕ) (ds : List ℕ) → list_all (λ c. nat_lt (digit_value c) radix) ds ≡ false → numeral radix ds ≡ None
numeral_no radix ds h =
    ap (λ (b : Bool). cond b (Some (digits_value radix ds)) None)
    (mid_false (nat_lt 0 (length ds)) (list_all (λ c. nat_lt (digit_value c) radix) ds) (nat_lt (digits_value radix ds) (2 ^ 64)) h)

over : (radix : ℕ) (ds : List ℕ) → 2 ^ 64 ≤ digits_value radix ds → numeral radix ds ≡ None
over radix ds h =
    ap (λ (b : Bool). cond b (Some (digits_value radix ds)) None)
    (end_false (nat_lt 0 (length ds)) (list_all (λ c. nat_lt (digit_value c) radix) ds) (nat_lt (digits_value radix ds) (2 ^ 64)) (sym (le-false (digits_value radix ds) (2 ^ 64) h)))

pub numeral_over : (radix : ℕ) (ds : List ℕ) (i : ℕ) → i < length ds → 2 ≤ radix → 2 ^ 64 ≤ digits_value radix (take i ds) * radix + digit_value (get_or ds i 0) → numeral radix ds ≡ None
numeral_over radix ds i l r h =
    let e = digits_value_more radix ds i l in
    let le = digits_value-take-le radix ds (i + 1) (omega arith) in
    over radix ds (omega arith)

pub numeral_is : (radix : ℕ) (ds : List ℕ) → 0 < length ds → list_all (λ c. nat_lt (digit_value c) radix) ds ≡ true → digits_value radix ds < 2 ^ 64 → numeral radix ds ≡ Some (digits_value radix ds)
numeral_is radix ds n a s =
    ap (λ (b : Bool). cond b (Some (digits_value radix ds)) None)
    (all_true (nat_lt 0 (length ds)) (list_all (λ c. nat_lt (digit_value c) radix) ds) (nat_lt (digits_value radix ds) (2 ^ 64)) (sym (lt-true 0 (length ds) n)) a (sym (lt-true (digits_value radix ds) (2 ^ 64) s)))

drop_all : {X : Type 0} (n : ℕ) (xs : List X) → length xs ≤ n → drop n xs ≡ []
drop_all zero [] h = refl
drop_all zero (x ∷ xs) h = absurd (omega arith)
drop_all (suc n) [] h = refl
drop_all (suc n) (x ∷ xs) h = drop_all n xs (omega arith)

pub numeral_end : (radix : ℕ) (ds : List ℕ) (n v : ℕ) → n ≡ length ds → v ≡ digits_value radix (take n ds) → list_all (λ c. nat_lt (digit_value c) radix) ds ≡ list_all (λ c. nat_lt (digit_value c) radix) (drop n ds) → 0 < length ds → v < 2 ^ 64 → Some v ≡ numeral radix ds
numeral_end radix ds n v e h a l s =
    let t : take n ds ≡ ds = take_all n ds (omega arith) in
    let d : drop n ds ≡ [] = drop_all n ds (omega arith) in
    let w : v ≡ digits_value radix ds = h ∙ ap (λ (xs : List ℕ). digits_value radix xs) t in
    let q : digits_value radix ds < 2 ^ 64 = omega arith in
    let all : list_all (λ c. nat_lt (digit_value c) radix) ds ≡ true = a ∙ ap (λ (xs : List ℕ). list_all (λ c. nat_lt (digit_value c) radix) xs) d in
    ap Some w ∙ sym (numeral_is radix ds l all q)

pub ruleset numerals = (numeral_no, numeral_over, numeral_end, digits_value_more)
