-- Options, tests and elements of lists.
use Rattle.std.proofs.Common.{◌≡◌, Bool, true, false, ◌&&◌, not, cond, Option, Some, None, List, [], ◌∷◌, ◌++◌, refl, inl, inr}
use Rattle.std.specs.Prelude.{IsSome}
use Rattle.std.specs.Option.{option_map}
use Rattle.bpf_num.specs.Bind.{◌>>=◌}
use Rattle.bpf_model.specs.AbstractState.{IsOneOf}

pub some_of : {A : Type 0} (o : Option A) → IsSome o → (x : A) × (o ≡ Some x)
some_of None h = absurd cc
some_of (Some x) h = (x, refl)

pub is_some_of : {A : Type 0} (o : Option A) (x : A) → o ≡ Some x → IsSome o
is_some_of None x e = absurd cc
is_some_of (Some y) x e = refl

pub and_true : (a b : Bool) → (a && b) ≡ true → (a ≡ true) × (b ≡ true)
and_true true b e = (refl, e)
and_true false b e = absurd cc

-- a chain of tests that finds nothing
pub no_fault : {X : Type 0} (a b c : Bool) (m n k : X) → cond a (Some m) (cond b (Some n) (cond c (Some k) None)) ≡ None → (a ≡ false) × (b ≡ false) × (c ≡ false)
no_fault true b c m n k e = absurd cc
no_fault false true c m n k e = absurd cc
no_fault false false true m n k e = absurd cc
no_fault false false false m n k e = (refl, refl, refl)

pub all_three : {X : Type 0} (a b c : Bool) (m n k : X) → cond (not a) (Some m) (cond (not b) (Some n) (cond (not c) (Some k) None)) ≡ None → (a ≡ true) × (b ≡ true) × (c ≡ true)
all_three false b c m n k e = absurd cc
all_three true false c m n k e = absurd cc
all_three true true false m n k e = absurd cc
all_three true true true m n k e = (refl, refl, refl)

pub no_fault_of_five : {X : Type 0} (a b c d e : Bool) (m n k l o : X) → cond a (Some m) (cond b (Some n) (cond c (Some k) (cond d (Some l) (cond e (Some o) None)))) ≡ None → (a ≡ false) × (b ≡ false) × (c ≡ false) × (d ≡ false) × (e ≡ false)
no_fault_of_five true b c d e m n k l o h = absurd cc
no_fault_of_five false true c d e m n k l o h = absurd cc
no_fault_of_five false false true d e m n k l o h = absurd cc
no_fault_of_five false false false true e m n k l o h = absurd cc
no_fault_of_five false false false false true m n k l o h = absurd cc
no_fault_of_five false false false false false m n k l o h = (refl, refl, refl, refl, refl)

pub no_fault_of_four : {X : Type 0} (a b c d : Bool) (m n k l : X) → cond (not a) (Some m) (cond (not b) (Some n) (cond (not c) (Some k) (cond d (Some l) None))) ≡ None → (a ≡ true) × (b ≡ true) × (c ≡ true) × (d ≡ false)
no_fault_of_four false b c d m n k l h = absurd cc
no_fault_of_four true false c d m n k l h = absurd cc
no_fault_of_four true true false d m n k l h = absurd cc
no_fault_of_four true true true true m n k l h = absurd cc
no_fault_of_four true true true false m n k l h = (refl, refl, refl, refl)

pub IsOneOf-left : {X : Type 0} (x : X) (xs ys : List X) → IsOneOf x xs → IsOneOf x (xs ++ ys)
IsOneOf-left x [] ys h = absurd h
IsOneOf-left x (y ∷ xs) ys (inl e) = inl e
IsOneOf-left x (y ∷ xs) ys (inr h) = inr (IsOneOf-left x xs ys h)

pub IsOneOf-right : {X : Type 0} (x : X) (xs ys : List X) → IsOneOf x ys → IsOneOf x (xs ++ ys)
IsOneOf-right x [] ys h = h
IsOneOf-right x (y ∷ xs) ys h = inr (IsOneOf-right x xs ys h)

pub some_is : {A : Type 0} (x y : A) → Some x ≡ Some y → x ≡ y
some_is x y e = cc

pub map_some : {A B : Type 0} (f : A → B) (o : Option A) (y : B) → option_map f o ≡ Some y → (x : A) × (o ≡ Some x) × (f x ≡ y)
map_some f None y e = absurd cc
map_some f (Some x) y e = (x, refl, some_is (f x) y e)

-- what a chain of partial functions gives came from each of them
pub bind_some : {A B : Type 0} (o : Option A) (f : A → Option B) (y : B) → (o >>= f) ≡ Some y → (x : A) × (o ≡ Some x) × (f x ≡ Some y)
bind_some None f y e = absurd cc
bind_some (Some x) f y e = (x, refl, e)
