-- What holds where a call succeeded, and where it failed.
use Rattle.std.proofs.Common.{◌≡◌, Bor, Option, None, Some, refl, subst}
use Rattle.std.specs.Prelude.{Result, Ok, Err, IfOk, OnOk, OnErr, is_some}
use Rattle.std.specs.Option.{option_copied}

pub on_ok : {T E A B : Type 0} (r : Result T E) → OnOk r A → (A → B) → OnOk r B
on_ok (Ok x) a f = f a
on_ok (Err e) a f = a

pub if_ok : {T E : Type 0} {P Q : T → Type 0} (r : Result T E) → IfOk r P → ((x : T) → P x → Q x) → IfOk r Q
if_ok (Ok x) h f = f x h
if_ok (Err e) h f = h

pub either : {T E A B C : Type 0} (r : Result T E) → OnOk r A → OnErr r B → (A → C) → (B → C) → C
either (Ok x) a b f g = f a
either (Err e) a b f g = g b

-- there is what a reference points to where there is the reference
pub some_copied : {X : Type 0} (o : Option (Bor X)) → is_some o ≡ is_some (option_copied o)
some_copied None = refl
some_copied (Some x) = refl

-- what a call gave, of which something is known
pub given : {T E : Type 0} (P : T → Type 0) (r : Result T E) (x : T) → r ≡ Ok x → IfOk r P → P x
given {T} {E} P r x is h = subst (λ (y : Result T E). IfOk y P) is h

-- what is known of a call is known of what is passed on of it
pub passed : {T E F : Type 0} (P : T → Type 0) (r : Result T E) (q : Result T F) → IfOk q (λ x. r ≡ Ok x) → IfOk r P → IfOk q P
passed P r (Ok x) is h = given P r x is h
passed P r (Err e) is h = tt
