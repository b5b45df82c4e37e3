-- What a choice comes to where its case is known.
use Rattle.std.proofs.Common.{◌≡◌, Bool, true, false, Option, Some, None, sym, subst}
use Rattle.std.specs.Prelude.{MatchBool, MatchOption}

pub match_true : (b : Bool) (P Q : Type 0) → b ≡ true → P → MatchBool b P Q
match_true true P Q e p = p
match_true false P Q e p = absurd (cc)

pub match_false : (b : Bool) (P Q : Type 0) → b ≡ false → Q → MatchBool b P Q
match_false true P Q e q = absurd (cc)
match_false false P Q e q = q

pub match_none : {X : Type 0} (o : Option X) (P : Type 0) (Q : X → Type 0) → o ≡ None → P → MatchOption o P Q
match_none None P Q e p = p
match_none (Some x) P Q e p = absurd (cc)

pub match_some : {X : Type 0} (o : Option X) (x : X) (P : Type 0) (Q : X → Type 0) → o ≡ Some x → Q x → MatchOption o P Q
match_some None x P Q e q = absurd (cc)
match_some {X = X} (Some y) x P Q e q = let same : y ≡ x = cc in subst Q (sym same) q
