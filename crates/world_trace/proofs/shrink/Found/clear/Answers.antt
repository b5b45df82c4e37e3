use Rattle.std.proofs.Common.{◌≡◌, ◌∙◌, List, [], ◌∷◌, ℕ, zero, suc, get_or, set, refl, ap, rules, subst, sym}
use Rattle.std.specs.Prelude.{IsTrue, Vec}
use Rattle.std.specs.declared.alloc.Global.{Global}
use Rattle.std.proofs.lemmas.List.{set-get_or}
use Rattle.world_trace.specs.Shrinking.{IsFoundBy}
use Rattle.world_trace.proofs.shrink.Found.clear.Goals as goal

set_twice : (xs : List (Vec ℕ Global)) (i : ℕ) (a b : Vec ℕ Global) → set (set xs i a) i b ≡ set xs i b
set_twice [] i a b = refl
set_twice (x ∷ xs) zero a b = refl
set_twice (x ∷ xs) (suc i) a b = ap (λ (ys : List (Vec ℕ Global)). x ∷ ys) (set_twice xs i a b)

restored : (xs : List (Vec ℕ Global)) (i : ℕ) (new old d : Vec ℕ Global) → old ≡ get_or xs i d → set (set xs i new) i old ≡ xs
restored xs i new old d is = set_twice xs i new old ∙ ap (set xs i) is ∙ set-get_or xs i d

pub returns-then-not-branch : goal.returns-then-not-branch
returns-then-not-branch c =
    subst (λ (xs : List (Vec ℕ Global)). IsFoundBy c.args.self.script.now c.args.self.finding xs)
    (sym (restored c.args.choices.now.items c.args.index c.replace-old.new.dest c.replace-old.result c.index_mut.result.now (c.replace-old.ensures.value ∙ c.index_mut.ensures.value))) c.requires.found

pub returns-else-not-branch : goal.returns-else-not-branch
returns-else-not-branch c =
    let yes : IsTrue c.in_ok-is_found_under.field-0 = search rules in
    subst (λ (xs : List (Vec ℕ Global)). IsFoundBy c.args.self.script.now c.args.self.finding xs) c.deref-3.ensures.value (c.in_ok-is_found_under.ensures yes)
