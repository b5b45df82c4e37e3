-- Lists: the first that is so, and what a change of it leaves.
use Rattle.std.proofs.Common.{◌≡◌, ℕ, zero, suc, ◌+◌, ◌<◌, Bool, true, false, cond, List, [], ◌∷◌, ◌++◌, length, get_or, set, take, drop, filter, find, Option, Some, None, refl, sym, ap, subst, ◌∙◌, arith, if◌then◌else◌, ltb}
use Rattle.std.specs.List.{position, position_or_len, remove}
use Rattle.std.specs.Prelude.{IsSomeAnd, OnSome, slice_get, option_and_then}
use Rattle.std.proofs.Math.Numerals.{add-one}
use Rattle.std.proofs.lemmas.Bool.{ltb-false}
use Rattle.std.proofs.lemmas.Option.{slice_get-get_or, slice_get_past, slice_get_within}
use Rattle.std.proofs.lemmas.List.{drop_more, take-append-drop}
use Rattle.std.proofs.lemmas.List.Folds.{find_at}
use Rattle.std.proofs.lemmas.List.Quantifiers.{position-Some}
use Rattle.script_text.specs.declared.script.Filter.{Filter}
use Rattle.world_queue.specs.Letters.{IsTaken, LetterFacts, first_meant, is_meant, meant_count, without_first}
use Rattle.world_queue.specs.Effects.{IsPlace}
use Rattle.world_queue.specs.Parties.{at_first}

some_none : {X : Type 0} {x : X} → Some x ≡ None → ⊥
some_none h = cc h

-- ---- the first letter that is meant

none_then : (f : Filter) (os : List LetterFacts) (l : LetterFacts) (b : Bool) → is_meant f l ≡ b → first_meant f (l ∷ os) ≡ cond b (Some l) (first_meant f os)
none_then f os l b is = ap (λ (x : Bool). cond x (Some l) (first_meant f os)) is

rest_then : (f : Filter) (os : List LetterFacts) (l : LetterFacts) (b : Bool) → is_meant f l ≡ b → without_first f (l ∷ os) ≡ (if b then os else l ∷ without_first f os)
rest_then f os l b is = ap (λ (x : Bool). if x then os else l ∷ without_first f os) is

-- a letter ahead of others of which none is meant is not meant
none_behind : (f : Filter) (o : LetterFacts) (os : List LetterFacts) → first_meant f (o ∷ os) ≡ None → (is_meant f o ≡ false) × (first_meant f os ≡ None)
none_behind f o os none = by (is_meant f o) refl where
  by : (b : Bool) → is_meant f o ≡ b → (is_meant f o ≡ false) × (first_meant f os ≡ None)
  by true is = absurd (some_none (sym (none_then f os o true is) ∙ none))
  by false is = (is, sym (none_then f os o false is) ∙ none)

pub passes : (f : Filter) (os : List LetterFacts) (l : LetterFacts) → first_meant f os ≡ None → is_meant f l ≡ false → first_meant f (os ++ l ∷ []) ≡ None
passes f [] l none other = none_then f [] l false other
passes f (o ∷ os) l none other =
    let b = none_behind f o os none in none_then f (os ++ l ∷ []) o false b.0 ∙ passes f os l b.1 other

pub is_first : (f : Filter) (os : List LetterFacts) (l : LetterFacts) (ls : List LetterFacts) → first_meant f os ≡ None → is_meant f l ≡ true → first_meant f (os ++ l ∷ ls) ≡ Some l
is_first f [] l ls none meant = none_then f ls l true meant
is_first f (o ∷ os) l ls none meant =
    let b = none_behind f o os none in none_then f (os ++ l ∷ ls) o false b.0 ∙ is_first f os l ls b.1 meant

pub rest_of : (f : Filter) (os : List LetterFacts) (l : LetterFacts) (ls : List LetterFacts) → first_meant f os ≡ None → is_meant f l ≡ true → without_first f (os ++ l ∷ ls) ≡ os ++ ls
rest_of f [] l ls none meant = rest_then f ls l true meant
rest_of f (o ∷ os) l ls none meant =
    let b = none_behind f o os none in
    rest_then f (os ++ l ∷ ls) o false b.0 ∙ ap (λ (xs : List LetterFacts). o ∷ xs) (rest_of f os l ls b.1 meant)

-- nothing is taken where none is meant
pub keeps_all : (f : Filter) (ls : List LetterFacts) → first_meant f ls ≡ None → without_first f ls ≡ ls
keeps_all f [] none = refl
keeps_all f (l ∷ ls) none =
    let b = none_behind f l ls none in
    rest_then f ls l false b.0 ∙ ap (λ (xs : List LetterFacts). l ∷ xs) (keeps_all f ls b.1)

-- The first letter that is meant, with those before it, of which none is, and those behind it.
pub record IsFirstOf (f : Filter) (ls : List LetterFacts) (l : LetterFacts) : Type 0 where
  pub before : List LetterFacts
  pub after : List LetterFacts
  pub splits : ls ≡ before ++ l ∷ after
  pub meant : is_meant f l ≡ true
  pub none_passed : filter (is_meant f) before ≡ []
  pub rest : without_first f ls ≡ before ++ after

some_same : {X : Type 0} {x y : X} → Some x ≡ Some y → x ≡ y
some_same h = cc h

none_some : {X : Type 0} {x : X} → None ≡ Some x → ⊥
none_some h = cc h

pub first_splits : (f : Filter) (ls : List LetterFacts) (l : LetterFacts) → first_meant f ls ≡ Some l → IsFirstOf f ls l
first_splits f [] l found = absurd (none_some found)
first_splits f (x ∷ xs) l found = by (is_meant f x) refl (first_splits f xs l) where
  by : (b : Bool) → is_meant f x ≡ b → (first_meant f xs ≡ Some l → IsFirstOf f xs l) → IsFirstOf f (x ∷ xs) l
  by true is later =
      let start : IsFirstOf f (x ∷ xs) x = record { before = []; after = xs; splits = refl; meant = is; none_passed = refl; rest = rest_then f xs x true is } in
      subst (IsFirstOf f (x ∷ xs)) (some_same (sym (none_then f xs x true is) ∙ found)) start
  by false is later =
      let r = later (sym (none_then f xs x false is) ∙ found) in
      record {
        before = x ∷ r.before;
        after = r.after;
        splits = ap (λ (ys : List LetterFacts). x ∷ ys) r.splits;
        meant = r.meant;
        none_passed = ap (λ (c : Bool). cond c (x ∷ filter (is_meant f) r.before) (filter (is_meant f) r.before)) is ∙ r.none_passed;
        rest = rest_then f xs x false is ∙ ap (λ (ys : List LetterFacts). x ∷ ys) r.rest;
      }

-- ---- how many are meant

pub none_meant : (f : Filter) (ls : List LetterFacts) → meant_count f ls ≡ 0 → first_meant f ls ≡ None
none_meant f [] none = refl
none_meant f (x ∷ xs) none = by (is_meant f x) refl (none_meant f xs) where
  counted : (b : Bool) → is_meant f x ≡ b → meant_count f (x ∷ xs) ≡ length (cond b (x ∷ filter (is_meant f) xs) (filter (is_meant f) xs))
  counted b is = ap (λ (c : Bool). length (cond c (x ∷ filter (is_meant f) xs) (filter (is_meant f) xs))) is

  by : (b : Bool) → is_meant f x ≡ b → (meant_count f xs ≡ 0 → first_meant f xs ≡ None) → first_meant f (x ∷ xs) ≡ None
  by true is later = let many = sym (counted true is) ∙ none in absurd (omega (arith, many))
  by false is later = none_then f xs x false is ∙ later (sym (counted false is) ∙ none)

pub some_meant : (f : Filter) (ls : List LetterFacts) → 0 < meant_count f ls → first_meant f ls ≡ None → ⊥
some_meant f [] many none = absurd (omega (arith, many))
some_meant f (x ∷ xs) many none = by (is_meant f x) refl (some_meant f xs) where
  counted : (b : Bool) → is_meant f x ≡ b → meant_count f (x ∷ xs) ≡ length (cond b (x ∷ filter (is_meant f) xs) (filter (is_meant f) xs))
  counted b is = ap (λ (c : Bool). length (cond c (x ∷ filter (is_meant f) xs) (filter (is_meant f) xs))) is

  by : (b : Bool) → is_meant f x ≡ b → (0 < meant_count f xs → first_meant f xs ≡ None → ⊥) → ⊥
  by true is later = some_none (sym (none_then f xs x true is) ∙ none)
  by false is later = later (subst (λ (n : ℕ). 0 < n) (counted false is) many) (sym (none_then f xs x false is) ∙ none)

-- the letter at a place behind none that are meant is the first
pub place_first : (f : Filter) (ls : List LetterFacts) (index : ℕ) → IsPlace f 0 ls index → slice_get ls index ≡ first_meant f ls
place_first f ls index p =
    let below : index < length ls = slice_get_within ls index p.letter p.is_at in
    let here : get_or ls index p.letter ≡ p.letter = some_same (sym (slice_get-get_or ls index p.letter below) ∙ p.is_at) in
    let splits : ls ≡ take index ls ++ p.letter ∷ drop (index + 1) ls =
    sym (take-append-drop index ls)
    ∙ ap (λ (xs : List LetterFacts). take index ls ++ xs) (drop_more ls index p.letter below ∙ ap (λ (l : LetterFacts). l ∷ drop (index + 1) ls) here) in
    p.is_at
    ∙ sym (ap (first_meant f) splits ∙ is_first f (take index ls) p.letter (drop (index + 1) ls) (none_meant f (take index ls) p.passed_is) p.is_meant_one)

-- the letter at a place is taken out
pub taken_at : (f : Filter) (passed index : ℕ) (ls new : List LetterFacts) (found : Option LetterFacts) → IsPlace f passed ls index
    → ((d : LetterFacts) → index < length ls → found ≡ Some (get_or ls index d)) → OnSome found (new ≡ remove ls index) → IsSomeAnd found (λ l. IsTaken f passed ls l new)
taken_at f passed index ls new found p finds rest =
    let below : index < length ls = slice_get_within ls index p.letter p.is_at in
    let here : get_or ls index p.letter ≡ p.letter = some_same (sym (slice_get-get_or ls index p.letter below) ∙ p.is_at) in
    let is : found ≡ Some p.letter = finds p.letter below ∙ ap Some here in
    let tail : drop index ls ≡ p.letter ∷ drop (suc index) ls =
    drop_more ls index p.letter below ∙ ap (λ (n : ℕ). get_or ls index p.letter ∷ drop n ls) (add-one index) ∙ ap (λ (l : LetterFacts). l ∷ drop (suc index) ls) here in
    let gone : new ≡ remove ls index = subst (λ (o : Option LetterFacts). OnSome o (new ≡ remove ls index)) is rest in
    let one : IsTaken f passed ls p.letter new = record {
      before = take index ls;
      after = drop (suc index) ls;
      splits = sym (take-append-drop index ls) ∙ ap (λ (xs : List LetterFacts). take index ls ++ xs) tail;
      is_meant_one = p.is_meant_one;
      passed_is = p.passed_is;
      rest = gone;
    } in
    subst (λ (o : Option LetterFacts). IsSomeAnd o (λ l. IsTaken f passed ls l new)) (sym is) one

-- ---- the first that is changed

module _ {A : Type 0} (is : A → Bool) (change : A → A) where
  first_then : (x : A) (xs : List A) (b : Bool) → is x ≡ b → at_first is change (x ∷ xs) ≡ (if b then change x ∷ xs else x ∷ at_first is change xs)
  first_then x xs b same = ap (λ (c : Bool). if c then change x ∷ xs else x ∷ at_first is change xs) same

  changed_at : (xs : List A) (i : ℕ) (d : A) → i < length xs → is (get_or xs i d) ≡ true → ((k : ℕ) → k < i → is (get_or xs k d) ≡ false)
      → set xs i (change (get_or xs i d)) ≡ at_first is change xs
  changed_at [] i d below it before = absurd (omega (arith, below))
  changed_at (x ∷ xs) zero d below it before = sym (first_then x xs true it)
  changed_at (x ∷ xs) (suc i) d below it before =
      ap (λ (ys : List A). x ∷ ys) (changed_at xs i d (omega (arith, below)) it (λ k less. before (suc k) (omega (arith, less))))
      ∙ sym (first_then x xs false (before 0 (omega arith)))

  -- the first that is so is at this index, and is changed there
  pub changes_first : (xs : List A) (i : ℕ) (x : A) → position is xs ≡ Some i → x ≡ get_or xs i x → set xs i (change x) ≡ at_first is change xs
  changes_first xs i x at read =
      let found = position-Some is xs i x at in
      ap (λ (y : A). set xs i (change y)) read ∙ changed_at xs i x found.0 found.1 found.2

  stays_then : (x : A) (xs : List A) → find is (x ∷ xs) ≡ None → (is x ≡ false) × (find is xs ≡ None)
  stays_then x xs none = by (is x) refl where
    by : (b : Bool) → is x ≡ b → (is x ≡ false) × (find is xs ≡ None)
    by true it = absurd (some_none (sym (ap (λ (c : Bool). cond c (Some x) (find is xs)) it) ∙ none))
    by false it = (it, sym (ap (λ (c : Bool). cond c (Some x) (find is xs)) it) ∙ none)

  -- where none is so, all stay
  pub stays : (xs : List A) → find is xs ≡ None → at_first is change xs ≡ xs
  stays [] none = refl
  stays (x ∷ xs) none = let b = stays_then x xs none in first_then x xs false b.0 ∙ ap (λ (ys : List A). x ∷ ys) (stays xs b.1)

-- ---- the first that is so, by its index

module _ {A : Type 0} (is : A → Bool) where
  by_position : (xs : List A) → find is xs ≡ option_and_then (slice_get xs) (position is xs)
  by_position xs = find_at is xs ∙ cases (ltb (position_or_len is xs) (length xs)) refl where
    cases : (b : Bool) → ltb (position_or_len is xs) (length xs) ≡ b
        → slice_get xs (position_or_len is xs) ≡ option_and_then (slice_get xs) (cond b (Some (position_or_len is xs)) None)
    cases true e = refl
    cases false e = slice_get_past xs (position_or_len is xs) (ltb-false _ _ e)

  pub found_at : (xs : List A) (i : ℕ) (x : A) → position is xs ≡ Some i → x ≡ get_or xs i x → find is xs ≡ Some x
  found_at xs i x at read =
      by_position xs ∙ ap (option_and_then (slice_get xs)) at ∙ slice_get-get_or xs i x (position-Some is xs i x at).0 ∙ ap Some (sym read)

  pub found_none : (xs : List A) → position is xs ≡ None → find is xs ≡ None
  found_none xs at = by_position xs ∙ ap (option_and_then (slice_get xs)) at
