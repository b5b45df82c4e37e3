-- The position where a test first passes, as `position` returns it, and the parts of a text that is cut there.
use Rattle.std.proofs.Common.{◌≡◌, ℕ, ◌<◌, ◌≤◌, ◌+◌, ◌-◌, length-drop, Bool, true, false, cond, not, List, [], ◌∷◌, length, drop, take, map, Some, None, ap, sym, ◌∙◌, refl, suc, arith, nat_lt, ◌==◌}
use Rattle.std.specs.List.{position, position_or_len, slice_split, onto_first, before_first}
use Rattle.std.proofs.lemmas.List.Splits.{slice_split_first}
use Rattle.std.proofs.lemmas.List.Sums.{prefix_len-le-length}
use Rattle.std.specs.Str.Lines.{lines, lines_of_parts, strip_carriage_return}
use Rattle.std.proofs.Math.Seq.{take_all}
use borrow.Author.Tests.{ltb-true, ltb-false, eqb-true}
use Rattle.std.proofs.lemmas.List.Folds.{length-prefix_len}
use Rattle.std.proofs.Common.{Err}
use Rattle.bpf_asm.specs.declared.fault.AsmKind.TheVariants.{Operand}
use Rattle.bpf_asm.specs.Operands.{as_none, as_one, as_two, as_three}
use Rattle.bpf_asm.specs.Text.{trim, pieces, operand_texts, last_text, first_word, behind_word, ends_word}

some_of_test : (b : Bool) (m n k : ℕ) → (b ≡ true → m < n) → cond b (Some m) None ≡ Some k → (m ≡ k) × (m < n)
some_of_test true m n k t h = (cc, t refl)
some_of_test false m n k t h = cc

none_of_test : (b : Bool) (m n : ℕ) → (b ≡ false → n ≤ m) → cond b (Some m) None ≡ None → n ≤ m
none_of_test true m n t h = cc
none_of_test false m n t h = t refl

pub position_some : {X : Type 0} (p : X → Bool) (xs : List X) (k : ℕ) → position p xs ≡ Some k → (position_or_len p xs ≡ k) × (position_or_len p xs < length xs)
position_some p xs k h =
    some_of_test (nat_lt (position_or_len p xs) (length xs)) (position_or_len p xs) (length xs) k (ltb-true (position_or_len p xs) (length xs)) h

pub position_none : {X : Type 0} (p : X → Bool) (xs : List X) → position p xs ≡ None → position_or_len p xs ≡ length xs
position_none p xs h =
    let le : length xs ≤ position_or_len p xs = none_of_test (nat_lt (position_or_len p xs) (length xs)) (position_or_len p xs) (length xs) (ltb-false (position_or_len p xs) (length xs)) h in
    let ge : position_or_len p xs ≤ length xs = prefix_len-le-length (λ x. not (p x)) xs in
    omega arith

-- Where no element passes, a list is one part.
one_part : {X : Type 0} (p : X → Bool) (x : X) (xs : List X) (b : Bool) → p x ≡ b → (position_or_len p xs ≡ length xs → slice_split p xs ≡ xs ∷ []) → cond (not b) (1 + position_or_len p xs) 0 ≡ length xs + 1 → cond b ([] ∷ slice_split p xs) (onto_first x (slice_split p xs)) ≡ (x ∷ xs) ∷ []
one_part {X} p x xs true e rest h = absurd (omega arith)
one_part {X} p x xs false e rest h = ap (λ (ps : List (List X)). onto_first x ps) (rest (omega arith))

pub split_whole : {X : Type 0} (p : X → Bool) (xs : List X) → position_or_len p xs ≡ length xs → slice_split p xs ≡ xs ∷ []
split_whole p [] h = refl
split_whole p (x ∷ xs) h = one_part p x xs (p x) refl (split_whole p xs) (h ∙ add-one' (length xs))
  where
    add-one' : (n : ℕ) → suc n ≡ n + 1
    add-one' n = omega arith

-- A list has a part always.
pub part_is : {X : Type 0} (p : X → Bool) (xs : List X) → (y : List X) × ((ys : List (List X)) × (slice_split p xs ≡ y ∷ ys))
part_is p [] = ([], ([], refl))
part_is {X} p (x ∷ xs) = by_test (p x) (part_is p xs)
  where
    by_test : (b : Bool) → (y : List X) × ((ys : List (List X)) × (slice_split p xs ≡ y ∷ ys)) → (y : List X) × ((ys : List (List X)) × (cond b ([] ∷ slice_split p xs) (onto_first x (slice_split p xs)) ≡ y ∷ ys))
    by_test true r = ([], (slice_split p xs, refl))
    by_test false r = (x ∷ r.0, (r.1.0, ap (λ (ps : List (List X)). onto_first x ps) r.1.1))

-- The texts between commas.
pub pieces_none : (t : List ℕ) → position (λ b. b == 44) t ≡ None → pieces t ≡ trim t ∷ []
pieces_none t h = ap (λ (ps : List (List ℕ)). map trim ps) (split_whole (λ b. b == 44) t (position_none (λ b. b == 44) t h))

pub pieces_some : (t : List ℕ) (k : ℕ) → position (λ b. b == 44) t ≡ Some k → pieces t ≡ trim (take k t) ∷ pieces (drop (k + 1) t)
pieces_some t k h =
    let at = position_some (λ b. b == 44) t k h in
    ap (λ (ps : List (List ℕ)). map trim ps) (slice_split_first (λ b. b == 44) t 0 at.1)
    ∙ ap (λ (n : ℕ). trim (take n t) ∷ pieces (drop (n + 1) t)) at.0

pub pieces_are : (t : List ℕ) → (y : List ℕ) × ((ys : List (List ℕ)) × (pieces t ≡ y ∷ ys))
pieces_are t =
    let p = part_is (λ b. b == 44) t in
    (trim p.0, (map trim p.1.0, ap (λ (ps : List (List ℕ)). map trim ps) p.1.1))

empty_or_pieces : {Y : Type 0} (f : List (List ℕ) → Y) (y : Y) (b : Bool) (ps : List (List ℕ)) → f [] ≡ y → f ps ≡ y → f (cond b [] ps) ≡ y
empty_or_pieces f y true ps h k = h
empty_or_pieces f y false ps h k = k

pub none_wanted : (t : List ℕ) → (length t ≡ 0 → ⊥) → as_none (operand_texts t) ≡ Err Operand
none_wanted t ne =
    let p = pieces_are t in
    by_test (length t == 0) (ap as_none p.1.1) (λ e. ne (eqb-true (length t) 0 e))
  where
    by_test : (b : Bool) → as_none (pieces t) ≡ Err Operand → (b ≡ true → ⊥) → as_none (cond b [] (pieces t)) ≡ Err Operand
    by_test true h k = absurd (k refl)
    by_test false h k = h

pub one_wanted : (t b : List ℕ) (x : List ℕ) → pieces t ≡ x ∷ pieces b → as_one (operand_texts t) ≡ Err Operand
one_wanted t b x e =
    let p = pieces_are b in
    empty_or_pieces as_one (Err Operand) (length t == 0) (pieces t) refl
    (ap as_one (e ∙ ap (λ (ys : List (List ℕ)). x ∷ ys) p.1.1))

pub two_wanted : (t b r : List ℕ) (x y : List ℕ) → pieces t ≡ x ∷ pieces b → pieces b ≡ y ∷ pieces r → as_two (operand_texts t) ≡ Err Operand
two_wanted t b r x y e f =
    let p = pieces_are r in
    empty_or_pieces as_two (Err Operand) (length t == 0) (pieces t) refl
    (ap as_two (e ∙ ap (λ (ys : List (List ℕ)). x ∷ ys) (f ∙ ap (λ (ys : List (List ℕ)). y ∷ ys) p.1.1)))

pub three_wanted : (t b r q : List ℕ) (x y z : List ℕ) → pieces t ≡ x ∷ pieces b → pieces b ≡ y ∷ pieces r → pieces r ≡ z ∷ pieces q → as_three (operand_texts t) ≡ Err Operand
three_wanted t b r q x y z e f g =
    let p = pieces_are q in
    empty_or_pieces as_three (Err Operand) (length t == 0) (pieces t) refl
    (ap as_three (e ∙ ap (λ (ys : List (List ℕ)). x ∷ ys) (f ∙ ap (λ (ys : List (List ℕ)). y ∷ ys) (g ∙ ap (λ (ys : List (List ℕ)). z ∷ ys) p.1.1))))

-- The last of them.
pub last_some : (t : List ℕ) (k : ℕ) → position (λ b. b == 44) t ≡ Some k → last_text (pieces t) ≡ last_text (pieces (drop (k + 1) t))
last_some t k h =
    let p = pieces_are (drop (k + 1) t) in
    ap last_text (pieces_some t k h ∙ ap (λ (ys : List (List ℕ)). trim (take k t) ∷ ys) p.1.1) ∙ sym (ap last_text p.1.1)

pub last_none : (t : List ℕ) → position (λ b. b == 44) t ≡ None → last_text (pieces t) ≡ trim t
last_none t h = ap last_text (pieces_none t h)

pub last_is : (t : List ℕ) → last_text (operand_texts t) ≡ last_text (pieces t)
last_is t = by_test (length t == 0) (λ e. eqb-true (length t) 0 e)
  where
    empty : (s : List ℕ) → length s ≡ 0 → last_text (pieces s) ≡ []
    empty [] e = refl
    empty (b ∷ bs) e = absurd (omega arith)

    by_test : (b : Bool) → (b ≡ true → length t ≡ 0) → last_text (cond b [] (pieces t)) ≡ last_text (pieces t)
    by_test true k = sym (empty t (k refl))
    by_test false k = refl

-- The word, and what stands behind it.
pub word_some : (t : List ℕ) (k : ℕ) → position ends_word t ≡ Some k → first_word t ≡ take k t
word_some t k h = ap (λ (n : ℕ). take n t) (position_some ends_word t k h).0

pub word_none : (t : List ℕ) → position ends_word t ≡ None → first_word t ≡ t
word_none t h = ap (λ (n : ℕ). take n t) (position_none ends_word t h) ∙ take_all (length t) t (omega arith)

pub behind_some : (t : List ℕ) (k : ℕ) → position ends_word t ≡ Some k → behind_word t ≡ trim (drop k t)
behind_some t k h =
    let at = position_some ends_word t k h in
    let n : length (take (position_or_len ends_word t) t) ≡ position_or_len ends_word t = length-prefix_len (λ b. not (ends_word b)) t in
    ap (λ (m : ℕ). trim (drop m t)) (n ∙ at.0)

pub behind_none : (t : List ℕ) → position ends_word t ≡ None → behind_word t ≡ trim (drop (length t) t)
behind_none t h =
    let n : length (take (position_or_len ends_word t) t) ≡ position_or_len ends_word t = length-prefix_len (λ b. not (ends_word b)) t in
    ap (λ (m : ℕ). trim (drop m t)) (n ∙ position_none ends_word t h)

-- The lines.
pub lines_some : (t : List ℕ) (k : ℕ) → position (λ b. b == 10) t ≡ Some k → lines t ≡ strip_carriage_return (take k t) ∷ lines (drop (k + 1) t)
lines_some t k h =
    let at = position_some (λ b. b == 10) t k h in
    let p = part_is (λ b. b == 10) (drop (position_or_len (λ b. b == 10) t + 1) t) in
    ap lines_of_parts (slice_split_first (λ b. b == 10) t 0 at.1 ∙ ap (λ (ps : List (List ℕ)). before_first (λ b. b == 10) t ∷ ps) p.1.1)
    ∙ ap (λ (ls : List (List ℕ)). strip_carriage_return (before_first (λ b. b == 10) t) ∷ ls) (sym (ap lines_of_parts p.1.1))
    ∙ ap (λ (n : ℕ). strip_carriage_return (take n t) ∷ lines (drop (n + 1) t)) at.0

pub lines_none : (t : List ℕ) → position (λ b. b == 10) t ≡ None → (length t ≡ 0 → ⊥) → lines t ≡ t ∷ []
lines_none t h ne =
    ap lines_of_parts (split_whole (λ b. b == 10) t (position_none (λ b. b == 10) t h))
    ∙ by_test (length t == 0) (λ e. ne (eqb-true (length t) 0 e))
  where
    by_test : (b : Bool) → (b ≡ true → ⊥) → cond b [] (t ∷ []) ≡ t ∷ []
    by_test true k = absurd (k refl)
    by_test false k = refl

-- The same of a slice from behind the position to the end.
tail_is : (t : List ℕ) (n : ℕ) → take (length t - n) (drop n t) ≡ drop n t
tail_is t n = take_all (length t - n) (drop n t) (omega (arith, length-drop {A = ℕ}))

pub pieces_cut : (t : List ℕ) (k : ℕ) → position (λ b. b == 44) t ≡ Some k → pieces t ≡ trim (take k t) ∷ pieces (take (length t - (k + 1)) (drop (k + 1) t))
pieces_cut t k h = pieces_some t k h ∙ ap (λ (s : List ℕ). trim (take k t) ∷ pieces s) (sym (tail_is t (k + 1)))

pub last_cut : (t : List ℕ) (k : ℕ) → position (λ b. b == 44) t ≡ Some k → last_text (pieces t) ≡ last_text (pieces (take (length t - (k + 1)) (drop (k + 1) t)))
last_cut t k h = last_some t k h ∙ ap (λ (s : List ℕ). last_text (pieces s)) (sym (tail_is t (k + 1)))

pub lines_cut : (t : List ℕ) (k : ℕ) → position (λ b. b == 10) t ≡ Some k → lines t ≡ strip_carriage_return (take k t) ∷ lines (take (length t - (k + 1)) (drop (k + 1) t))
lines_cut t k h = lines_some t k h ∙ ap (λ (s : List ℕ). strip_carriage_return (take k t) ∷ lines s) (sym (tail_is t (k + 1)))

pub behind_cut : (t : List ℕ) (k : ℕ) → position ends_word t ≡ Some k → behind_word t ≡ trim (take (length t - k) (drop k t))
behind_cut t k h = behind_some t k h ∙ ap trim (sym (tail_is t k))

pub behind_end : (t : List ℕ) → position ends_word t ≡ None → behind_word t ≡ trim (take (length t - length t) (drop (length t) t))
behind_end t h = behind_none t h ∙ ap trim (sym (tail_is t (length t)))

pub ruleset positions = (pieces_none, pieces_cut, none_wanted, one_wanted, two_wanted, three_wanted)

pub ruleset lasts = (last_cut, last_none, last_is)

pub ruleset words = (word_some, word_none, behind_cut, behind_end)

pub ruleset line_ends = (lines_cut, lines_none)
