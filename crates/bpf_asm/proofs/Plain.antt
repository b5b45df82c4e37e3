-- Texts without blanks, commas, colons and semicolons, and how lines of them are cut.
use Rattle.std.proofs.Common.{◌≡◌, ℕ, ◌<◌, ◌≤◌, ◌+◌, ◌-◌, ◌==◌, Bool, true, false, cond, not, ◌&&◌, ◌||◌, nat_le, List, [], ◌∷◌, ◌++◌, length, drop, take, get_or, map, reverse, ap, sym, subst, ◌∙◌, refl, arith, append_assoc, append-nil}
use Rattle.std.specs.List.{list_all, position_or_len, slice_split, onto_first}
use Rattle.std.proofs.lemmas.List.{reverse-append, reverse-reverse}
use Rattle.std.proofs.lemmas.Grind.{common_steps}
use borrow.Author.Tests.{leb-true, le-true, apart_eqb}
use Rattle.bpf_asm.specs.Text.{trim, trim_start, is_blank, pieces, operand_texts, ends_word}
use Rattle.bpf_asm.specs.Printing.{behind_first, behind_word_text}
use Rattle.bpf_asm.proofs.Positions.{part_is, split_whole}

abbrev pub plain : ℕ → Bool
plain b = nat_le 43 b && (nat_le b 122 && (not (b == 44) && (not (b == 58) && not (b == 59))))

abbrev pub line_byte : ℕ → Bool
line_byte b = nat_le 32 b && (nat_le b 122 && (not (b == 58) && not (b == 59)))

pub and_l : (a b : Bool) → (a && b) ≡ true → a ≡ true
and_l true b h = refl
and_l false b h = h

pub and_r : (a b : Bool) → (a && b) ≡ true → b ≡ true
and_r true b h = h
and_r false b h = cc

pub both_true : (a b : Bool) → a ≡ true → b ≡ true → (a && b) ≡ true
both_true true b ha hb = hb
both_true false b ha hb = cc

pub not_yes : (b : Bool) → not b ≡ true → b ≡ false
not_yes true h = cc
not_yes false h = refl

pub all_more : (p : ℕ → Bool) (xs ys : List ℕ) → list_all p xs ≡ true → list_all p ys ≡ true → list_all p (xs ++ ys) ≡ true
all_more p [] ys h k = k
all_more p (x ∷ xs) ys h k =
    both_true (p x) (list_all p (xs ++ ys)) (and_l (p x) (list_all p xs) h) (all_more p xs ys (and_r (p x) (list_all p xs) h) k)

pub all_so : (p q : ℕ → Bool) → ((b : ℕ) → p b ≡ true → q b ≡ true) → (xs : List ℕ) → list_all p xs ≡ true → list_all q xs ≡ true
all_so p q f [] h = refl
all_so p q f (x ∷ xs) h =
    both_true (q x) (list_all q xs) (f x (and_l (p x) (list_all p xs) h)) (all_so p q f xs (and_r (p x) (list_all p xs) h))

-- What a plain byte is not.
low : (b : ℕ) → plain b ≡ true → 43 ≤ b
low b h = leb-true 43 b (and_l (nat_le 43 b) _ h)

high : (b : ℕ) → plain b ≡ true → nat_le b 122 ≡ true
high b h = and_l (nat_le b 122) _ (and_r (nat_le 43 b) _ h)

pub plain_comma : (b : ℕ) → plain b ≡ true → (b == 44) ≡ false
plain_comma b h = not_yes (b == 44) (and_l (not (b == 44)) _ (and_r (nat_le b 122) _ (and_r (nat_le 43 b) _ h)))

pub plain_colons : (b : ℕ) → plain b ≡ true → (not (b == 58) && not (b == 59)) ≡ true
plain_colons b h = and_r (not (b == 44)) _ (and_r (nat_le b 122) _ (and_r (nat_le 43 b) _ h))

either_no : (a b : Bool) → a ≡ false → b ≡ false → (a || b) ≡ false
either_no true b h k = h
either_no false b h k = k

pub plain_blank : (b : ℕ) → plain b ≡ true → is_blank b ≡ false
plain_blank b h =
    let l = low b h in
    let x : b ≡ 32 → ⊥ = λ e. omega arith in
    let y : b ≡ 9 → ⊥ = λ e. omega arith in
    either_no (b == 32) (b == 9) (apart_eqb b 32 x) (apart_eqb b 9 y)

pub plain_line : (b : ℕ) → plain b ≡ true → line_byte b ≡ true
plain_line b h =
    let l = low b h in
    both_true (nat_le 32 b) _ (sym (le-true 32 b (omega arith))) (both_true (nat_le b 122) _ (high b h) (plain_colons b h))

pub line_semicolon : (b : ℕ) → line_byte b ≡ true → (b == 59) ≡ false
line_semicolon b h =
    not_yes (b == 59) (and_r (not (b == 58)) _ (and_r (nat_le b 122) _ (and_r (nat_le 32 b) _ h)))

pub line_low : (b : ℕ) → line_byte b ≡ true → 32 ≤ b
line_low b h = leb-true 32 b (and_l (nat_le 32 b) _ h)

pub line_ascii : (b : ℕ) → line_byte b ≡ true → nat_le b 127 ≡ true
line_ascii b h =
    let k = leb-true b 122 (and_l (nat_le b 122) _ (and_r (nat_le 32 b) _ h)) in
    sym (le-true b 127 (omega arith))

-- Where a test first passes behind bytes that it fails.
pub stops_at : (p q : ℕ → Bool) → ((b : ℕ) → p b ≡ true → q b ≡ false) → (xs ys : List ℕ) → list_all p xs ≡ true → position_or_len q ys ≡ 0 → position_or_len q (xs ++ ys) ≡ length xs
stops_at p q f [] ys h k = k
stops_at p q f (x ∷ xs) ys h k =
    let rest = stops_at p q f xs ys (and_r (p x) (list_all p xs) h) k in
    ap (λ (b : Bool). cond (not b) (1 + position_or_len q (xs ++ ys)) 0) (f x (and_l (p x) (list_all p xs) h))
    ∙ omega arith

pub nowhere : (p q : ℕ → Bool) → ((b : ℕ) → p b ≡ true → q b ≡ false) → (xs : List ℕ) → list_all p xs ≡ true → position_or_len q xs ≡ length xs
nowhere p q f xs h = sym (ap (position_or_len q) (append-nil xs)) ∙ stops_at p q f xs [] h refl

pub front_of : (xs ys : List ℕ) → take (length xs) (xs ++ ys) ≡ xs
front_of [] ys = refl
front_of (x ∷ xs) ys = ap (λ (zs : List ℕ). x ∷ zs) (front_of xs ys)

pub back_of : (xs ys : List ℕ) → drop (length xs) (xs ++ ys) ≡ ys
back_of [] ys = refl
back_of (x ∷ xs) ys = back_of xs ys

pub split_at : (sep : ℕ) (p : ℕ → Bool) → (sep == sep) ≡ true → ((b : ℕ) → p b ≡ true → (b == sep) ≡ false) → (xs ys : List ℕ) → list_all p xs ≡ true → slice_split (λ b. b == sep) (xs ++ sep ∷ ys) ≡ xs ∷ slice_split (λ b. b == sep) ys
split_at sep p e f [] ys h = ap (λ (b : Bool). cond b ([] ∷ slice_split (λ c. c == sep) ys) (onto_first sep (slice_split (λ c. c == sep) ys))) e
split_at sep p e f (x ∷ xs) ys h =
    ap (λ (b : Bool). cond b ([] ∷ slice_split (λ c. c == sep) (xs ++ sep ∷ ys)) (onto_first x (slice_split (λ c. c == sep) (xs ++ sep ∷ ys)))) (f x (and_l (p x) (list_all p xs) h))
    ∙ ap (onto_first x) (split_at sep p e f xs ys (and_r (p x) (list_all p xs) h))

-- A text that ends in a plain byte.
pub record Ends (t : List ℕ) : Type 0 where
  pub front : List ℕ
  pub last : ℕ
  pub is : t ≡ front ++ last ∷ []
  pub firm : plain last ≡ true

pub ends_plain : (x : ℕ) (xs : List ℕ) → list_all plain (x ∷ xs) ≡ true → Ends (x ∷ xs)
ends_plain x [] h = record { front = []; last = x; is = refl; firm = and_l (plain x) true h }
ends_plain x (y ∷ ys) h =
    let r = ends_plain y ys (and_r (plain x) (list_all plain (y ∷ ys)) h) in
    record { front = x ∷ r.front; last = r.last; is = ap (λ (zs : List ℕ). x ∷ zs) r.is; firm = r.firm }

pub ends_behind : (xs ys : List ℕ) → Ends ys → Ends (xs ++ ys)
ends_behind xs ys r =
    record { front = xs ++ r.front; last = r.last; is = ap (λ (zs : List ℕ). xs ++ zs) r.is ∙ sym (append_assoc xs r.front (r.last ∷ [])); firm = r.firm }

pub trim_same : (f : ℕ) (fs : List ℕ) → is_blank f ≡ false → Ends (f ∷ fs) → trim (f ∷ fs) ≡ f ∷ fs
trim_same f fs h r =
    let t : List ℕ = f ∷ fs in
    let start : trim_start t ≡ t = ap (λ (b : Bool). cond b (trim_start fs) (f ∷ fs)) h in
    let turned : reverse t ≡ r.last ∷ reverse r.front = ap reverse r.is ∙ reverse-append r.front (r.last ∷ []) in
    let same : trim_start (r.last ∷ reverse r.front) ≡ r.last ∷ reverse r.front =
    ap (λ (b : Bool). cond b (trim_start (reverse r.front)) (r.last ∷ reverse r.front)) (plain_blank r.last r.firm) in
    ap (λ (s : List ℕ). reverse (trim_start (reverse s))) start
    ∙ ap (λ (s : List ℕ). reverse (trim_start s)) turned
    ∙ ap reverse same
    ∙ ap reverse (sym turned)
    ∙ reverse-reverse t

pub trim_plain : (xs : List ℕ) → list_all plain xs ≡ true → trim xs ≡ xs
trim_plain [] h = refl
trim_plain (x ∷ xs) h = trim_same x xs (plain_blank x (and_l (plain x) (list_all plain xs) h)) (ends_plain x xs h)

pub last_at : (gs : List ℕ) (l : ℕ) → get_or (gs ++ l ∷ []) (length (gs ++ l ∷ []) - 1) 0 ≡ l
last_at gs l = grind (arith, common_steps)

-- Operands that are plain.
abbrev pub AreOperands : List (List ℕ) → Type 0
AreOperands [] = Unit {0}
AreOperands (x ∷ xs) = (0 < length x) × (list_all plain x ≡ true) × AreOperands xs

pub ends_operands : (x : List ℕ) (xs : List (List ℕ)) → AreOperands (x ∷ xs) → Ends (x ++ behind_first xs)
ends_operands [] xs h = absurd (let z : 0 < 0 = h.0 in omega arith)
ends_operands (c ∷ cs) [] h = subst Ends (sym (append-nil (c ∷ cs))) (ends_plain c cs h.1)
ends_operands (c ∷ cs) (y ∷ ys) h =
    ends_behind (c ∷ cs) (behind_first (y ∷ ys)) (ends_behind (44 ∷ 32 ∷ []) (y ++ behind_first ys) (ends_operands y ys h.2))

drop_blank : (z : List ℕ) → map trim (slice_split (λ b. b == 44) (32 ∷ z)) ≡ pieces z
drop_blank z =
    let p = part_is (λ (b : ℕ). b == 44) z in
    ap (λ (ps : List (List ℕ)). map trim (onto_first 32 ps)) p.1.1 ∙ sym (ap (λ (ps : List (List ℕ)). map trim ps) p.1.1)

pub pieces_of_text : (x : List ℕ) (xs : List (List ℕ)) → AreOperands (x ∷ xs) → pieces (x ++ behind_first xs) ≡ x ∷ xs
pieces_of_text x [] h =
    ap pieces (append-nil x)
    ∙ ap (λ (ps : List (List ℕ)). map trim ps) (split_whole (λ (b : ℕ). b == 44) x (nowhere plain (λ b. b == 44) plain_comma x h.1))
    ∙ ap (λ (y : List ℕ). y ∷ []) (trim_plain x h.1)
pieces_of_text x (y ∷ ys) h =
    ap (λ (ps : List (List ℕ)). map trim ps) (split_at 44 plain refl plain_comma x (32 ∷ (y ++ behind_first ys)) h.1)
    ∙ ap (λ (ps : List (List ℕ)). trim x ∷ ps) (drop_blank (y ++ behind_first ys) ∙ pieces_of_text y ys h.2)
    ∙ ap (λ (z : List ℕ). z ∷ y ∷ ys) (trim_plain x h.1)

operands_line : (x : List ℕ) (xs : List (List ℕ)) → AreOperands (x ∷ xs) → list_all line_byte (x ++ behind_first xs) ≡ true
operands_line x [] h = all_more line_byte x [] (all_so plain line_byte plain_line x h.1) refl
operands_line x (y ∷ ys) h = all_more line_byte x (behind_first (y ∷ ys)) (all_so plain line_byte plain_line x h.1) (operands_line y ys h.2)

nonempty_first : (x : List ℕ) (xs : List (List ℕ)) → AreOperands (x ∷ xs) → trim (x ++ behind_first xs) ≡ x ++ behind_first xs
nonempty_first [] xs h = absurd (let z : 0 < 0 = h.0 in omega arith)
nonempty_first (c ∷ cs) xs h =
    trim_same c (cs ++ behind_first xs) (plain_blank c (and_l (plain c) (list_all plain cs) h.1)) (ends_operands (c ∷ cs) xs h)

pub some_length : (t : List ℕ) → 0 < length t → (length t == 0) ≡ false
some_length t h =
    let ne : length t ≡ 0 → ⊥ = λ e. omega arith in
    apart_eqb (length t) 0 ne

-- What stands behind a word is read as the operands.
pub behind_read : (ops : List (List ℕ)) → AreOperands ops → operand_texts (trim (behind_word_text ops)) ≡ ops
behind_read [] h = refl
behind_read ([] ∷ xs) h = absurd (let z : 0 < 0 = h.0 in omega arith)
behind_read ((c ∷ cs) ∷ xs) h =
    ap operand_texts (nonempty_first (c ∷ cs) xs h)
    ∙ ap (λ (b : Bool). cond b [] (pieces ((c ∷ cs) ++ behind_first xs))) (some_length ((c ∷ cs) ++ behind_first xs) (omega arith))
    ∙ pieces_of_text (c ∷ cs) xs h

pub behind_line : (ops : List (List ℕ)) → AreOperands ops → list_all line_byte (behind_word_text ops) ≡ true
behind_line [] h = refl
behind_line (x ∷ xs) h = operands_line x xs h

pub behind_stops : (ops : List (List ℕ)) → position_or_len ends_word (behind_word_text ops) ≡ 0
behind_stops [] = refl
behind_stops (x ∷ xs) = refl

pub ends_line : (c : ℕ) (cs : List ℕ) (ops : List (List ℕ)) → list_all plain (c ∷ cs) ≡ true → AreOperands ops → Ends ((c ∷ cs) ++ behind_word_text ops)
ends_line c cs [] h k = subst Ends (sym (append-nil (c ∷ cs))) (ends_plain c cs h)
ends_line c cs (x ∷ xs) h k = ends_behind (c ∷ cs) (32 ∷ (x ++ behind_first xs)) (ends_behind (32 ∷ []) (x ++ behind_first xs) (ends_operands x xs k))
