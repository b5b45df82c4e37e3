-- The text of a map is read as that map.
use Rattle.std.proofs.Common.{◌≡◌, ℕ, zero, suc, ◌<◌, ◌≤◌, ◌+◌, ◌-◌, ◌/◌, ◌%◌, ◌==◌, Bool, true, false, cond, nat_le, nat_lt, is_some, T, List, [], ◌∷◌, ◌++◌, length, take, drop, get_or, slice_index, map, flat_map, Option, Some, None, Ok, Err, Result, ap, sym, ◌∙◌, refl, subst, arith, length-append, append_assoc, append-nil}
use Rattle.std.specs.Prelude.{All, codes}
use Rattle.std.specs.List.{list_all}
use Rattle.std.specs.Str.Lines.{lines, lines_of_parts, strip_carriage_return}
use Rattle.std.specs.FinMap as map
use Rattle.std.specs.FinMap.Entries.{find, is_sorted, below_all, find-append}
use Rattle.std.specs.Ordering.{nat_cmp, is_eq, is_lt, eq_by_cmp, ordering_reverse}
use Rattle.std.specs.Cmp.{IsTotalOrder}
use Rattle.std.specs.Cmp.Lexicographic.{slice_cmp, nat_list_cmp_total}
use Rattle.std.specs.declared.cmp.Ordering.{Ordering}
use Rattle.std.specs.declared.cmp.Ordering.TheVariants.{Less, Equal, Greater}
use Rattle.std.proofs.lemmas.List.Elements.{All-head, All-tail}
use Rattle.std.proofs.lemmas.List.{get_or-append_right}
use borrow.Author.Tests.{lt-true, eq-eqb, apart_eqb, leb-true}
use Rattle.hex.specs.Hex.{IsBytes, encode_lower, encode_with, lower_digits, hex_digit_value, decode_sized}
use Rattle.hex.specs.declared.FromHexError.{FromHexError}
use Rattle.hex.proofs.HexLemmas.{length-encode_with, decode_sized-encode_lower, IsDigits-lower_digits}
use Rattle.bpf_asm.proofs.Plain.{and_l, and_r, both_true, all_more, front_of, back_of, split_at}
use Rattle.bpf_asm.proofs.Positions.{part_is}
use Rattle.tenant_maps.specs.Entries.{Entries, IsTenantMap, IsKey, IsValue}
use Rattle.code_commands.specs.declared.map_text.MapKind.{MapKind}
use Rattle.code_commands.specs.declared.map_text.MapKind.TheVariants.{WrongLength, KeyTwice, TooMany}
use Rattle.code_commands.specs.Folds.{behind, folded}
use Rattle.code_commands.specs.MapTexts.{line_of, map_text, entry_of, entry_of_parts, with_entry, with_line, map_of_text}

-- ---- bytes of a line

-- no control character
abbrev shows : ℕ → Bool
shows b = nat_le 32 b

digit_shows : (c d : ℕ) → hex_digit_value c ≡ Some d → shows c ≡ true
digit_shows c d h = grind (arith)

hex_shows : (xs : List ℕ) → IsBytes xs → list_all shows (encode_lower xs) ≡ true
unfolding encode_with
hex_shows [] h = refl
hex_shows (b ∷ rest) h =
    let fits : b < 256 = h 0 in
    let high : b / 16 < 16 = omega arith in
    let low : b % 16 < 16 = omega arith in
    both_true (shows (slice_index lower_digits (b / 16))) _ (digit_shows _ (b / 16) (IsDigits-lower_digits (b / 16) high))
    (both_true (shows (slice_index lower_digits (b % 16))) _ (digit_shows _ (b % 16) (IsDigits-lower_digits (b % 16) low))
    (hex_shows rest (λ k. h (suc k))))

-- a line's text, without its end
abbrev line_text : List ℕ × List ℕ → List ℕ
line_text e = (codes "entry " ++ encode_lower e.0) ++ 32 ∷ encode_lower e.1

-- an entry of bytes
record IsEntry (e : List ℕ × List ℕ) : Type 0 where
  key : length e.0 ≡ 16
  key_bytes : IsBytes e.0
  value : length e.1 ≡ 32
  value_bytes : IsBytes e.1

text_shows : (e : List ℕ × List ℕ) → IsEntry e → list_all shows (line_text e) ≡ true
text_shows e h =
    all_more shows (codes "entry " ++ encode_lower e.0) (32 ∷ encode_lower e.1)
    (all_more shows (codes "entry ") (encode_lower e.0) refl (hex_shows e.0 h.key_bytes))
    (hex_shows e.1 h.value_bytes)

-- ---- the lines of the whole

shown_at : (xs : List ℕ) (i : ℕ) → list_all shows xs ≡ true → get_or xs i 0 ≡ 13 → ⊥
shown_at [] i h e = cc
shown_at (x ∷ xs) zero h e =
    let le : 32 ≤ x = leb-true 32 x (and_l (shows x) (list_all shows xs) h) in
    absurd (omega arith)
shown_at (x ∷ xs) (suc i) h e = shown_at xs i (and_r (shows x) (list_all shows xs) h) e

keeps_return : (t : List ℕ) → list_all shows t ≡ true → strip_carriage_return t ≡ t
keeps_return t h =
    ap (λ (b : Bool). cond b (take (length t - 1) t) t) (apart_eqb (slice_index t (length t - 1)) 13 (shown_at t (length t - 1) h))

no_feed : (b : ℕ) → shows b ≡ true → (b == 10) ≡ false
no_feed b h =
    let le : 32 ≤ b = leb-true 32 b h in
    let ne : b ≡ 10 → ⊥ = λ e. omega arith in
    apart_eqb b 10 ne

first_line : (t rest : List ℕ) → list_all shows t ≡ true → lines (t ++ 10 ∷ rest) ≡ t ∷ lines rest
first_line t rest h =
    let p = part_is (λ (b : ℕ). b == 10) rest in
    ap lines_of_parts (split_at 10 shows refl no_feed t rest h ∙ ap (λ (ps : List (List ℕ)). t ∷ ps) p.1.1)
    ∙ ap (λ (s : List ℕ). s ∷ lines_of_parts (p.0 ∷ p.1.0)) (keeps_return t h)
    ∙ ap (λ (ps : List (List ℕ)). t ∷ lines_of_parts ps) (sym p.1.1)

-- each entry is one
EachEntry : List (List ℕ × List ℕ) → Type 0
EachEntry [] = Unit {0}
EachEntry (e ∷ es) = IsEntry e × EachEntry es

lines_printed : (es : List (List ℕ × List ℕ)) → EachEntry es → lines (flat_map line_of es) ≡ map line_text es
unfolding EachEntry
lines_printed [] h = refl
lines_printed (e ∷ es) h =
    ap lines (append_assoc (line_text e) (10 ∷ []) (flat_map line_of es))
    ∙ first_line (line_text e) (flat_map line_of es) (text_shows e h.0)
    ∙ ap (λ (ls : List (List ℕ)). line_text e ∷ ls) (lines_printed es h.1)

-- ---- the entry of a line

entry_read : (e : List ℕ × List ℕ) → IsEntry e → entry_of (line_text e) ≡ Ok (record { key = e.0; value = e.1 })
entry_read e h =
    let k : List ℕ = encode_lower e.0 in
    let v : List ℕ = encode_lower e.1 in
    let body : List ℕ = k ++ 32 ∷ v in
    let kl : length k ≡ 32 = omega (arith, length-encode_with lower_digits e.0, h.key) in
    let vl : length v ≡ 64 = omega (arith, length-encode_with lower_digits e.1, h.value) in
    let whole : length body ≡ 97 = omega (arith, length-append k (32 ∷ v)) in
    let front : take 32 body ≡ k = ap (λ (n : ℕ). take n body) (sym kl) ∙ front_of k (32 ∷ v) in
    let cut : length (k ++ 32 ∷ []) ≡ 33 = omega (arith, length-append k (32 ∷ [])) in
    let back : drop 33 body ≡ v =
    ap (λ (n : ℕ). drop n body) (sym cut) ∙ ap (drop (length (k ++ 32 ∷ []))) (sym (append_assoc k (32 ∷ []) v)) ∙ back_of (k ++ 32 ∷ []) v in
    let blank : slice_index body 32 ≡ 32 = get_or-append_right k (32 ∷ v) 32 32 0 kl (omega arith) in
    ap (λ (b : Bool). cond b (cond (slice_index body 32 == 32) (entry_of_parts (decode_sized (take 32 body) 16) (decode_sized (drop 33 body) 32)) (Err WrongLength)) (Err WrongLength))
    (eq-eqb (length body) 97 whole)
    ∙ ap (λ (b : Bool). cond b (entry_of_parts (decode_sized (take 32 body) 16) (decode_sized (drop 33 body) 32)) (Err WrongLength))
    (eq-eqb (slice_index body 32) 32 blank)
    ∙ ap (λ (t : List ℕ). entry_of_parts (decode_sized t 16) (decode_sized (drop 33 body) 32)) front
    ∙ ap (λ (t : List ℕ). entry_of_parts (decode_sized k 16) (decode_sized t 32)) back
    ∙ ap (λ (r : Result (List ℕ) FromHexError). entry_of_parts r (decode_sized v 32)) (decode_sized-encode_lower e.0 16 h.key h.key_bytes)
    ∙ ap (λ (r : Result (List ℕ) FromHexError). entry_of_parts (Ok e.0) r) (decode_sized-encode_lower e.1 32 h.value h.value_bytes)

-- ---- keys that ascend are new

abbrev R : List ℕ → List ℕ → Ordering
R = slice_cmp nat_cmp

order : IsTotalOrder R
order = nat_list_cmp_total

later_is_greater : (x : List ℕ) (xs : List (List ℕ × List ℕ)) (e : List ℕ × List ℕ) (rest : List (List ℕ × List ℕ)) → below_all R x (xs ++ e ∷ rest) ≡ true → is_lt (R x e.0) ≡ true
later_is_greater x [] e rest h = and_l (is_lt (R x e.0)) (below_all R x rest) h
later_is_greater x (y ∷ ys) e rest h = later_is_greater x ys e rest (and_r (is_lt (R x y.0)) (below_all R x (ys ++ e ∷ rest)) h)

less_of : (o : Ordering) → is_lt o ≡ true → o ≡ Less
less_of Less h = refl
less_of Equal h = cc
less_of Greater h = cc

other_key : (x y : List ℕ) → is_lt (R x y) ≡ true → eq_by_cmp R y x ≡ false
other_key x y h = ap is_eq (order.antisymm y x ∙ ap ordering_reverse (less_of (R x y) h))

new_key : (xs : List (List ℕ × List ℕ)) (e : List ℕ × List ℕ) (rest : List (List ℕ × List ℕ)) → is_sorted R (xs ++ e ∷ rest) ≡ true → find R e.0 xs ≡ None
new_key [] e rest h = refl
new_key (x ∷ xs) e rest h =
    ap (λ (b : Bool). cond b (Some x.1) (find R e.0 xs)) (other_key x.0 e.0 (later_is_greater x.0 xs e rest (and_l (below_all R x.0 (xs ++ e ∷ rest)) (is_sorted R (xs ++ e ∷ rest)) h)))
    ∙ new_key xs e rest (and_r (below_all R x.0 (xs ++ e ∷ rest)) (is_sorted R (xs ++ e ∷ rest)) h)

-- ---- entries one after another

-- a map has these entries, by what it answers
record Has (m : Entries) (es : List (List ℕ × List ℕ)) : Type 0 where
  answers : (q : List ℕ) → map.get m q ≡ find R q es
  count : map.len m ≡ length es

has_more : (m : Entries) (es : List (List ℕ × List ℕ)) (e : List ℕ × List ℕ) → Has m es → find R e.0 es ≡ None → Has (map.insert m e.0 e.1) (es ++ e ∷ [])
has_more m es e h none =
    record {
      answers = λ q. map.get-insert order m e.0 e.1 q ∙ ap (cond (eq_by_cmp R q e.0) (Some e.1)) (h.answers q) ∙ sym (find-append R order es e.0 e.1 q none);
      count =
          map.len-insert order m e.0 e.1
          ∙ ap (λ (o : Option (List ℕ)). cond (is_some o) (map.len m) (map.len m + 1)) (h.answers e.0 ∙ none)
          ∙ omega (arith, h.count, length-append es (e ∷ []));
    }

added : (m : Entries) (es : List (List ℕ × List ℕ)) (e : List ℕ × List ℕ) → IsEntry e → Has m es → find R e.0 es ≡ None → length es < 4096 → with_line m (line_text e) ≡ Ok (map.insert m e.0 e.1)
added m es e one h none room =
    let few : map.len m < 4096 = omega (arith, h.count) in
    ap (with_entry m) (entry_read e one)
    ∙ ap (λ (o : Option (List ℕ)). cond (is_some o) (Err KeyTwice) (cond (nat_lt (map.len m) 4096) (Ok (map.insert m e.0 e.1)) (Err TooMany))) (h.answers e.0 ∙ none)
    ∙ ap (λ (b : Bool). cond b (Ok (map.insert m e.0 e.1)) (Err TooMany)) (sym (lt-true (map.len m) 4096 few))

all_added : (at : ℕ) (m : Entries) (es rest : List (List ℕ × List ℕ)) → EachEntry rest → Has m es → is_sorted R (es ++ rest) ≡ true → length (es ++ rest) ≤ 4096
    → (n : Entries) × (folded with_line m at (map line_text rest) ≡ Ok n) × Has n (es ++ rest)
unfolding EachEntry
all_added at m es [] each h sorted few = (m, refl, subst (Has m) (sym (append-nil es)) h)
all_added at m es (e ∷ rest) each h sorted few =
    let none : find R e.0 es ≡ None = new_key es e rest sorted in
    let room : length es < 4096 = omega (arith, length-append es (e ∷ rest)) in
    let again : (es ++ e ∷ []) ++ rest ≡ es ++ e ∷ rest = append_assoc es (e ∷ []) rest in
    let more = all_added (at + 1) (map.insert m e.0 e.1) (es ++ e ∷ []) rest each.1 (has_more m es e h none)
    (ap (is_sorted R) again ∙ sorted) (subst (λ (xs : List (List ℕ × List ℕ)). length xs ≤ 4096) (sym again) few) in (
      more.0,
      ap (λ (r : Result Entries MapKind). behind at r (λ next. folded with_line next (at + 1) (map line_text rest))) (added m es e each.0 h none room) ∙ more.1,
      subst (Has more.0) again more.2,
    )

-- ---- the whole

bytes_of : (xs : List ℕ) → All (λ byte. byte < 256) xs → IsBytes xs
bytes_of [] h i = omega arith
bytes_of (x ∷ xs) h zero = All-head (λ byte. byte < 256) x xs h
bytes_of (x ∷ xs) h (suc i) = bytes_of xs (All-tail (λ byte. byte < 256) x xs h) i

each_entry : (es : List (List ℕ × List ℕ)) → All IsKey (map (λ e. e.0) es) → All IsValue (map (λ e. e.1) es) → EachEntry es
unfolding EachEntry
each_entry [] ks vs = tt
each_entry (e ∷ es) ks vs =
    let k = All-head IsKey e.0 (map (λ e. e.0) es) ks in
    let v = All-head IsValue e.1 (map (λ e. e.1) es) vs in (
      record { key = k.0; key_bytes = bytes_of e.0 k.1; value = v.0; value_bytes = bytes_of e.1 v.1 },
      each_entry es (All-tail IsKey e.0 (map (λ e. e.0) es) ks) (All-tail IsValue e.1 (map (λ e. e.1) es) vs),
    )

true_of : (b : Bool) → T b → b ≡ true
true_of true h = refl
true_of false h = absurd h

pub there_and_back : (entries : Entries) → IsTenantMap entries → map_of_text (map_text entries) ≡ Ok entries
there_and_back entries h =
    let es : List (List ℕ × List ℕ) = map.entries entries in
    let each : EachEntry es = each_entry es h.keys h.values in
    let few : length es ≤ 4096 = subst (λ (n : ℕ). n ≤ 4096) (map.len-entries entries) h.count in
    let none : Has map.empty [] = record { answers = λ q. map.get-empty R q; count = map.len-empty R (List ℕ) } in
    let whole = all_added 1 map.empty [] es each none (true_of (is_sorted R es) (map.entries_sorted entries)) few in
    let same : whole.0 ≡ entries =
    map.same_map order (map.slice_cmp-IsAntisymmetric map.nat_cmp-IsAntisymmetric) whole.0 entries (λ q. whole.2.answers q ∙ sym (map.get-entries entries q)) in
    ap (folded with_line map.empty 1) (lines_printed es each)
    ∙ whole.1
    ∙ ap (λ (m : Entries). Ok m) same
