-- Entries that are read in the order of their keys.
use Rattle.std.proofs.Common.{◌≡◌, ℕ, ◌<◌, ◌≤◌, Bool, true, false, cond, not, ◌&&◌, List, [], ◌∷◌, ◌++◌, length, map, Option, Some, Result, Ok, Err, refl, sym, ap, subst, ◌∙◌, true≢false, append_assoc, arith}
use Rattle.std.specs.Prelude.{flat_map, find, is_some, All, MatchBool, T}
use Rattle.std.specs.FinMap as finite
use Rattle.std.specs.FinMap.Entries.{is_sorted, below_all}
use Rattle.std.specs.Ordering.{is_lt, is_eq, ordering_reverse}
use Rattle.std.specs.declared.cmp.Ordering.{Ordering}
use Rattle.std.specs.declared.cmp.Ordering.TheVariants.{Less, Equal, Greater}
use Rattle.std.specs.Cmp.Lexicographic.{nat_list_cmp_total}
use Rattle.std.proofs.lemmas.List.Elements.{All-head, All-tail, All-cons, All-nil}
use Rattle.tenant_maps.specs.Entries.{Entries, next_key}
use Rattle.tenant_maps.proofs.EntriesLemmas.{order}
use Rattle.service_core.specs.declared.state_fault.StateFault.{StateFault}
use Rattle.service_core.specs.declared.state_fault.StateFault.TheVariants.{BadState, Memory}
use Rattle.service_model.specs.Words.{u32_bytes}
use Rattle.service_model.specs.Encoding.{encoded_entries}
use Rattle.service_model.specs.Bounded.{IsSizedMap}
use Rattle.service_core.specs.Readings.{Begins, Reads, IsAbove, AreSizedEntries}
use Rattle.service_model.proofs.PrefixFree.{IsPrefixFree, free_four}
use Rattle.service_model.proofs.Injective.{entry_lengths, free_entry}
use Rattle.service_core.proofs.Encoded.{HasRead, SoMany, stuck}

-- an entry: a key and a value, of 16 and 32 bytes
abbrev pub Entry : Type 0
Entry = List ℕ × List ℕ

abbrev pub entry_encoding : Entry → List ℕ
entry_encoding entry = entry.0 ++ entry.1

abbrev pub IsSized : Entry → Type 0
IsSized entry = (length entry.0 ≡ 16) × (length entry.1 ≡ 32)

abbrev pub entries_bytes : Entries → List ℕ
entries_bytes entries = flat_map entry_encoding (finite.entries entries)

pub free_sized : IsPrefixFree entry_encoding IsSized
free_sized x y r t p q h = free_entry x y r t p q h

nothing : {A : Type 0} (es : List A) → length es ≡ 0 → es ≡ []
nothing [] e = refl
nothing (x ∷ es) e = absurd (omega (arith, e))

pub none_yet : finite.entries (finite.empty {K = List ℕ} {X = List ℕ} {R = order}) ≡ []
none_yet = nothing _ (sym (finite.len-entries _) ∙ finite.len-empty order (List ℕ))

pub no_entries_of : (entries : Entries) → entries ≡ finite.empty → finite.entries entries ≡ []
no_entries_of entries e = ap finite.entries e ∙ none_yet

-- ---- a key that is above all others

abbrev AllBelow : List ℕ → List Entry → Type 0
AllBelow key es = All (λ other. order other key ≡ Less) (map (λ e. e.0) es)

turned : (a b : List ℕ) (o : Ordering) → order a b ≡ o → order b a ≡ ordering_reverse o
turned a b o e = nat_list_cmp_total.antisymm b a ∙ ap ordering_reverse e

all_below : (key : List ℕ) (es : List Entry) → is_some (finite.find order key es) ≡ false → is_some (find (λ other. is_lt (order key other)) (map (λ e. e.0) es)) ≡ false → AllBelow key es
all_below key [] none last = All-nil (λ other. order other key ≡ Less)
all_below key (e ∷ es) none last = cases (all_below key es) (order key e.0) refl none last where
  cases : (is_some (finite.find order key es) ≡ false → is_some (find (λ other. is_lt (order key other)) (map (λ x. x.0) es)) ≡ false → AllBelow key es) → (o : Ordering) → order key e.0 ≡ o → is_some (cond (is_eq o) (Some e.1) (finite.find order key es)) ≡ false
      → is_some (cond (is_lt o) (Some e.0) (find (λ other. is_lt (order key other)) (map (λ x. x.0) es))) ≡ false → AllBelow key (e ∷ es)
  cases rest Less is n l = absurd (true≢false l)
  cases rest Equal is n l = absurd (true≢false n)
  cases rest Greater is n l = All-cons (λ other. order other key ≡ Less) e.0 (map (λ x. x.0) es) (turned key e.0 Greater is) (rest n l)

found_not_below : (key : List ℕ) (es : List Entry) → is_some (finite.find order key es) ≡ true → AllBelow key es → ⊥
found_not_below key [] some below = true≢false (sym some)
found_not_below key (e ∷ es) some below =
    let greater : order key e.0 ≡ Greater = turned e.0 key Less (All-head (λ other. order other key ≡ Less) e.0 (map (λ x. x.0) es) below) in
    found_not_below key es (sym (ap (λ (o : Ordering). is_some (cond (is_eq o) (Some e.1) (finite.find order key es))) greater) ∙ some) (All-tail (λ other. order other key ≡ Less) e.0 (map (λ x. x.0) es) below)

next_not_below : (key : List ℕ) (es : List Entry) → is_some (find (λ other. is_lt (order key other)) (map (λ e. e.0) es)) ≡ true → AllBelow key es → ⊥
next_not_below key [] some below = true≢false (sym some)
next_not_below key (e ∷ es) some below =
    let greater : order key e.0 ≡ Greater = turned e.0 key Less (All-head (λ other. order other key ≡ Less) e.0 (map (λ x. x.0) es) below) in
    next_not_below key es (sym (ap (λ (o : Ordering). is_some (cond (is_lt o) (Some e.0) (find (λ other. is_lt (order key other)) (map (λ x. x.0) es)))) greater) ∙ some) (All-tail (λ other. order other key ≡ Less) e.0 (map (λ x. x.0) es) below)

module _ (entries : Entries) (key : List ℕ) where
  pub not_above_found : (found : Option (List ℕ)) → found ≡ finite.get entries key → is_some found ≡ true → IsAbove entries key → ⊥
  not_above_found found is some = found_not_below key (finite.entries entries) (sym (ap is_some (is ∙ finite.get-entries entries key)) ∙ some)

  pub above_or_not : (found next : Option (List ℕ)) → found ≡ finite.get entries key → is_some found ≡ false → next ≡ next_key entries key → (last : Bool) → is_some next ≡ not last → MatchBool last (IsAbove entries key) (IsAbove entries key → ⊥)
  above_or_not found next is none above true e = all_below key (finite.entries entries) (sym (ap is_some (is ∙ finite.get-entries entries key)) ∙ none) (sym (ap is_some above) ∙ e)
  above_or_not found next is none above false e = next_not_below key (finite.entries entries) (sym (ap is_some above) ∙ e)

-- ---- the keys of a map rise

first : (a b : Bool) → T (a && b) → T a
first true b p = tt
first false b p = p

second : (a b : Bool) → T (a && b) → T b
second true b p = p
second false b p = absurd p

less : (o : Ordering) → T (is_lt o) → o ≡ Less
less Less p = refl
less Equal p = absurd p
less Greater p = absurd p

below_at : (x : List ℕ) (xs zs : List Entry) (y : Entry) → T (below_all order x (xs ++ y ∷ zs)) → order x y.0 ≡ Less
below_at x [] zs y h = less (order x y.0) (first _ _ h)
below_at x (e ∷ xs) zs y h = below_at x xs zs y (second _ _ h)

before : (xs zs : List Entry) (y : Entry) → T (is_sorted order (xs ++ y ∷ zs)) → AllBelow y.0 xs
before [] zs y h = All-nil (λ other. order other y.0 ≡ Less)
before (x ∷ xs) zs y h = All-cons (λ other. order other y.0 ≡ Less) x.0 (map (λ e. e.0) xs) (below_at x.0 xs zs y (first _ _ h)) (before xs zs y (second _ _ h))

-- ---- maps

-- what begins with a map begins with its entries
pub as_entries : (count : ℕ) (bytes : List ℕ) → Begins entries_bytes (AreSizedEntries count) bytes → Begins (flat_map entry_encoding) (SoMany IsSized count) bytes
as_entries count bytes (m, more, fits, e) = (finite.entries m, more, (fits.count_is, entry_lengths (finite.entries m) fits.keys fits.values), e)

-- so the next key is above those that were read
pub next_above : (bytes : List ℕ) (entries : Entries) (counter count : ℕ) (rest after : List ℕ) (key value : List ℕ) → HasRead entry_encoding IsSized bytes (finite.entries entries) counter rest → counter < count
    → length key ≡ 16 → length value ≡ 32 → rest ≡ (key ++ value) ++ after → Begins entries_bytes (AreSizedEntries count) bytes → IsAbove entries key
next_above bytes entries counter count rest after key value h lt k v e (m, more, fits, is) =
    let all = entry_lengths (finite.entries m) fits.keys fits.values in
    let next = stuck entry_encoding IsSized free_sized (finite.entries entries) (finite.entries m) rest more (omega (arith, h.count, lt, fits.count_is)) h.fits all (sym h.text ∙ is) in
    let one = free_sized (key, value) next.0 after _ (k, v) next.2 (sym e ∙ next.4) in
    let rises : T (is_sorted order (finite.entries entries ++ next.0 ∷ next.1)) = subst (λ (es : List Entry). T (is_sorted order es)) next.3 (finite.entries_sorted m) in
    subst (λ (x : Entry). AllBelow x.0 (finite.entries entries)) (sym one.0) (before (finite.entries entries) next.1 next.0 rises)

-- the entries of a map after its count
pub length_prefixed_entries : {R : Type 0} (view : R → Entries × List ℕ) (count : ℕ) (bytes rest : List ℕ) (result : Result R StateFault) → count ≤ 4096 → bytes ≡ u32_bytes count ++ rest
    → Reads view entries_bytes (AreSizedEntries count) rest result → Reads view encoded_entries IsSizedMap bytes result
length_prefixed_entries view count bytes rest (Ok r) few e h =
    let m = (view r).0 in
    let len : finite.len m ≡ count = finite.len-entries m ∙ h.0.count_is in (
      record { keys = h.0.keys; values = h.0.values; count = omega (arith, len, few) },
      e ∙ ap (λ (t : List ℕ). u32_bytes count ++ t) h.1 ∙ sym (append_assoc (u32_bytes count) (entries_bytes m) (view r).1) ∙ ap (λ (k : ℕ). (u32_bytes k ++ entries_bytes m) ++ (view r).1) (sym len),
    )
length_prefixed_entries view count bytes rest (Err BadState) few e h = λ begins.
    let m = begins.0 in
    let one = free_four count (finite.len m) rest (entries_bytes m ++ begins.1) (omega (arith, few)) (omega (arith, begins.2.count)) (sym e ∙ begins.3 ∙ append_assoc (u32_bytes (finite.len m)) (entries_bytes m) begins.1) in
    h (m, begins.1, record { keys = begins.2.keys; values = begins.2.values; count_is = sym (finite.len-entries m) ∙ sym one.0 }, one.1)
length_prefixed_entries view count bytes rest (Err Memory) few e h = tt
