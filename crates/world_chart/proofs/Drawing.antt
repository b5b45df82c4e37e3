-- Rows, one after another.
use Rattle.std.proofs.Common.{◌≡◌, ◌⊎◌, inl, inr, ℕ, zero, suc, ◌+◌, ◌<◌, ◌≤◌, Bool, true, false, List, [], ◌∷◌, ◌++◌, length, get_or, take, Ok, Err, refl, sym, ap, subst, ◌∙◌, arith}
use Rattle.std.specs.Prelude.{All, IfOk, OnOk, Result, codes, cond, count_by, decimal}
use Rattle.std.specs.String.{string_bytes}
use Rattle.std.proofs.lemmas.List.{append-nil, append_assoc, take_all, take_more}
use Rattle.std.proofs.lemmas.List.Elements.{All-append}
use Rattle.std.proofs.lemmas.List.Sums.{sum_by-append}
use Rattle.world_chart.specs.Drawing.{Adds, AddsView, Folds, IsSingle, Stand, Takes, Unfolds, Wait}
use Rattle.world_chart.specs.Rows.{AreRows, Says, Shows, is_accepted, is_message}
use Rattle.world_chart.specs.declared.rows.Row.{Row}
use Rattle.world_chart.specs.declared.rows.Shape.{Shape}
use Rattle.world_chart.specs.declared.rows.Shape.TheVariants as shapes
use Rattle.world_lines.specs.declared.happening.Happening.{Happening}

pub on_ok : {E : Type 0} (r : Result (Unit {0}) E) (A B : Type 0) → (A → B) → OnOk r A → OnOk r B
on_ok (Ok done) A B f a = f a
on_ok (Err fault) A B f a = tt

-- ---- rows

-- One more row is added.
rows_more : (hs front : List Happening) (rs : List Row) (r : Row) → AreRows hs rs → Shows front r.shape (string_bytes r.words) → AreRows (hs ++ front) (rs ++ r ∷ [])
rows_more hs front [] r are shows = (front, [], ap (λ (xs : List Happening). xs ++ front) are ∙ sym (append-nil front), shows, refl)
rows_more hs front (q ∷ qs) r are shows = (
  are.0,
  are.1 ++ front,
  ap (λ (xs : List Happening). xs ++ front) are.2 ∙ append_assoc are.0 are.1 front,
  are.3,
  rows_more are.1 front qs r are.4 shows,
)

single : (h : Happening) (shape : Shape) (words : List ℕ) → IsSingle shape → Says h words → Shows (h ∷ []) shape words
single h shapes.Fold words is says = absurd is
single h (shapes.View view) words is says = absurd is
single h shape words is says = (h, refl, says)

view_added : (hs : List Happening) (old new : List Row) → AreRows hs old → AddsView old new → AreRows hs new
view_added hs old new are (inl same) = subst (AreRows hs) (sym same) are
view_added hs old new are (inr e) = subst (AreRows hs) (sym e.1) (subst (λ (xs : List Happening). AreRows xs (old ++ e.0 ∷ [])) (append-nil hs) (rows_more hs [] old e.0 are e.2))

added : (hs : List Happening) (h : Happening) (old new : List Row) → AreRows hs old → Adds h old new → AreRows (hs ++ h ∷ []) new
added hs h old new are e =
    subst (AreRows (hs ++ h ∷ [])) (sym e.2.1)
    (rows_more hs (h ∷ []) e.0 e.2.0 (view_added hs old e.0 are e.1) (single h e.2.0.shape (string_bytes e.2.0.words) e.2.2 e.2.3))

pub if_ok : {A E : Type 0} (r : Result A E) (P Q : A → Type 0) → ((x : A) → P x → Q x) → IfOk r P → IfOk r Q
if_ok (Ok x) P Q f p = f x p
if_ok (Err e) P Q f p = tt

-- ---- what waits

abbrev Folded : Happening → Type 0
Folded h = (is_message h ≡ true) ⊎ (is_accepted h ≡ true)

one_folded : (h : Happening) → Folded h → All Folded (h ∷ [])
one_folded h p zero d below = p
one_folded h p (suc k) d below = absurd (no k below) where
  no : (k : ℕ) → suc k < 1 → ⊥
  no k b = omega (arith, b)

none_folded : All Folded []
none_folded k d below = absurd (no k below) where
  no : (k : ℕ) → k < 0 → ⊥
  no k b = omega (arith, b)

counts_message : (h : Happening) → is_message h ≡ true → count_by is_message (h ∷ []) ≡ 1
counts_message h is = ap (λ (b : Bool). 0 + cond b 1 0) is

counts_other : (h : Happening) → is_message h ≡ false → count_by is_message (h ∷ []) ≡ 0
counts_other h is = ap (λ (b : Bool). 0 + cond b 1 0) is

-- One more waits.
waits_more : (waiting : List Happening) (h : Happening) (many new : ℕ) → Wait waiting many → Folds h many new true → Wait (waiting ++ h ∷ []) new
waits_more waiting h many new w (inl e) = record {
  are = All-append Folded waiting (h ∷ []) w.are (one_folded h (inl e.0));
  counted = e.1 ∙ counted many (count_by is_message waiting) (count_by is_message (waiting ++ h ∷ [])) (count_by is_message (h ∷ [])) w.counted (sum_by-append (λ x. cond (is_message x) 1 0) waiting (h ∷ [])) (counts_message h e.0);
  none = λ is. absurd (some many new e.1 is);
} where
  counted : (m c a o : ℕ) → m ≡ c → a ≡ c + o → o ≡ 1 → m + 1 ≡ a
  counted m c a o x y z = omega (arith, x, y, z)

  some : (m n : ℕ) → n ≡ m + 1 → n ≡ 0 → ⊥
  some m n x y = omega (arith, x, y)
waits_more waiting h many new w (inr e) = record {
  are = All-append Folded waiting (h ∷ []) w.are (one_folded h (inr e.0));
  counted = e.3 ∙ counted many (count_by is_message waiting) (count_by is_message (waiting ++ h ∷ [])) (count_by is_message (h ∷ [])) w.counted (sum_by-append (λ x. cond (is_message x) 1 0) waiting (h ∷ [])) (counts_other h e.1);
  none = λ is. absurd (some many new e.2 e.3 is);
} where
  counted : (m c a o : ℕ) → m ≡ c → a ≡ c + o → o ≡ 0 → m ≡ a
  counted m c a o x y z = omega (arith, x, y, z)

  some : (m n : ℕ) → 0 < m → n ≡ m → n ≡ 0 → ⊥
  some m n x y z = omega (arith, x, y, z)

-- Nothing waits any more.
pub unfolded : (hs : List Happening) (old new : List Row) (many : ℕ) → Stand hs old many → Unfolds many old new → AreRows hs new
unfolded hs old new many st (inl e) =
    subst (λ (rs : List Row). AreRows hs rs) (sym e.1)
    (subst (λ (xs : List Happening). AreRows xs old) (sym (st.2 ∙ ap (λ (xs : List Happening). st.0 ++ xs) (st.4.none e.0) ∙ append-nil st.0)) st.3)
unfolded hs old new many st (inr e) =
    subst (λ (rs : List Row). AreRows hs rs) (sym e.1.1)
    (subst (λ (xs : List Happening). AreRows xs (old ++ e.1.0 ∷ [])) (sym st.2)
    (rows_more st.0 st.1 old e.1.0 st.3
    (subst (λ (shape : Shape). Shows st.1 shape (string_bytes e.1.0.words)) (sym e.1.2)
    (subst (λ (n : ℕ). 0 < n) st.4.counted e.0, st.4.are, (e.1.3.0, e.1.3.1 ∙ ap (λ (n : ℕ). decimal n ++ (codes " message" ++ e.1.3.0)) st.4.counted)))))

-- One more thing has happened.
pub taken : (hs : List Happening) (h : Happening) (old new : List Row) (many now : ℕ) → Stand hs old many → Takes h old many new now → Stand (hs ++ h ∷ []) new now
taken hs h old new many now st (inl e) = (
  st.0,
  st.1 ++ h ∷ [],
  ap (λ (xs : List Happening). xs ++ h ∷ []) st.2 ∙ append_assoc st.0 st.1 (h ∷ []),
  subst (AreRows st.0) (sym e.1) st.3,
  waits_more st.1 h many now st.4 e.0,
)
taken hs h old new many now st (inr e) = (
  hs ++ h ∷ [],
  [],
  sym (append-nil (hs ++ h ∷ [])),
  added hs h e.0 new (unfolded hs old e.0 many st e.1) e.2,
  record { are = none_folded; counted = e.3; none = λ is. refl },
)

pub stands_at_start : Stand [] [] 0
stands_at_start = ([], [], refl, refl, record { are = none_folded; counted = refl; none = λ is. refl })

pub stands_more : (happened : List Happening) (i : ℕ) (d h : Happening) (old new : List Row) (many now : ℕ) → i < length happened → h ≡ get_or happened i d → Stand (take i happened) old many → Takes h old many new now → Stand (take (i + 1) happened) new now
stands_more happened i d h old new many now below read st t =
    subst (λ (xs : List Happening). Stand xs new now) (ap (λ (x : Happening). take i happened ++ x ∷ []) read ∙ sym (take_more happened i d below)) (taken (take i happened) h old new many now st t)

pub unfolds_same : (many before : ℕ) (old older new : List Row) → before ≡ many → older ≡ old → Unfolds before older new → Unfolds many old new
unfolds_same many before old older new a b e = subst (λ (n : ℕ). Unfolds n old new) a (subst (λ (rs : List Row). Unfolds before rs new) b e)

pub still_within : (h : Happening) (i : ℕ) (old new : List Row) (many now : ℕ) → many ≤ i → Takes h old many new now → now ≤ i + 1
still_within h i old new many now w (inl e) = by e.0 where
  by : Folds h many now true → now ≤ i + 1
  by (inl f) = let g = f.1 in omega (arith, w, g)
  by (inr f) = let g = f.3 in omega (arith, w, g)
still_within h i old new many now w (inr e) = let g = e.3 in omega (arith, g)

pub all_rows : (happened : List Happening) (i : ℕ) (old new : List Row) (many : ℕ) → length happened ≤ i → Stand (take i happened) old many → Unfolds many old new → AreRows happened new
all_rows happened i old new many all st e = unfolded happened old new many (subst (λ (xs : List Happening). Stand xs old many) (take_all i happened all) st) e
