-- Pieces fed to a sink one after another.
use Rattle.std.proofs.Common.{◌≡◌, ℕ, ◌+◌, ◌<◌, ◌≤◌, List, [], ◌∷◌, ◌++◌, length, take, drop, arith, get_or, map, set, refl, sym, ap, subst, ◌∙◌, append_assoc}
use Rattle.std.specs.Prelude.{flat_map}
use Rattle.std.proofs.lemmas.List.{append-nil, take_more, take_more_set, take_all, drop_all}
use Rattle.std.proofs.Math.Seq.{take-append_seam, drop-append_seam}
use borrow.Rule.Slice.PartMut.{put_mid}
use Rattle.std.proofs.lemmas.Grind.{flat_map-append}
use Rattle.std.proofs.lemmas.List.Concat.{flat_map-cons}
use Rattle.service_core.specs.Sinks.{Feeds}

module _ {S : Type 0} (holds : S → List ℕ → Type 0) where
  pub fed_none : (s : S) → Feeds holds s s []
  fed_none s = λ before h. subst (holds s) (sym (append-nil before)) h

  pub fed_then : (a b c : S) (xs ys : List ℕ) → Feeds holds a b xs → Feeds holds b c ys → Feeds holds a c (xs ++ ys)
  fed_then a b c xs ys first second = λ before h. subst (holds c) (append_assoc before xs ys) (second (before ++ xs) (first before h))

  pub fed_same : (a b : S) (xs ys : List ℕ) → xs ≡ ys → Feeds holds a b xs → Feeds holds a b ys
  fed_same a b xs ys e h = subst (Feeds holds a b) e h

-- one item more of those whose pieces were fed
pub flat_map_more : {X Y : Type 0} (f : X → List Y) (xs : List X) (i : ℕ) (d : X) → i < length xs → flat_map f (take (i + 1) xs) ≡ flat_map f (take i xs) ++ f (get_or xs i d)
flat_map_more f xs i d h =
    ap (flat_map f) (take_more xs i d h) ∙ flat_map-append f (take i xs) (get_or xs i d ∷ [])
    ∙ ap (λ (ys : List _). flat_map f (take i xs) ++ ys) (append-nil (f (get_or xs i d)))

-- what the first rows of a table hold
abbrev pub rows : ℕ → List (List ℕ) → List ℕ
rows count table = flat_map (λ (row : List ℕ). row) (take count table)

-- Some pieces of a list were fed behind a head, then some wait to be fed, and the others are left.
pub record Put {S X : Type 0} (holds : S → List ℕ → Type 0) (first last : S) (head : List ℕ) (f : X → List ℕ) (waiting : List ℕ) (left all : List X) : Type 0 where
  pub done : List ℕ
  pub fed : Feeds holds first last (head ++ done)
  pub is : done ++ (waiting ++ flat_map f left) ≡ flat_map f all

pub put_none : {S X : Type 0} (holds : S → List ℕ → Type 0) (first last : S) (head : List ℕ) (f : X → List ℕ) (left all : List X) → left ≡ all → Feeds holds first last head → Put holds first last head f [] left all
put_none holds first last head f left all e h = record { done = []; fed = fed_same holds first last head (head ++ []) (sym (append-nil head)) h; is = ap (flat_map f) e }

-- the next piece waits too, written behind the first rows of a table
pub put_row : {S X : Type 0} (holds : S → List ℕ → Type 0) (first last : S) (head : List ℕ) (f : X → List ℕ) (table : List (List ℕ)) (count : ℕ) (row : List ℕ) (before left all : List X) (x : X) → before ≡ x ∷ left → count < length table → row ≡ f x
    → Put holds first last head f (rows count table) before all → Put holds first last head f (rows (count + 1) (set table count row)) left all
put_row holds first last head f table count row before left all x e room is_row h = record {
  done = h.done;
  fed = h.fed;
  is = ap (λ (ys : List ℕ). h.done ++ (ys ++ flat_map f left)) one_more
      ∙ ap (λ (ys : List ℕ). h.done ++ ys)
      (append_assoc (rows count table) (f x) (flat_map f left)
      ∙ ap (λ (ys : List ℕ). rows count table ++ ys) (sym (ap (flat_map f) e ∙ flat_map-cons f x left)))
      ∙ h.is;
} where
  one_more : rows (count + 1) (set table count row) ≡ rows count table ++ f x
  one_more =
      ap (flat_map (λ (y : List ℕ). y)) (take_more_set table count row room)
      ∙ flat_map-append (λ (y : List ℕ). y) (take count table) (row ∷ [])
      ∙ ap (λ (ys : List ℕ). rows count table ++ ys) (append-nil row ∙ is_row)

-- what waits is fed
pub put_fed : {S X : Type 0} (holds : S → List ℕ → Type 0) (first mid last : S) (head : List ℕ) (f : X → List ℕ) (waiting : List ℕ) (left all : List X) → Put holds first mid head f waiting left all → Feeds holds mid last waiting
    → Put holds first last head f [] left all
put_fed holds first mid last head f waiting left all h more = record {
  done = h.done ++ waiting;
  fed = fed_same holds first last ((head ++ h.done) ++ waiting) (head ++ (h.done ++ waiting)) (append_assoc head h.done waiting) (fed_then holds first mid last (head ++ h.done) waiting h.fed more);
  is = append_assoc h.done waiting (flat_map f left) ∙ h.is;
}

pub put_all : {S X : Type 0} (holds : S → List ℕ → Type 0) (first last : S) (head : List ℕ) (f : X → List ℕ) (left all : List X) → left ≡ [] → Put holds first last head f [] left all → Feeds holds first last (head ++ flat_map f all)
put_all holds first last head f left all e h =
    fed_same holds first last (head ++ h.done) (head ++ flat_map f all)
    (ap (λ (ys : List ℕ). head ++ ys) (sym (append-nil h.done) ∙ ap (λ (xs : List _). h.done ++ flat_map f xs) (sym e) ∙ h.is)) h.fed

-- pieces of what is read of a list
pub flat_map-map : {X Y : Type 0} (f : Y → List ℕ) (r : X → Y) (xs : List X) → flat_map f (map r xs) ≡ flat_map (λ x. f (r x)) xs
flat_map-map f r [] = refl
flat_map-map f r (x ∷ xs) = flat_map-cons f (r x) (map r xs) ∙ ap (λ (ys : List ℕ). f (r x) ++ ys) (flat_map-map f r xs) ∙ sym (flat_map-cons (λ y. f (r y)) x xs)

-- the same in a loop by index
pub fed_more : {S X : Type 0} (holds : S → List ℕ → Type 0) (first mid last : S) (head : List ℕ) (f : X → List ℕ) (xs : List X) (i : ℕ) (x : X) → i < length xs → x ≡ get_or xs i x
    → Feeds holds first mid (head ++ flat_map f (take i xs)) → Feeds holds mid last (f x) → Feeds holds first last (head ++ flat_map f (take (i + 1) xs))
fed_more holds first mid last head f xs i x h is before more =
    fed_same holds first last ((head ++ flat_map f (take i xs)) ++ f x) (head ++ flat_map f (take (i + 1) xs))
    (append_assoc head (flat_map f (take i xs)) (f x)
    ∙ ap (λ (ys : List ℕ). head ++ ys) (ap (λ (y : _). flat_map f (take i xs) ++ f y) is ∙ sym (flat_map_more f xs i x h)))
    (fed_then holds first mid last (head ++ flat_map f (take i xs)) (f x) before more)

pub fed_all : {S X : Type 0} (holds : S → List ℕ → Type 0) (first last : S) (head : List ℕ) (f : X → List ℕ) (xs : List X) (i : ℕ) → length xs ≤ i
    → Feeds holds first last (head ++ flat_map f (take i xs)) → Feeds holds first last (head ++ flat_map f xs)
fed_all holds first last head f xs i h all =
    fed_same holds first last (head ++ flat_map f (take i xs)) (head ++ flat_map f xs) (ap (λ (ys : List _). head ++ flat_map f ys) (take_all i xs h)) all

-- a key and a value in one piece
pub one_piece : (room key value key' value' : List ℕ) → length room ≡ 32 → length key ≡ 16 → length value ≡ 32 → key' ≡ key → value' ≡ value → put_mid 16 32 (key' ++ room) value' ≡ key ++ value
one_piece room key value key' value' r k v is_key is_value =
    ap (λ (x : List ℕ). put_mid 16 32 (x ++ room) value') is_key
    ∙ ap (put_mid 16 32 (key ++ room)) is_value
    ∙ ap (λ (x : List ℕ). take 16 (key ++ room) ++ (value ++ x)) (ap (drop 32) (drop_key 16 key room k) ∙ drop_all 32 room (omega (arith, r)))
    ∙ ap (λ (x : List ℕ). x ++ (value ++ [])) (take_key 16 key room k)
    ∙ ap (λ (x : List ℕ). key ++ x) (append-nil value) where
      take_key : (n : ℕ) (xs ys : List ℕ) → length xs ≡ n → take n (xs ++ ys) ≡ xs
      take_key n xs ys e = subst (λ (i : ℕ). take i (xs ++ ys) ≡ xs) e (take-append_seam xs ys)

      drop_key : (n : ℕ) (xs ys : List ℕ) → length xs ≡ n → drop n (xs ++ ys) ≡ ys
      drop_key n xs ys e = subst (λ (i : ℕ). drop i (xs ++ ys) ≡ ys) e (drop-append_seam xs ys)
