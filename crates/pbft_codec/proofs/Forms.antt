-- What a reader and an encoding have to do with each other, and how that passes from parts to wholes.
use Rattle.std.proofs.Common.{◌≡◌, ℕ, zero, suc, ◌+◌, ◌<◌, Bool, true, false, cond, eqb, List, [], ◌∷◌, ◌++◌, length, get_or, take, drop, Result, Ok, Err, refl, sym, ap, subst, ◌∙◌, ◌⊎◌, inl, inr, append_assoc, arith}
use Rattle.std.specs.List.{flat_map}
use Rattle.std.proofs.Math.Dec.{eqb-suc-zero}
use Rattle.std.proofs.lemmas.Bool.{cases_lt, eqb-true}
use Rattle.std.proofs.lemmas.List.{append-nil, nil_from_length, length-append, length-take, get_or-drop, get_or-take, get_or_past}
use Rattle.std.proofs.lemmas.List.Concat.{flat_map-cons}
use Rattle.codec_fields.specs.declared.fault.CodecFault.{CodecFault}
use Rattle.codec_fields.specs.declared.fault.CodecFault.TheVariants.{Truncated, Trailing}
use Rattle.codec_fields.specs.Fields.{◌>>=◌, Reading, pair, map}
use Rattle.pbft_codec.specs.Reading.{whole, many_at}

abbrev pub IsBytes : List ℕ → Type 0
IsBytes bytes = (i : ℕ) → get_or bytes i 0 < 256

pub IsBytes-drop : (n : ℕ) (bytes : List ℕ) → IsBytes bytes → IsBytes (drop n bytes)
IsBytes-drop n bytes h i = rw get_or-drop (h (n + i))

pub IsBytes-take : (n : ℕ) (bytes : List ℕ) → IsBytes bytes → IsBytes (take n bytes)
IsBytes-take n bytes h i =
    elim (cases_lt i n) [
      | inl lt ↦ rw (get_or-take n bytes i 0 lt) (h i)
      | inr le ↦ rw (get_or_past (take n bytes) i 0 (omega (arith, length-take n bytes))) (omega arith)
    ]

pub IsBytes-rest : (b : ℕ) (bytes : List ℕ) → IsBytes (b ∷ bytes) → IsBytes bytes
IsBytes-rest b bytes h i = h (suc i)

-- the value of a step that did not fail
pub bind_ok : {A B : Type 0} (r : Result A CodecFault) (f : A → Result B CodecFault) (y : B) → (r >>= f) ≡ Ok y → (x : A) × (r ≡ Ok x) × (f x ≡ Ok y)
bind_ok (Ok x) f y e = (x, refl, e)
bind_ok (Err d) f y e = absurd cc

-- a test that did not fail
pub guard_ok : {A : Type 0} (b : Bool) (d : CodecFault) (x y : A) → cond b (Err d) (Ok x) ≡ Ok y → (b ≡ false) × (x ≡ y)
guard_ok true d x y e = absurd cc
guard_ok false d x y e = (refl, cc)

pub guard_passed : {A : Type 0} (b : Bool) (d : CodecFault) (x y : A) → cond b (Ok x) (Err d) ≡ Ok y → (b ≡ true) × (x ≡ y)
guard_passed true d x y e = (refl, cc)
guard_passed false d x y e = absurd cc

abbrev done : {A : Type 0} → A → Result A CodecFault
done x = Ok x

pub ok_is : {A : Type 0} (x y : A) → done x ≡ done y → x ≡ y
ok_is x y e = cc

-- what a reading took from the front
pub record Takes (bytes text rest : List ℕ) : Type 0 where
  pub parts : bytes ≡ text ++ rest
  pub rest_bytes : IsBytes rest

pub Takes-then : (a x b y c : List ℕ) → Takes a x b → Takes b y c → Takes a (x ++ y) c
Takes-then a x b y c p q = record { parts = p.parts ∙ ap (λ (t : List ℕ). x ++ t) q.parts ∙ sym (append_assoc x y c); rest_bytes = q.rest_bytes }

-- What is read was encoded so; what is encoded is read again, whatever follows; what is cut off is truncated.
pub record IsForm {A : Type 0} (reading : Reading A) (encoded : A → List ℕ) (Readable : A → Type 0) : Type 0 where
  pub takes : (bytes : List ℕ) (x : A × List ℕ) → IsBytes bytes → reading bytes ≡ Ok x → Takes bytes (encoded x.0) x.1 × Readable x.0
  pub again : (x : A) (rest : List ℕ) → Readable x → reading (encoded x ++ rest) ≡ Ok (x, rest)
  pub short : (x : A) (front back : List ℕ) → Readable x → 0 < length back → encoded x ≡ front ++ back → reading front ≡ Err Truncated

-- Two parts that are cut are cut in the first, or behind it.
abbrev pub IsCut : List ℕ → List ℕ → List ℕ → List ℕ → Type 0
IsCut s t front back =
    ((mid : List ℕ) × (0 < length mid) × (s ≡ front ++ mid)) ⊎ ((mid : List ℕ) × (front ≡ s ++ mid) × (t ≡ mid ++ back))

cut_more : (c : ℕ) (s t front back : List ℕ) → IsCut s t front back → IsCut (c ∷ s) t (c ∷ front) back
cut_more c s t front back (inl p) = inl (p.0, p.1, ap (λ (x : List ℕ). c ∷ x) p.2)
cut_more c s t front back (inr p) = inr (p.0, ap (λ (x : List ℕ). c ∷ x) p.1, p.2)

pub cut : (s t front back : List ℕ) → s ++ t ≡ front ++ back → IsCut s t front back
cut [] t front back e = inr (front, refl, e)
cut (c ∷ s) t [] back e = inl (c ∷ s, omega arith, refl)
cut (c ∷ s) t (d ∷ front) back e =
    let head : c ≡ d = cc in
    let tail : s ++ t ≡ front ++ back = cc in
    subst (λ (k : ℕ). IsCut (c ∷ s) t (k ∷ front) back) head (cut_more c s t front back (cut s t front back tail))

-- ---- a part, and one that may depend on it

-- a part, one that may depend on it, and what both make
abbrev pub chain : {A B C : Type 0} → Reading A → (A → Reading B) → (A → B → C) → Reading C
chain first second make bytes = do
  a ← first bytes
  b ← second a.0 a.1
  Ok (make a.0 b.0, b.1)

short_then : {A B C : Type 0} (first : Reading A) (s : A → List ℕ) (F : A → Type 0) (second : A → Reading B) (t : List ℕ) (make : A → B → C) (x : A) (front back : List ℕ) → IsForm first s F → F x → 0 < length back
    → ((mid : List ℕ) → t ≡ mid ++ back → second x mid ≡ Err Truncated) → IsCut (s x) t front back
    → chain first second make front ≡ Err Truncated
short_then first s F second t make x front back form fits more later (inl p) = rw (form.short x front p.0 fits p.1 p.2) refl
short_then first s F second t make x front back form fits more later (inr p) = rw (p.1, form.again x p.0 fits, later p.0 p.2) refl

pub form_pair : {A B : Type 0} (first : Reading A) (s : A → List ℕ) (F : A → Type 0) (second : Reading B) (t : B → List ℕ) (G : B → Type 0) → IsForm first s F → IsForm second t G → IsForm (pair first second) (λ p. s p.0 ++ t p.1) (λ p. F p.0 × G p.1)
form_pair {A} {B} first s F second t G f g = record {
  takes = λ bytes x fits e.
      let a = bind_ok (first bytes) (λ a. second a.1 >>= λ b. Ok ((a.0, b.0), b.1)) x e in
      let b = bind_ok (second a.0.1) (λ b. Ok ((a.0.0, b.0), b.1)) x a.2 in
      let one = f.takes bytes a.0 fits a.1 in
      let two = g.takes a.0.1 b.0 one.0.rest_bytes b.1 in
      let out : (A × B) × List ℕ = ((a.0.0, b.0.0), b.0.1) in
      subst (λ (y : (A × B) × List ℕ). Takes bytes (s y.0.0 ++ t y.0.1) y.1 × (F y.0.0 × G y.0.1)) (ok_is out x b.2) (Takes-then bytes (s a.0.0) a.0.1 (t b.0.0) b.0.1 one.0 two.0, (one.1, two.1));
  again = λ x rest fits. rw (append_assoc (s x.0) (t x.1) rest, f.again x.0 (t x.1 ++ rest) fits.0, g.again x.1 rest fits.1) refl;
  short = λ x front back fits more e.
      short_then first s F (λ _. second) (t x.1) (λ a b. (a, b)) x.0 front back f fits.0 more (λ mid r. g.short x.1 mid back fits.1 more r) (cut (s x.0) (t x.1) front back e);
}

-- ---- another value of the same bytes

pub form_map : {A B : Type 0} (reading : Reading A) (s : A → List ℕ) (F : A → Type 0) (make : A → B) (unmake : B → A) (t : B → List ℕ) (G : B → Type 0)
    → ((b : B) → make (unmake b) ≡ b) → ((a : A) → t (make a) ≡ s a) → ((a : A) → F a → G (make a)) → ((b : B) → G b → F (unmake b)) → IsForm reading s F → IsForm (map make reading) t G
form_map {A} {B} reading s F make unmake t G eta same to of f = record {
  takes = λ bytes x fits e.
      let a = bind_ok (reading bytes) (λ a. Ok (make a.0, a.1)) x e in
      let one = f.takes bytes a.0 fits a.1 in
      let out : B × List ℕ = (make a.0.0, a.0.1) in
      let text : Takes bytes (t (make a.0.0)) a.0.1 = rw (same a.0.0) one.0 in
      subst (λ (y : B × List ℕ). Takes bytes (t y.0) y.1 × G y.0) (ok_is out x a.2) (text, to a.0.0 one.1);
  again = λ x rest fits.
      let text : t x ≡ s (unmake x) = ap t (sym (eta x)) ∙ same (unmake x) in
      rw (text, f.again (unmake x) rest (of x fits)) (ap (λ (b : B). Ok (b, rest)) (eta x));
  short = λ x front back fits more e.
      let text : t x ≡ s (unmake x) = ap t (sym (eta x)) ∙ same (unmake x) in
      rw (f.short (unmake x) front back (of x fits) more (sym text ∙ e)) refl;
}

-- ---- all of the bytes

pub whole_takes : {A : Type 0} (reading : Reading A) (s : A → List ℕ) (F : A → Type 0) (bytes : List ℕ) (x : A) → IsForm reading s F → IsBytes bytes → whole reading bytes ≡ Ok x → (bytes ≡ s x) × F x
whole_takes {A} reading s F bytes x f fits e =
    let a = bind_ok (reading bytes) (λ a. cond (eqb (length a.1) 0) (Ok a.0) (Err Trailing)) x e in
    let g = guard_passed (eqb (length a.0.1) 0) Trailing a.0.0 x a.2 in
    let one = f.takes bytes a.0 fits a.1 in
    let nothing : a.0.1 ≡ [] = nil_from_length a.0.1 (eqb-true _ _ g.0) in
    let text : bytes ≡ s a.0.0 = one.0.parts ∙ ap (λ (r : List ℕ). s a.0.0 ++ r) nothing ∙ append-nil (s a.0.0) in
    subst (λ (y : A). (bytes ≡ s y) × F y) g.1 (text, one.1)

pub whole_again : {A : Type 0} (reading : Reading A) (s : A → List ℕ) (F : A → Type 0) (x : A) → IsForm reading s F → F x → whole reading (s x) ≡ Ok x
whole_again reading s F x f fits =
    let one : reading (s x) ≡ Ok (x, []) = ap reading (sym (append-nil (s x))) ∙ f.again x [] fits in
    rw one refl

-- bytes behind the value
pub whole_behind : {A : Type 0} (reading : Reading A) (s : A → List ℕ) (F : A → Type 0) (x : A) (rest : List ℕ) → IsForm reading s F → F x → 0 < length rest → whole reading (s x ++ rest) ≡ Err Trailing
whole_behind reading s F x [] f fits more = absurd (omega arith)
whole_behind reading s F x (c ∷ rest) f fits more = rw (f.again x (c ∷ rest) fits, eqb-suc-zero (length rest)) refl

-- ---- so many values

-- Each value fits, where the one before says from where.
abbrev pub AllFrom : {A : Type 0} → (ℕ → A → Type 0) → (A → ℕ) → ℕ → List A → Type 0
AllFrom F next low [] = Unit {0}
AllFrom F next low (x ∷ xs) = F low x × AllFrom F next (next x) xs

many_takes : {A : Type 0} (reading : ℕ → Reading A) (s : A → List ℕ) (F : ℕ → A → Type 0) (next : A → ℕ) → ((low : ℕ) → IsForm (reading low) s (F low)) → (n low : ℕ) (bytes : List ℕ) (x : List A × List ℕ) → IsBytes bytes → many_at reading next n low bytes ≡ Ok x
    → Takes bytes (flat_map s x.0) x.1 × ((length x.0 ≡ n) × AllFrom F next low x.0)
unfolding many_at
many_takes {A} reading s F next f zero low bytes x fits e =
    subst (λ (y : List A × List ℕ). Takes bytes (flat_map s y.0) y.1 × ((length y.0 ≡ 0) × AllFrom F next low y.0)) (ok_is ([], bytes) x e) (record { parts = refl; rest_bytes = fits }, (refl, tt))
many_takes {A} reading s F next f (suc n) low bytes x fits e =
    let a = bind_ok (reading low bytes) (λ first. many_at reading next n (next first.0) first.1 >>= λ others. Ok (first.0 ∷ others.0, others.1)) x e in
    let b = bind_ok (many_at reading next n (next a.0.0) a.0.1) (λ others. Ok (a.0.0 ∷ others.0, others.1)) x a.2 in
    let one = (f low).takes bytes a.0 fits a.1 in
    let two = many_takes reading s F next f n (next a.0.0) a.0.1 b.0 one.0.rest_bytes b.1 in
    let pair = Takes-then bytes (s a.0.0) a.0.1 (flat_map s b.0.0) b.0.1 one.0 two.0 in
    let out : List A × List ℕ = (a.0.0 ∷ b.0.0, b.0.1) in
    subst (λ (y : List A × List ℕ). Takes bytes (flat_map s y.0) y.1 × ((length y.0 ≡ suc n) × AllFrom F next low y.0)) (ok_is out x b.2) (rw flat_map-cons pair, (ap suc two.1.0, (one.1, two.1.1)))

many_again : {A : Type 0} (reading : ℕ → Reading A) (s : A → List ℕ) (F : ℕ → A → Type 0) (next : A → ℕ) → ((low : ℕ) → IsForm (reading low) s (F low)) → (low : ℕ) (xs : List A) (rest : List ℕ) → AllFrom F next low xs → many_at reading next (length xs) low (flat_map s xs ++ rest) ≡ Ok (xs, rest)
unfolding many_at
many_again reading s F next f low [] rest fits = refl
many_again reading s F next f low (x ∷ xs) rest fits =
    let regrouped : flat_map s (x ∷ xs) ++ rest ≡ s x ++ (flat_map s xs ++ rest) = ap (λ (t : List ℕ). t ++ rest) (flat_map-cons s x xs) ∙ append_assoc (s x) (flat_map s xs) rest in
    ap (many_at reading next (suc (length xs)) low) regrouped ∙ rw ((f low).again x (flat_map s xs ++ rest) fits.0, many_again reading s F next f (next x) xs rest fits.1) refl

many_short : {A : Type 0} (reading : ℕ → Reading A) (s : A → List ℕ) (F : ℕ → A → Type 0) (next : A → ℕ) → ((low : ℕ) → IsForm (reading low) s (F low)) → (low : ℕ) (xs : List A) (front back : List ℕ) → AllFrom F next low xs → 0 < length back → flat_map s xs ≡ front ++ back → many_at reading next (length xs) low front ≡ Err Truncated
unfolding many_at
many_short reading s F next f low [] front back fits more e = absurd (omega (arith, ap length e, length-append front back))
many_short reading s F next f low (x ∷ xs) front back fits more e =
    short_then (reading low) s (F low) (λ v. many_at reading next (length xs) (next v)) (flat_map s xs) (λ v vs. v ∷ vs) x front back (f low) fits.0 more
    (λ mid r. many_short reading s F next f (next x) xs mid back fits.1 more r) (cut (s x) (flat_map s xs) front back (sym (flat_map-cons s x xs) ∙ e))

-- the laws of so many values
pub record AreForms {A : Type 0} (reading : ℕ → Reading A) (s : A → List ℕ) (F : ℕ → A → Type 0) (next : A → ℕ) : Type 0 where
  pub takes : (n low : ℕ) (bytes : List ℕ) (x : List A × List ℕ) → IsBytes bytes → many_at reading next n low bytes ≡ Ok x → Takes bytes (flat_map s x.0) x.1 × ((length x.0 ≡ n) × AllFrom F next low x.0)
  pub again : (low : ℕ) (xs : List A) (rest : List ℕ) → AllFrom F next low xs → many_at reading next (length xs) low (flat_map s xs ++ rest) ≡ Ok (xs, rest)
  pub short : (low : ℕ) (xs : List A) (front back : List ℕ) → AllFrom F next low xs → 0 < length back → flat_map s xs ≡ front ++ back → many_at reading next (length xs) low front ≡ Err Truncated

pub forms_many : {A : Type 0} (reading : ℕ → Reading A) (s : A → List ℕ) (F : ℕ → A → Type 0) (next : A → ℕ) → ((low : ℕ) → IsForm (reading low) s (F low)) → AreForms reading s F next
forms_many reading s F next f = record { takes = many_takes reading s F next f; again = many_again reading s F next f; short = many_short reading s F next f }
