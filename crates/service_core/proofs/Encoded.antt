-- Bytes that begin with the encoding of a value: what they determine, and what they don't.
use Rattle.std.proofs.Common.{◌≡◌, ℕ, ◌+◌, ◌^◌, ◌<◌, ◌≤◌, List, [], ◌∷◌, ◌++◌, length, take, drop, get_or, Result, Ok, Err, refl, sym, ap, subst, ◌∙◌, inl, inr, append_assoc, arith}
use Rattle.std.specs.Prelude.{flat_map, All, IfErr}
use Rattle.std.specs.Int.{w32, w64, from_be_bytes}
use Rattle.std.proofs.lemmas.Bool.{cases_lt}
use Rattle.std.proofs.lemmas.List.{append-nil, length-append, length-take, take-append-drop, get_or-take, get_or_past}
use Rattle.std.proofs.lemmas.List.Elements.{All-head, All-tail, All-nil, All-cons, All-append}
use Rattle.std.proofs.lemmas.Nat.{be_bytes_4, be_bytes_8}
use Rattle.std.proofs.lemmas.Grind.{flat_map-append}
use Rattle.service_core.specs.declared.state_fault.StateFault.{StateFault}
use Rattle.service_core.specs.declared.state_fault.StateFault.TheVariants.{BadState, Memory}
use Rattle.host_types.specs.Configuration.{Configuration}
use Rattle.service_model.specs.TenantStates.{Service}
use Rattle.service_model.specs.Decoding.{Decodes}
use Rattle.service_model.specs.Words.{u32_bytes, u64_bytes}
use Rattle.service_core.specs.Readings.{Begins, Fails, Reads}
use Rattle.service_model.proofs.PrefixFree.{IsPrefixFree, free_four}

-- ---- faults

-- a fault that was passed on
pub failed : {R A : Type 0} (view : R → A × List ℕ) (s : A → List ℕ) (F : A → Type 0) (b : List ℕ) (result : Result R StateFault) (e fault : StateFault) → result ≡ Err e → e ≡ fault → Fails s F b fault → Reads view s F b result
failed view s F b result e fault is same h = subst (Reads view s F b) (sym (is ∙ ap Err same)) h

-- a fault in a part is one in the whole, where the part is behind what was read of the whole
pub passes : {A A' : Type 0} (s : A → List ℕ) (F : A → Type 0) (b : List ℕ) (s' : A' → List ℕ) (F' : A' → Type 0) (b' : List ℕ) (fault : StateFault) → (Begins s' F' b' → Begins s F b) → Fails s F b fault → Fails s' F' b' fault
passes s F b s' F' b' BadState f h = λ begins. h (f begins)
passes s F b s' F' b' Memory f h = tt

-- a fault in a part of what would be a state: there is none
pub none_encoded : {R A : Type 0} (s : A → List ℕ) (F : A → Type 0) (b : List ℕ) (config : Configuration) (bytes : List ℕ) (result : Result R StateFault) (e fault : StateFault) → result ≡ Err e → e ≡ fault
    → Fails s F b fault → ((state : Service) → Decodes config bytes state → Begins s F b) → IfErr result (λ f. f ≡ BadState → (state : Service) → Decodes config bytes state → ⊥)
none_encoded {R} {A} s F b config bytes result e fault is same h begins = subst (λ (r : Result R StateFault). IfErr r (λ f. f ≡ BadState → (state : Service) → Decodes config bytes state → ⊥)) (sym (is ∙ ap Err same)) (none fault h) where
  none : (f : StateFault) → Fails s F b f → f ≡ BadState → (state : Service) → Decodes config bytes state → ⊥
  none BadState h is = λ state is_encoded. h (begins state is_encoded)
  none Memory h is = absurd cc

-- too few bytes
pub too_few : {A : Type 0} (n : ℕ) (s : A → List ℕ) (F : A → Type 0) → ((x : A) → n ≤ length (s x)) → (b : List ℕ) → length b < n → Begins s F b → ⊥
too_few n s F long b lt (x, rest, fits, e) = omega (arith, lt, ap length e, length-append (s x) rest, long x)

-- ---- numbers

AreBytes : List ℕ → Type 0
AreBytes bytes = (i : ℕ) → get_or bytes i 0 < 256

taken_bytes : (n : ℕ) (bytes : List ℕ) → ((i : ℕ) → get_or bytes i 0 < 256) → (i : ℕ) → get_or (take n bytes) i 0 < 256
taken_bytes n bytes h i =
    elim (cases_lt i n) [
      | inl lt ↦ subst (λ (k : ℕ). k < 256) (sym (get_or-take n bytes i 0 lt)) (h i)
      | inr le ↦ subst (λ (k : ℕ). k < 256) (sym (get_or_past (take n bytes) i 0 (omega (arith, length-take n bytes, le)))) (omega arith)
    ]

pub four_read : (bytes : List ℕ) (n : ℕ) → ((i : ℕ) → get_or bytes i 0 < 256) → 4 ≤ length bytes → n ≡ from_be_bytes w32 (take 4 bytes) → bytes ≡ u32_bytes n ++ drop 4 bytes
unfolding u32_bytes
four_read bytes n fits long e =
    sym (take-append-drop 4 bytes) ∙ ap (λ (t : List ℕ). t ++ drop 4 bytes) (sym (be_bytes_4 (take 4 bytes) n (omega (arith, length-take 4 bytes, long)) (taken_bytes 4 bytes fits) e))

pub eight_read : (bytes : List ℕ) (n : ℕ) → ((i : ℕ) → get_or bytes i 0 < 256) → 8 ≤ length bytes → n ≡ from_be_bytes w64 (take 8 bytes) → bytes ≡ u64_bytes n ++ drop 8 bytes
unfolding u64_bytes
eight_read bytes n fits long e =
    sym (take-append-drop 8 bytes) ∙ ap (λ (t : List ℕ). t ++ drop 8 bytes) (sym (be_bytes_8 (take 8 bytes) n (omega (arith, length-take 8 bytes, long)) (taken_bytes 8 bytes fits) e))

-- ---- values one after another

-- so many values were read from the front of the bytes
pub record HasRead {A : Type 0} (s : A → List ℕ) (F : A → Type 0) (bytes : List ℕ) (xs : List A) (counter : ℕ) (rest : List ℕ) : Type 0 where
  pub text : bytes ≡ flat_map s xs ++ rest
  pub fits : All F xs
  pub count : length xs ≡ counter

-- so many values that fit
abbrev pub SoMany : {A : Type 0} → (A → Type 0) → ℕ → List A → Type 0
SoMany F count xs = (length xs ≡ count) × All F xs

module _ {A : Type 0} (s : A → List ℕ) (F : A → Type 0) where
  pub begun : (bytes : List ℕ) (xs : List A) → xs ≡ [] → HasRead s F bytes xs 0 bytes
  begun bytes xs e = subst (λ (ys : List A). HasRead s F bytes ys 0 bytes) (sym e) (record { text = refl; fits = All-nil F; count = refl })

  pub continued : (bytes : List ℕ) (xs ys : List A) (counter : ℕ) (rest after : List ℕ) (x : A) → HasRead s F bytes xs counter rest → F x → rest ≡ s x ++ after → ys ≡ xs ++ x ∷ [] → HasRead s F bytes ys (counter + 1) after
  continued bytes xs ys counter rest after x h fx e is = subst (λ (zs : List A). HasRead s F bytes zs (counter + 1) after) (sym is) (record {
    text = h.text ∙ ap (λ (r : List ℕ). flat_map s xs ++ r) e ∙ sym (append_assoc (flat_map s xs) (s x) after)
        ∙ ap (λ (t : List ℕ). t ++ after) (ap (λ (t : List ℕ). flat_map s xs ++ t) (sym (append-nil (s x))) ∙ sym (flat_map-append s xs (x ∷ [])));
    fits = All-append F xs (x ∷ []) h.fits (All-cons F x [] fx (All-nil F));
    count = omega (arith, h.count, length-append xs (x ∷ []));
  })

  pub ended : (bytes : List ℕ) (xs : List A) (counter count : ℕ) (rest : List ℕ) → HasRead s F bytes xs counter rest → counter ≡ count → SoMany F count xs × (bytes ≡ flat_map s xs ++ rest)
  ended bytes xs counter count rest h e = ((h.count ∙ e, h.fits), h.text)

  module _ (free : IsPrefixFree s F) where
    pub determined : (x : A) (rest b : List ℕ) → F x → b ≡ s x ++ rest → (y : A) (more : List ℕ) → F y → b ≡ s y ++ more → (x ≡ y) × (rest ≡ more)
    determined x rest b fx e y more fy h = free x y rest more fx fy (sym e ∙ h)

    -- what stands behind the first of several values
    pub stuck : (xs ys : List A) (rest more : List ℕ) → length xs < length ys → All F xs → All F ys → flat_map s xs ++ rest ≡ flat_map s ys ++ more
        → (y : A) × (zs : List A) × F y × (ys ≡ xs ++ y ∷ zs) × (rest ≡ s y ++ (flat_map s zs ++ more))
    stuck [] [] rest more lt fx fy h = absurd (omega (arith, lt))
    stuck [] (y ∷ ys) rest more lt fx fy h = (y, ys, All-head F y ys fy, refl, h ∙ append_assoc (s y) (flat_map s ys) more)
    stuck (x ∷ xs) [] rest more lt fx fy h = absurd (omega (arith, lt))
    stuck (x ∷ xs) (y ∷ ys) rest more lt fx fy h =
        let one = free x y (flat_map s xs ++ rest) (flat_map s ys ++ more) (All-head F x xs fx) (All-head F y ys fy) (sym (append_assoc (s x) (flat_map s xs) rest) ∙ h ∙ append_assoc (s y) (flat_map s ys) more) in
        let later = stuck xs ys rest more (omega (arith, lt)) (All-tail F x xs fx) (All-tail F y ys fy) one.1 in
        (later.0, later.1, later.2, ap (λ (z : A). z ∷ ys) (sym one.0) ∙ ap (λ (zs : List A). x ∷ zs) later.3, later.4)

    -- where more values are to come, the rest begins with one
    pub next_begins : (bytes : List ℕ) (xs : List A) (counter count : ℕ) (rest : List ℕ) → HasRead s F bytes xs counter rest → counter < count → Begins (flat_map s) (SoMany F count) bytes → Begins s F rest
    next_begins bytes xs counter count rest h lt (ys, more, fits, e) =
        let next = stuck xs ys rest more (omega (arith, h.count, lt, fits.0)) h.fits fits.1 (sym h.text ∙ e) in
        (next.0, flat_map s next.1 ++ more, next.2, next.4)

-- a list after its count
pub length_prefixed_list : {R A : Type 0} (view : R → List A × List ℕ) (s : A → List ℕ) (F : A → Type 0) (max count : ℕ) (bytes rest : List ℕ) (result : Result R StateFault) → max < 2 ^ 32 → count ≤ max → bytes ≡ u32_bytes count ++ rest
    → Reads view (flat_map s) (SoMany F count) rest result → Reads view (λ xs. u32_bytes (length xs) ++ flat_map s xs) (λ xs. (length xs ≤ max) × All F xs) bytes result
length_prefixed_list view s F max count bytes rest (Ok r) few fits e h =
    let xs = (view r).0 in
    ((omega (arith, fits, h.0.0), h.0.1), e ∙ ap (λ (t : List ℕ). u32_bytes count ++ t) h.1 ∙ sym (append_assoc (u32_bytes count) (flat_map s xs) (view r).1) ∙ ap (λ (k : ℕ). (u32_bytes k ++ flat_map s xs) ++ (view r).1) (sym h.0.0))
length_prefixed_list view s F max count bytes rest (Err BadState) few fits e h = λ begins.
    let one = free_four count (length begins.0) rest (flat_map s begins.0 ++ begins.1) (omega (arith, few, fits)) (omega (arith, few, begins.2.0)) (sym e ∙ begins.3 ∙ append_assoc (u32_bytes (length begins.0)) (flat_map s begins.0) begins.1) in
    h (begins.0, begins.1, (sym one.0, begins.2.1), one.1)
length_prefixed_list view s F max count bytes rest (Err Memory) few fits e h = tt
