-- What is said of the members of lists: their form apart from what their fields can hold.
use Rattle.std.proofs.Common.{ℕ, ◌+◌, ◌≤◌, List, [], ◌∷◌, arith}
use Rattle.std.specs.List.{AllByRecursion}
use Rattle.pbft_codec.specs.declared.signed.Signed.{Signed}
use Rattle.pbft_codec.specs.Limits.{AscendFrom, EachBody}
use Rattle.pbft_codec.proofs.Widths.{SignedWidths}
use Rattle.pbft_codec.proofs.Forms.{AllFrom}

-- a signed body whose body is well-formed and whose fields hold what they can
abbrev pub SignedReadable : {B : Type 0} → (B → List ℕ) → (B → Type 0) → (B → Type 0) → Signed B → Type 0
SignedReadable s S W m = SignedWidths s (λ b. S b × W b) m

pub split_signed : {B : Type 0} (s : B → List ℕ) (S W : B → Type 0) (m : Signed B) → SignedReadable s S W m → S m.body × SignedWidths s W m
split_signed s S W m fits = (fits.body_in_range.0, record { id_in_range = fits.id_in_range; body_in_range = fits.body_in_range.1; body_length_in_range = fits.body_length_in_range; sig_length_in_range = fits.sig_length_in_range })

pub join_signed : {B : Type 0} (s : B → List ℕ) (S W : B → Type 0) (m : Signed B) → S m.body → SignedWidths s W m → SignedReadable s S W m
join_signed s S W m well_formed widths = record { id_in_range = widths.id_in_range; body_in_range = (well_formed, widths.body_in_range); body_length_in_range = widths.body_length_in_range; sig_length_in_range = widths.sig_length_in_range }

-- ids that ascend

pub split_ascending : {B : Type 0} (s : B → List ℕ) (S W : B → Type 0) (low : ℕ) (ms : List (Signed B)) → AllFrom (λ low m. (low ≤ m.id) × SignedReadable s S W m) (λ m. m.id + 1) low ms → (AscendFrom low ms × EachBody S ms) × AllByRecursion (SignedWidths s W) ms
split_ascending s S W low [] fits = ((tt, tt), tt)
split_ascending s S W low (m ∷ ms) fits =
    let one = split_signed s S W m fits.0.1 in
    let others = split_ascending s S W (m.id + 1) ms fits.1 in
    (((fits.0.0, others.0.0), (one.0, others.0.1)), (one.1, others.1))

pub join_ascending : {B : Type 0} (s : B → List ℕ) (S W : B → Type 0) (low : ℕ) (ms : List (Signed B)) → AscendFrom low ms → EachBody S ms → AllByRecursion (SignedWidths s W) ms → AllFrom (λ low m. (low ≤ m.id) × SignedReadable s S W m) (λ m. m.id + 1) low ms
join_ascending s S W low [] ascend forms widths = tt
join_ascending s S W low (m ∷ ms) ascend forms widths = ((ascend.0, join_signed s S W m forms.0 widths.0), join_ascending s S W (m.id + 1) ms ascend.1 forms.1 widths.1)

-- ids in any order

pub split_any : {B : Type 0} (s : B → List ℕ) (S W : B → Type 0) (ms : List (Signed B)) → AllFrom (λ _ m. (0 ≤ m.id) × SignedReadable s S W m) (λ _. 0) 0 ms → EachBody S ms × AllByRecursion (SignedWidths s W) ms
split_any s S W [] fits = (tt, tt)
split_any s S W (m ∷ ms) fits =
    let one = split_signed s S W m fits.0.1 in
    let others = split_any s S W ms fits.1 in
    ((one.0, others.0), (one.1, others.1))

pub join_any : {B : Type 0} (s : B → List ℕ) (S W : B → Type 0) (ms : List (Signed B)) → EachBody S ms → AllByRecursion (SignedWidths s W) ms → AllFrom (λ _ m. (0 ≤ m.id) × SignedReadable s S W m) (λ _. 0) 0 ms
join_any s S W [] forms widths = tt
join_any s S W (m ∷ ms) forms widths = ((omega arith, join_signed s S W m forms.0 widths.0), join_any s S W ms forms.1 widths.1)

-- values that are not signed

pub split_each : {A : Type 0} (S W : A → Type 0) (xs : List A) → AllFrom (λ _ x. S x × W x) (λ _. 0) 0 xs → AllByRecursion S xs × AllByRecursion W xs
split_each S W [] fits = (tt, tt)
split_each S W (x ∷ xs) fits =
    let others = split_each S W xs fits.1 in
    ((fits.0.0, others.0), (fits.0.1, others.1))

pub join_each : {A : Type 0} (S W : A → Type 0) (xs : List A) → AllByRecursion S xs → AllByRecursion W xs → AllFrom (λ _ x. S x × W x) (λ _. 0) 0 xs
join_each S W [] forms widths = tt
join_each S W (x ∷ xs) forms widths = ((forms.0, widths.0), join_each S W xs forms.1 widths.1)
