-- Internal: how rows are made, one after another.
use Rattle.std.specs.Prelude.{◌≡◌, ℕ, ◌+◌, ◌<◌, Bool, true, false, List, [], ◌∷◌, ◌++◌, All, codes, count_by, decimal, ◌⊎◌}
use Rattle.std.specs.String.{string_bytes}
use Rattle.world_chart.specs.Rows.{AreRows, Says, Shows, is_accepted, is_message}
use Rattle.world_chart.specs.declared.rows.Row.{Row}
use Rattle.world_chart.specs.declared.rows.Shape.{Shape}
use Rattle.world_chart.specs.declared.rows.Shape.TheVariants as shapes
use Rattle.world_lines.specs.declared.happening.Happening.{Happening}

-- One thing is taken into the row of many messages, or isn't; so many wait there.
abbrev pub Folds : Happening → ℕ → ℕ → Bool → Type 0
Folds h old new true = ((is_message h ≡ true) × (new ≡ old + 1)) ⊎ ((is_accepted h ≡ true) × (is_message h ≡ false) × (0 < old) × (new ≡ old))
Folds h old new false = new ≡ old

-- Things wait for a row, among them so many messages.
pub record Wait (waiting : List Happening) (many : ℕ) : Type 0 where
  pub are : All (λ h. (is_message h ≡ true) ⊎ (is_accepted h ≡ true)) waiting
  pub counted : many ≡ count_by is_message waiting
  pub none : many ≡ 0 → waiting ≡ []

-- The row of those is added, if there are some.
abbrev pub Unfolds : ℕ → List Row → List Row → Type 0
Unfolds many old new =
    ((many ≡ 0) × (new ≡ old))
    ⊎ ((0 < many) × ((r : Row) × (new ≡ old ++ r ∷ []) × (r.shape ≡ shapes.Fold) × ((rest : List ℕ) × (string_bytes r.words ≡ decimal many ++ (codes " message" ++ rest)))))

-- The row of a view is added, or none is needed.
abbrev pub AddsView : List Row → List Row → Type 0
AddsView old new = (new ≡ old) ⊎ ((r : Row) × (new ≡ old ++ r ∷ []) × Shows [] r.shape (string_bytes r.words))

-- of one thing alone
abbrev pub IsSingle : Shape → Type 0
IsSingle shapes.Fold = ⊥
IsSingle (shapes.View view) = ⊥
IsSingle shape = Unit {0}

abbrev pub AddsOne : Happening → List Row → List Row → Type 0
AddsOne h old new = (r : Row) × (new ≡ old ++ r ∷ []) × IsSingle r.shape × Says h (string_bytes r.words)

-- What happens is added, maybe behind a view.
abbrev pub Adds : Happening → List Row → List Row → Type 0
Adds h old new = (between : List Row) × AddsView old between × AddsOne h between new

-- One thing is taken: into the row of many messages, or behind that.
abbrev pub Takes : Happening → List Row → ℕ → List Row → ℕ → Type 0
Takes h old many new now =
    (Folds h many now true × (new ≡ old)) ⊎ ((between : List Row) × Unfolds many old between × Adds h between new × (now ≡ 0))

-- What has happened stands in the rows or waits.
abbrev pub Stand : List Happening → List Row → ℕ → Type 0
Stand hs rows many = (drawn waiting : List Happening) × (hs ≡ drawn ++ waiting) × AreRows drawn rows × Wait waiting many
