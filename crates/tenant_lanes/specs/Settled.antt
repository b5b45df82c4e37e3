-- Internal: the outcomes of requests, null ones among them.
use Rattle.std.specs.Prelude.{ℕ, ◌+◌, false, List, [], ◌∷◌, Option, Some, None}
use Rattle.service_model.specs.declared.outcome.Outcome.{Outcome}

-- what a lane answered; or what is answered to a null request
abbrev pub outcome_of : ℕ → Option Outcome → Outcome
outcome_of number None = record { number = record { 0 = number }; reply = None; kept = false }
outcome_of number (Some outcome) = outcome

-- the outcomes behind this number
abbrev pub settled : ℕ → List (Option Outcome) → List Outcome
settled number [] = []
settled number (slot ∷ slots) = outcome_of (number + 1) slot ∷ settled (number + 1) slots
