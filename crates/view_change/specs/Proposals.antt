-- Internal: the proposal of the highest certificate at a number, as a loop finds it, and those of the
-- numbers that are left.
use Rattle.std.specs.Prelude.{ℕ, ◌+◌, ◌-◌, map, ◌==◌, Bool, ◌&&◌, nat_lt, nat_le, List, Option, Some, None, if◌then◌else◌}
use Rattle.quorum_log.specs.Words.{Signed, Certificate, PrePrepare, ViewChange}
use Rattle.quorum_log.specs.Setup.{Setup, numbers_from}
use Rattle.quorum_log.specs.Certificates.{Fields}
use Rattle.quorum_log.specs.Validity.{given_digest}

-- the proposal of the higher of one found and a later one: the first of those of one view
abbrev pub or_later : Option PrePrepare → Option Certificate → Option PrePrepare
or_later None None = None
or_later None (Some y) = Some y.pre_prepare.body
or_later (Some p) None = Some p
or_later (Some p) (Some y) = if nat_le y.pre_prepare.body.view.0 p.view.0 then Some p else Some y.pre_prepare.body

-- whether a proposal at this number comes in place of an earlier one: it is the first, or of a higher view
abbrev pub comes_instead : ℕ → PrePrepare → Option PrePrepare → Bool
comes_instead number p None = p.number.0 == number
comes_instead number p (Some q) = p.number.0 == number && nat_lt q.view.0 p.view.0

-- what the ViewChanges give at a number
abbrev pub proposal_at : Setup → ℕ → List (Signed ViewChange) → ℕ → Fields
proposal_at c view changes n = record { view = view; number = n; digest = given_digest c changes n }

-- the numbers above one, up to the top
abbrev pub left_from : Setup → ℕ → List (Signed ViewChange) → ℕ → ℕ → List Fields
left_from c view changes number top = map (proposal_at c view changes) (numbers_from (number + 1) (top - number))
