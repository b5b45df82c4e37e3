-- Statement: a verification under way, and the body that was fed to it.
use Rattle.std.specs.Prelude.{List, ℕ}
use Rattle.lms_tree.specs.declared.validity.Verifier.{Verifier}
use Rattle.lms_tree.specs.Parts.{IsFedTo}

-- This body was fed to the verification so far.
abbrev pub IsFed : Verifier → List ℕ → Type 0
IsFed v body = IsFedTo v.last body
