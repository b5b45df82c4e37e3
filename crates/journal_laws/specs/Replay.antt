-- Statement: what a replica comes to that takes again what it took before, and which of its leaves signed what.
use Rattle.std.specs.Prelude.{◌≡◌, ◌++◌, ◌∷◌, ℕ, true, List, map}
use Rattle.pbft_codec.specs.declared.body.Body.TheVariants as bodies
use Rattle.pbft_model.specs.Words.{SigningState, Signed, Body, as_message}
use Rattle.pbft_model.specs.Setup.{Setup}
use Rattle.pbft_model.specs.Core.{Core}
use Rattle.pbft_model.specs.Rows.{Row, Input, Output, IsLawfulFrom}
use Rattle.pbft_model.specs.Histories.{IsIn, listed_in}
use Rattle.seal.specs.Keys.{signature_number}

-- what rows took, in order
abbrev pub inputs_of : List Row → List Input
inputs_of rows = map (λ row. row.input) rows

-- The rows begin with these, and go on lawfully from the core t that these come to, with what was taken behind.
pub record GoesOn (c : Setup) (me : ℕ) (rows : List Row) (t : Core) (all : List Row) (last : Core) (more : List Input) : Type 0 where
  pub rest : List Row
  pub splits : all ≡ rows ++ rest
  pub takes : inputs_of rest ≡ more
  pub lawful : IsLawfulFrom c me t rest last

-- ---- leaves

-- The messages that an own message has signed afresh: itself, and the PrePrepares inside a NewView. What else is inside was
-- signed before, or by others.
abbrev pub fresh_in : Signed Body → List (Signed Body)
fresh_in m = m ∷ map (as_message bodies.PrePrepare) (listed_in m.body)

-- The message was signed in one of the rows.
pub record WasSigned (m : Signed Body) (rows : List Row) : Type 0 where
  pub row : Row
  pub within : IsIn row rows
  pub output : Output
  pub given : IsIn output row.outputs
  pub own : output.own ≡ true
  pub part : IsIn m (fresh_in output.message)

-- the leaf that a message's signature names, by the heights of its signer's trees
abbrev pub leaf_of : SigningState → Signed Body → ℕ
leaf_of signer m = signature_number signer m.sig
