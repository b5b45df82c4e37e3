-- Statement: votes at one replica: what comes within its marks is recorded, what is noted was said, and what is recorded and
-- known is answered by an own vote.
use Rattle.std.specs.Prelude.{◌≡◌, ℕ, List, ◌∷◌, Some}
use Rattle.pbft_model.specs.Words.{SigningState, Signed, Body, Prepare, Commit, PrePrepare}
use Rattle.pbft_codec.specs.declared.body.Body.TheVariants as bodies
use Rattle.pbft_model.specs.Setup.{Setup}
use Rattle.pbft_model.specs.Tables.{Table, at, vote_key}
use Rattle.pbft_model.specs.Certificates.{Fields, of_pre_prepare, of_prepare, of_commit}
use Rattle.pbft_model.specs.Core.{Core, start_of}
use Rattle.pbft_model.specs.Rows.{Row, Received, IsLawfulFrom}
use Rattle.pbft_agreement.specs.RowRules.{HasSaid}

-- A message came where the replica's core was the first one, and its row and later rows led to the second.
pub record Came (c : Setup) (me : ℕ) (signer : SigningState) (m : Signed Body) (t s : Core) : Type 0 where
  pub earlier : List Row
  pub row : Row
  pub later : List Row
  pub first : IsLawfulFrom c me (start_of c signer) earlier t
  pub came : row.input ≡ Received m
  pub leads_on : IsLawfulFrom c me t (row ∷ later) s

-- A vote of this replica is recorded for this number and view.
abbrev pub IsRecorded : {B : Type 0} → Table (Signed B) → ℕ → ℕ → ℕ → Type 0
IsRecorded {B} votes number view i = (m : Signed B) × (at votes (vote_key number view i) ≡ Some m)

-- An own PrePrepare, Prepare or Commit with these fields was signed.
abbrev pub HasProposed : Fields → List Row → Type 0
HasProposed x rows = (b : PrePrepare) × HasSaid (bodies.PrePrepare b) rows × (of_pre_prepare b ≡ x)

abbrev pub HasPrepared : Fields → List Row → Type 0
HasPrepared x rows = (b : Prepare) × HasSaid (bodies.Prepare b) rows × (of_prepare b ≡ x)

abbrev pub HasCommitted : Fields → List Row → Type 0
HasCommitted x rows = (b : Commit) × HasSaid (bodies.Commit b) rows × (of_commit b ≡ x)
