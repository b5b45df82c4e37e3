-- Statement: rules of a replica that its rows show, each by itself (Castro and Liskov, sections 4.2 to 4.4).
use Rattle.std.specs.Prelude.{◌≡◌, ◌⊎◌, ℕ, ◌≤◌, true, List, Option, Some, None, IfSome}
use Rattle.pbft_model.specs.Words.{Body, PrePrepare, Prepare, Checkpoint, Part}
use Rattle.pbft_codec.specs.declared.body.Body.TheVariants as bodies
use Rattle.pbft_model.specs.Setup.{Setup}
use Rattle.pbft_model.specs.Certificates.{Fields, of_pre_prepare, of_prepare}
use Rattle.pbft_model.specs.Core.{Core}
use Rattle.pbft_model.specs.Acts.{Act}
use Rattle.pbft_model.specs.Rows.{Row, Output, Executed, Follows, IsLawfulFrom}
use Rattle.pbft_model.specs.Histories.{IsIn, signed_in}
use Rattle.pbft_agreement.specs.Journals.{HasGiven, IsWithin, IsSent}

-- ---- one voice

-- A part with this body was signed in an own output: as the message itself, or as a PrePrepare inside an own NewView.
abbrev pub HasSaid : Body → List Row → Type 0
HasSaid body rows = (p : Part) × HasGiven p rows × (p.body ≡ body)

-- A PrePrepare or a Prepare with these fields was signed.
abbrev pub HasVouched : Fields → List Row → Type 0
HasVouched x rows =
    ((b : PrePrepare) × HasSaid (bodies.PrePrepare b) rows × (of_pre_prepare b ≡ x))
    ⊎ ((b : Prepare) × HasSaid (bodies.Prepare b) rows × (of_prepare b ≡ x))

-- Own PrePrepares and own Prepares have one digest for each view and number.
abbrev pub HasOneVoice : List Row → Type 0
HasOneVoice rows = (x y : Fields) → HasVouched x rows → HasVouched y rows → x.view ≡ y.view → x.number ≡ y.number → x.digest ≡ y.digest

-- ---- views

-- the view that a body speaks of
abbrev pub view_of : Body → Option ℕ
view_of (bodies.PrePrepare b) = Some b.view.0
view_of (bodies.Prepare b) = Some b.view.0
view_of (bodies.Commit b) = Some b.view.0
view_of (bodies.Reply b) = Some b.view.0
view_of (bodies.ViewChange b) = Some b.view.0
view_of (bodies.NewView b) = Some b.view.0
view_of _ = None

-- From a core on, behind some rows: the view falls neither in later rows nor within the next one; and what is signed
-- there speaks of no view that was left.
pub record KeepsViews (c : Setup) (me : ℕ) (s : Core) : Type 0 where
  pub later : (rows : List Row) (t : Core) → IsLawfulFrom c me s rows t → s.view ≤ t.view
  pub within : (row : Row) (t : Core) → IsWithin c me s row t → s.view ≤ t.view
  pub rises : (row : Row) (t : Core) → IsWithin c me s row t → (acts : List Act) (u : Core) → Follows c me t acts u → t.view ≤ u.view
  pub signed : (row : Row) (output : Output) (sent : IsSent c me s row output) (p : Part) → IsIn p (signed_in output.message)
      → IfSome (view_of p.body) (λ view. sent.from.view ≤ view)

-- ---- Checkpoints

-- A Checkpoint is signed in the row that executed its number, and in no other.
abbrev pub ChecksWhereExecuted : List Row → Type 0
ChecksWhereExecuted rows =
    (row : Row) (output : Output) (b : Checkpoint) → IsIn row rows → IsIn output row.outputs → output.own ≡ true
    → output.message.body ≡ bodies.Checkpoint b → (digest result : List ℕ) × IsIn (Executed b.number.0 digest result) row.done
