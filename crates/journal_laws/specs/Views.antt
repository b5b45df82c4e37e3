-- Statement: what a replica is blamed for that it signed as it changed views (Castro and Liskov, section 4.4).
use Rattle.std.specs.Prelude.{◌≡◌, ◌≢◌, ℕ, ◌≤◌, true, false}
use Rattle.pbft_codec.specs.declared.body.Body.TheVariants as bodies
use Rattle.pbft_model.specs.Words.{Signed, Body, Commit, Certificate, ViewChange, NewView}
use Rattle.pbft_model.specs.Setup.{Setup}
use Rattle.pbft_model.specs.Validity.{is_valid, is_valid_new_view}
use Rattle.pbft_model.specs.Histories.{IsIn}
use Rattle.pbft_agreement.specs.Journals.{Journals}
use Rattle.journal_laws.specs.Blame.{IsHeard}
pub use Rattle.conflicts.specs.Views.{hides, shows, view_claim_of}

-- The ViewChange carries a certificate for the Commit's number, of its view or a later one.
abbrev pub Reports : ViewChange → Commit → Type 0
Reports v b = (x : Certificate) × IsIn x v.certificates × (x.pre_prepare.body.number ≡ b.number) × (b.view.0 ≤ x.pre_prepare.body.view.0)

-- another ViewChange, and another NewView, of the same view
abbrev pub DiffersFromChange : ViewChange → Body → Type 0
DiffersFromChange v (bodies.ViewChange w) = (v.view ≡ w.view) × (v ≢ w)
DiffersFromChange v _ = ⊥

abbrev pub DiffersFromOpening : NewView → Body → Type 0
DiffersFromOpening m (bodies.NewView n) = (m.view ≡ n.view) × (m ≢ n)
DiffersFromOpening m _ = ⊥

-- Two ViewChanges of one view that differ, or two NewViews.
abbrev pub Differ : Body → Body → Type 0
Differ (bodies.ViewChange v) other = DiffersFromChange v other
Differ (bodies.NewView n) other = DiffersFromOpening n other
Differ _ other = ⊥

-- A ViewChange that isn't valid, or a NewView: its V isn't, or its O isn't what V gives.
abbrev pub IsInvalid : Setup → Body → Type 0
IsInvalid c (bodies.ViewChange v) = is_valid c v ≡ false
IsInvalid c (bodies.NewView n) = is_valid_new_view c n ≡ false
IsInvalid c _ = ⊥

-- Two such messages were heard of a replica that differ.
pub record HasTwo (c : Setup) (j : Journals) (id : ℕ) : Type 0 where
  pub first : Signed Body
  pub second : Signed Body
  pub first_heard : IsHeard c j id first
  pub second_heard : IsHeard c j id second
  pub differ : Differ first.body second.body

-- A Commit of a replica was heard, and a ViewChange that hides it.
pub record HasHidden (c : Setup) (j : Journals) (id : ℕ) : Type 0 where
  pub change : Signed Body
  pub commit : Signed Body
  pub change_heard : IsHeard c j id change
  pub commit_heard : IsHeard c j id commit
  pub leaving : ViewChange
  pub left_out : Commit
  pub change_is : change.body ≡ bodies.ViewChange leaving
  pub commit_is : commit.body ≡ bodies.Commit left_out
  pub hidden : hides leaving left_out ≡ true

-- One message of a replica was heard that isn't valid.
pub record HasInvalid (c : Setup) (j : Journals) (id : ℕ) : Type 0 where
  pub message : Signed Body
  pub heard : IsHeard c j id message
  pub invalid : IsInvalid c message.body
