-- Layer: what the primary of a view opens it with.
use Rattle.std.specs.Prelude.{◌≡◌, ℕ, List, None, map, length}
use Rattle.std.specs.List.{AllByRecursion}
use Rattle.pbft_codec.specs.Limits.{AscendFrom}
use Rattle.quorum_log.specs.Words.{Signed, PrePrepare, ViewChange, NewView, Replica}
use Rattle.quorum_log.specs.Setup.{Setup, primary, quorum}
use Rattle.quorum_log.specs.Rules.{pre_prepare_of}
use Rattle.quorum_log.specs.Validity.{floor_of, top_of, given, bodies_in, view_change_fault}
use Rattle.view_change.specs.declared.opening.Opening.{Opening}

-- The floor, the top and the proposals that the ViewChanges give for this view.
pub record IsOpeningOf (c : Setup) (view : ℕ) (ms : List (Signed ViewChange)) (o : Opening) : Type 0 where
  pub floor : o.floor.0 ≡ floor_of ms
  pub top : o.top.0 ≡ top_of ms
  pub entries : o.entries.items ≡ map pre_prepare_of (given c view ms)

-- The message is of this replica.
pub record IsSignedBy (leader : ℕ) (m : Signed PrePrepare) : Type 0 where
  pub role : m.role ≡ Replica
  pub signer : m.id ≡ leader

-- A NewView for this view of a quorum of valid ViewChanges for it, signers ascending, whose PrePrepares are
-- its primary's, with the proposals of the opening.
pub record IsSignedFrom (c : Setup) (view : ℕ) (o : Opening) (n : NewView) : Type 0 where
  pub view_is : n.view.0 ≡ view
  pub valid : AllByRecursion (λ v. (view_change_fault c v ≡ None) × (v.view.0 ≡ view)) (bodies_in n.changes)
  pub many : length n.changes ≡ quorum c.config
  pub ascend : AscendFrom 0 n.changes
  pub proposals : map (λ m. m.body) n.pre_prepares ≡ o.entries.items
  pub signers : AllByRecursion (IsSignedBy (primary c.config view)) n.pre_prepares
