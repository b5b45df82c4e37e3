-- Statement: what is heard of those who sign, and what blame rests on.
use Rattle.std.specs.Prelude.{◌≡◌, ℕ, true, List, [], ◌∷◌, map, Some, ◌⊎◌}
use Rattle.std.specs.BTreeMap as tree
use Rattle.std.specs.List.{All, Contains, flat_map}
use Rattle.pbft_codec.specs.declared.body.Body.TheVariants as bodies
use Rattle.pbft_codec.specs.declared.body.commit.Commit.{Commit}
use Rattle.pbft_codec.specs.declared.body.view_change.ViewChange.{ViewChange}
use Rattle.pbft_model.specs.Setup.{setup_of}
use Rattle.world_script.specs.Input.{Input}
use Rattle.world_script.specs.Input.TheVariants as inputs
use Rattle.seal.specs.Lists.{under}
use Rattle.seal.specs.Opening.{CheckedMessage}
use Rattle.seal.specs.Parts.{children_of}
use Rattle.conflicts.specs.Claims.{Contradict, claim_of}
use Rattle.conflicts.specs.Leaves.{leaf_claim_of}
use Rattle.conflicts.specs.Views.{IsKept, hides, view_claim_of}
use Rattle.conflicts.specs.declared.blame.Blame.{Blame}
use Rattle.conflicts.specs.declared.blame.Blame.TheVariants as blames
use Rattle.conflicts.specs.declared.claim.Claim.{Claim}
use Rattle.world_trace.specs.Blaming.{is_invalid}
use Rattle.world_trace.specs.declared.evidence.Evidence.{Evidence}
use Rattle.world_trace.specs.declared.leavings.HeardCommit.{HeardCommit}
use Rattle.world_trace.specs.declared.leavings.Leavings.{Leavings}
use Rattle.world_trace.specs.declared.leavings.Left.{Left}

-- ---- what is heard

-- the messages that a message holds itself, under its configuration
abbrev pub carried_by : CheckedMessage → List CheckedMessage
carried_by m = map (under m.config) (children_of m.message.body)

abbrev pub with_carried : CheckedMessage → List CheckedMessage
with_carried m = m ∷ carried_by m

-- A message and all that it carries, which is at most two levels deep.
abbrev pub heard_of : CheckedMessage → List CheckedMessage
heard_of m = m ∷ flat_map with_carried (carried_by m)

abbrev pub heard_in : Input → List CheckedMessage
heard_in (inputs.Message m) = heard_of m
heard_in inputs.Timeout = []

-- ---- what it says

-- A message claims this: by a vote or a Checkpoint, by changing views, or by its leaf.
abbrev pub Claims : CheckedMessage → Claim → Type 0
Claims m claim = (claim_of m.message ≡ Some claim) ⊎ ((view_claim_of m.message ≡ Some claim) ⊎ (leaf_claim_of m ≡ Some claim))

-- One of the messages claims this.
pub record IsClaimed (ms : List CheckedMessage) (claim : Claim) : Type 0 where
  pub message : CheckedMessage
  pub heard : Contains ms message
  pub claims : Claims message claim

-- One of the messages is this Commit, of this signer.
pub record IsCommitted (ms : List CheckedMessage) (signer : ℕ) (b : Commit) : Type 0 where
  pub message : CheckedMessage
  pub heard : Contains ms message
  pub says : message.message.body ≡ bodies.Commit b
  pub signer_is : message.message.id ≡ signer

-- One of the messages is this ViewChange, and claims this.
pub record IsLeft (ms : List CheckedMessage) (claim : Claim) (v : ViewChange) : Type 0 where
  pub message : CheckedMessage
  pub heard : Contains ms message
  pub says : message.message.body ≡ bodies.ViewChange v
  pub claims : view_claim_of message.message ≡ Some claim

-- ---- what blame rests on

-- One of the messages is a ViewChange that claims this, and hides a Commit of its signer's that is another of them.
pub record IsHidden (ms : List CheckedMessage) (change : Claim) (b : Commit) : Type 0 where
  pub view_change : ViewChange
  pub left : IsLeft ms change view_change
  pub committed : IsCommitted ms change.signer b
  pub hidden : hides view_change b ≡ true

-- One of the messages is a ViewChange or a NewView that claims this, and isn't valid.
pub record IsInvalid (ms : List CheckedMessage) (claim : Claim) : Type 0 where
  pub message : CheckedMessage
  pub heard : Contains ms message
  pub claims : view_claim_of message.message ≡ Some claim
  pub invalid : is_invalid (setup_of message.config) message.message.body ≡ true

-- The blame rests on these messages: they say what the signer is blamed for.
abbrev pub RestsOn : List CheckedMessage → Blame → Type 0
RestsOn ms (blames.Twice one other) = IsClaimed ms one × IsClaimed ms other × Contradict one other
RestsOn ms (blames.Hidden change view number digest) = IsHidden ms change (record { view = view; number = number; digest = digest })
RestsOn ms (blames.Invalid claim) = IsInvalid ms claim

abbrev pub AllRest : List CheckedMessage → List Blame → Type 0
AllRest ms news = All (RestsOn ms) news

-- ---- Internal: what is kept of the messages

abbrev pub AreClaimed : List CheckedMessage → List Claim → Type 0
AreClaimed ms claims = All (IsClaimed ms) claims

abbrev pub IsHeardCommit : List CheckedMessage → HeardCommit → Type 0
IsHeardCommit ms c = IsCommitted ms c.signer c.commit

pub record IsHeardLeft (ms : List CheckedMessage) (l : Left) : Type 0 where
  pub view_change : ViewChange
  pub left : IsLeft ms l.claim view_change
  pub kept : IsKept l.leaving view_change

abbrev pub AreCommits : List CheckedMessage → List HeardCommit → Type 0
AreCommits ms commits = All (IsHeardCommit ms) commits

abbrev pub AreLeft : List CheckedMessage → List Left → Type 0
AreLeft ms changes = All (IsHeardLeft ms) changes

-- The Commits and the ViewChanges that are kept were heard.
pub record KeepsHeard (ms : List CheckedMessage) (l : Leavings) : Type 0 where
  pub commits : All (λ v. AreCommits ms v.items) (tree.values l.commits)
  pub left : All (λ v. AreLeft ms v.items) (tree.values l.left)

-- All that is kept is of these messages, and the blame that nobody asked for rests on them.
pub record HasHeard (ms : List CheckedMessage) (e : Evidence) : Type 0 where
  pub said : All (λ v. AreClaimed ms v.items) (tree.values e.said)
  pub leavings : KeepsHeard ms e.leavings
  pub news : AllRest ms e.news.items
