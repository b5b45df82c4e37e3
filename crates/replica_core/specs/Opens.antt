-- Internal: the parts of the NewView that a replica opens its view with.
use Rattle.std.specs.Prelude.{◌≡◌, ℕ, ◌+◌, ◌==◌, ◌<◌, ◌≤◌, ◌++◌, true, List, [], ◌∷◌, length, map}
use Rattle.std.specs.List.{AllByRecursion}
use Rattle.pbft_codec.specs.declared.body.Body.TheVariants as bodies
use Rattle.pbft_codec.specs.Limits.{AscendFrom}
use Rattle.pbft_model.specs.Acts.{All}
use Rattle.pbft_model.specs.Certificates.{Fields, of_pre_prepare}
use Rattle.pbft_model.specs.Rules.{chosen_changes, new_view_of, own_message, pre_prepare_of, signed_list}
use Rattle.pbft_model.specs.Setup.{number_limit, primary, signer_after, setup_of}
use Rattle.pbft_model.specs.Validity.{given, is_valid_new_view}
use Rattle.pbft_model.specs.Words.{Body, NewView, PrePrepare, Signed}
use Rattle.seal.specs.Lists.{CheckedMessages}
use Rattle.seal.specs.Parts.{as_message}
use Rattle.replica_core.specs.Replicas.{KeptReplica}

abbrev pub opening_of : KeptReplica → NewView
opening_of k = new_view_of (setup_of k.config) k.me k.core

-- The replica leads its view, and its NewView is valid, signers ascending.
pub record IsToOpen (k : KeptReplica) : Type 0 where
  pub leads : (primary k.config k.core.view == k.me) ≡ true
  pub valid : is_valid_new_view (setup_of k.config) (opening_of k) ≡ true
  pub ascend : AscendFrom 0 (opening_of k).changes

-- the ViewChanges chosen
abbrev pub chosen_by : KeptReplica → CheckedMessages
chosen_by k = record { config = k.config; messages = map (as_message bodies.ViewChange) (chosen_changes (setup_of k.config) k.me k.core) }

-- what they give
abbrev pub given_to : KeptReplica → List Fields
given_to k = given (setup_of k.config) k.core.view (chosen_changes (setup_of k.config) k.me k.core)

-- A proposal of the replica's view.
pub record IsProposal (view : ℕ) (p : PrePrepare) : Type 0 where
  pub view_is : p.view.0 ≡ view
  pub number : p.number.0 < number_limit

-- The proposals are those that the ViewChanges give.
pub record AreGiven (k : KeptReplica) (ps : List PrePrepare) : Type 0 where
  pub are : ps ≡ map pre_prepare_of (given_to k)
  pub few : length ps ≤ 16
  pub proposals : AllByRecursion (IsProposal k.core.view) ps

-- ---- signing

-- the PrePrepares signed, each with the next leaf
abbrev pub signed_by_all : KeptReplica → List PrePrepare → CheckedMessages
signed_by_all k ps = record {
  config = k.config;
  messages = map (as_message bodies.PrePrepare) (signed_list k.core.signer k.me (map of_pre_prepare ps));
}

-- after so many signatures
abbrev pub after_leaves : KeptReplica → ℕ → KeptReplica
after_leaves k many = record k { core = record k.core { signer = signer_after k.core.signer many }; leaves = k.leaves + many }

-- the own NewView, and the replica that has given it to all
abbrev pub opening_message : KeptReplica → Signed Body
opening_message k = own_message k.core k.me (bodies.NewView (opening_of k))

abbrev pub with_opening : KeptReplica → ℕ → KeptReplica
with_opening k many = record k {
  core = record k.core { signer = signer_after k.core.signer (1 + many) };
  outputs = k.outputs ++ record { to = All; message = opening_message k; own = true } ∷ [];
  leaves = k.leaves + (1 + many);
}
