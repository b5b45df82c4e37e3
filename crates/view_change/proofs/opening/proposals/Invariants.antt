use Rattle.std.proofs.Common.{◌≡◌, ◌++◌, List}
use Rattle.std.specs.Prelude.{map}
use Rattle.host_types.specs.Configuration.{Configuration}
use Rattle.pbft_codec.specs.declared.body.Body.TheVariants as bodies
use Rattle.quorum_log.specs.Words.{Signed, ViewChange}
use Rattle.quorum_log.specs.Rules.{pre_prepare_of}
use Rattle.seal.specs.Lists.{messages_of}
use Rattle.seal.specs.Parts.{as_message}
use Rattle.view_change.specs.Proposals.{left_from}
use Rattle.quorum_log.specs.Setup.{setup_of}
use Rattle.view_change.proofs.opening.proposals.Given as goal

abbrev pub invariant-loop-below : goal.invariant-loop-below
invariant-loop-below l = (c : Configuration) (ms : List (Signed ViewChange)) → messages_of l.changes ≡ map (as_message bodies.ViewChange) ms
    → l.entries.items ++ map pre_prepare_of (left_from (setup_of c) l.view.0 ms l.below l.top) ≡ map pre_prepare_of (left_from (setup_of c) l.view.0 ms l.floor l.top)
