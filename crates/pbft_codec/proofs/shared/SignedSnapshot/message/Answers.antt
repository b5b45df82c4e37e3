use Rattle.std.proofs.Common.{◌∙◌, refl}
use Rattle.pbft_codec.specs.Snapshots.{signed_snapshot}
use Rattle.pbft_codec.proofs.SnapshotLaws.{state_within, state_there}
use Rattle.pbft_codec.proofs.shared.SignedSnapshot.message.Goals as goal

pub part-requires-clause-within : goal.part-requires-clause-within
part-requires-clause-within c = state_within _ (signed_snapshot c.args.self.now) c.requires

pub returns : goal.returns
returns c =
    let state = c.in_ok-state.ensures ∙ state_there _ (signed_snapshot c.args.self.now) c.requires in
    let sig = c.from_vec.ensures ∙ c.in_ok-sig.ensures.items in
    rw (state, sig) refl
