use Rattle.std.proofs.Common.{ap, ◌∙◌}
use Rattle.pbft_model.specs.Acts.{ToReplica}
use Rattle.pbft_model.specs.Tables.{at, number_key}
use Rattle.replica_stores.proofs.Sealing.{snapshot_is_sealable}
use Rattle.replica_core.specs.Replicas.{KeptReplica}
use Rattle.replica_core.proofs.Acting.{says_kept, short_copy}
use Rattle.replica_core.proofs.kept.Core.send_snapshot.Goals as goal

pub send-requires-clause-sealable : goal.send-requires-clause-sealable
send-requires-clause-sealable c =
    snapshot_is_sealable _ _ c.requires.number
    (short_copy (at c.args.self.now.core.snapshots (number_key c.args.number.0)) c.in-Some.bytes.now c.from_vec-state.result 5788337
    (c.in-Some.ensures ∙ ap (λ (k : KeptReplica). at k.core.snapshots (number_key c.args.number.0)) c.self.view_is) (c.from_vec-state.ensures ∙ c.in_ok-from_slice.ensures.items) c.requires.kept)

pub returns-clause-sent : goal.returns-clause-sent
returns-clause-sent c =
    says_kept c.args.self.now c.send.new.self (ToReplica c.args.asker.0) c.args.number c.in-Some.bytes.now c.from_vec-state.result
    (c.in-Some.ensures ∙ ap (λ (k : KeptReplica). at k.core.snapshots (number_key c.args.number.0)) c.self.view_is) (c.from_vec-state.ensures ∙ c.in_ok-from_slice.ensures.items) c.in_ok-send.ensures.after
