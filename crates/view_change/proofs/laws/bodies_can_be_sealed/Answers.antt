use Rattle.view_change.proofs.Sealing.{checkpoint_is_sealable, commit_is_sealable, fetch_is_sealable, pre_prepare_is_sealable, prepare_is_sealable, reply_is_sealable, snapshot_is_sealable}
use Rattle.view_change.proofs.laws.bodies_can_be_sealed.Goals as goal

pub returns : goal.returns
returns c = record {
  pre_prepare = pre_prepare_is_sealable;
  prepare = prepare_is_sealable;
  commit = commit_is_sealable;
  reply = reply_is_sealable;
  checkpoint = checkpoint_is_sealable;
  fetch = fetch_is_sealable;
  snapshot = snapshot_is_sealable;
}
