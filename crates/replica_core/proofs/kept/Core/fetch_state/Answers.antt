use Rattle.pbft_codec.specs.declared.body.fetch.Fetch.TheVariants as fetches
use Rattle.pbft_model.specs.Acts.{All}
use Rattle.replica_stores.proofs.Sealing.{fetch_is_sealable}
use Rattle.replica_core.proofs.Admitting.{on_ok}
use Rattle.replica_core.proofs.Said.{says_fetch_state}
use Rattle.replica_core.proofs.kept.Core.fetch_state.Goals as goal

pub send-requires-clause-sealable : goal.send-requires-clause-sealable
send-requires-clause-sealable c = fetch_is_sealable _ (fetches.State c.args.number) c.requires.number tt

pub returns-clause-sent : goal.returns-clause-sent
returns-clause-sent c =
    on_ok c.note_asked_state.result (says_fetch_state c.args.self.now c.send.new.self c.note_asked_state.new.self All c.args.number c.in_ok-send.ensures.after) c.note_asked_state.ensures.noted
