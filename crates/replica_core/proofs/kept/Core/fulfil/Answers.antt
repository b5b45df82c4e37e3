use Rattle.pbft_model.specs.Core.{held_with}
use Rattle.pbft_model.specs.Sequential.{last_reply_of}
use Rattle.pbft_model.specs.Tables.{at, number_key}
use Rattle.pbft_model.specs.Setup.{setup_of}
use Rattle.replica_core.specs.declared.duties.Duty.TheVariants as duties
use Rattle.replica_core.proofs.Asking as asking
use Rattle.replica_core.proofs.Asking.{as_duty, checkpoint_kept, commits_low, executes_low, executes_next, fetches_low, following, higher, has_last_reply, leading, low_number, prepares_low, proposes_low, reads, request_held, rises_above, rises_to_reached, rises_to_stable, snapshot_kept, snapshot_low, snapshot_short, sound}
use Rattle.replica_core.proofs.Dispatch.{answers_due, executes_due, relays_due, rises_due, supplies_due}
use Rattle.replica_core.proofs.kept.Core.fulfil.Goals as goal

pub change_to-requires-clause-higher : goal.change_to-requires-clause-higher
change_to-requires-clause-higher c =
    higher (setup_of c.args.self.now.config) c.args.self.now.me c.args.self.now.core c.numbers.ensures.legal c.requires.reached c.in-ChangeTo.view
    (as_duty (setup_of c.args.self.now.config) c.args.self.now.me c.args.self.now.core c.args.duty (duties.ChangeTo c.in-ChangeTo.view) c.requires.due c.in-ChangeTo.is)

pub send_checkpoint-requires : goal.send_checkpoint-requires
send_checkpoint-requires c =
    record {
      number = low_number (setup_of c.args.self.now.config) c.args.self.now.me c.args.self.now.core c.numbers.ensures.legal c.requires.reached;
      kept = checkpoint_kept (setup_of c.args.self.now.config) c.args.self.now.me c.args.self.now.core c.numbers.ensures.legal c.requires.reached
          (as_duty (setup_of c.args.self.now.config) c.args.self.now.me c.args.self.now.core c.args.duty duties.Checkpoint c.requires.due c.in-Checkpoint.is);
    }

pub answer_again-requires-clause-sound : goal.answer_again-requires-clause-sound
answer_again-requires-clause-sound c =
    sound (setup_of c.args.self.now.config) c.args.self.now.me c.args.self.now.core c.numbers.ensures.legal c.requires.reached

pub send_snapshot-requires-clause-kept : goal.send_snapshot-requires-clause-kept
send_snapshot-requires-clause-kept c =
    snapshot_short (setup_of c.args.self.now.config) c.args.self.now.me c.args.self.now.core c.numbers.ensures.legal c.requires.reached c.in-Supply.number c.in-Supply.asker
    (as_duty (setup_of c.args.self.now.config) c.args.self.now.me c.args.self.now.core c.args.duty (duties.Supply c.in-Supply.number c.in-Supply.asker) c.requires.due c.in-Supply.is)

pub send_snapshot-requires-clause-number : goal.send_snapshot-requires-clause-number
send_snapshot-requires-clause-number c =
    snapshot_low (setup_of c.args.self.now.config) c.args.self.now.me c.args.self.now.core c.numbers.ensures.legal c.requires.reached c.in-Supply.number c.in-Supply.asker
    (as_duty (setup_of c.args.self.now.config) c.args.self.now.me c.args.self.now.core c.args.duty (duties.Supply c.in-Supply.number c.in-Supply.asker) c.requires.due c.in-Supply.is)

pub install-requires-clause-reads : goal.install-requires-clause-reads
install-requires-clause-reads c =
    reads (setup_of c.args.self.now.config) c.args.self.now.me c.args.self.now.core c.numbers.ensures.legal c.requires.reached
    (as_duty (setup_of c.args.self.now.config) c.args.self.now.me c.args.self.now.core c.args.duty duties.Install c.requires.due c.in-Install.is)

pub rise-requires-clause-above : goal.rise-requires-clause-above
rise-requires-clause-above c =
    rises_above (setup_of c.args.self.now.config) c.args.self.now.me c.args.self.now.core c.numbers.ensures.legal c.requires.reached c.in-Rise.number c.in-Rise.digest
    (as_duty (setup_of c.args.self.now.config) c.args.self.now.me c.args.self.now.core c.args.duty (duties.Rise c.in-Rise.number c.in-Rise.digest) c.requires.due c.in-Rise.is)

pub rise-requires-clause-reached : goal.rise-requires-clause-reached
rise-requires-clause-reached c =
    rises_to_reached (setup_of c.args.self.now.config) c.args.self.now.me c.args.self.now.core c.numbers.ensures.legal c.requires.reached c.in-Rise.number c.in-Rise.digest
    (as_duty (setup_of c.args.self.now.config) c.args.self.now.me c.args.self.now.core c.args.duty (duties.Rise c.in-Rise.number c.in-Rise.digest) c.requires.due c.in-Rise.is)

pub rise-requires-clause-stable : goal.rise-requires-clause-stable
rise-requires-clause-stable c =
    rises_to_stable (setup_of c.args.self.now.config) c.args.self.now.me c.args.self.now.core c.numbers.ensures.legal c.requires.reached c.in-Rise.number c.in-Rise.digest
    (as_duty (setup_of c.args.self.now.config) c.args.self.now.me c.args.self.now.core c.args.duty (duties.Rise c.in-Rise.number c.in-Rise.digest) c.requires.due c.in-Rise.is)

pub send_pre_prepare-requires-clause-number : goal.send_pre_prepare-requires-clause-number
send_pre_prepare-requires-clause-number c =
    proposes_low (setup_of c.args.self.now.config) c.args.self.now.me c.args.self.now.core c.numbers.ensures.legal c.requires.reached c.in-Propose.number c.in-Propose.digest
    (as_duty (setup_of c.args.self.now.config) c.args.self.now.me c.args.self.now.core c.args.duty (duties.Propose c.in-Propose.number c.in-Propose.digest) c.requires.due c.in-Propose.is)

pub send_pre_prepare-requires-clause-leads : goal.send_pre_prepare-requires-clause-leads
send_pre_prepare-requires-clause-leads c =
    leading (setup_of c.args.self.now.config) c.args.self.now.me c.args.self.now.core c.numbers.ensures.legal c.requires.reached c.in-Propose.number c.in-Propose.digest
    (as_duty (setup_of c.args.self.now.config) c.args.self.now.me c.args.self.now.core c.args.duty (duties.Propose c.in-Propose.number c.in-Propose.digest) c.requires.due c.in-Propose.is)

pub send_prepare-requires-clause-number : goal.send_prepare-requires-clause-number
send_prepare-requires-clause-number c =
    prepares_low (setup_of c.args.self.now.config) c.args.self.now.me c.args.self.now.core c.numbers.ensures.legal c.requires.reached c.numbers.ensures.numbered c.in-Prepare.number c.in-Prepare.digest
    (as_duty (setup_of c.args.self.now.config) c.args.self.now.me c.args.self.now.core c.args.duty (duties.Prepare c.in-Prepare.number c.in-Prepare.digest) c.requires.due c.in-Prepare.is)

pub send_prepare-requires-clause-follows : goal.send_prepare-requires-clause-follows
send_prepare-requires-clause-follows c =
    following (setup_of c.args.self.now.config) c.args.self.now.me c.args.self.now.core c.numbers.ensures.legal c.requires.reached c.in-Prepare.number c.in-Prepare.digest
    (as_duty (setup_of c.args.self.now.config) c.args.self.now.me c.args.self.now.core c.args.duty (duties.Prepare c.in-Prepare.number c.in-Prepare.digest) c.requires.due c.in-Prepare.is)

pub send_commit-requires : goal.send_commit-requires
send_commit-requires c =
    record {
      number = commits_low (setup_of c.args.self.now.config) c.args.self.now.me c.args.self.now.core c.numbers.ensures.legal c.requires.reached c.numbers.ensures.numbered c.in-Commit.number c.in-Commit.digest
          (as_duty (setup_of c.args.self.now.config) c.args.self.now.me c.args.self.now.core c.args.duty (duties.Commit c.in-Commit.number c.in-Commit.digest) c.requires.due c.in-Commit.is);
    }

pub execute-requires-clause-sound : goal.execute-requires-clause-sound
execute-requires-clause-sound c =
    sound (setup_of c.args.self.now.config) c.args.self.now.me c.args.self.now.core c.numbers.ensures.legal c.requires.reached

pub execute-requires-clause-next : goal.execute-requires-clause-next
execute-requires-clause-next c =
    executes_next (setup_of c.args.self.now.config) c.args.self.now.me c.args.self.now.core c.numbers.ensures.legal c.requires.reached c.in-Execute.number c.in-Execute.digest
    (as_duty (setup_of c.args.self.now.config) c.args.self.now.me c.args.self.now.core c.args.duty (duties.Execute c.in-Execute.number c.in-Execute.digest) c.requires.due c.in-Execute.is)

pub execute-requires-clause-number : goal.execute-requires-clause-number
execute-requires-clause-number c =
    executes_low (setup_of c.args.self.now.config) c.args.self.now.me c.args.self.now.core c.numbers.ensures.legal c.requires.reached c.numbers.ensures.numbered c.in-Execute.number c.in-Execute.digest
    (as_duty (setup_of c.args.self.now.config) c.args.self.now.me c.args.self.now.core c.args.duty (duties.Execute c.in-Execute.number c.in-Execute.digest) c.requires.due c.in-Execute.is)

pub fetch_state-requires : goal.fetch_state-requires
fetch_state-requires c =
    record {
      number = fetches_low (setup_of c.args.self.now.config) c.args.self.now.me c.args.self.now.core c.numbers.ensures.legal c.requires.reached c.in-FetchState.number
          (as_duty (setup_of c.args.self.now.config) c.args.self.now.me c.args.self.now.core c.args.duty (duties.FetchState c.in-FetchState.number) c.requires.due c.in-FetchState.is);
    }

pub returns-in-AnswerAgain-clause-done : goal.returns-in-AnswerAgain-clause-done
returns-in-AnswerAgain-clause-done c =
    answers_due c.args.self.now c.answer_again.new.self c.answer_again.result c.in-AnswerAgain.client.0 (last_reply_of c.args.self.now.core.service c.in-AnswerAgain.client.0)
    ((as_duty (setup_of c.args.self.now.config) c.args.self.now.me c.args.self.now.core c.args.duty (duties.AnswerAgain c.in-AnswerAgain.client) c.requires.due c.in-AnswerAgain.is).0) (has_last_reply (setup_of c.args.self.now.config) c.args.self.now.me c.args.self.now.core c.numbers.ensures.legal c.requires.reached c.in-AnswerAgain.client
    (as_duty (setup_of c.args.self.now.config) c.args.self.now.me c.args.self.now.core c.args.duty (duties.AnswerAgain c.in-AnswerAgain.client) c.requires.due c.in-AnswerAgain.is)) c.answer_again.ensures.sent

pub returns-in-Relay-clause-done : goal.returns-in-Relay-clause-done
returns-in-Relay-clause-done c =
    relays_due c.args.self.now c.relay.new.self c.relay.result c.in-Relay.asker.0 (held_with (setup_of c.args.self.now.config) c.args.self.now.core.held c.in-Relay.digest.0)
    ((as_duty (setup_of c.args.self.now.config) c.args.self.now.me c.args.self.now.core c.args.duty (duties.Relay c.in-Relay.digest c.in-Relay.asker) c.requires.due c.in-Relay.is).0) (request_held (setup_of c.args.self.now.config) c.args.self.now.me c.args.self.now.core c.numbers.ensures.legal c.requires.reached c.in-Relay.digest c.in-Relay.asker
    (as_duty (setup_of c.args.self.now.config) c.args.self.now.me c.args.self.now.core c.args.duty (duties.Relay c.in-Relay.digest c.in-Relay.asker) c.requires.due c.in-Relay.is)) c.relay.ensures.given

pub returns-in-Supply-clause-done : goal.returns-in-Supply-clause-done
returns-in-Supply-clause-done c =
    supplies_due c.args.self.now c.send_snapshot.new.self c.send_snapshot.result c.in-Supply.number c.in-Supply.asker.0 (at c.args.self.now.core.snapshots (number_key c.in-Supply.number.0))
    ((as_duty (setup_of c.args.self.now.config) c.args.self.now.me c.args.self.now.core c.args.duty (duties.Supply c.in-Supply.number c.in-Supply.asker) c.requires.due c.in-Supply.is).0) (snapshot_kept (setup_of c.args.self.now.config) c.args.self.now.me c.args.self.now.core c.numbers.ensures.legal c.requires.reached c.in-Supply.number c.in-Supply.asker
    (as_duty (setup_of c.args.self.now.config) c.args.self.now.me c.args.self.now.core c.args.duty (duties.Supply c.in-Supply.number c.in-Supply.asker) c.requires.due c.in-Supply.is)) c.send_snapshot.ensures.sent

pub returns-in-Rise-clause-done : goal.returns-in-Rise-clause-done
returns-in-Rise-clause-done c =
    rises_due c.args.self.now c.rise.new.self c.in-Rise.number.0 c.in-Rise.digest.0
    ((as_duty (setup_of c.args.self.now.config) c.args.self.now.me c.args.self.now.core c.args.duty (duties.Rise c.in-Rise.number c.in-Rise.digest) c.requires.due c.in-Rise.is).0) c.rise.ensures

pub returns-in-Execute-clause-done : goal.returns-in-Execute-clause-done
returns-in-Execute-clause-done c =
    executes_due c.args.self.now c.execute.new.self c.execute.result c.in-Execute.number.0 c.in-Execute.digest.0 ((asking.executes_due (setup_of c.args.self.now.config) c.args.self.now.me c.args.self.now.core c.numbers.ensures.legal c.requires.reached c.in-Execute.number c.in-Execute.digest
    (as_duty (setup_of c.args.self.now.config) c.args.self.now.me c.args.self.now.core c.args.duty (duties.Execute c.in-Execute.number c.in-Execute.digest) c.requires.due c.in-Execute.is)).2) c.execute.ensures.executed
