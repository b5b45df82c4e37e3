use Rattle.std.proofs.Common.{ap, sym, ◌∙◌}
use Rattle.checkpoints.specs.Kept.{KeptCheckpoints}
use Rattle.seal.specs.Opening.{CheckedMessage}
use Rattle.replica_core.proofs.Checkpointing.{item_is, item_kind, noted_more}
use Rattle.replica_core.proofs.recording.note_all.Goals as goal

pub note-requires-clause-config : goal.note-requires-clause-config
note-requires-clause-config c =
    let l = c.args.list.now in
    let item = item_is l.config l.messages _ c.loop-message.message-index c.message-item.result c.as_slice-message-items.ensures.value c.loop-message-test.true c.message-item.is c.requires.kinds.0 c.requires.kinds.1 in
    ap (λ (x : CheckedMessage). x.config) item.is ∙ c.requires.config ∙ sym (ap (λ (k : KeptCheckpoints). k.config) c.loop-message.invariant.0)

pub note-requires-clause-kind : goal.note-requires-clause-kind
note-requires-clause-kind c =
    let l = c.args.list.now in
    item_kind l.config c.requires.kinds.0 c.loop-message.message-index c.message-item.result
    (item_is l.config l.messages _ c.loop-message.message-index c.message-item.result c.as_slice-message-items.ensures.value c.loop-message-test.true c.message-item.is c.requires.kinds.0 c.requires.kinds.1)

pub loop-message-preserved : goal.loop-message-preserved
loop-message-preserved c = (
  c.note.ensures.alone ∙ ap (λ (k : KeptCheckpoints). record k { checkpoints = c.note.new.table.checkpoints }) c.loop-message.invariant.0,
  λ ms are.
      let l = c.args.list.now in
      noted_more l.config ms c.loop-message.message-index c.message-item.result c.args.table.now c.loop-message.table c.note.new.table
      (item_is l.config l.messages _ c.loop-message.message-index c.message-item.result c.as_slice-message-items.ensures.value c.loop-message-test.true c.message-item.is ms are)
      c.loop-message.invariant.0 (c.loop-message.invariant.1 ms are) (λ m is. c.in_ok-note.ensures.noted m is),
)
