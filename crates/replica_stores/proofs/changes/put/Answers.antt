use Rattle.std.proofs.Common.{ap, sym, ◌∙◌}
use Rattle.replica_stores.proofs.Changing.{put_again, put_new, sound_put, by_origin}
use Rattle.std.specs.BTreeMap as tree
use Rattle.replica_stores.proofs.changes.put.Goals as goal

pub returns-in_ok-insert-clause-kept : goal.returns-in_ok-insert-clause-kept
returns-in_ok-insert-clause-kept c =
    put_new c.args.changes.now.entries c.insert.new.self.entries c.args.key c.args.message.now (sym c.if-not-contains_key.ensures)
    (c.in_ok-insert.ensures.entries ∙ ap (tree.insert_entry by_origin c.args.changes.now.entries c.args.key) c.in_ok-copy.ensures)

pub returns-in_ok-insert-clause-sound : goal.returns-in_ok-insert-clause-sound
returns-in_ok-insert-clause-sound c = λ d is all.
    sound_put d c.args.changes.now.entries c.insert.new.self.entries c.args.key c.args.message.now (c.in_ok-insert.ensures.entries ∙ ap (tree.insert_entry by_origin c.args.changes.now.entries c.args.key) c.in_ok-copy.ensures) is all

pub returns-else-not-contains_key-clause-kept : goal.returns-else-not-contains_key-clause-kept
returns-else-not-contains_key-clause-kept c = put_again c.args.changes.now.entries c.args.key c.args.message.now (sym c.if-not-contains_key.ensures)
