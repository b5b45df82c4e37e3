use Rattle.std.proofs.Common.{◌≡◌, length, rules, vec_len}
use Rattle.script_text.proofs.Items.{has_items}
use Rattle.script_text.proofs.head.has_item.Goals as goal

pub returns-in-Some : goal.returns-in-Some
returns-in-Some c =
    let items = c.in-Some.items.now in
    let same : vec_len items ≡ length items.items = search rules in
    has_items items.items (vec_len items) c.is_empty.result _ same c.is_empty.ensures c.in-Some.ensures
