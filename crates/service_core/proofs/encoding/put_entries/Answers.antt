use Rattle.std.proofs.Common.{rules, ◌++◌, ◌+◌, ◌≤◌, length, sym, ap, ◌∙◌, set, flat_map, List, ℕ}
use Rattle.std.specs.FinMap as finite
use Rattle.std.proofs.lemmas.List.{take_all}
use Rattle.std.proofs.lemmas.Result.{on_ok_weaker}
use Rattle.service_model.specs.Words.{u32_bytes}
use Rattle.service_core.proofs.Fed.{rows, fed_same, put_none, put_row, put_fed, put_all}
use Rattle.service_core.proofs.encoding.put_entries.Goals as goal

pub loop-key-init : goal.loop-key-init
loop-key-init g c = (
  put_none g.S.Sink.holds c.args.sink.now c.put_u32.new.sink (u32_bytes (finite.len c.args.entries.now.entries)) (λ entry. entry.0 ++ entry.1) c.into_iter-key-iterator.result (finite.entries c.args.entries.now.entries)
      (c.into_iter-key-iterator.ensures.into_iter_gives ∙ c.entries-key-items.ensures.in_order)
      (fed_same g.S.Sink.holds c.args.sink.now c.put_u32.new.sink (u32_bytes c.len.result) (u32_bytes (finite.len c.args.entries.now.entries)) (ap u32_bytes c.len.ensures) c.in_ok-put_u32.ensures),
  search rules,
  search rules,
)

pub loop-key-preserved-then-count-eq-ENTRIES_IN_PIECE : goal.loop-key-preserved-then-count-eq-ENTRIES_IN_PIECE
loop-key-preserved-then-count-eq-ENTRIES_IN_PIECE g c =
    let head = u32_bytes (finite.len c.args.entries.now.entries) in
    let all = finite.entries c.args.entries.now.entries in
    let piece = set c.loop-key.piece c.loop-key.count c.entry_bytes.result in
    let full : length piece ≤ c.loop-key.count + 1 = search rules in (
      put_fed g.S.Sink.holds c.args.sink.now c.loop-key.sink c.emit.new.self head (λ entry. entry.0 ++ entry.1) (rows (c.loop-key.count + 1) piece) c.next.new.self all
          (put_row g.S.Sink.holds c.args.sink.now c.loop-key.sink head (λ entry. entry.0 ++ entry.1) c.loop-key.piece c.loop-key.count c.entry_bytes.result c.loop-key.key-iterator c.next.new.self all (c.in-Some.key.now, c.in-Some.value.now)
          c.in-Some.ensures.steps (search rules) c.entry_bytes.ensures c.loop-key.invariant.0)
          (fed_same g.S.Sink.holds c.loop-key.sink c.emit.new.self c.as_flattened.result.now (rows (c.loop-key.count + 1) piece)
          (c.as_flattened.ensures.value ∙ ap (flat_map (λ (row : List ℕ). row)) (sym (take_all (c.loop-key.count + 1) piece full))) c.in_ok-emit.ensures),
      search rules,
      search rules,
    )

pub loop-key-preserved : goal.loop-key-preserved
loop-key-preserved g c = (
  put_row g.S.Sink.holds c.args.sink.now c.loop-key.sink (u32_bytes (finite.len c.args.entries.now.entries)) (λ entry. entry.0 ++ entry.1) c.loop-key.piece c.loop-key.count c.entry_bytes.result c.loop-key.key-iterator c.next.new.self
      (finite.entries c.args.entries.now.entries) (c.in-Some.key.now, c.in-Some.value.now)
      c.in-Some.ensures.steps (search rules) c.entry_bytes.ensures c.loop-key.invariant.0,
  search rules,
  search rules,
)

pub returns : goal.returns
returns g c =
    let head = u32_bytes (finite.len c.args.entries.now.entries) in
    let all = finite.entries c.args.entries.now.entries in
    on_ok_weaker c.emit-2.result (λ last.
    put_all g.S.Sink.holds c.args.sink.now c.emit-2.new.self head (λ entry. entry.0 ++ entry.1) c.loop-key.key-iterator all
    c.in-None.ensures.steps.0
    (put_fed g.S.Sink.holds c.args.sink.now c.loop-key.sink c.emit-2.new.self head (λ entry. entry.0 ++ entry.1) (rows c.loop-key.count c.loop-key.piece) c.loop-key.key-iterator all c.loop-key.invariant.0
    (fed_same g.S.Sink.holds c.loop-key.sink c.emit-2.new.self c.as_flattened-2.result.now (rows c.loop-key.count c.loop-key.piece) c.as_flattened-2.ensures.value last))) c.emit-2.ensures
