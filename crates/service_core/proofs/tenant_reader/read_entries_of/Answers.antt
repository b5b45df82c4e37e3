use Rattle.std.proofs.Common.{◌<◌, ◌∙◌, ap, arith}
use Rattle.std.specs.FinMap as finite
use Rattle.std.proofs.lemmas.Result.{err_from_is_err_and}
use Rattle.tenant_maps.proofs.EntriesLemmas.{entries-put_last}
use Rattle.service_core.specs.Readings.{AreSizedEntries}
use Rattle.service_core.proofs.KeysInOrder.{entry_encoding, IsSized, entries_bytes, free_sized, no_entries_of, as_entries, next_above}
use Rattle.service_core.proofs.Encoded.{failed, passes, begun, continued, ended, next_begins}
use Rattle.service_core.proofs.tenant_reader.read_entries_of.Goals as goal

pub loop-init : goal.loop-init
loop-init c = begun entry_encoding IsSized c.args.bytes.now (finite.entries c.new-entries.result.entries) (no_entries_of c.new-entries.result.entries c.new-entries.ensures)

pub returns-in_err-key : goal.returns-in_err-key
returns-in_err-key c =
    let p = err_from_is_err_and c.from_residual.result c.from_residual.ensures.1 in
    failed _ entries_bytes (AreSizedEntries c.args.count) c.args.bytes.now _ p.0 c.in_err-key.field-0.0 p.1 p.2
    (passes entry_encoding IsSized c.loop.rest.now entries_bytes (AreSizedEntries c.args.count) c.args.bytes.now c.in_err-key.field-0.0
    (λ begins. next_begins entry_encoding IsSized free_sized c.args.bytes.now (finite.entries c.loop.entries.entries) c.loop.counter c.args.count c.loop.rest.now c.loop.invariant c.loop-test.true (as_entries c.args.count c.args.bytes.now begins))
    c.in_err-key.ensures)

pub returns-then-not-is_above : goal.returns-then-not-is_above
returns-then-not-is_above c = λ begins.
    let not = c.if-not-is_above.ensures in
    let here = c.in_ok-key.ensures in
    not (next_above c.args.bytes.now c.loop.entries.entries c.loop.counter c.args.count c.loop.rest.now c.in_ok-key.after.now c.in_ok-key.key c.in_ok-key.value c.loop.invariant c.loop-test.true here.0.0 here.0.1 here.1 begins)

pub loop-preserved : goal.loop-preserved
loop-preserved c =
    let above = c.if-not-is_above.ensures in
    let here = c.in_ok-key.ensures in
    let written = c.in_ok-put.ensures in
    let few : finite.len c.loop.entries.entries < 4096 = omega (arith, finite.len-entries c.loop.entries.entries, c.loop.invariant.count, c.loop-test.true, c.requires) in
    continued entry_encoding IsSized c.args.bytes.now (finite.entries c.loop.entries.entries) (finite.entries c.put.new.self.entries) c.loop.counter c.loop.rest.now c.in_ok-key.after.now (c.in_ok-key.key, c.in_ok-key.value) c.loop.invariant here.0 here.1
    (ap finite.entries written.after ∙ entries-put_last c.loop.entries.entries c.in_ok-key.key c.in_ok-key.value above few)

pub returns : goal.returns
returns c =
    let all = ended entry_encoding IsSized c.args.bytes.now (finite.entries c.loop.entries.entries) c.loop.counter c.args.count c.loop.rest.now c.loop.invariant (omega (arith, c.loop-test.false, c.loop.auto.counter-end)) in
    let bounded = c.loop.entries.bounded in
    (record { keys = λ k d lt. (bounded.keys k d lt).0; values = λ k d lt. (bounded.values k d lt).0; count_is = all.0.0 }, all.1)
