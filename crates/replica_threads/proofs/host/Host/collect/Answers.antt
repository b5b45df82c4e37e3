use Rattle.std.proofs.Common.{refl, rules, length, ◌≡◌, ◌+◌}
use Rattle.replica_threads.proofs.ClosingLaws.{ids_more, journal_of, one_more}
use Rattle.replica_threads.proofs.host.Host.collect.Goals as goal

pub loop-id-preserved : goal.loop-id-preserved
loop-id-preserved g c =
    let r = c.in-Some.record in
    let rows = c.into_rows.result.items in
    let held = c.loop-id.invariant in
    let is = c.in-Some.ensures in
    let lawful = journal_of c.args.self.now c.loop-id.id r rows is.0 is.1 is.2 c.into_rows.ensures.lawful in
    let pushed = c.in_ok-push-2.ensures.items in
    let more = one_more c.args.self.now (λ p. p.1.items) c.loop-id.journals.items c.push-in-loop-id.new.self.items _ c.loop-id.id pushed (held.0, held.2) lawful in
    let halts : length c.push.new.self.items ≡ c.loop-id.id + 1 = search rules in
    (more.0, ids_more (λ p. p.0) c.loop-id.journals.items c.push-in-loop-id.new.self.items _ c.loop-id.id pushed held.0 held.1 refl, more.1, halts)
