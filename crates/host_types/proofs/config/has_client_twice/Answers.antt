use Rattle.std.proofs.Common.{◌+◌, sym, ◌∙◌, ap, drop, ◌||◌, Bool}
use Rattle.host_types.specs.Configuration.{some_client_twice}
use Rattle.host_types.proofs.ClientLemmas.{twice_at, nobody}
use Rattle.host_types.proofs.config.has_client_twice.Goals as goal

pub returns-then-has_client : goal.returns-then-has_client
returns-then-has_client c =
    sym (twice_at c.args.clients.now c.loop-i.i nobody c.has_client.result c.loop-i-test.true c.has_client.ensures c.loop-i.invariant
    ∙ ap (λ (b : Bool). b || some_client_twice (drop (c.loop-i.i + 1) c.args.clients.now)) c.if-has_client.true)

pub loop-i-preserved : goal.loop-i-preserved
loop-i-preserved c =
    twice_at c.args.clients.now c.loop-i.i nobody c.has_client.result c.loop-i-test.true c.has_client.ensures c.loop-i.invariant
    ∙ ap (λ (b : Bool). b || some_client_twice (drop (c.loop-i.i + 1) c.args.clients.now)) c.if-has_client.false
