use Rattle.std.specs.Prelude.{◌≡◌, length, map}
use Rattle.replica_threads.specs.Hosts.{AreIdsFrom, AreRecords}
use Rattle.replica_threads.proofs.host.Host.collect.Given as goal

abbrev pub invariant-loop-id : goal.invariant-loop-id
invariant-loop-id g l = (length l.journals.items ≡ l.id) × AreIdsFrom 0 (map (λ p. p.0) l.journals.items) × AreRecords l.self 0 (map (λ p. p.1.items) l.journals.items) × (length l.halts.items ≡ l.id)
