use Rattle.std.proofs.Common.{ap, length, sym, ◌∙◌}
use Rattle.byz_world.specs.Keeping.{JournalFacts}
use Rattle.replica_threads.proofs.StationLaws.{kept_first}
use Rattle.replica_threads.proofs.locked.Locked.new.Goals as goal

pub invariant_of-result : goal.invariant_of-result
invariant_of-result g c =
    let j = c.args.journal in
    let fresh = c.requires.fresh in (
      ap (λ (x : JournalFacts). x.replica.config) fresh,
      ap (λ (x : JournalFacts). x.replica.me) fresh,
      ap (λ (x : JournalFacts). length x.rows) fresh ∙ sym c.requires.total,
      ap (λ (x : JournalFacts). x.limit) fresh,
      c.requires.limit,
      kept_first g.K.Named.config g.K.Named.id g.K.Named.limit g.K.Named.signer j fresh c.status-status.ensures.kept,
    )
