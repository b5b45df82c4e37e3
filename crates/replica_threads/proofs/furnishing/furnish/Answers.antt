use Rattle.std.proofs.Common.{◌≡◌, ◌<◌, ap, length, rules, subst, sym, ◌∙◌}
use Rattle.std.specs.List.{All}
use Rattle.std.proofs.lemmas.List.Elements.{All-push}
use Rattle.byz_world.specs.Keeping.{JournalFacts}
use Rattle.replica_threads.specs.declared.desk.Desk.{Desk}
use Rattle.replica_threads.proofs.FurnishLaws.{key_at, signer_at}
use Rattle.replica_threads.proofs.furnishing.furnish.Goals as goal

pub new-requires-clause-key : goal.new-requires-clause-key
new-requires-clause-key c =
    let keys = c.args.config.now.value.keys in
    let at = signer_at c.args.signers.items c.loop-id.id c.in-Some.signer c.next.new.self.rest.items (sym c.loop-id.invariant.0 ∙ c.in-Some.ensures.items) in
    let below : c.loop-id.id < length keys = search rules in
    key_at keys c.args.signers.items c.loop-id.id c.in-Some.signer at.0 (c.requires.listed.each c.loop-id.id below)

pub loop-id-preserved : goal.loop-id-preserved
loop-id-preserved c =
    let limited = ap (λ (j : JournalFacts). j.limit) c.in_ok-new.ensures.journal in (
      sym (signer_at c.args.signers.items c.loop-id.id c.in-Some.signer c.next.new.self.rest.items (sym c.loop-id.invariant.0 ∙ c.in-Some.ensures.items)).1,
      subst (All (λ (d : Desk). d.journal.value.limit ≡ c.args.limit)) (sym c.in_ok-push.ensures.items)
          (All-push (λ (d : Desk). d.journal.value.limit ≡ c.args.limit) c.loop-id.desks.items c.in_ok-new.field-0 c.loop-id.invariant.1 limited),
    )
