use Rattle.std.proofs.Common.{◌≡◌, List, [], sym, ap, subst, ◌∙◌}
use Rattle.std.specs.List.{All}
use Rattle.std.proofs.lemmas.List.Elements.{All-push}
use Rattle.client_session.specs.Sessions.{SessionState}
use Rattle.host_types.specs.Configuration.{Configuration, IsConfiguration}
use Rattle.host_types.specs.declared.config.ClientEntry.{ClientEntry}
use Rattle.host_types.specs.declared.key.PublicKey.TheVariants.{Lms}
use Rattle.world_queue.proofs.Clients.{one_session_more, keys_behind, listed_at}
use Rattle.world_queue.proofs.sessions.open_sessions.Goals as goal

pub new_session-requires-clause-listed : goal.new_session-requires-clause-listed
new_session-requires-clause-listed c =
    listed_at c.args.config.now.value c.clients-entry-items.result.now c.loop-entry.entry-index _ (subst IsConfiguration c.deref.ensures c.clients-entry-items.ensures.legal)
    (c.clients-entry-items.ensures.value ∙ ap (λ (x : Configuration). x.clients) c.deref.ensures) c.loop-entry-test.true

abbrev nobody : ClientEntry
nobody = record { id = record { 0 = 0 }; tenant = record { 0 = 0 }; key = Lms [] }

pub loop-entry-preserved : goal.loop-entry-preserved
loop-entry-preserved c = (
  keys_behind c.clients-entry-items.result.now c.loop-entry.entry-index nobody c.loop-entry.signers.rest.items c.next.new.self.rest.items
      c.in-Some.signer c.loop-entry-test.true c.in-Some.ensures.items c.loop-entry.invariant.0,
  subst (λ (xs : List SessionState). All (λ s. s.config ≡ c.args.config.now.value) xs) (sym c.in_ok-push.ensures.items)
      (All-push (λ s. s.config ≡ c.args.config.now.value) c.loop-entry.sessions.items c.in_ok-new_session.field-0 c.loop-entry.invariant.1 (ap (λ (x : SessionState). x.config) c.in_ok-new_session.ensures)),
  one_session_more c.args.config.now.value c.clients-entry-items.result.now c.loop-entry.entry-index nobody c.loop-entry.signers.rest.items c.next.new.self.rest.items c.in-Some.signer c.loop-entry.sessions.items c.push.new.self.items c.in_ok-new_session.field-0
      c.loop-entry-test.true c.in-Some.ensures.items c.in_ok-new_session.ensures c.in_ok-push.ensures.items
      ∙ c.loop-entry.invariant.2,
)
