use Rattle.std.proofs.Common.{rules, sym, ap, subst, ◌∙◌, ◌≡◌, ◌<◌, true, false}
use Rattle.std.specs.Prelude.{bytes_eq}
use Rattle.std.proofs.lemmas.Bool.{not-false, not-true}
use Rattle.sha2.specs.Sha256.{sha256}
use Rattle.ballots.specs.Ballots.{is_digest}
use Rattle.checkpoints.proofs.Proving.{offer_refused, offer_taken}
use Rattle.checkpoints.proofs.table.Checkpoints.offer.Goals as goal

pub returns-in_default-clause-fault : goal.returns-in_default-clause-fault
returns-in_default-clause-fault c =
    let above : c.args.self.now.low < c.args.number.0 = subst (λ n. n < c.args.number.0) (ap (λ k. k.low) c.self.view_is) (search rules) in
    offer_refused c.args.self.now c.args.number.0 c.args.bytes above (ap (is_digest (sha256 c.args.bytes)) (sym c.stable.ensures.value ∙ c.in_default.is))

pub returns-then-ne-clause-fault : goal.returns-then-ne-clause-fault
returns-then-ne-clause-fault c =
    let above : c.args.self.now.low < c.args.number.0 = subst (λ n. n < c.args.number.0) (ap (λ k. k.low) c.self.view_is) (search rules) in
    let hashed = c.digest.ensures ∙ ap sha256 c.new-snapshot.ensures in
    let differs : bytes_eq c.in-Some.stable.0 c.digest.result.0 ≡ false = not-true _ (sym c.ne.ensures ∙ c.if-ne.true) in
    offer_refused c.args.self.now c.args.number.0 c.args.bytes above
    (ap (is_digest (sha256 c.args.bytes)) (sym c.stable.ensures.value ∙ c.in-Some.is) ∙ ap (bytes_eq c.in-Some.stable.0) (sym hashed) ∙ differs)

pub returns-clause-fault : goal.returns-clause-fault
returns-clause-fault c =
    let above : c.args.self.now.low < c.args.number.0 = subst (λ n. n < c.args.number.0) (ap (λ k. k.low) c.self.view_is) (search rules) in
    let hashed = c.digest.ensures ∙ ap sha256 c.new-snapshot.ensures in
    let same : bytes_eq c.in-Some.stable.0 c.digest.result.0 ≡ true = not-false _ (sym c.ne.ensures ∙ c.if-ne.false) in
    offer_taken c.args.self.now c.args.number.0 c.args.bytes above
    (ap (is_digest (sha256 c.args.bytes)) (sym c.stable.ensures.value ∙ c.in-Some.is) ∙ ap (bytes_eq c.in-Some.stable.0) (sym hashed) ∙ same)
