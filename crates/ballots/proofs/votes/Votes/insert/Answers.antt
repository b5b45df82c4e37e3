use Rattle.std.proofs.Common.{◌≡◌, ◌<◌, ap, sym, ◌∙◌, length, arith}
use Rattle.ballots.specs.Ballots.{digest_in}
use Rattle.ballots.proofs.Ballots.{unvoted, unset, tallied_after}
use Rattle.ballots.proofs.votes.Votes.insert.Goals as goal

pub tally-requires-clause-not_set : goal.tally-requires-clause-not_set
tally-requires-clause-not_set c =
    let at : c.signer-signer.result.1 ≡ c.args.message.now.message.id = ap (λ p. p.1) c.signer-signer.ensures.value in
    let within : c.signer-signer.result.1 < length c.self.inside.by_signer = omega (arith, at, c.requires.signer, c.self.invariant.ten) in
    unset c.self.inside.by_signer c.self.inside.masks c.in-Some.digest.0 c.signer-signer.result.1 c.self.invariant
    (unvoted c.self.inside.by_signer c.signer-signer.result.1 c.index-self-signer.result within (sym c.is_some.ensures ∙ c.if-is_some.false))

pub invariant_of-self-2 : goal.invariant_of-self-2
invariant_of-self-2 c =
    let at : c.signer-signer.result.1 ≡ c.args.message.now.message.id = ap (λ p. p.1) c.signer-signer.ensures.value in
    let within : c.signer-signer.result.1 < length c.self.inside.by_signer = omega (arith, at, c.requires.signer, c.self.invariant.ten) in
    let free = unvoted c.self.inside.by_signer c.signer-signer.result.1 c.index-self-signer.result within (sym c.is_some.ensures ∙ c.if-is_some.false) in
    let named = ap (λ m. digest_in m.message.body) c.in_ok-handle.ensures ∙ sym (ap digest_in c.body.ensures.value) ∙ sym c.digest_named.ensures ∙ c.in-Some.is in
    tallied_after c.self.inside.by_signer c.self.inside.masks c.tally.new.masks c.signer-signer.result.1 c.in_ok-handle.handle c.in-Some.digest c.self.invariant
    (omega (arith, at, c.requires.signer)) free named c.in_ok-tally.ensures.set c.in_ok-tally.ensures.ordered
