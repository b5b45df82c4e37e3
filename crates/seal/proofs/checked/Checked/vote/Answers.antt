use Rattle.std.proofs.Common.{ap, subst, ◌∙◌}
use Rattle.host_types.specs.Configuration.{IsConfiguration}
use Rattle.seal.proofs.Voting.{vote_is_proper, voter_is_small}
use Rattle.seal.proofs.checked.Checked.vote.Goals as goal

pub vote_in-requires : goal.vote_in-requires
vote_in-requires c =
    let k = subst IsConfiguration (c.deref.ensures ∙ c.config.ensures.value) c.f.ensures.legal in
    rw (ap (λ p. p.1) c.signer.ensures.value, c.body.ensures.value) (voter_is_small c.args.self.now k c.config.ensures.checked)

pub returns-clause-proper : goal.returns-clause-proper
returns-clause-proper c =
    let k = subst IsConfiguration (c.deref.ensures ∙ c.config.ensures.value) c.f.ensures.legal in
    rw (c.vote_in.ensures, ap (λ p. p.1) c.signer.ensures.value, c.body.ensures.value) (vote_is_proper c.args.self.now k c.config.ensures.checked)
