use Rattle.std.proofs.Common.{sym, ap, ◌∙◌, cond, Some, None}
use Rattle.std.specs.Option.{option_copied}
use Rattle.ballots.specs.Ballots.{digest_in}
use Rattle.checkpoints.proofs.Voting.{listed, quorum_said}
use Rattle.checkpoints.proofs.by_number.digest_if_quorum.Goals as goal

pub has_quorum-requires : goal.has_quorum-requires
has_quorum-requires c = listed c.args.config.now c.args.number.0 c.args.votes.now c.requires

pub returns-then-has_quorum : goal.returns-then-has_quorum
returns-then-has_quorum c =
    sym (quorum_said c.args.config.now c.args.number.0 c.args.votes.now c.args.signer.0 c.in_ok-get.field-0.now c.in_ok-digest.digest c.has_quorum.result c.requires
    (sym c.get.ensures ∙ ap option_copied c.in_ok-get.was) (sym (c.digest_named.ensures ∙ ap digest_in c.body.ensures.value) ∙ c.in_ok-digest.was) (c.has_quorum.ensures)
    ∙ ap (λ b. cond b (Some c.in_ok-digest.digest) None) c.if-has_quorum.true)

pub returns-else-has_quorum : goal.returns-else-has_quorum
returns-else-has_quorum c =
    sym (quorum_said c.args.config.now c.args.number.0 c.args.votes.now c.args.signer.0 c.in_ok-get.field-0.now c.in_ok-digest.digest c.has_quorum.result c.requires
    (sym c.get.ensures ∙ ap option_copied c.in_ok-get.was) (sym (c.digest_named.ensures ∙ ap digest_in c.body.ensures.value) ∙ c.in_ok-digest.was) (c.has_quorum.ensures)
    ∙ ap (λ b. cond b (Some c.in_ok-digest.digest) None) c.if-has_quorum.false)
