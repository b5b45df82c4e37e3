use Rattle.std.proofs.Common.{sym, ap, Some, ◌∙◌}
use Rattle.sha2.specs.Sha256.{sha256}
use Rattle.std.specs.Option.{option_copied, option_map}
use Rattle.ballots.specs.Tables.{at, number_key}
use Rattle.checkpoints.proofs.Keys.{snapshot_found}
use Rattle.checkpoints.proofs.table.Checkpoints.snapshot_digest.Goals as goal

pub returns-in-Some : goal.returns-in-Some
returns-in-Some c =
    ap Some c.digest.ensures ∙ ap (option_map sha256) (sym (ap option_copied c.in-Some.is) ∙ c.get.ensures.value ∙ sym (snapshot_found c.self.inside.snapshots (number_key c.args.number.0)) ∙ ap (λ k. at k.snapshots (number_key c.args.number.0)) c.self.view_is)

pub returns-in-None : goal.returns-in-None
returns-in-None c =
    ap (option_map sha256) (sym (ap option_copied c.in-None.is) ∙ c.get.ensures.value ∙ sym (snapshot_found c.self.inside.snapshots (number_key c.args.number.0)) ∙ ap (λ k. at k.snapshots (number_key c.args.number.0)) c.self.view_is)
