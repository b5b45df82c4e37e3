use Rattle.std.proofs.Common.{ℕ, ◌≡◌, rules, ap, subst, sym, ◌<◌, ◌^◌, ◌∙◌}
use Rattle.std.specs.Option.{option_map}
use Rattle.std.proofs.lemmas.Option.{same_Some}
use Rattle.pbft_model.specs.Tables.{at, number_key}
use Rattle.pbft_codec.specs.declared.body.Body.TheVariants as bodies
use Rattle.pbft_model.specs.Acts.{All}
use Rattle.sha2.specs.Sha256.{sha256}
use Rattle.pbft_model.specs.Sequential.{encoded}
use Rattle.pbft_model.specs.Words.{Digest, SeqNo}
use Rattle.replica_stores.proofs.Sealing.{checkpoint_is_sealable}
use Rattle.replica_core.specs.Doing.{Says}
use Rattle.replica_core.specs.Replicas.{KeptReplica}
use Rattle.replica_core.proofs.Said.{says_checkpoint}
use Rattle.replica_core.proofs.kept.Core.send_checkpoint.Goals as goal

pub send-requires-clause-sealable : goal.send-requires-clause-sealable
send-requires-clause-sealable c = checkpoint_is_sealable _ _ (subst (λ n. n < 2 ^ 48) (sym c.executed-number.ensures) c.requires.number) (search rules)

pub returns-clause-sent : goal.returns-clause-sent
returns-clause-sent c =
    let t = c.note_checkpoint.new.self in
    let digest_is : c.in-Some.digest.0 ≡ sha256 (encoded c.args.self.now.core.service) = same_Some _ _ (
    c.in-Some.ensures ∙ ap (λ (n : ℕ). option_map sha256 (at c.self.inside.checkpoints.snapshots (number_key n))) c.executed-number.ensures
    ∙ ap (λ (k : KeptReplica). option_map sha256 (at k.core.snapshots (number_key c.args.self.now.core.executed))) c.self.view_is ∙ ap (option_map sha256) c.requires.kept) in
    subst (λ (d : Digest). Says c.args.self.now All (bodies.Checkpoint (record { number = record { 0 = c.args.self.now.core.executed }; digest = d })) t) (λ i. record { 0 = digest_is i })
    (subst (λ (n : SeqNo). Says c.args.self.now All (bodies.Checkpoint (record { number = n; digest = c.in-Some.digest })) t) (λ i. record { 0 = c.executed-number.ensures i })
    (says_checkpoint c.args.self.now c.send.new.self c.record_checkpoint.new.self t All c.in_ok-message.message (record { number = c.executed-number.result; digest = c.in-Some.digest })
    c.in_ok-message.ensures.after c.in_ok-message.ensures.signed c.in_ok-record_checkpoint.ensures.recorded c.note_checkpoint.ensures))
