use Rattle.std.proofs.Common.{rules, ◌≡◌, IsSomeAnd, sym, subst}
use Rattle.host_types.specs.Configuration.{Configuration}
use Rattle.lms_tree.specs.Keys.{IsKeyOf}
use Rattle.lms_tree.specs.SigningState.{SigningState}
use Rattle.pbft_codec.specs.declared.signed.Role.TheVariants as roles
use Rattle.seal.specs.Signers.{key_of}
use Rattle.replica_core.proofs.kept.Core.new.Goals as goal

pub invariant_of-result-2 : goal.invariant_of-result-2
invariant_of-result-2 c =
    let same : c.in_ok-try_clone.field-0.value ≡ c.args.config.now.value = search rules in
    let mine = subst (λ (x : Configuration). IsSomeAnd (key_of x roles.Replica c.args.id.0) (λ key. IsKeyOf key c.args.signer)) (sym same) c.requires.key in
    record {
      legal = search rules;
      replica = search rules;
      listed = subst (λ (s : SigningState). IsSomeAnd (key_of c.in_ok-try_clone.field-0.value roles.Replica c.args.id.0) (λ key. IsKeyOf key s)) (sym c.signer.view_is) mine;
      log = search rules;
      table = search rules;
      service = search rules;
      requests = search rules;
      changes = search rules;
      kept = search rules;
      low = search rules;
      floor = search rules;
      taken = search rules;
      reached = search rules;
      executed = search rules;
      opened_at = search rules;
      proposed = search rules;
      owed = search rules;
      few = search rules;
    }
