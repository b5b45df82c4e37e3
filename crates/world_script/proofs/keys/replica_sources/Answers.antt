use Rattle.std.proofs.Common.{◌≡◌, ◌++◌, ◌∷◌, [], List, map, ap, ◌∙◌}
use Rattle.std.specs.List.{range_with_len}
use Rattle.lms_tree.specs.SigningState.{SigningState}
use Rattle.script_text.specs.KeyShapes.{shape_at}
use Rattle.script_text.specs.KeyShape.{KeyShape}
use Rattle.script_text.specs.Secret.{Secret}
use Rattle.world_script.specs.declared.keys.Owner.{Owner}
use Rattle.world_script.specs.declared.keys.Owner.TheVariants as owners
use Rattle.world_script.specs.Keys.{replica_signer, signer_of}
use Rattle.world_script.proofs.Ranges.{mapped_push}
use Rattle.world_script.proofs.keys.replica_sources.Goals as goal

pub loop-id-preserved : goal.loop-id-preserved
loop-id-preserved g c =
    let owner : Owner = owners.Replica (record { 0 = c.loop-id.id }) in
    let made : c.in_ok-new.field-0 ≡ replica_signer c.args.head.now c.loop-id.id =
    c.in_ok-new.ensures ∙ ap (λ (h : KeyShape). signer_of owner h c.secret.result.now) c.replica_key.ensures.value
    ∙ ap (λ (s : Secret). signer_of owner (shape_at c.args.head.now.keys c.loop-id.id) s) c.secret.ensures in
    c.in_ok-push.ensures.items ∙ ap (λ (ss : List SigningState). ss ++ c.in_ok-new.field-0 ∷ []) c.loop-id.invariant
    ∙ ap (λ (s : SigningState). map (replica_signer c.args.head.now) (range_with_len 0 c.loop-id.id) ++ s ∷ []) made ∙ mapped_push (replica_signer c.args.head.now) c.loop-id.id
