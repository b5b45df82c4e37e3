use Rattle.std.proofs.Common.{◌≡◌, ℕ, List, [], MatchResult, Some, None, ◌∙◌, subst}
use Rattle.host_types.specs.declared.key.PublicKey.{PublicKey}
use Rattle.lms_tree.specs.Signature.{signature_fault}
use Rattle.lms_tree.proofs.validity.verify.Goals as goal

pub returns : goal.returns
returns c =
    let body : List ℕ = c.args.body.now in
    let after = c.update.new.self in
    let begun = c.in_ok-verifier.ensures in
    let P : PublicKey → List ℕ → Type 0 = λ key sig.
    MatchResult c.finish.result (λ _. signature_fault key body sig ≡ None) (λ fault. signature_fault key body sig ≡ Some fault) in
    let of_key = c.update.ensures.same.0 ∙ begun.0 in
    let of_sig = c.update.ensures.same.1 ∙ begun.1 in
    subst (λ key. P key c.args.sig.now) of_key (subst (λ sig. P after.key.now sig) of_sig (c.finish.ensures body (c.update.ensures.fed [] begun.2)))
