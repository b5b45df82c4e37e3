use Rattle.std.proofs.Common.{◌≡◌, ℕ, List, [], ◌++◌, MatchResult, Some, None, ◌∙◌, subst}
use Rattle.lms_tree.specs.Signature.{signature_fault}
use Rattle.host_types.specs.declared.key.PublicKey.{PublicKey}
use Rattle.lms_tree.specs.Verifying.{IsFed}
use Rattle.seal.proofs.signature.check_signature.Goals as goal

pub returns : goal.returns
returns c =
    let a = c.args in
    let after = c.update-2.new.self in
    let begun = c.in_ok-verifier.ensures in
    let P : PublicKey → List ℕ → Type 0 = λ key sig. IsFed after (a.head.now ++ a.tail.now) →
    MatchResult c.finish.result (λ _. signature_fault key (a.head.now ++ a.tail.now) sig ≡ None) (λ fault. signature_fault key (a.head.now ++ a.tail.now) sig ≡ Some fault) in
    let of_key = c.update-2.ensures.same.0 ∙ (c.update.ensures.same.0 ∙ begun.0) in
    let of_sig = c.update-2.ensures.same.1 ∙ (c.update.ensures.same.1 ∙ begun.1) in
    let of_both : P a.key.now a.sig.now = subst (λ key. P key a.sig.now) of_key (subst (λ sig. P after.key.now sig) of_sig (c.finish.ensures (a.head.now ++ a.tail.now))) in
    of_both (c.update-2.ensures.fed a.head.now (c.update.ensures.fed [] begun.2))
