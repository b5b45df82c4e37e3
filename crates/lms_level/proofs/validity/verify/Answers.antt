use Rattle.std.proofs.Common.{◌≡◌, ℕ, List, [], MatchResult, Some, None, ◌∙◌, subst}
use Rattle.lms_level.specs.Signature.{signature_fault}
use Rattle.lms_level.specs.Verifying.{Holds}
use Rattle.lms_level.proofs.validity.verify.Goals as goal

pub returns : goal.returns
returns c =
    let a = c.args in
    let after = c.update.new.self in
    let begun = c.in_ok-verifier.ensures in
    let P : List ℕ → List ℕ → Type 0 = λ key sig. Holds after.hasher key sig a.body.now →
    MatchResult c.finish.result (λ _. signature_fault key a.body.now sig ≡ None) (λ fault. signature_fault key a.body.now sig ≡ Some fault) in
    let of_key = c.update.ensures.same.0 ∙ begun.0 in
    let of_sig = c.update.ensures.same.1 ∙ begun.1 in
    let of_both : P a.key.now a.sig.now = subst (λ key. P key a.sig.now) of_key (subst (λ sig. P after.key.now sig) of_sig (c.finish.ensures a.body.now)) in
    of_both (c.update.ensures.taken a.key.now a.sig.now [] begun.2)
