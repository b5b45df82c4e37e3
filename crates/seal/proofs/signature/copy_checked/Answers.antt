use Rattle.std.proofs.Common.{◌≡◌, ℕ, List, [], ◌++◌, Some, None, inr, refl, sym, ◌∙◌, ap, subst}
use Rattle.std.proofs.lemmas.List.{append_assoc}
use Rattle.lms_tree.specs.Signature.{signature_fault}
use Rattle.host_types.specs.declared.key.PublicKey.{PublicKey}
use Rattle.lms_tree.specs.Verifying.{IsFed}
use Rattle.seal.proofs.signature.copy_checked.Goals as goal

pub returns-in-Ok-finish-clause-valid : goal.returns-in-Ok-finish-clause-valid
returns-in-Ok-finish-clause-valid c =
    let a = c.args in
    let after = c.update_and_copy.new.verifier in
    let begun = c.in-Ok.ensures in
    let fed = c.in_ok-update_and_copy.ensures in
    let text : List ℕ = a.head.now ++ a.tail.now in
    let P : PublicKey → List ℕ → Type 0 = λ key sig. IsFed after text → signature_fault key text sig ≡ None in
    let of_key = fed.same.0 ∙ (c.update-2.ensures.same.0 ∙ (c.update.ensures.same.0 ∙ begun.0)) in
    let of_sig = fed.same.1 ∙ (c.update-2.ensures.same.1 ∙ (c.update.ensures.same.1 ∙ begun.1)) in
    let front : List ℕ = c.split_at.result.0.now in
    let rest : List ℕ = c.split_at.result.1.now in
    let whole : a.head.now ++ front ++ rest ≡ text = append_assoc a.head.now front rest ∙ ap (λ t. a.head.now ++ t) (sym c.split_at.ensures.by_index.0) in
    let held : IsFed after text = subst (IsFed after) whole (fed.fed (a.head.now ++ front) (c.update-2.ensures.fed a.head.now (c.update.ensures.fed [] begun.2))) in
    let of_both : P a.key.now a.sig.now = subst (λ key. P key a.sig.now) of_key (subst (λ sig. P after.key.now sig) of_sig (c.in-Ok-finish.ensures text)) in
    of_both held

pub returns-in-Err-finish-clause-refused : goal.returns-in-Err-finish-clause-refused
returns-in-Err-finish-clause-refused c =
    let a = c.args in
    let after = c.update_and_copy.new.verifier in
    let begun = c.in-Ok.ensures in
    let fed = c.in_ok-update_and_copy.ensures in
    let text : List ℕ = a.head.now ++ a.tail.now in
    let f = c.in-Err-finish.field-0 in
    let P : PublicKey → List ℕ → Type 0 = λ key sig. IsFed after text → signature_fault key text sig ≡ Some f in
    let of_key = fed.same.0 ∙ (c.update-2.ensures.same.0 ∙ (c.update.ensures.same.0 ∙ begun.0)) in
    let of_sig = fed.same.1 ∙ (c.update-2.ensures.same.1 ∙ (c.update.ensures.same.1 ∙ begun.1)) in
    let front : List ℕ = c.split_at.result.0.now in
    let rest : List ℕ = c.split_at.result.1.now in
    let whole : a.head.now ++ front ++ rest ≡ text = append_assoc a.head.now front rest ∙ ap (λ t. a.head.now ++ t) (sym c.split_at.ensures.by_index.0) in
    let held : IsFed after text = subst (IsFed after) whole (fed.fed (a.head.now ++ front) (c.update-2.ensures.fed a.head.now (c.update.ensures.fed [] begun.2))) in
    let of_both : P a.key.now a.sig.now = subst (λ key. P key a.sig.now) of_key (subst (λ sig. P after.key.now sig) of_sig (c.in-Err-finish.ensures text)) in
    inr (refl, f, of_both held)
