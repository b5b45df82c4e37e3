use Rattle.std.proofs.Common.{◌≡◌, Some, ◌∙◌, ap, subst}
use Rattle.lms_tree.specs.Below.{IsBelow}
use Rattle.lms_tree.specs.SigningState.{SigningState}
use Rattle.lms_tree.proofs.signer.Signer.copy_present.Goals as goal

pub returns-in_ok-try_clone-in-Some : goal.returns-in_ok-try_clone-in-Some
returns-in_ok-try_clone-in-Some c height two =
    let s = c.self.inside in
    let own : s.bottom ≡ Some height = ap (λ (t : SigningState). t.bottom) c.self.view_is ∙ two in
    let below : IsBelow s.top height c.in-Some.bottom = c.self.invariant.2.each height c.in-Some.bottom own c.in-Some.is in
    subst (λ (t : SigningState). IsBelow (record { height = t.height; id = t.id; secret = t.secret }) height c.in_ok-try_clone-in-Some.field-0)
    c.self.view_is (c.in_ok-try_clone-in-Some.ensures s.top height below).1
