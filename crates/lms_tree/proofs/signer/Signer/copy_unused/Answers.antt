use Rattle.std.proofs.Common.{◌≡◌, Some, IfSome, length, sym, ◌∙◌, ap, arith, subst}
use Rattle.lms_tree.specs.Below.{IsBelow}
use Rattle.lms_tree.specs.SigningState.{SigningState}
use Rattle.lms_tree.specs.Trees.{TreeState}
use Rattle.lms_tree.proofs.signer.Signer.copy_unused.Goals as goal

-- the copies are below the copied top tree, which is the same tree
pub invariant_of-result : goal.invariant_of-result
invariant_of-result c =
    let s = c.self.inside in
    let now : SigningState = c.args.self.now in
    let top : TreeState = c.in_ok-top.top in
    let same : s.top ≡ top = sym c.in_ok-top.ensures in
    let view : record { height = now.height; id = now.id; secret = now.secret } ≡ top =
    ap (λ (t : SigningState). record { height = t.height; id = t.id; secret = t.secret }) (sym c.self.view_is) ∙ same in (
      omega arith,
      subst (λ (t : TreeState). length t.id ≡ 16) same c.self.invariant.1,
      record {
        each = λ height b two there.
            let own : now.bottom ≡ Some height = ap (λ (t : SigningState). t.bottom) (sym c.self.view_is) ∙ two in
            let below : IsBelow (record { height = now.height; id = now.id; secret = now.secret }) height b =
            subst (λ p. IfSome p (IsBelow (record { height = now.height; id = now.id; secret = now.secret }) height)) there
            (c.in_ok-present.ensures height own) in
            subst (λ (t : TreeState). IsBelow t height b) view below;
        next = λ height t two there. grind arith;
      },
    )
