use Rattle.std.proofs.Common.{◌≡◌, Some, sym, ◌∙◌, ap, subst}
use Rattle.std.proofs.lemmas.Result.{MatchResult-weaker}
use Rattle.lms_tree.specs.Below.{IsBelow, IsComing}
use Rattle.lms_tree.specs.SigningState.{SigningState}
use Rattle.lms_tree.proofs.signer.Signer.next_bottom.Goals as goal

pub returns-in-Some-clause-bottom : goal.returns-in-Some-clause-bottom
returns-in-Some-clause-bottom c =
    let s = c.self.inside in
    let two : s.bottom ≡ Some c.args.height = ap (λ (t : SigningState). t.bottom) c.self.view_is ∙ c.requires.two_levels in
    let coming : IsComing s.top c.args.height c.in-Some.coming =
    c.self.invariant.2.next c.args.height c.in-Some.coming two (sym c.take.ensures.value ∙ c.in-Some.is) in
    MatchResult-weaker c.finish.result (c.finish.ensures c.args.height coming)
    (λ b h. (
      h.0 ∙ c.if-take-number.true,
      subst (λ (t : SigningState). IsBelow (record { height = t.height; id = t.id; secret = t.secret }) c.args.height b) c.self.view_is h.1,
    ))
    (λ _ h. h)
