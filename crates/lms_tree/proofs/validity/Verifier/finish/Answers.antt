use Rattle.std.proofs.Common.{◌≡◌, MatchResult, Option, Some, None, sym, subst}
use Rattle.lms_level.specs.declared.fault.SigFault.{SigFault}
use Rattle.lms_tree.proofs.validity.Verifier.finish.Goals as goal

pub returns : goal.returns
returns c body fed =
    let P : Option SigFault → Type 0 = λ f. MatchResult c.finish.result (λ _. f ≡ None) (λ fault. f ≡ Some fault) in
    subst P (sym (c.args.self.is_last body)) (c.finish.ensures body fed)
