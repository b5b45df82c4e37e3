use Rattle.std.proofs.Common.{ℕ, List, ◌++◌, sym, subst}
use Rattle.lms_level.specs.Verifying.{Holds}
use Rattle.lms_tree.proofs.validity.Verifier.update.Goals as goal

pub returns-clause-fed : goal.returns-clause-fed
returns-clause-fed c body fed =
    let last = c.update.new.self in
    let before = c.args.self.now.last in
    let P : List ℕ → List ℕ → Type 0 = λ key sig. Holds last.hasher key sig (body ++ c.args.piece.now) in
    subst (λ key. P key last.sig.now) (sym c.update.ensures.same.0)
    (subst (λ sig. P before.key.now sig) (sym c.update.ensures.same.1) (c.update.ensures.taken before.key.now before.sig.now body fed))
