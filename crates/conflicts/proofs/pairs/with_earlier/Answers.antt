use Rattle.std.proofs.Common.{◌≡◌, ◌+◌, ℕ, List, [], ◌∷◌, ◌++◌, refl, sym, ap, subst, ◌∙◌, arith}
use Rattle.std.proofs.lemmas.Bool.{false≢true}
use Rattle.conflicts.specs.Gathering.{Grows}
use Rattle.conflicts.proofs.Growing.{one_more, no_more}
use Rattle.conflicts.proofs.pairs.with_earlier.Goals.{then-contradict+in_ok-push, else-contradict}
use Rattle.conflicts.proofs.pairs.with_earlier.Goals as goal

pub loop-first-preserved : goal.loop-first-preserved
loop-first-preserved c = elim c.if-contradict.branch [
  | then-contradict+in_ok-push w ↦
      let e : c.if-contradict.pairs.items ≡ c.loop-first.pairs.items ++ (c.loop-first.first, c.args.second) ∷ [] =
      ap (λ v. v.items) w.pairs-is ∙ w.in_ok-push.ensures.items in
      subst (λ (ps : List (ℕ × ℕ)). Grows c.args.messages.now c.args.second (c.loop-first.first + 1) c.args.pairs.now.items ps) (sym e)
      (one_more c.args.messages.now c.args.second c.loop-first.first c.args.pairs.now.items c.loop-first.pairs.items c.loop-first.invariant
      (w.if-contradict.ensures.0 refl))
  | else-contradict w ↦
      let e : c.if-contradict.pairs.items ≡ c.loop-first.pairs.items = ap (λ v. v.items) w.pairs-is in
      subst (λ (ps : List (ℕ × ℕ)). Grows c.args.messages.now c.args.second (c.loop-first.first + 1) c.args.pairs.now.items ps) (sym e)
      (no_more c.args.messages.now c.args.second c.loop-first.first c.args.pairs.now.items c.loop-first.pairs.items c.loop-first.invariant
      (λ is. false≢true (w.if-contradict.ensures.1 is)))
]

pub returns : goal.returns
returns c =
    let e : c.loop-first.first ≡ c.args.second = omega (arith, c.loop-first-test.false, c.loop-first.auto.first-end) in
    subst (λ (n : ℕ). Grows c.args.messages.now c.args.second n c.args.pairs.now.items c.loop-first.pairs.items) e c.loop-first.invariant
